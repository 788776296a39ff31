use Rattle.sgx_machine.proofs.FreeFrames.{first_free_is}
use Rattle.sgx_machine.proofs.machine.Machine.first_free.Goals as goal

pub returns : goal.returns
returns c = rw (c.first_free.ensures, ← c.self.view_is) (first_free_is c.self.inside.epc)
