use Rattle.sgx_machine.specs.inner.Parts.{state_of}
use Rattle.sgx_machine.specs.inner.Whole.{parts_of}
use Rattle.sgx_machine.proofs.PagingSights.{start_in}
use Rattle.sgx_machine.proofs.machine.Machine.opened.Goals as goal

pub start-start-requires : goal.start-start-requires
start-start-requires c = rw (← c.self.view_is)
    (start_in (state_of (parts_of c.self.inside)) c.args.frame.0 c.self.invariant.guarded (rw (← c.self.view_is) at c.requires))
