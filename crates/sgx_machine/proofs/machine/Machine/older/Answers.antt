use Rattle.std.specs.Prelude.{nat_le}
use Rattle.sgx_machine.specs.inner.Whole.{parts_of}
use Rattle.sgx_machine.proofs.PagingSights.{number_seen}
use Rattle.sgx_machine.proofs.machine.Machine.older.Goals as goal

pub returns : goal.returns
returns c = rw (c.at_or_below.ensures, ← c.self.view_is)
    (number_seen (parts_of c.self.inside) c.args.enclave c.get.result.now (λ m. nat_le m c.args.block) c.self.invariant.processors
    c.self.invariant.tracked c.get.ensures.value)
