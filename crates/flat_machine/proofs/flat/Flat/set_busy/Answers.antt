use Rattle.flat_machine.specs.inner.Whole.{parts_of}
use Rattle.flat_machine.proofs.Columns.{memory_mark}
use Rattle.flat_machine.proofs.flat.Flat.set_busy.Goals as goal

pub returns : goal.returns
returns c = rw (c.write_busy.ensures, ← c.self.view_is)
    (memory_mark (parts_of c.self.inside) c.args.enclave c.args.number c.args.is_busy (rw (← c.self.view_is) at c.requires))
