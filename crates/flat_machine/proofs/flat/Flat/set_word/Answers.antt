use Rattle.flat_machine.specs.inner.Whole.{parts_of}
use Rattle.flat_machine.proofs.Columns.{memory_word}
use Rattle.flat_machine.proofs.flat.Flat.set_word.Goals as goal

pub returns : goal.returns
returns c = rw (c.write_word.ensures, ← c.self.view_is)
    (memory_word (parts_of c.self.inside) c.args.enclave c.args.number c.args.index c.args.value)
