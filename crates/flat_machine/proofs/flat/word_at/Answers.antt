use Rattle.flat_machine.proofs.Lists.{zero_outside}
use Rattle.flat_machine.proofs.flat.word_at.Goals as goal

pub returns-in-None : goal.returns-in-None
returns-in-None c =
    zero_outside c.args.tables.now c.args.enclave c.args.number c.args.index (rw c.from.ensures at c.in-None.ensures.lookup.0) c.requires
