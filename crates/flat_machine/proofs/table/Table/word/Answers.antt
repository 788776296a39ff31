use Rattle.std.proofs.Common.{sym}
use Rattle.flat_machine.proofs.Lists.{zero_word}
use Rattle.flat_machine.proofs.table.Table.word.Goals as goal

pub returns-in-None : goal.returns-in-None
returns-in-None c = zero_word c.args.self.now c.args.number c.args.index (sym (rw c.in-None.is at c.page.ensures)) c.requires
