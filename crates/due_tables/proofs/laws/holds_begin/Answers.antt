use Rattle.due_tables.proofs.FirstLaws.{holds_first}
use Rattle.due_tables.proofs.laws.holds_begin.Goals as goal

pub returns : goal.returns
returns c = holds_first
