use Rattle.due_tables.proofs.FirstLaws.{agrees_shown}
use Rattle.due_tables.proofs.laws.agreeing_tables_show.Goals as goal

pub returns : goal.returns
returns c = agrees_shown
