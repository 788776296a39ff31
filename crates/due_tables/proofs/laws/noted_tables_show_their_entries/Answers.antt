use Rattle.due_tables.proofs.NoteLaws.{noted_shown}
use Rattle.due_tables.proofs.laws.noted_tables_show_their_entries.Goals as goal

pub returns : goal.returns
returns c = noted_shown
