use Rattle.due_tables.proofs.FirstLaws.{counts_few}
use Rattle.due_tables.proofs.laws.counts_are_few.Goals as goal

pub returns : goal.returns
returns c = counts_few
