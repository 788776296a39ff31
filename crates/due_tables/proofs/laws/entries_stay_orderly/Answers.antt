use Rattle.due_tables.proofs.OrderLaws.{enters_apart, orderly_first, orderly_more}
use Rattle.due_tables.proofs.laws.entries_stay_orderly.Goals as goal

pub returns : goal.returns
returns c = record { first = orderly_first; more = orderly_more; told = enters_apart }
