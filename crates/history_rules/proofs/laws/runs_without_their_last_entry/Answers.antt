use Rattle.history_rules.proofs.RunLaws.{stored_before, told_before, unforged_before}
use Rattle.history_rules.proofs.laws.runs_without_their_last_entry.Goals as goal

pub returns : goal.returns
returns c = record { unforged = unforged_before; stored = stored_before; told = told_before }
