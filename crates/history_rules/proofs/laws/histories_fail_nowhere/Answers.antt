use Rattle.history_rules.proofs.HistoryLaws.{goes_on, keeps_rule, no_history, shorter}
use Rattle.history_rules.proofs.laws.histories_fail_nowhere.Goals as goal

pub returns : goal.returns
returns c = record { keeps = keeps_rule; fails = no_history; goes_on = goes_on; shorter = shorter }
