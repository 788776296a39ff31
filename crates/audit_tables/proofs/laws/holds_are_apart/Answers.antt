use Rattle.history_rules.proofs.HistoryLaws.{three}
use Rattle.audit_tables.proofs.laws.holds_are_apart.Goals as goal

pub returns : goal.returns
returns c = λ j past p positive tcs h. three j past positive tcs h p
