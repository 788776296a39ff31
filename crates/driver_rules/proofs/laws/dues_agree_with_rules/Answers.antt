use Rattle.driver_rules.proofs.ReclaimLaws.{due_of_rules, rules_of_due}
use Rattle.driver_rules.proofs.laws.dues_agree_with_rules.Goals as goal

pub returns : goal.returns
returns c = record { due = due_of_rules; rules = rules_of_due }
