use Rattle.audit_check.proofs.PlaceLaws.{keeps_all}
use Rattle.audit_check.proofs.laws.machines_keep_the_processors_rules.Goals as goal

pub returns : goal.returns
returns c = keeps_all
