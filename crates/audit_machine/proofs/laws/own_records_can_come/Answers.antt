use Rattle.audit_machine.proofs.ComeLaws.{can_bring}
use Rattle.audit_machine.proofs.laws.own_records_can_come.Goals as goal

pub returns : goal.returns
returns c = can_bring
