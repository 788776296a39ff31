use Rattle.audit_machine.proofs.StayLaws.{none_out}
use Rattle.audit_machine.proofs.record_laws.nothing_is_out_at_first.Goals as goal

pub returns : goal.returns
returns c = none_out
