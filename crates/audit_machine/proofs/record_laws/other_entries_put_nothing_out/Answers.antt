use Rattle.audit_machine.proofs.StayLaws.{no_action, not_ewb}
use Rattle.audit_machine.proofs.record_laws.other_entries_put_nothing_out.Goals as goal

pub returns : goal.returns
returns c = record { asked = not_ewb; none = no_action }
