use Rattle.audit_machine.proofs.StayLaws.{goes_on, made_left, none_made, own_records}
use Rattle.audit_machine.proofs.record_laws.records_are_those_made.Goals as goal

pub returns : goal.returns
returns c = record { own = own_records; goes_on = goes_on; left = made_left; others = none_made }
