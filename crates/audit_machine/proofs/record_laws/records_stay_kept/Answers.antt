use Rattle.audit_machine.proofs.StayLaws.{record_back, record_left, record_put, records_stay}
use Rattle.audit_machine.proofs.record_laws.records_stay_kept.Goals as goal

pub returns : goal.returns
returns c = record { gone = record_put; left = record_left; back = record_back; stays = records_stay }
