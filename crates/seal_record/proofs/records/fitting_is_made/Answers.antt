use Rattle.seal_record.proofs.RecordLaws.{fitting_made}
use Rattle.seal_record.proofs.records.fitting_is_made.Goals as goal

pub returns : goal.returns
returns c = fitting_made
