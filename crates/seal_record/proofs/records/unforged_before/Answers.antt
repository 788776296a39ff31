use Rattle.seal_record.proofs.RecordLaws.{Unforged-before}
use Rattle.seal_record.proofs.records.unforged_before.Goals as goal

pub returns : goal.returns
returns c = Unforged-before
