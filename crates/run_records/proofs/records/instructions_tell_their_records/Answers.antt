use Rattle.run_records.proofs.ToldLaws.{plain_told}
use Rattle.run_records.proofs.records.instructions_tell_their_records.Goals as goal

pub returns : goal.returns
returns c = plain_told
