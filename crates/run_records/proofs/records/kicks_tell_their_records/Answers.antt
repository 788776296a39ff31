use Rattle.run_records.proofs.ToldLaws.{kick_told}
use Rattle.run_records.proofs.records.kicks_tell_their_records.Goals as goal

pub returns : goal.returns
returns c = kick_told
