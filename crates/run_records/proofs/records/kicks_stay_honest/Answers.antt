use Rattle.run_records.proofs.QuietLaws.{kick_honest}
use Rattle.run_records.proofs.records.kicks_stay_honest.Goals as goal

pub returns : goal.returns
returns c = kick_honest
