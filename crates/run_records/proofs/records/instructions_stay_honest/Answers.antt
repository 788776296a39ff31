use Rattle.run_records.proofs.QuietLaws.{plain_honest}
use Rattle.run_records.proofs.records.instructions_stay_honest.Goals as goal

pub returns : goal.returns
returns c = plain_honest
