use Rattle.run_records.proofs.QuietLaws.{first_honest}
use Rattle.run_records.proofs.records.runs_begin_honest.Goals as goal

pub returns : goal.returns
returns c = first_honest
