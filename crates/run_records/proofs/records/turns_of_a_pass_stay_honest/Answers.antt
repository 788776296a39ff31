use Rattle.run_records.proofs.PassRecords.{turn_honest}
use Rattle.run_records.proofs.records.turns_of_a_pass_stay_honest.Goals as goal

pub returns : goal.returns
returns c = turn_honest
