use Rattle.run_records.proofs.PassRecords.{turn_told}
use Rattle.run_records.proofs.records.turns_of_a_pass_tell_their_records.Goals as goal

pub returns : goal.returns
returns c = turn_told
