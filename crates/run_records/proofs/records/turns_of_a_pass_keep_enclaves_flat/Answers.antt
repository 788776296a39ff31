use Rattle.run_records.proofs.PassRecords.{turn_flat}
use Rattle.run_records.proofs.records.turns_of_a_pass_keep_enclaves_flat.Goals as goal

pub returns : goal.returns
returns c = turn_flat
