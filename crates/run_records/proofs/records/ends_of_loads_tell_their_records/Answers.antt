use Rattle.run_records.proofs.LoadRecords.{end_told}
use Rattle.run_records.proofs.records.ends_of_loads_tell_their_records.Goals as goal

pub returns : goal.returns
returns c = end_told
