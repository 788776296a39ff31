use Rattle.run_records.proofs.LoadRecords.{fault_told}
use Rattle.run_records.proofs.records.fault_steps_tell_their_records.Goals as goal

pub returns : goal.returns
returns c = fault_told
