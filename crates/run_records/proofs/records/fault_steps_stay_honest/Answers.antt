use Rattle.run_records.proofs.HonestRecords.{fault_honest}
use Rattle.run_records.proofs.records.fault_steps_stay_honest.Goals as goal

pub returns : goal.returns
returns c = fault_honest
