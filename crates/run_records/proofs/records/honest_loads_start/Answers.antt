use Rattle.run_records.proofs.HonestRecords.{start_never}
use Rattle.run_records.proofs.records.honest_loads_start.Goals as goal

pub returns : goal.returns
returns c = start_never
