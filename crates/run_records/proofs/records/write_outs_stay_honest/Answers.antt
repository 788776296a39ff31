use Rattle.run_records.proofs.HonestEnds.{stored_honest}
use Rattle.run_records.proofs.records.write_outs_stay_honest.Goals as goal

pub returns : goal.returns
returns c = stored_honest
