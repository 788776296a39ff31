use Rattle.run_records.proofs.StepBytes.{stored_bytes}
use Rattle.run_records.proofs.bytes.write_outs_carry_bytes.Goals as goal

pub returns : goal.returns
returns c = stored_bytes
