use Rattle.run_records.proofs.StepBytes.{step_bytes}
use Rattle.run_records.proofs.bytes.steps_carry_bytes.Goals as goal

pub returns : goal.returns
returns c = step_bytes
