use Rattle.run_records.proofs.StepBytes.{plain_bytes}
use Rattle.run_records.proofs.bytes.instructions_carry_bytes.Goals as goal

pub returns : goal.returns
returns c = plain_bytes
