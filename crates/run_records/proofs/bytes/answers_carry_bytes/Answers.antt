use Rattle.run_records.proofs.FaultBytes.{answer_bytes}
use Rattle.run_records.proofs.bytes.answers_carry_bytes.Goals as goal

pub returns : goal.returns
returns c = answer_bytes
