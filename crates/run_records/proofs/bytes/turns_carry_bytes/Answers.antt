use Rattle.run_records.proofs.TurnBytes.{turn_bytes}
use Rattle.run_records.proofs.bytes.turns_carry_bytes.Goals as goal

pub returns : goal.returns
returns c = turn_bytes
