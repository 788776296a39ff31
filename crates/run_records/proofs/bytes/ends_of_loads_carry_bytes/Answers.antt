use Rattle.run_records.proofs.EndBytes.{end_bytes}
use Rattle.run_records.proofs.bytes.ends_of_loads_carry_bytes.Goals as goal

pub returns : goal.returns
returns c = end_bytes
