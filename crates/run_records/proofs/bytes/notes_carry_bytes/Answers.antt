use Rattle.run_records.proofs.StepBytes.{note_bytes}
use Rattle.run_records.proofs.bytes.notes_carry_bytes.Goals as goal

pub returns : goal.returns
returns c = note_bytes
