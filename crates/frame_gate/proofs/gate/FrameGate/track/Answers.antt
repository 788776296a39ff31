use Rattle.std.proofs.Common.{rules}
use Rattle.frame_gate.proofs.gate.FrameGate.track.Goals as goal

pub begin-requires-clause-empty : goal.begin-requires-clause-empty
begin-requires-clause-empty c = search rules

pub returns-clause-tracked : goal.returns-clause-tracked
returns-clause-tracked c = search rules
