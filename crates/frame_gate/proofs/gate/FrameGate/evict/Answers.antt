use Rattle.std.proofs.Common.{arith}
use Rattle.std.proofs.lemmas.Grind.{common_steps}
use Rattle.frame_gate.proofs.gate.FrameGate.evict.Goals as goal

pub free-requires-clause-drained : goal.free-requires-clause-drained
free-requires-clause-drained c = grind (arith, common_steps)

pub returns-in-Ok-clause-evicted : goal.returns-in-Ok-clause-evicted
returns-in-Ok-clause-evicted c = grind (arith, common_steps)
