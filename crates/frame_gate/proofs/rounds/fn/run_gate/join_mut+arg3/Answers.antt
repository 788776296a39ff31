use Rattle.std.proofs.Common.{rules}
use Rattle.frame_gate.proofs.rounds.fn.run_gate.«join_mut+arg3».Goals as goal

pub returns : goal.returns
returns c = search rules
