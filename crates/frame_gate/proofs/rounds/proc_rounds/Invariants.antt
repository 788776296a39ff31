use Rattle.frame_gate.specs.inner.Rounds.{HasEntered}
use Rattle.frame_gate.proofs.rounds.proc_rounds.Given as goal

abbrev pub invariant-loop-round : goal.invariant-loop-round
invariant-loop-round l = HasEntered l.round l.initial.seat l.seat
