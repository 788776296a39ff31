use Rattle.std.proofs.Common.{◌≡◌}
use Rattle.test_crew.proofs.gates.play.Given as goal

abbrev pub invariant-loop-row : goal.invariant-loop-row
invariant-loop-row g l = (l.pager.gate ≡ l.initial.pager.gate) × (l.seat.gate ≡ l.initial.seat.gate)
