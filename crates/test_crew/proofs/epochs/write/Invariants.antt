use Rattle.std.proofs.Common.{◌≡◌}
use Rattle.test_crew.proofs.epochs.write.Given as goal

abbrev pub invariant-loop-epoch : goal.invariant-loop-epoch
invariant-loop-epoch l = l.seat.words ≡ l.words
