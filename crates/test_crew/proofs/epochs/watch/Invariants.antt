use Rattle.std.proofs.Common.{◌≡◌}
use Rattle.test_crew.proofs.epochs.watch.Given as goal

abbrev pub invariant-loop : goal.invariant-loop
invariant-loop l = l.pass.words ≡ l.words
