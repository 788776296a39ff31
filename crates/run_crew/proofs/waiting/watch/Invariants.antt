use Rattle.std.proofs.Common.{◌≡◌}
use Rattle.run_crew.proofs.waiting.watch.Given as goal

-- the pass stays one of these words
abbrev pub invariant-loop : goal.invariant-loop
invariant-loop l = l.pass.words ≡ l.words
