use Rattle.std.proofs.Common.{◌≡◌, IfSome}
use Rattle.run_crew.proofs.workers.work.Given as goal

-- the pass, where there is one, stays one of these words
abbrev pub invariant-loop : goal.invariant-loop
invariant-loop g l = IfSome l.pass (λ pass. pass.words ≡ l.words)
