use Rattle.run_rounds.specs.inner.Rests.{IsSameRun}
use Rattle.run_rounds.proofs.run.run.Given as goal

-- the rounds so far left the job, and noted no want of memory
abbrev pub invariant-loop : goal.invariant-loop
invariant-loop g l = IsSameRun l.fn.book l.book
