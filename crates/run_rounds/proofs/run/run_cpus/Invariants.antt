use Rattle.std.proofs.Common.{◌≡◌, true}
use Rattle.run_rounds.specs.inner.Rests.{CpusRest, IsSameRun}
use Rattle.run_rounds.proofs.run.run_cpus.Given as goal

-- where all so far had nothing more to do, the book is the one that it was
abbrev pub invariant-loop-number : goal.invariant-loop-number
invariant-loop-number g l =
    IsSameRun l.fn.book l.book × (l.is_done ≡ true → (l.book.book ≡ l.fn.book.book) × CpusRest l.book.book l.number)
