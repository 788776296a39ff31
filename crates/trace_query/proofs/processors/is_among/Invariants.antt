use Rattle.std.proofs.Common.{◌≡◌, drop}
use Rattle.trace_query.specs.inner.Sights.{is_among}
use Rattle.trace_query.proofs.processors.is_among.Given as goal

abbrev pub invariant-loop-n : goal.invariant-loop-n
invariant-loop-n l = is_among l.numbers l.number ≡ is_among (drop l.n-index l.numbers) l.number
