use Rattle.std.proofs.Common.{◌≡◌}
use Rattle.trace_query.specs.inner.Insides.{cached_below}
use Rattle.trace_query.proofs.processors.Processors.is_cached.Given as goal

abbrev pub invariant-loop-cpu : goal.invariant-loop-cpu
invariant-loop-cpu l = l.found ≡ cached_below l.cpu l.self l.page
