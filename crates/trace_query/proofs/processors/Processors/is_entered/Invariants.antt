use Rattle.std.proofs.Common.{◌≡◌}
use Rattle.trace_query.specs.inner.Insides.{entered_below}
use Rattle.trace_query.proofs.processors.Processors.is_entered.Given as goal

abbrev pub invariant-loop-cpu : goal.invariant-loop-cpu
invariant-loop-cpu l = l.found ≡ entered_below l.cpu l.self l.enclave
