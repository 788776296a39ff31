use Rattle.std.proofs.Common.{reverse, take}
use Rattle.trace_tally.specs.inner.Tally.{TallyFollows}
use Rattle.trace_tally.proofs.tally.Tally.of.Given as goal

abbrev pub invariant-loop-entry : goal.invariant-loop-entry
invariant-loop-entry l = TallyFollows l.tally (reverse (take l.entry-index l.entries))
