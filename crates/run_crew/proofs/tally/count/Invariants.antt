use Rattle.std.proofs.Common.{take}
use Rattle.run_crew.specs.inner.Tallies.{IsTally}
use Rattle.run_crew.proofs.tally.count.Given as goal

abbrev pub invariant-loop-entry : goal.invariant-loop-entry
invariant-loop-entry l = IsTally (take l.entry-index l.entries) l.cpus l.tally
