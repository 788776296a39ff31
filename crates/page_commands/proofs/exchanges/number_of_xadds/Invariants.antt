use Rattle.std.proofs.Common.{◌≤◌, reverse, take}
use Rattle.page_commands.specs.inner.Progress.{Counts}
use Rattle.page_commands.proofs.exchanges.number_of_xadds.Given as goal

abbrev pub invariant-loop-entry : goal.invariant-loop-entry
invariant-loop-entry l = Counts l.job (reverse (take l.entry-index l.entries)) l.all.items l.count × (l.count ≤ l.entry-index)
