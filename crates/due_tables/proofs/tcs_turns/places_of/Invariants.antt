use Rattle.std.proofs.Common.{◌≡◌, take}
use Rattle.driver_tables.specs.inner.Counts.{last_end}
use Rattle.due_tables.proofs.tcs_turns.places_of.Given as goal

abbrev pub invariant-loop-line : goal.invariant-loop-line
invariant-loop-line l = l.end ≡ last_end (take l.line-index l.lines)
