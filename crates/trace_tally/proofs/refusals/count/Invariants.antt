use Rattle.std.proofs.Common.{◌≡◌}
use Rattle.trace_tally.proofs.RefusalLaws.{NoneBefore}
use Rattle.trace_tally.proofs.refusals.count.Given as goal

abbrev pub invariant-loop-at : goal.invariant-loop-at
invariant-loop-at l = (l.rows.items ≡ l.initial.rows.items) × NoneBefore l.action l.why l.at l.rows.items
