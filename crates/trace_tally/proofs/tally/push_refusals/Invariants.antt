use Rattle.std.proofs.Common.{◌≡◌, ◌++◌, take}
use Rattle.trace_tally.specs.TallyText.{refusals_text}
use Rattle.trace_tally.proofs.tally.push_refusals.Given as goal

abbrev pub invariant-loop-row : goal.invariant-loop-row
invariant-loop-row l = l.onto.items ≡ l.initial.onto.items ++ refusals_text (take l.row-index l.rows)
