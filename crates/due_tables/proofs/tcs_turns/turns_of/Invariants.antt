use Rattle.std.proofs.Common.{◌≡◌, ℕ, None, get_or, length, take}
use Rattle.job_grammar.specs.Jobs.{tcs_line}
use Rattle.driver_tables.specs.inner.Counts.{last_end}
use Rattle.due_tables.specs.inner.TcsTurns.{tcs_by}
use Rattle.due_tables.proofs.tcs_turns.turns_of.Given as goal

abbrev pub invariant-loop-line : goal.invariant-loop-line
invariant-loop-line l = record {
  sized : length l.turns.items ≡ last_end l.lines;
  taken : (n : ℕ) → get_or l.turns.items n None ≡ tcs_by (tcs_line (take l.line-index l.lines) n) 0;
}
