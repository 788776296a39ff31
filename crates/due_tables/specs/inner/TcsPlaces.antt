-- How the table of state save pages is kept, and how it is made line by line.
use Rattle.std.specs.Prelude.{ℕ, ◌&&◌, if◌then◌else◌, List, Option, None, Some}
use Rattle.std.specs.Global.{Vec}
use Rattle.job_grammar.specs.declared.jobs.PageLine.{PageLine}
use Rattle.job_grammar.specs.Jobs.{covers, is_tcs_line}
use Rattle.due_tables.specs.declared.tcs_turns.TcsTurn.{TcsTurn}
use Rattle.due_tables.specs.inner.TcsTurns.{tcs_by}

-- the turns of an enclave's pages
abbrev pub turns_in : Vec (Option TcsTurn) → List (Option TcsTurn)
turns_in v = v.items

-- what stands of a page of this number, or of the TCS page that the line adds
abbrev pub or_line : Option TcsTurn → PageLine → ℕ → Option TcsTurn
or_line (Some turn) line n = Some turn
or_line None line n = if is_tcs_line line && covers n line then tcs_by (Some line) 0 else None
