-- What is printed of each is read again as it.
use Rattle.trace_lines.proofs.LineReads.{same_entry}
use Rattle.trace_lines.proofs.lines.no_two_entries_share_a_line.Goals as goal

pub returns : goal.returns
returns c = same_entry
