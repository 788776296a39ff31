-- The whole lines of a text are the first line, those of its entries and the last.
use Rattle.trace_reader.proofs.FaultLaws.{same_text}
use Rattle.trace_reader.proofs.reader.no_two_traces_share_a_text.Goals as goal

pub returns : goal.returns
returns c = same_text
