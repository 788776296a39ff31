use Rattle.trace_file.proofs.OneLaws.{one_thing}
use Rattle.trace_file.proofs.reading.a_text_reads_as_one_thing.Goals as goal

pub returns : goal.returns
returns c = one_thing
