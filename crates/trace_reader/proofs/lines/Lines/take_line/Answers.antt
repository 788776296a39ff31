-- Behind the last line stands nothing.
use Rattle.std.proofs.Common.{refl}
use Rattle.trace_reader.proofs.FollowLaws.{ended_refused}
use Rattle.trace_reader.proofs.lines.Lines.take_line.Goals as goal

pub returns-in-Ended-clause-taken : goal.returns-in-Ended-clause-taken
returns-in-Ended-clause-taken c = (refl, ended_refused c.args.edition _ _ _ c.in-Ended.is c.requires.kept.readable)
