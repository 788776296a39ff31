use Rattle.std.proofs.Common.{sym}
use Rattle.trace_lines.proofs.DigestLaws.{digest_fits}
use Rattle.trace_lines.proofs.words.tag.Goals as goal

pub returns-in-Some-clause-fits : goal.returns-in-Some-clause-fits
returns-in-Some-clause-fits c = digest_fits c.args.word.now c.in-Some.digest (sym c.in-Some.ensures)
