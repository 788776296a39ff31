use Rattle.std.proofs.Common.{sym, ◌∙◌}
use Rattle.job_lines.proofs.Digests.{digest_of-digest}
use Rattle.job_lines.proofs.words.hash.Goals as goal

pub returns-clause-digest : goal.returns-clause-digest
returns-clause-digest c = digest_of-digest c.args.word.now c.in-Some.digest (sym c.digest.ensures ∙ c.in-Some.is)
