use Rattle.run_laws.proofs.EndTurns.{out_next}
use Rattle.run_laws.proofs.book.write_outs_are_next.Goals as goal

pub returns : goal.returns
returns c = out_next
