use Rattle.run_laws.proofs.PlainLaws.{plain_next}
use Rattle.run_laws.proofs.book.instructions_are_next.Goals as goal

pub returns : goal.returns
returns c = plain_next
