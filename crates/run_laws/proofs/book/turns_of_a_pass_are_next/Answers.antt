use Rattle.run_laws.proofs.TurnLaws.{turn_next}
use Rattle.run_laws.proofs.book.turns_of_a_pass_are_next.Goals as goal

pub returns : goal.returns
returns c = turn_next
