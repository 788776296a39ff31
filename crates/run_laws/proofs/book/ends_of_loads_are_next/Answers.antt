use Rattle.run_laws.proofs.EndTurns.{end_next}
use Rattle.run_laws.proofs.book.ends_of_loads_are_next.Goals as goal

pub returns : goal.returns
returns c = end_next
