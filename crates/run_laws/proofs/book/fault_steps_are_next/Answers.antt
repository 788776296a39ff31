use Rattle.run_laws.proofs.LoadTurns.{fault_next}
use Rattle.run_laws.proofs.book.fault_steps_are_next.Goals as goal

pub returns : goal.returns
returns c = fault_next
