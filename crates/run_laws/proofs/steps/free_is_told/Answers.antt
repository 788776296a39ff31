use Rattle.run_laws.proofs.EntryLaws.{free_told}
use Rattle.run_laws.proofs.steps.free_is_told.Goals as goal

pub returns : goal.returns
returns c = free_told
