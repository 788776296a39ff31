use Rattle.run_laws.proofs.StayLaws.{passes_stay}
use Rattle.run_laws.proofs.steps.passes_stay_for_others.Goals as goal

pub returns : goal.returns
returns c = passes_stay
