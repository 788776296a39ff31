use Rattle.driver_laws.proofs.StartedLaws.{open_loads}
use Rattle.driver_laws.proofs.laws.open_starts_are_ended.Goals as goal

pub returns : goal.returns
returns c = open_loads
