use Rattle.driver_tables.proofs.AgreesLaws.{agrees_more}
use Rattle.driver_tables.proofs.step_laws.agrees_goes_on.Goals as goal

pub returns : goal.returns
returns c made j past d d' m m' e a n = agrees_more made j past d d' m m' e a n
