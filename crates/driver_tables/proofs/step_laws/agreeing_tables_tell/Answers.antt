use Rattle.driver_tables.proofs.TellsLaws.{agrees_tell}
use Rattle.driver_tables.proofs.step_laws.agreeing_tables_tell.Goals as goal

pub returns : goal.returns
returns c = agrees_tell
