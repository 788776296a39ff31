use Rattle.driver_laws.proofs.AloneLaws.{alone}
use Rattle.driver_laws.proofs.laws.starts_alone.Goals as goal

pub returns : goal.returns
returns c = alone
