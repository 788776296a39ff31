use Rattle.driver_laws.proofs.KickLaws.{keepers_by_epochs}
use Rattle.driver_laws.proofs.laws.kicks_go_by_epochs.Goals as goal

pub returns : goal.returns
returns c = keepers_by_epochs
