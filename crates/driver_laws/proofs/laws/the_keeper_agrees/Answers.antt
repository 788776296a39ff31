use Rattle.driver_laws.proofs.KeepLaws.{first_shows, stays_shown}
use Rattle.driver_laws.proofs.laws.the_keeper_agrees.Goals as goal

pub returns : goal.returns
returns c = record { first = first_shows; more = stays_shown }
