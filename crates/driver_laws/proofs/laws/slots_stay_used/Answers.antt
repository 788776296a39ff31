use Rattle.driver_laws.proofs.UsedLaws.{first_used, stays_used}
use Rattle.driver_laws.proofs.ReadyLaws.{start_tells}
use Rattle.driver_laws.proofs.laws.slots_stay_used.Goals as goal

pub returns : goal.returns
returns c = record { first = first_used; more = stays_used; told = start_tells }
