use Rattle.driver_laws.proofs.CountLaws.{first_counts, stays_counted}
use Rattle.driver_laws.proofs.laws.slots_are_counted.Goals as goal

pub returns : goal.returns
returns c = record { first = first_counts; more = stays_counted }
