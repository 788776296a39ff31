use Rattle.driver_laws.proofs.EndLaws.{ended_by, their_rule}
use Rattle.driver_laws.proofs.LoadLaws.{first_theirs, loading_place, stays_theirs}
use Rattle.driver_laws.proofs.laws.loads_are_theirs.Goals as goal

pub returns : goal.returns
returns c = record { first = first_theirs; more = stays_theirs; own = their_rule; page = loading_place; ended = ended_by }
