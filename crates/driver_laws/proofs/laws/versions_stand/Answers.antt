use Rattle.driver_laws.proofs.VersionLaws.{none_stand, stays_standing}
use Rattle.driver_laws.proofs.FixedLaws.{first_theirs, fixed_is_empty, stays_theirs}
use Rattle.driver_laws.proofs.laws.versions_stand.Goals as goal

pub returns : goal.returns
returns c = record { none = none_stand; more = stays_standing; first = first_theirs; theirs = stays_theirs; empty = fixed_is_empty }
