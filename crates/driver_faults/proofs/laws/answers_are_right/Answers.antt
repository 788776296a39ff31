use Rattle.driver_faults.proofs.DueLaws.{resolved_is_right}
use Rattle.driver_faults.proofs.laws.answers_are_right.Goals as goal

pub returns : goal.returns
returns c made j past d d' m m' cpu page told told' answer = resolved_is_right made j past d d' m m' cpu page told told' answer
