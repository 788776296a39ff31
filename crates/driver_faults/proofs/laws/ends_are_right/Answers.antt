use Rattle.driver_faults.proofs.EndLaws.{finished_is_right}
use Rattle.driver_faults.proofs.laws.ends_are_right.Goals as goal

pub returns : goal.returns
returns c made j past d d' m t cpu page n loaded can r last is =
    finished_is_right made j past d d' m t r cpu page can n last loaded is
