use Rattle.driver_faults.proofs.HonestLaws.{honest_back}
use Rattle.driver_faults.proofs.laws.honest_loads_are_back.Goals as goal

pub returns : goal.returns
returns c made j past calls d d' m t cpu page loaded can = honest_back made j past calls d d' m t cpu page loaded can
