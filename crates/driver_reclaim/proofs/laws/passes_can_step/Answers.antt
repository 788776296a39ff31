use Rattle.driver_reclaim.proofs.ReadyLaws.{can_step}
use Rattle.driver_reclaim.proofs.laws.passes_can_step.Goals as goal

pub returns : goal.returns
returns c made j past v d m r idle = can_step made j past v d m r idle
