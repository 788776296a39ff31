use Rattle.driver_reclaim.proofs.OpenLaws.{can_store}
use Rattle.driver_reclaim.proofs.laws.started_passes_can_be_stored.Goals as goal

pub returns : goal.returns
returns c made j past v d m r seals = can_store made j past v d m r seals
