use Rattle.driver_faults.proofs.EndLaws.{can_finish}
use Rattle.driver_faults.proofs.laws.loads_can_be_ended.Goals as goal

pub returns : goal.returns
returns c made j past d m cpu page n r last room = can_finish made j past d m r cpu page n last room
