use Rattle.driver_faults.proofs.AskLaws.{can_resolve}
use Rattle.driver_faults.proofs.laws.pages_can_be_asked.Goals as goal

pub returns : goal.returns
returns c made j past d m page r here = can_resolve made j past d m r page here
