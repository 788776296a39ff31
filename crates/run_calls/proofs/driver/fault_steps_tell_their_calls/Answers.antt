use Rattle.run_calls.proofs.FaultLaws.{resolved_tells}
use Rattle.run_calls.proofs.driver.fault_steps_tell_their_calls.Goals as goal

pub returns : goal.returns
returns c = resolved_tells
