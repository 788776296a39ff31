use Rattle.run_calls.proofs.FaultLaws.{end_tells}
use Rattle.run_calls.proofs.driver.ends_of_loads_make_no_call.Goals as goal

pub returns : goal.returns
returns c calls d d' m s t cpu page loaded can sized is = end_tells calls d d' m s t cpu page loaded can sized is
