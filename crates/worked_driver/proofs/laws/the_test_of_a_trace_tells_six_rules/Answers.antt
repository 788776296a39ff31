use Rattle.worked_driver.proofs.FaultLaws.{six_kept}
use Rattle.worked_driver.proofs.laws.the_test_of_a_trace_tells_six_rules.Goals as goal

pub returns : goal.returns
returns c = six_kept
