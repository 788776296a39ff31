use Rattle.worked_driver.proofs.FaultLaws.{first_broken}
use Rattle.worked_driver.proofs.laws.the_test_of_a_fault_tells_the_rule_that_is_named.Goals as goal

pub returns : goal.returns
returns c = first_broken
