use Rattle.worked_driver.proofs.FaultLaws.{machines_say}
use Rattle.worked_driver.proofs.laws.the_test_of_the_machines_rules_tells_them.Goals as goal

pub returns : goal.returns
returns c = machines_say
