use Rattle.worked_driver.proofs.FaultLaws.{fails_at_last, whole_history}
use Rattle.worked_driver.proofs.laws.the_tests_of_a_trace_without_digests_tell_all_rules.Goals as goal

pub returns : goal.returns
returns c = record { history = whole_history; fails = fails_at_last }
