use Rattle.run_calls.proofs.PassLaws.{turn_tells}
use Rattle.run_calls.proofs.driver.turns_of_a_pass_tell_their_calls.Goals as goal

pub returns : goal.returns
returns c = turn_tells
