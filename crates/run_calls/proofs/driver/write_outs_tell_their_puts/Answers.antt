use Rattle.run_calls.proofs.PassLaws.{stored_tells}
use Rattle.run_calls.proofs.driver.write_outs_tell_their_puts.Goals as goal

pub returns : goal.returns
returns c = stored_tells
