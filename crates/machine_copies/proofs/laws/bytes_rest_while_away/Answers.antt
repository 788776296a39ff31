use Rattle.machine_copies.proofs.RestLaws.{bytes_rest}
use Rattle.machine_copies.proofs.laws.bytes_rest_while_away.Goals as goal

pub returns : goal.returns
returns c = bytes_rest
