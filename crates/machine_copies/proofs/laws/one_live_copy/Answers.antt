use Rattle.machine_copies.proofs.CopyLaws.{live_copies}
use Rattle.machine_copies.proofs.laws.one_live_copy.Goals as goal

pub returns : goal.returns
returns c = live_copies
