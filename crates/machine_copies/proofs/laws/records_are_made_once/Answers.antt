use Rattle.machine_copies.proofs.RecordLaws.{made_once}
use Rattle.machine_copies.proofs.laws.records_are_made_once.Goals as goal

pub returns : goal.returns
returns c = made_once
