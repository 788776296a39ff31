use Rattle.machine_copies.proofs.DrawnLaws.{drawn_once}
use Rattle.machine_copies.proofs.StartLaws.{starts_apart}
use Rattle.machine_copies.proofs.laws.versions_are_drawn_once.Goals as goal

pub returns : goal.returns
returns c = record { drawn = drawn_once; apart = starts_apart }
