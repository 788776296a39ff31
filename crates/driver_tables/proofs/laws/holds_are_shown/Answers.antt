use Rattle.driver_tables.proofs.HeldLaws.{held_same}
use Rattle.driver_tables.proofs.laws.holds_are_shown.Goals as goal

pub returns : goal.returns
returns c j own past g few s = held_same j own past s g few
