use Rattle.driver_laws.proofs.BuiltLaws.{first_built, not_all_out, slot_left, stays_built}
use Rattle.driver_laws.proofs.laws.a_slot_is_left.Goals as goal

pub returns : goal.returns
returns c = record { first = first_built; more = stays_built; left = slot_left; none = not_all_out }
