use Rattle.std.proofs.Common.{ap}
use Rattle.driver_laws.proofs.BuiltLaws.{not_all_out}
use Rattle.driver_laws.specs.inner.Sound.{is_absent}
use Rattle.driver_reclaim.proofs.laws.a_slot_is_left_for_a_try.Goals as goal

pub returns : goal.returns
returns c made j past d m g f a none own at out =
    not_all_out j d.slots past g a.sound a.shows.slots a.counted a.built none own (ap is_absent at) out
