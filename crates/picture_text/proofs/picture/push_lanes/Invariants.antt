use Rattle.std.proofs.Common.{◌≡◌, ◌++◌, List, take}
use Rattle.std.specs.List.{flat_map}
use Rattle.picture_text.specs.declared.events.Lane.{Lane}
use Rattle.picture_text.specs.PictureText.{lane_text}
use Rattle.picture_text.specs.inner.Following.{AreNumbered}
use Rattle.picture_text.proofs.picture.push_lanes.Given as goal

abbrev pub invariant-loop-lane : goal.invariant-loop-lane
invariant-loop-lane l = (lanes : List Lane) → AreNumbered l.known lanes
    → l.text.items ≡ l.fn.text.items ++ flat_map (lane_text lanes) (take l.lane-index l.order)
