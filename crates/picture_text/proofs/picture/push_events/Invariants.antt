use Rattle.std.proofs.Common.{◌≡◌, ◌++◌, List, take}
use Rattle.std.specs.List.{flat_map}
use Rattle.picture_text.specs.declared.events.Lane.{Lane}
use Rattle.picture_text.specs.PictureText.{event_text}
use Rattle.picture_text.specs.inner.Following.{AreNumbered}
use Rattle.picture_text.proofs.picture.push_events.Given as goal

abbrev pub invariant-loop-event : goal.invariant-loop-event
invariant-loop-event l = (lanes : List Lane) → AreNumbered l.known lanes
    → l.text.items ≡ l.fn.text.items ++ flat_map (event_text l.entries lanes) (take l.event-index l.events)
