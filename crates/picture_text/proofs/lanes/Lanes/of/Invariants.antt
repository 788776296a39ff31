use Rattle.std.proofs.Common.{take}
use Rattle.picture_text.specs.Lanes.{lanes_of}
use Rattle.picture_text.specs.inner.Following.{AreNumbered}
use Rattle.picture_text.proofs.lanes.Lanes.of.Given as goal

abbrev pub invariant-loop-event : goal.invariant-loop-event
invariant-loop-event l = AreNumbered l.known (lanes_of (take l.event-index l.events))
