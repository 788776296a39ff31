use Rattle.std.proofs.Common.{take}
use Rattle.picture_text.specs.Lanes.{lanes_of}
use Rattle.picture_text.proofs.LaneLaws.{numbered_more}
use Rattle.picture_text.proofs.lanes.Lanes.of.Goals as goal

pub loop-event-preserved : goal.loop-event-preserved
loop-event-preserved c =
    numbered_more c.note.new.self c.args.events.now c.loop-event.event-index _ c.loop-event-test.true
    (c.in_ok-note.ensures (lanes_of (take c.loop-event.event-index c.args.events.now)) c.loop-event.invariant)
