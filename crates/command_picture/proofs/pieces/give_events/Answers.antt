use Rattle.std.proofs.Common.{◌<◌, length, arith}
use Rattle.io_edges.proofs.Read.{told_at_err}
use Rattle.picture_text.specs.PictureText.{event_text}
use Rattle.picture_text.proofs.PartLaws.{lines_more}
use Rattle.trace_pieces.proofs.HeldLaws.{broke_off, held_line}
use Rattle.command_picture.proofs.PieceLaws.{lines_parted}
use Rattle.command_picture.proofs.pieces.give_events.Goals as goal

pub loop-event-preserved : goal.loop-event-preserved
loop-event-preserved g c =
    let within : c.loop-event.event-index < length c.args.events.now = omega arith in
    record {
      held = λ lanes numbered. held_line _ _ _ _ _ _ _ _ _ (c.loop-event.invariant.held lanes numbered) c.in_ok-make_room.ensures.held
          (c.hold_event.ensures.text lanes numbered)
          (lines_more (event_text c.args.entries.now lanes) c.args.piece.now.items c.args.events.now c.loop-event.event-index _ within);
      capacity = omega (arith, c.loop-event.invariant.capacity, c.in_ok-make_room.ensures.capacity, c.hold_event.ensures.capacity);
      not_fallen = omega (arith, c.loop-event.invariant.not_fallen, c.in_ok-make_room.ensures.cause.not_fallen);
    }

pub returns-in_err-make_room-clause-broke : goal.returns-in_err-make_room-clause-broke
returns-in_err-make_room-clause-broke g c =
    told_at_err c.from_residual.result (λ lanes numbered. broke_off _ _ _ _ _ _ _ (c.loop-event.invariant.held lanes numbered)
    c.in_err-make_room.ensures.broke
    (lines_parted (event_text c.args.entries.now lanes) c.args.piece.now.items c.args.events.now c.loop-event.event-index))
