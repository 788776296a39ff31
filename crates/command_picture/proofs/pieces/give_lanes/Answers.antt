use Rattle.std.proofs.Common.{◌<◌, length, arith}
use Rattle.io_edges.proofs.Read.{told_at_err}
use Rattle.picture_text.specs.PictureText.{lane_text}
use Rattle.picture_text.proofs.PartLaws.{lines_more}
use Rattle.trace_pieces.proofs.HeldLaws.{broke_off, held_line}
use Rattle.command_picture.proofs.PieceLaws.{lines_parted}
use Rattle.command_picture.proofs.pieces.give_lanes.Goals as goal

pub loop-lane-preserved : goal.loop-lane-preserved
loop-lane-preserved g c =
    let within : c.loop-lane.lane-index < length c.args.order.now = omega arith in
    record {
      held = λ lanes numbered. held_line _ _ _ _ _ _ _ _ _ (c.loop-lane.invariant.held lanes numbered) c.in_ok-make_room.ensures.held
          (c.hold_lane.ensures.text lanes numbered)
          (lines_more (lane_text lanes) c.args.piece.now.items c.args.order.now c.loop-lane.lane-index _ within);
      capacity = omega (arith, c.loop-lane.invariant.capacity, c.in_ok-make_room.ensures.capacity, c.hold_lane.ensures.capacity);
      not_fallen = omega (arith, c.loop-lane.invariant.not_fallen, c.in_ok-make_room.ensures.cause.not_fallen);
    }

pub returns-in_err-make_room-clause-broke : goal.returns-in_err-make_room-clause-broke
returns-in_err-make_room-clause-broke g c =
    told_at_err c.from_residual.result (λ lanes numbered. broke_off _ _ _ _ _ _ _ (c.loop-lane.invariant.held lanes numbered)
    c.in_err-make_room.ensures.broke (lines_parted (lane_text lanes) c.args.piece.now.items c.args.order.now c.loop-lane.lane-index))
