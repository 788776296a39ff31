use Rattle.std.proofs.Common.{◌<◌, ◌≤◌, length, ap, ◌∙◌, arith}
use Rattle.std.proofs.lemmas.Result.{on_err_weaker, on_ok_weaker}
use Rattle.io_edges.specs.Sinks.{followed_by}
use Rattle.io_edges.proofs.Read.{told_at_err}
use Rattle.trace_text.specs.declared.edition.Edition.TheVariants as editions
use Rattle.trace_text.specs.TraceText.{first_line}
use Rattle.trace_text.proofs.EntryLaws.{entries_text_more}
use Rattle.trace_pieces.proofs.HeldLaws.{broke_off, held_given, held_broke, held_line}
use Rattle.trace_pieces.proofs.TextLaws.{trace_ended, trace_parted}
use Rattle.trace_pieces.proofs.pieces.give_lines.Goals as goal

pub loop-entry-preserved : goal.loop-entry-preserved
loop-entry-preserved g c =
    let within : c.loop-entry.entry-index < length c.args.entries.now = omega arith in
    record {
      held = held_line _ _ _ _ _ _ _ _ _ c.loop-entry.invariant.held c.in_ok-make_room.ensures.held c.hold_entry.ensures.text
          (entries_text_more editions.Two (first_line editions.Two) c.args.entries.now c.loop-entry.entry-index _ within);
      capacity = omega (arith, c.loop-entry.invariant.capacity, c.in_ok-make_room.ensures.capacity, c.hold_entry.ensures.capacity);
      not_fallen = omega (arith, c.loop-entry.invariant.not_fallen, c.in_ok-make_room.ensures.cause.not_fallen);
    }

pub returns-in_err-make_room-clause-broke : goal.returns-in_err-make_room-clause-broke
returns-in_err-make_room-clause-broke g c =
    told_at_err c.from_residual.result (broke_off _ _ _ _ _ _ _ c.loop-entry.invariant.held c.in_err-make_room.ensures.broke
    (trace_parted c.args.entries.now c.loop-entry.entry-index))

pub returns-in_err-make_room-2-clause-broke : goal.returns-in_err-make_room-2-clause-broke
returns-in_err-make_room-2-clause-broke g c =
    told_at_err c.from_residual-in_err-make_room-2.result (broke_off _ _ _ _ _ _ _ c.loop-entry.invariant.held
    c.in_err-make_room-2.ensures.broke
    (trace_parted c.args.entries.now c.loop-entry.entry-index))

pub returns-clause-gave : goal.returns-clause-gave
returns-clause-gave g c =
    let past : length c.args.entries.now ≤ c.loop-entry.entry-index = omega arith in
    let held = held_line _ _ _ _ _ _ _ _ _ c.loop-entry.invariant.held c.in_ok-make_room-2.ensures.held c.hold_last_line.ensures
    (trace_ended c.args.entries.now c.loop-entry.entry-index past) in
    on_ok_weaker c.give_all.result (λ gave. held_given _ _ _ _ _ held
    (gave ∙ ap (followed_by (g.K.Sink.given c.make_room-2.new.sink)) c.deref.ensures.value))
    c.give_all.ensures.ok

pub returns-clause-broke : goal.returns-clause-broke
returns-clause-broke g c =
    let past : length c.args.entries.now ≤ c.loop-entry.entry-index = omega arith in
    let held = held_line _ _ _ _ _ _ _ _ _ c.loop-entry.invariant.held c.in_ok-make_room-2.ensures.held c.hold_last_line.ensures
    (trace_ended c.args.entries.now c.loop-entry.entry-index past) in
    on_err_weaker c.give_all.result (λ part. held_broke _ _ _ _ _ held (rw c.deref.ensures.value at part)) c.give_all.ensures.err
