use Rattle.std.proofs.Common.{◌++◌, ℕ, List, length, ap, ◌∙◌}
use Rattle.std.specs.List.{flat_map}
use Rattle.std.proofs.lemmas.Result.{on_err_weaker, on_ok_weaker}
use Rattle.io_edges.specs.Sinks.{followed_by}
use Rattle.io_edges.proofs.Read.{told_at_err}
use Rattle.trace_pieces.proofs.HeldLaws.{broke_off, held_broke, held_given, held_line, held_more}
use Rattle.picture_text.specs.PictureText.{head_text, event_text, tail_text}
use Rattle.command_picture.proofs.PieceLaws.{broke_front, first_is, first_text, held_as, held_on, second_text, text_ended, text_parted}
use Rattle.command_picture.proofs.pieces.give_lines.Goals as goal

pub returns-in_err-give_lanes-clause-broke : goal.returns-in_err-give_lanes-clause-broke
returns-in_err-give_lanes-clause-broke g c =
    let entries = c.args.entries.now in
    let drawn = c.args.events.now in
    told_at_err c.from_residual.result (λ order numbered.
    let head = c.print_head.ensures.text ∙ ap (λ (t : List ℕ). t ++ head_text) c.requires.empty in
    let rest = flat_map (event_text entries order) drawn ++ tail_text (length entries) in
    broke_front _ _ _ rest _ (c.in_err-give_lanes.ensures.broke order numbered)
    (ap (λ (t : List ℕ). t ++ rest) (first_is _ order _ head (c.as_slice.ensures order numbered)) ∙ text_parted entries order drawn))

pub returns-in_err-give_events-clause-broke : goal.returns-in_err-give_events-clause-broke
returns-in_err-give_events-clause-broke g c =
    let entries = c.args.entries.now in
    let drawn = c.args.events.now in
    told_at_err c.from_residual-in_err-give_events.result (λ order numbered.
    let head = c.print_head.ensures.text ∙ ap (λ (t : List ℕ). t ++ head_text) c.requires.empty in
    broke_off _ _ _ _ (second_text entries order drawn) (tail_text (length entries)) _
    (held_more _ _ _ (flat_map (event_text entries order) drawn) (first_text order)
    (held_as _ _ _ _ (first_text order) (first_is _ order _ head (c.as_slice.ensures order numbered))
    (c.in_ok-give_lanes.ensures.held order numbered)))
    (c.in_err-give_events.ensures.broke order numbered) (text_ended entries order drawn))

pub returns-in_err-make_room-clause-broke : goal.returns-in_err-make_room-clause-broke
returns-in_err-make_room-clause-broke g c =
    let entries = c.args.entries.now in
    let drawn = c.args.events.now in
    told_at_err c.from_residual-in_err-make_room.result (λ order numbered.
    let head = c.print_head.ensures.text ∙ ap (λ (t : List ℕ). t ++ head_text) c.requires.empty in
    broke_off _ _ _ _ (second_text entries order drawn) (tail_text (length entries)) _
    (held_on _ _ _ _ _ (first_text order) (flat_map (event_text entries order) drawn)
    (held_as _ _ _ _ (first_text order) (first_is _ order _ head (c.as_slice.ensures order numbered))
    (c.in_ok-give_lanes.ensures.held order numbered))
    (c.in_ok-give_events.ensures.held order numbered))
    c.in_err-make_room.ensures.broke (text_ended entries order drawn))

pub returns-clause-gave : goal.returns-clause-gave
returns-clause-gave g c =
    let entries = c.args.entries.now in
    let drawn = c.args.events.now in
    on_ok_weaker c.give_all.result (λ gave order numbered.
    let head = c.print_head.ensures.text ∙ ap (λ (t : List ℕ). t ++ head_text) c.requires.empty in
    held_given _ _ _ _ _
    (held_line _ _ _ _ _ _ _ (second_text entries order drawn) _
    (held_on _ _ _ _ _ (first_text order) (flat_map (event_text entries order) drawn)
    (held_as _ _ _ _ (first_text order) (first_is _ order _ head (c.as_slice.ensures order numbered))
    (c.in_ok-give_lanes.ensures.held order numbered))
    (c.in_ok-give_events.ensures.held order numbered))
    c.in_ok-make_room.ensures.held c.hold_tail.ensures (text_ended entries order drawn))
    (gave ∙ ap (followed_by (g.K.Sink.given c.make_room.new.sink)) c.deref.ensures.value))
    c.give_all.ensures.ok

pub returns-clause-broke : goal.returns-clause-broke
returns-clause-broke g c =
    let entries = c.args.entries.now in
    let drawn = c.args.events.now in
    on_err_weaker c.give_all.result (λ part order numbered.
    let head = c.print_head.ensures.text ∙ ap (λ (t : List ℕ). t ++ head_text) c.requires.empty in
    held_broke _ _ _ _ _
    (held_line _ _ _ _ _ _ _ (second_text entries order drawn) _
    (held_on _ _ _ _ _ (first_text order) (flat_map (event_text entries order) drawn)
    (held_as _ _ _ _ (first_text order) (first_is _ order _ head (c.as_slice.ensures order numbered))
    (c.in_ok-give_lanes.ensures.held order numbered))
    (c.in_ok-give_events.ensures.held order numbered))
    c.in_ok-make_room.ensures.held c.hold_tail.ensures (text_ended entries order drawn))
    (rw c.deref.ensures.value at part))
    c.give_all.ensures.err
