use Rattle.std.proofs.Common.{◌++◌, ap, sym, ◌∙◌, List, ℕ, length}
use Rattle.std.specs.List.{flat_map}
use Rattle.picture_text.specs.Lanes.{lanes_of}
use Rattle.picture_text.specs.PictureText.{head_text, lane_text, event_text, tail_text}
use Rattle.picture_text.proofs.TextLaws.{whole, pictured}
use Rattle.picture_text.proofs.picture.print_picture.Goals as goal

pub returns : goal.returns
returns c =
    let entries = c.args.entries.now in
    let drawn = c.deref.result.now in
    let order = lanes_of drawn in
    let numbered = c.in_ok-known.ensures in
    pictured entries drawn c.print_tail.new.onto.items (c.deref.ensures.value ∙ c.in_ok-events.ensures)
    (whole entries order drawn c.print_head.new.onto.items c.push_lanes.new.text.items c.push_events.new.text.items
    c.print_tail.new.onto.items
    (c.print_head.ensures.text ∙ ap (λ t. t ++ head_text) c.in_ok-text.ensures.items)
    (c.in_ok-push_lanes.ensures order numbered ∙ ap (λ ls. c.print_head.new.onto.items ++ flat_map (lane_text order) ls)
    (c.as_slice.ensures order numbered))
    (c.in_ok-push_events.ensures order numbered
    ∙ ap (λ es. c.push_lanes.new.text.items ++ flat_map (event_text entries order) es)
    (c.deref-2.ensures.value ∙ sym c.deref.ensures.value))
    (c.print_tail.ensures.text ∙ ap (λ (t : List ℕ). t ++ tail_text (length entries)) c.in_ok-reserve.ensures.items))
