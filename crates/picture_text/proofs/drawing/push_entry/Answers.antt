use Rattle.std.proofs.Common.{◌∷◌, ◌++◌, List, ap, ◌∙◌, append_assoc}
use Rattle.picture_text.specs.declared.events.PictureEvent.{PictureEvent}
use Rattle.picture_text.specs.Events.{counts_to, events_after}
use Rattle.picture_text.specs.inner.Steps.{counts_by, drawn, seen_on}
use Rattle.picture_text.proofs.FollowLaws.{counted_after, drawn_after}
use Rattle.picture_text.proofs.drawing.push_entry.Goals as goal

pub returns-clause-counts : goal.returns-clause-counts
returns-clause-counts c = λ past follows is.
    let e = c.args.entry.now in
    let lanes = c.lanes_of-lanes.ensures past follows in
    let before = c.see-before.ensures past follows ∙ ap (seen_on past) lanes in
    let after = c.see-after.ensures (e ∷ past) (c.in_ok-push.ensures past follows) ∙ ap (seen_on (e ∷ past)) lanes in
    c.counts_after-counted.ensures.value ∙ (λ i. counts_by e.event (before i) (after i) c.args.counts.now)
    ∙ counted_after past e c.args.counts.now is

pub returns-clause-events : goal.returns-clause-events
returns-clause-events c = λ past follows is place.
    let e = c.args.entry.now in
    let lanes = c.lanes_of-lanes.ensures past follows in
    let before = c.see-before.ensures past follows ∙ ap (seen_on past) lanes in
    let after = c.see-after.ensures (e ∷ past) (c.in_ok-push.ensures past follows) ∙ ap (seen_on (e ∷ past)) lanes in
    let counts = c.counts_after-counted.ensures.value ∙ (λ i. counts_by e.event (before i) (after i) c.args.counts.now)
    ∙ counted_after past e c.args.counts.now is in
    let own = c.in_ok-push_events.ensures ∙ (λ i. c.args.events.now.items ++ drawn (place i) (lanes i) (before i) (after i))
    ∙ ap (λ (xs : List PictureEvent). c.args.events.now.items ++ xs) (drawn_after past e) in
    c.in_ok-push_counts.ensures ∙ (λ i. own i ++ counts_to (place i) (is i) (counts i))
    ∙ append_assoc c.args.events.now.items (events_after past e) _
