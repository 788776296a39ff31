-- What is kept along the entries goes on to stand for them.
use Rattle.std.proofs.Common.{◌≡◌, ℕ, ◌+◌, ◌<◌, ◌∷◌, ◌++◌, List, Option, Some, None, length, refl, sym, ap, ◌∙◌}
use Rattle.std.proofs.Common.{subst, arith, take, get_or, reverse, length-take}
use Rattle.std.proofs.lemmas.List.{length-reverse}
use Rattle.trace_text.proofs.EntryLaws.{newest_more}
use Rattle.picture_text.specs.declared.events.PictureEvent.{PictureEvent}
use Rattle.sgx_rules.specs.declared.entries.Entry.{Entry}
use Rattle.sgx_rules.specs.Processors.{Stay, move_by, is_by, stay_after, stay}
use Rattle.trace_places.specs.declared.change.Change.{Change}
use Rattle.trace_places.specs.declared.places.Places.{Places}
use Rattle.trace_places.specs.Places.{change_by, change_after, frame_changed, page_at_frame, page_named, other_than}
use Rattle.trace_places.specs.inner.Tables.{Stands, may_move, pages_if}
use Rattle.picture_text.specs.declared.events.Lane.{Lane}
use Rattle.picture_text.specs.declared.open_spans.OpenSpans.{OpenSpans}
use Rattle.picture_text.specs.declared.events.Mark.TheVariants as marks
use Rattle.picture_text.specs.declared.counts.Counts.{Counts}
use Rattle.picture_text.specs.Events.{counts_of, counts_to, marked, pages_by, steps_on, events_after, events_by, events_of}
use Rattle.picture_text.specs.Open.{inside, open_if}
use Rattle.picture_text.specs.inner.Following.{leaving_in, leaving_after, seat_in, Follows}
use Rattle.picture_text.specs.inner.Steps.{counts_by, steps_if, touched_by, seen_on, drawn}
use Rattle.picture_text.proofs.FrameLaws.{leaving_more}

-- one entry more
pub follows_more : (old new : OpenSpans) (past : List Entry) (e : Entry) → Follows old past → Stands new.places (e ∷ past)
    → ((n : ℕ) → leaving_in new.leavings n ≡ leaving_after e.event n (leaving_in old.leavings n))
    → ((p : ℕ) (before : List Entry) (was : Option Stay) → seat_in old.seats p ≡ inside was
    → seat_in new.seats p ≡ inside (stay_after (move_by e.event) (is_by p e.actor) before was))
    → Follows new (e ∷ past)
follows_more old new past e follows stands leavings seats = record {
  places = stands;
  leavings = λ n. leavings n ∙ ap (leaving_after e.event n) (follows.leavings n) ∙ sym (leaving_more past e n);
  seats = λ p. seats p past (stay past p) (follows.seats p);
}

-- the pages that the next entry may move, by the tables and by the entries
pages_alike : (known : Places) (past : List Entry) (change : Option Change) → Stands known past → pages_if known change
    ≡ pages_by past change
pages_alike known past None stands = refl
pages_alike known past (Some change) stands =
    λ i. let former = page_at_frame (stands.tenants (frame_changed change) i) in
    record { former = former; named = other_than former (page_named change) }

pub pages_known : (known : Places) (past : List Entry) (e : Entry) → Stands known past
    → may_move known e ≡ pages_by past (change_after past e)
pages_known known past e stands =
    pages_alike known past (change_by e.event known.next_va) stands
    ∙ ap (λ (va : Option ℕ). pages_by past (change_by e.event va)) stands.next_va

-- what is drawn by what was seen is what the entry begins and ends
steps_alike : (past : List Entry) (e : Entry) (lane : Option Lane)
    → steps_if (length past) lane (open_if past lane) (open_if (e ∷ past) lane) ≡ steps_on past e lane
steps_alike past e None = refl
steps_alike past e (Some lane) = refl

pub drawn_after : (past : List Entry) (e : Entry)
    → drawn (length past) (touched_by past e) (seen_on past (touched_by past e)) (seen_on (e ∷ past) (touched_by past e))
    ≡ events_after past e
drawn_after past e =
    let lanes = touched_by past e in
    λ i. marked (length past) lanes.actor marks.Does
    ∷ (steps_on past e (Some lanes.actor)
    ++ steps_alike past e lanes.frame i
    ++ steps_alike past e lanes.former i
    ++ steps_alike past e lanes.named i)

-- the counters by what was seen are those behind the entry
pub counted_after : (past : List Entry) (e : Entry) (counts : Counts) → counts ≡ counts_of past
    → counts_by e.event (seen_on past (touched_by past e)) (seen_on (e ∷ past) (touched_by past e)) counts ≡ counts_of (e ∷ past)
counted_after past e counts is =
    ap (counts_by e.event (seen_on past (touched_by past e)) (seen_on (e ∷ past) (touched_by past e))) is

-- the next of entries that stand oldest first
pub follows_next : (known : OpenSpans) (entries : List Entry) (i : ℕ) (d : Entry) → i < length entries
    → Follows known (get_or entries i d ∷ reverse (take i entries)) → Follows known (reverse (take (i + 1) entries))
follows_next known entries i d within follows =
    let Are : List Entry → Type 0 = λ past. Follows known past in subst Are (sym (newest_more entries i d within)) follows

pub events_next : (events before : List PictureEvent) (entries : List Entry) (i : ℕ) (d : Entry) → i < length entries
    → before ≡ events_of (reverse (take i entries)) → events ≡ before ++ events_by (reverse (take i entries)) (get_or entries i d)
    → events ≡ events_of (reverse (take (i + 1) entries))
events_next events before entries i d within was more =
    more ∙ ap (λ (xs : List PictureEvent). xs ++ events_by (reverse (take i entries)) (get_or entries i d)) was
    ∙ ap events_of (sym (newest_more entries i d within))

-- so many entries stand before it
pub place_next : (entries : List Entry) (i : ℕ) → i < length entries → i ≡ length (reverse (take i entries))
place_next entries i within = omega (arith, length-reverse (take i entries), length-take i entries)

pub counts_next : (counts : Counts) (entries : List Entry) (i : ℕ) (d : Entry) → i < length entries
    → counts ≡ counts_of (get_or entries i d ∷ reverse (take i entries)) → counts ≡ counts_of (reverse (take (i + 1) entries))
counts_next counts entries i d within is = is ∙ ap counts_of (sym (newest_more entries i d within))
