-- The times of events never fall.
use Rattle.std.proofs.Common.{◌≡◌, ◌==◌, ℕ, ◌+◌, ◌≤◌, ◌||◌, not, Bool, true, false, if◌then◌else◌, List, [], ◌∷◌, ◌++◌, length, Option}
use Rattle.std.proofs.Common.{Some, None, arith, subst}
use Rattle.sgx_rules.specs.declared.entries.Entry.{Entry}
use Rattle.trace_places.specs.Places.{change_after}
use Rattle.picture_text.specs.declared.events.Lane.{Lane}
use Rattle.picture_text.specs.declared.events.Open.{Open}
use Rattle.picture_text.specs.declared.events.PictureEvent.{PictureEvent}
use Rattle.picture_text.specs.declared.events.Span.{Span}
use Rattle.picture_text.specs.Events.{ends, begins, steps, lane_of, frame_in, frame_lane, page_lane, pages_by, steps_on}
use Rattle.picture_text.specs.declared.counts.Counts.{Counts}
use Rattle.picture_text.specs.declared.events.Counter.{Counter}
use Rattle.picture_text.specs.declared.events.Counter.TheVariants as counters
use Rattle.picture_text.specs.declared.events.Lane.TheVariants as lanes
use Rattle.picture_text.specs.declared.events.Mark.TheVariants as marks
use Rattle.picture_text.specs.Events.{count_to, counts_of, counts_to, events_after, events_by, events_of, marked}
use Rattle.picture_text.specs.Open.{same_spans, open_on}
use Rattle.picture_text.specs.Reading.{time_of, NeverFall}

-- the times do not fall, from one to another
abbrev Lie : ℕ → ℕ → List PictureEvent → Type 0
Lie from to [] = from ≤ to
Lie from to (event ∷ events) = (from ≤ time_of event.place event.mark) × Lie (time_of event.place event.mark) to events

lie_sooner : (from sooner to : ℕ) (xs : List PictureEvent) → sooner ≤ from → Lie from to xs → Lie sooner to xs
lie_sooner from sooner to [] h lie = omega (arith, h, lie)
lie_sooner from sooner to (x ∷ xs) h lie = (omega (arith, h, lie.0), lie.1)

lie_append : (a b c : ℕ) (xs ys : List PictureEvent) → Lie a b xs → Lie b c ys → Lie a c (xs ++ ys)
lie_append a b c [] ys first second = lie_sooner b a c ys first second
lie_append a b c (x ∷ xs) ys first second = (first.0, lie_append (time_of x.place x.mark) b c xs ys first.1 second)

lie_fall : (from to : ℕ) (xs : List PictureEvent) → Lie from to xs → NeverFall from xs
lie_fall from to [] lie = tt
lie_fall from to (x ∷ xs) lie = (lie.0, lie_fall (time_of x.place x.mark) to xs lie.1)

same : (n : ℕ) → n ≤ n
same n = omega arith

module _ (place : ℕ) (lane : Lane) where
  ends_lie : (c : Bool) (s : Option Span) → Lie (place + 1) (place + 1) (ends place lane c s)
  ends_lie c None = same (place + 1)
  ends_lie true (Some s) = (same (place + 1), same (place + 1))
  ends_lie false (Some s) = same (place + 1)

  begins_lie : (c : Bool) (s : Option Span) → Lie (place + 1) (place + 1) (begins place lane c s)
  begins_lie c None = same (place + 1)
  begins_lie true (Some s) = (same (place + 1), same (place + 1))
  begins_lie false (Some s) = same (place + 1)

  joined : (xs ys : List PictureEvent) → Lie (place + 1) (place + 1) xs → Lie (place + 1) (place + 1) ys
      → Lie (place + 1) (place + 1) (xs ++ ys)
  joined xs ys a b = lie_append (place + 1) (place + 1) (place + 1) xs ys a b

  steps_lie : (a b : Open) → Lie (place + 1) (place + 1) (steps place lane a b)
  steps_lie a b =
      let outer = not (same_spans a.outer b.outer) in
      let middle = outer || not (same_spans a.middle b.middle) in
      let inner = middle || not (same_spans a.inner b.inner) in
      joined _ _ (joined _ _
      (joined _ _ (joined _ _ (joined _ _ (ends_lie inner a.inner) (ends_lie middle a.middle)) (ends_lie outer a.outer))
      (begins_lie outer b.outer)) (begins_lie middle b.middle)) (begins_lie inner b.inner)

on_lie : (past : List Entry) (e : Entry) (lane : Option Lane) → Lie (length past + 1) (length past + 1) (steps_on past e lane)
on_lie past e None = same (length past + 1)
on_lie past e (Some lane) = steps_lie (length past) lane (open_on past lane) (open_on (e ∷ past) lane)

after_lie : (past : List Entry) (e : Entry) → Lie (length past) (length past + 1) (events_after past e)
after_lie past e =
    let n = length past in
    let pages = pages_by past (change_after past e) in
    let all : Lie (n + 1) (n + 1) (((steps_on past e (Some (lane_of e.actor)) ++ steps_on past e (frame_lane (frame_in e.event)))
    ++ steps_on past e (page_lane pages.former)) ++ steps_on past e (page_lane pages.named)) =
    joined n (lane_of e.actor) _ _ (joined n (lane_of e.actor) _ _ (joined n (lane_of e.actor) _ _
    (on_lie past e (Some (lane_of e.actor))) (on_lie past e (frame_lane (frame_in e.event))))
    (on_lie past e (page_lane pages.former))) (on_lie past e (page_lane pages.named)) in
    (same n, lie_sooner (n + 1) n (n + 1) _ (omega arith) all)

count_lie : (place : ℕ) (counter : Counter) (before value : ℕ) → Lie (place + 1) (place + 1) (count_to place counter before value)
count_lie place counter before value = by_test (before == value)
  where
    by_test : (b : Bool) → Lie (place + 1) (place + 1) (if b then [] else marked place lanes.Counters (marks.Counts counter value) ∷ [])
    by_test true = same (place + 1)
    by_test false = (same (place + 1), same (place + 1))

counts_lie : (place : ℕ) (a b : Counts) → Lie (place + 1) (place + 1) (counts_to place a b)
counts_lie place a b =
    joined place lanes.Counters _ _ (joined place lanes.Counters _ _ (count_lie place counters.Frames a.frames b.frames)
    (count_lie place counters.Pages a.pages b.pages)) (count_lie place counters.Version a.version b.version)

by_lie : (past : List Entry) (e : Entry) → Lie (length past) (length past + 1) (events_by past e)
by_lie past e =
    lie_append (length past) (length past + 1) (length past + 1) (events_after past e) _ (after_lie past e)
    (counts_lie (length past) (counts_of past) (counts_of (e ∷ past)))

all_lie : (past : List Entry) → Lie 0 (length past) (events_of past)
all_lie [] = same 0
all_lie (e ∷ past) =
    let rest = lie_append 0 (length past) (length past + 1) (events_of past) (events_by past e) (all_lie past) (by_lie past e) in
    let is : length past + 1 ≡ length (e ∷ past) = omega arith in
    let Is : ℕ → Type 0 = λ n. Lie 0 n (events_of (e ∷ past)) in subst Is is rest

pub never_fall : (past : List Entry) → NeverFall 0 (events_of past)
never_fall past = lie_fall 0 (length past) (events_of past) (all_lie past)
