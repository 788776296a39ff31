-- What is read back of a counter is what is counted.
use Rattle.std.proofs.Common.{◌≡◌, ◌==◌, ◌||◌, not, ℕ, Bool, true, false, if◌then◌else◌, List, [], ◌∷◌, ◌++◌, Option, Some, None, length}
use Rattle.std.proofs.Common.{refl, ap, ◌∙◌, inl, inr}
use Rattle.std.proofs.lemmas.Bool.{eqb-true}
use Rattle.sgx_rules.specs.declared.entries.Entry.{Entry}
use Rattle.sgx_types.proofs.Truths.{tested}
use Rattle.trace_places.specs.Places.{change_after}
use Rattle.picture_text.specs.declared.counts.Counts.{Counts}
use Rattle.picture_text.specs.declared.events.Counter.{Counter}
use Rattle.picture_text.specs.declared.events.Counter.TheVariants as counters
use Rattle.picture_text.specs.declared.events.Lane.{Lane}
use Rattle.picture_text.specs.declared.events.Open.{Open}
use Rattle.picture_text.specs.declared.events.PictureEvent.{PictureEvent}
use Rattle.picture_text.specs.declared.events.Span.{Span}
use Rattle.picture_text.specs.Events.{begins, count_to, counts_of, counts_to, ends, events_after, events_by, events_of, frame_in}
use Rattle.picture_text.specs.Events.{frame_lane}
use Rattle.picture_text.specs.Events.{lane_of, page_lane, pages_by, steps, steps_on}
use Rattle.picture_text.specs.Open.{open_on, same_spans}
use Rattle.picture_text.specs.Reading.{count_in, read_value, same_counter}

value_append : (k : Counter) (xs ys : List PictureEvent) (v : ℕ) → read_value k (xs ++ ys) v ≡ read_value k ys (read_value k xs v)
value_append k [] ys v = refl
value_append k (x ∷ xs) ys v = value_append k xs ys _

-- two parts that change nothing
both : (k : Counter) (xs ys : List PictureEvent) (v : ℕ) → read_value k xs v ≡ v → read_value k ys v ≡ v → read_value k (xs ++ ys) v ≡ v
both k xs ys v first second = value_append k xs ys v ∙ ap (read_value k ys) first ∙ second

-- .. six
six : (k : Counter) (a b c d e f : List PictureEvent) (v : ℕ) → read_value k a v ≡ v → read_value k b v ≡ v → read_value k c v ≡ v
    → read_value k d v ≡ v → read_value k e v ≡ v → read_value k f v ≡ v → read_value k (((((a ++ b) ++ c) ++ d) ++ e) ++ f) v ≡ v
six k a b c d e f v ha hb hc hd he hf =
    both k ((((a ++ b) ++ c) ++ d) ++ e) f v (both k (((a ++ b) ++ c) ++ d) e v
    (both k ((a ++ b) ++ c) d v (both k (a ++ b) c v (both k a b v ha hb) hc) hd) he) hf

-- ---- spans

module _ (k : Counter) (place : ℕ) (lane : Lane) (v : ℕ) where
  by_ends : (c : Bool) (s : Option Span) → read_value k (ends place lane c s) v ≡ v
  by_ends c None = refl
  by_ends true (Some s) = refl
  by_ends false (Some s) = refl

  by_begins : (c : Bool) (s : Option Span) → read_value k (begins place lane c s) v ≡ v
  by_begins c None = refl
  by_begins true (Some s) = refl
  by_begins false (Some s) = refl

  by_steps : (a b : Open) → read_value k (steps place lane a b) v ≡ v
  by_steps a b =
      let outer = not (same_spans a.outer b.outer) in
      let middle = outer || not (same_spans a.middle b.middle) in
      let inner = middle || not (same_spans a.inner b.inner) in
      six k (ends place lane inner a.inner) (ends place lane middle a.middle) (ends place lane outer a.outer)
      (begins place lane outer b.outer) (begins place lane middle b.middle) (begins place lane inner b.inner) v
      (by_ends inner a.inner) (by_ends middle a.middle) (by_ends outer a.outer) (by_begins outer b.outer)
      (by_begins middle b.middle) (by_begins inner b.inner)

by_lane : (k : Counter) (past : List Entry) (e : Entry) (lane : Option Lane) (v : ℕ) → read_value k (steps_on past e lane) v ≡ v
by_lane k past e None v = refl
by_lane k past e (Some lane) v = by_steps k (length past) lane v (open_on past lane) (open_on (e ∷ past) lane)

by_entry : (k : Counter) (past : List Entry) (e : Entry) (v : ℕ) → read_value k (events_after past e) v ≡ v
by_entry k past e v =
    let pages = pages_by past (change_after past e) in
    let actor = steps_on past e (Some (lane_of e.actor)) in
    let frame = steps_on past e (frame_lane (frame_in e.event)) in
    let former = steps_on past e (page_lane pages.former) in
    let named = steps_on past e (page_lane pages.named) in
    both k ((actor ++ frame) ++ former) named v (both k (actor ++ frame) former v
    (both k actor frame v (by_lane k past e (Some (lane_of e.actor)) v) (by_lane k past e (frame_lane (frame_in e.event)) v))
    (by_lane k past e (page_lane pages.former) v)) (by_lane k past e (page_lane pages.named) v)

-- ---- counters

own : (k : Counter) → same_counter k k ≡ true
own counters.Frames = refl
own counters.Pages = refl
own counters.Version = refl

hit : (k : Counter) (place before value : ℕ) → read_value k (count_to place k before value) before ≡ value
hit k place before value =
    elim (tested (before == value)) [
      | inl same ↦ rw same (eqb-true before value same)
      | inr differs ↦ rw (differs, own k) refl
    ]

miss : (k other : Counter) (place before value v : ℕ) → same_counter other k ≡ false
    → read_value k (count_to place other before value) v ≡ v
miss k other place before value v apart =
    elim (tested (before == value)) [
      | inl same ↦ rw same refl
      | inr differs ↦ rw (differs, apart) refl
    ]

by_counts : (k : Counter) (place : ℕ) (a b : Counts) → read_value k (counts_to place a b) (count_in k a) ≡ count_in k b
by_counts k place a b =
    let frames = count_to place counters.Frames a.frames b.frames in
    let pages = count_to place counters.Pages a.pages b.pages in
    let version = count_to place counters.Version a.version b.version in
    value_append k (frames ++ pages) version (count_in k a)
    ∙ ap (read_value k version) (value_append k frames pages (count_in k a))
    ∙ by_counter k
  where
    by_counter : (k : Counter)
        → read_value k (count_to place counters.Version a.version b.version)
        (read_value k (count_to place counters.Pages a.pages b.pages)
        (read_value k (count_to place counters.Frames a.frames b.frames) (count_in k a)))
        ≡ count_in k b
    by_counter counters.Frames =
        ap (λ (v : ℕ). read_value counters.Frames (count_to place counters.Version a.version b.version)
        (read_value counters.Frames (count_to place counters.Pages a.pages b.pages) v)) (hit counters.Frames place a.frames b.frames)
        ∙ ap (read_value counters.Frames (count_to place counters.Version a.version b.version))
        (miss counters.Frames counters.Pages place a.pages b.pages b.frames refl)
        ∙ miss counters.Frames counters.Version place a.version b.version b.frames refl
    by_counter counters.Pages =
        ap (λ (v : ℕ). read_value counters.Pages (count_to place counters.Version a.version b.version)
        (read_value counters.Pages (count_to place counters.Pages a.pages b.pages) v))
        (miss counters.Pages counters.Frames place a.frames b.frames a.pages refl)
        ∙ ap (read_value counters.Pages (count_to place counters.Version a.version b.version))
        (hit counters.Pages place a.pages b.pages)
        ∙ miss counters.Pages counters.Version place a.version b.version b.pages refl
    by_counter counters.Version =
        ap (λ (v : ℕ). read_value counters.Version (count_to place counters.Version a.version b.version)
        (read_value counters.Version (count_to place counters.Pages a.pages b.pages) v))
        (miss counters.Version counters.Frames place a.frames b.frames a.version refl)
        ∙ ap (read_value counters.Version (count_to place counters.Version a.version b.version))
        (miss counters.Version counters.Pages place a.pages b.pages a.version refl)
        ∙ hit counters.Version place a.version b.version

-- ---- all

at_first : (k : Counter) → 0 ≡ count_in k (counts_of [])
at_first counters.Frames = refl
at_first counters.Pages = refl
at_first counters.Version = refl

pub value_back : (past : List Entry) (k : Counter) → read_value k (events_of past) 0 ≡ count_in k (counts_of past)
value_back [] k = at_first k
value_back (e ∷ past) k =
    let counts = counts_to (length past) (counts_of past) (counts_of (e ∷ past)) in
    value_append k (events_of past) (events_by past e) 0
    ∙ ap (read_value k (events_by past e)) (value_back past k)
    ∙ value_append k (events_after past e) counts (count_in k (counts_of past))
    ∙ ap (read_value k counts) (by_entry k past e (count_in k (counts_of past)))
    ∙ by_counts k (length past) (counts_of past) (counts_of (e ∷ past))
