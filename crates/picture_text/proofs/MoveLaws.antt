-- The spans that begin on a page's lane are the page's moves.
use Rattle.std.proofs.Common.{◌≡◌, ◌==◌, ℕ, ◌+◌, ◌||◌, not, Bool, true, false, if◌then◌else◌, List, [], ◌∷◌, ◌++◌, length, Option, Some}
use Rattle.std.proofs.Common.{None}
use Rattle.std.proofs.Common.{refl, sym, ap, ◌∙◌, inl, inr, append_assoc, append-nil}
use Rattle.std.proofs.lemmas.Bool.{false≢true}
use Rattle.sgx_rules.specs.declared.entries.Entry.{Entry}
use Rattle.sgx_types.specs.declared.names.Actor.{Actor}
use Rattle.sgx_types.specs.declared.names.Actor.TheVariants as actors
use Rattle.sgx_types.specs.declared.names.Frame.{Frame}
use Rattle.sgx_types.specs.declared.names.Page.{Page}
use Rattle.sgx_types.proofs.Pages.{same_page-refl}
use Rattle.sgx_types.proofs.Truths.{tested}
use Rattle.trace_places.specs.declared.moves.Where.{Where}
use Rattle.trace_places.specs.declared.moves.Where.TheVariants as wheres
use Rattle.trace_places.specs.Places.{change_after, place_of, same_where, moved, moved_by}
use Rattle.sgx_rules.specs.Frames.{is_this}
use Rattle.trace_places.proofs.MoveLaws.{stayed}
use Rattle.picture_text.specs.declared.events.Lane.{Lane}
use Rattle.picture_text.specs.declared.events.Lane.TheVariants as lanes
use Rattle.picture_text.specs.declared.events.Open.{Open}
use Rattle.picture_text.specs.declared.events.PictureEvent.{PictureEvent}
use Rattle.picture_text.specs.declared.events.Span.{Span}
use Rattle.picture_text.specs.Events.{ends, begins, steps, lane_of, frame_in, frame_lane, page_lane, pages_by, steps_on}
use Rattle.picture_text.specs.declared.counts.Counts.{Counts}
use Rattle.picture_text.specs.declared.events.Counter.{Counter}
use Rattle.picture_text.specs.declared.events.Counter.TheVariants as counters
use Rattle.picture_text.specs.declared.events.Mark.TheVariants as marks
use Rattle.picture_text.specs.Events.{count_to, counts_of, counts_to, events_after, events_by, events_of, marked}
use Rattle.picture_text.specs.Lanes.{same_lane}
use Rattle.picture_text.specs.Open.{same_spans, span_of, only, open_on}
use Rattle.picture_text.specs.Reading.{Begun, begun_by, begun_on, begun_if, begun_to, begun_by_moves}
use Rattle.picture_text.proofs.StayLaws.{place_stays}
use Rattle.picture_text.proofs.TouchLaws.{same_lanes}
use Rattle.picture_text.proofs.ReadLaws.{named_once, named_other}

begun_append : (l : Lane) (xs ys : List PictureEvent) → begun_on l (xs ++ ys) ≡ begun_on l xs ++ begun_on l ys
begun_append l [] ys = refl
begun_append l (x ∷ xs) ys =
    let first = if same_lane x.lane l then begun_by x.place x.mark else [] in
    ap (λ (bs : List Begun). first ++ bs) (begun_append l xs ys) ∙ sym (append_assoc first (begun_on l xs) (begun_on l ys))

abbrev no_begun : List Begun
no_begun = []

module _ (place : ℕ) (m l : Lane) where
  begun_ends : (c : Bool) (s : Option Span) → begun_on l (ends place m c s) ≡ []
  begun_ends c None = refl
  begun_ends true (Some s) = nothing (same_lane m l)
    where
      nothing : (b : Bool) → (if b then [] else []) ++ no_begun ≡ no_begun
      nothing true = refl
      nothing false = refl
  begun_ends false (Some s) = refl

  begun_miss : (c : Bool) (s : Option Span) → same_lane m l ≡ false → begun_on l (begins place m c s) ≡ []
  begun_miss c None h = refl
  begun_miss true (Some s) h = rw h refl
  begun_miss false (Some s) h = refl

  begun_hit : (c : Bool) (s : Option Span) → same_lane m l ≡ true
      → begun_on l (begins place m c s) ≡ (if c then begun_if (place + 1) s else [])
  begun_hit true None h = refl
  begun_hit false None h = refl
  begun_hit true (Some s) h = rw h refl
  begun_hit false (Some s) h = refl

  begun_six : (a b c d e f : List PictureEvent)
      → begun_on l (((((a ++ b) ++ c) ++ d) ++ e) ++ f)
      ≡ ((((begun_on l a ++ begun_on l b) ++ begun_on l c) ++ begun_on l d) ++ begun_on l e) ++ begun_on l f
  begun_six a b c d e f =
      begun_append l ((((a ++ b) ++ c) ++ d) ++ e) f
      ∙ ap (λ (xs : List Begun). xs ++ begun_on l f) (begun_append l (((a ++ b) ++ c) ++ d) e
      ∙ ap (λ (xs : List Begun). xs ++ begun_on l e) (begun_append l ((a ++ b) ++ c) d
      ∙ ap (λ (xs : List Begun). xs ++ begun_on l d)
      (begun_append l (a ++ b) c ∙ ap (λ (xs : List Begun). xs ++ begun_on l c) (begun_append l a b))))

  steps_miss : (a b : Open) → same_lane m l ≡ false → begun_on l (steps place m a b) ≡ []
  steps_miss a b h =
      let outer = not (same_spans a.outer b.outer) in
      let middle = outer || not (same_spans a.middle b.middle) in
      let inner = middle || not (same_spans a.inner b.inner) in
      begun_six (ends place m inner a.inner) (ends place m middle a.middle) (ends place m outer a.outer) (begins place m outer b.outer)
      (begins place m middle b.middle) (begins place m inner b.inner)
      ∙ (λ i. ((((begun_ends inner a.inner i ++ begun_ends middle a.middle i) ++ begun_ends outer a.outer i) ++ begun_miss outer
      b.outer h i)
      ++ begun_miss middle b.middle h i) ++ begun_miss inner b.inner h i)

  -- of a lane with an outer span alone
  steps_hit : (a b : Option Span) → same_lane m l ≡ true
      → begun_on l (steps place m (only a) (only b)) ≡ (if not (same_spans a b) then begun_if (place + 1) b else [])
  steps_hit a b h =
      let c = not (same_spans a b) in
      begun_six [] [] (ends place m c a) (begins place m c b) [] []
      ∙ (λ i. ((begun_ends c a i ++ begun_hit c b h i) ++ []) ++ [])
      ∙ append-nil ((if c then begun_if (place + 1) b else []) ++ [])
      ∙ append-nil (if c then begun_if (place + 1) b else [])

-- ---- moves

same_stands : (a b : Where) → same_spans (span_of a) (span_of b) ≡ same_where a b
same_stands wheres.Nowhere wheres.Nowhere = refl
same_stands (wheres.At f) (wheres.At k) = refl
same_stands (wheres.Loading f) (wheres.Loading k) = refl
same_stands (wheres.Sealed v) (wheres.Sealed w) = refl
same_stands a b = refl

begun_moved : (place : ℕ) (a b : Where)
    → (if not (same_spans (span_of a) (span_of b)) then begun_if place (span_of b) else []) ≡ begun_to place (moved a b)
begun_moved place a b = ap (λ (s : Bool). if not s then begun_if place (span_of b) else []) (same_stands a b) ∙ by_test (same_where a b)
  where
    by_test : (s : Bool) → (if not s then begun_if place (span_of b) else []) ≡ begun_to place (if s then None else Some b)
    by_test true = refl
    by_test false = refl

module _ (past : List Entry) (e : Entry) (g : Page) where
  page_hit : (o : Option Page) → is_this o g ≡ true
      → begun_on (lanes.Page g) (steps_on past e (page_lane o)) ≡ begun_to (length past + 1) (moved_by past e g)
  page_hit None h = absurd (false≢true h)
  page_hit (Some k) h =
      ap (λ (m : Lane). begun_on (lanes.Page g) (steps (length past) m (open_on past m) (open_on (e ∷ past) m)))
      (same_lanes (lanes.Page k) (lanes.Page g) h)
      ∙ steps_hit (length past) (lanes.Page g) (lanes.Page g) (span_of (place_of past g)) (span_of (place_of (e ∷ past) g)) (own g)
      ∙ begun_moved (length past + 1) (place_of past g) (place_of (e ∷ past) g)
    where
      own : (p : Page) → same_lane (lanes.Page p) (lanes.Page p) ≡ true
      own p = same_page-refl p

  page_miss : (o : Option Page) → is_this o g ≡ false → begun_on (lanes.Page g) (steps_on past e (page_lane o)) ≡ []
  page_miss None h = refl
  page_miss (Some k) h =
      steps_miss (length past) (lanes.Page k) (lanes.Page g) (open_on past (lanes.Page k)) (open_on (e ∷ past) (lanes.Page k)) h

  frame_miss : (o : Option Frame) → begun_on (lanes.Page g) (steps_on past e (frame_lane o)) ≡ []
  frame_miss None = refl
  frame_miss (Some f) =
      steps_miss (length past) (lanes.Frame f) (lanes.Page g) (open_on past (lanes.Frame f)) (open_on (e ∷ past) (lanes.Frame f)) refl

  actor_miss : (actor : Actor) → begun_on (lanes.Page g) (steps_on past e (Some (lane_of actor))) ≡ []
  actor_miss actors.Builder = steps_miss (length past) lanes.Builder (lanes.Page g) (only None) (only None) refl
  actor_miss (actors.Cpu p) =
      steps_miss (length past) (lanes.Processor p) (lanes.Page g) (open_on past (lanes.Processor p))
      (open_on (e ∷ past) (lanes.Processor p)) refl
  actor_miss actors.Reclaimer = steps_miss (length past) lanes.Reclaimer (lanes.Page g) (only None) (only None) refl

  both_pages : (begun_on (lanes.Page g) (steps_on past e (page_lane (pages_by past (change_after past e)).former))
      ++ begun_on (lanes.Page g) (steps_on past e (page_lane (pages_by past (change_after past e)).named)))
      ≡ begun_to (length past + 1) (moved_by past e g)
  both_pages =
      let pages = pages_by past (change_after past e) in
      elim (tested (is_this pages.former g)) [
        | inl a ↦
            (λ i. page_hit pages.former a i ++ page_miss pages.named (named_once past e (change_after past e) g a) i)
            ∙ append-nil (begun_to (length past + 1) (moved_by past e g))
        | inr a ↦ elim (tested (is_this pages.named g)) [
          | inl b ↦ λ i. page_miss pages.former a i ++ page_hit pages.named b i
          | inr b ↦
              (λ i. page_miss pages.former a i ++ page_miss pages.named b i)
              ∙ sym (ap (begun_to (length past + 1)) (stayed (place_of past g) (place_of (e ∷ past) g)
              (place_stays past e (change_after past e) g refl a (sym (named_other past e (change_after past e) g a) ∙ b))))
        ]
      ]

  begun_after : begun_on (lanes.Page g) (events_after past e) ≡ begun_to (length past + 1) (moved_by past e g)
  begun_after =
      let pages = pages_by past (change_after past e) in
      let A = steps_on past e (Some (lane_of e.actor)) in
      let F = steps_on past e (frame_lane (frame_in e.event)) in
      let G = steps_on past e (page_lane pages.former) in
      let N = steps_on past e (page_lane pages.named) in
      let l = lanes.Page g in
      ap (λ (bs : List Begun). bs ++ begun_on l (((A ++ F) ++ G) ++ N)) (nothing (same_lane (lane_of e.actor) l))
      ∙ begun_append l ((A ++ F) ++ G) N
      ∙ ap (λ (bs : List Begun). bs ++ begun_on l N)
      (begun_append l (A ++ F) G ∙ ap (λ (bs : List Begun). bs ++ begun_on l G) (begun_append l A F))
      ∙ (λ i. ((actor_miss e.actor i ++ frame_miss (frame_in e.event) i) ++ begun_on l G) ++ begun_on l N)
      ∙ both_pages
    where
      nothing : (b : Bool) → (if b then no_begun else []) ≡ []
      nothing true = refl
      nothing false = refl

-- ---- counters begin nothing

begun_count : (place : ℕ) (g : Page) (counter : Counter) (before value : ℕ)
    → begun_on (lanes.Page g) (count_to place counter before value) ≡ []
begun_count place g counter before value = by_test (before == value)
  where
    by_test : (b : Bool)
        → begun_on (lanes.Page g) (if b then [] else marked place lanes.Counters (marks.Counts counter value) ∷ []) ≡ []
    by_test true = refl
    by_test false = refl

begun_counts : (place : ℕ) (g : Page) (a b : Counts) → begun_on (lanes.Page g) (counts_to place a b) ≡ []
begun_counts place g a b =
    let l = lanes.Page g in
    let frames = count_to place counters.Frames a.frames b.frames in
    let pages = count_to place counters.Pages a.pages b.pages in
    let version = count_to place counters.Version a.version b.version in
    begun_append l (frames ++ pages) version
    ∙ ap (λ (bs : List Begun). bs ++ begun_on l version) (begun_append l frames pages)
    ∙ (λ i. (begun_count place g counters.Frames a.frames b.frames i ++ begun_count place g counters.Pages a.pages b.pages i)
    ++ begun_count place g counters.Version a.version b.version i)

pub spans_are_moves : (past : List Entry) (g : Page) → begun_on (lanes.Page g) (events_of past) ≡ begun_by_moves past g
spans_are_moves [] g = refl
spans_are_moves (e ∷ past) g =
    let l = lanes.Page g in
    let counts = counts_to (length past) (counts_of past) (counts_of (e ∷ past)) in
    let own = begun_append l (events_after past e) counts
    ∙ (λ i. begun_after past e g i ++ begun_counts (length past) g (counts_of past) (counts_of (e ∷ past)) i)
    ∙ append-nil (begun_to (length past + 1) (moved_by past e g)) in
    begun_append l (events_of past) (events_by past e) ∙ (λ i. spans_are_moves past g i ++ own i)
