-- What is read back from a lane is what is open on it.
use Rattle.std.proofs.Common.{◌≡◌, ◌==◌, ℕ, Bool, true, false, if◌then◌else◌, List, [], ◌∷◌, ◌++◌, Option, Some, None, length}
use Rattle.std.proofs.Common.{refl, sym, ap, ◌∙◌, inl, inr}
use Rattle.std.proofs.lemmas.Bool.{false≢true}
use Rattle.sgx_rules.specs.declared.entries.Entry.{Entry}
use Rattle.sgx_rules.specs.Processors.{Stay, move_by, is_by, stay_after, stay}
use Rattle.sgx_types.specs.declared.names.Actor.{Actor}
use Rattle.sgx_types.specs.declared.names.Actor.TheVariants as actors
use Rattle.sgx_types.specs.declared.names.Cpu.{Cpu}
use Rattle.sgx_types.specs.declared.names.Frame.{Frame}
use Rattle.sgx_types.specs.declared.names.Page.{Page}
use Rattle.sgx_types.proofs.Truths.{tested}
use Rattle.trace_places.specs.Places.{change_after, tenant, page_named}
use Rattle.sgx_rules.specs.Frames.{is_this}
use Rattle.trace_places.specs.declared.change.Change.{Change}
use Rattle.trace_places.specs.declared.moves.Where.{Where}
use Rattle.trace_places.proofs.MoveLaws.{other_true, other_false}
use Rattle.picture_text.specs.declared.events.Lane.{Lane}
use Rattle.picture_text.specs.declared.events.Lane.TheVariants as lanes
use Rattle.picture_text.specs.declared.events.Open.{Open}
use Rattle.picture_text.specs.declared.events.Span.{Span}
use Rattle.picture_text.specs.declared.events.Span.TheVariants as spans
use Rattle.picture_text.specs.declared.counts.Counts.{Counts}
use Rattle.picture_text.specs.declared.events.Counter.{Counter}
use Rattle.picture_text.specs.declared.events.Counter.TheVariants as counters
use Rattle.picture_text.specs.declared.events.Mark.TheVariants as marks
use Rattle.picture_text.specs.Events.{lane_of, frame_in, frame_lane, marked, page_lane, pages_by, steps_on, events_after, events_by}
use Rattle.picture_text.specs.Events.{events_of}
use Rattle.picture_text.specs.Events.{count_to, counts_of, counts_to}
use Rattle.picture_text.specs.Lanes.{same_lane}
use Rattle.picture_text.specs.Open.{inside, sits, span_of, when_so, only, open_on}
use Rattle.picture_text.specs.Reading.{read_events, stack_of}
use Rattle.picture_text.specs.inner.Following.{is_on, leaving_of}
use Rattle.picture_text.proofs.FrameLaws.{tenant_stays, leaving_stays, leaving_more, stay_stays}
use Rattle.picture_text.proofs.StayLaws.{named_by, place_stays}
use Rattle.picture_text.proofs.StepLaws.{read_append}
use Rattle.picture_text.proofs.TouchLaws.{hit, miss, miss_frame, miss_page, read_four}
use Rattle.sgx_rules.specs.Frames.{vas_made}
use Rattle.trace_places.specs.Places.{va_number}

module _ (past : List Entry) (e : Entry) where
  -- ---- a processor

  actor_stays : (actor : Actor) (p : Cpu) → e.actor ≡ actor → same_lane (lane_of actor) (lanes.Processor p) ≡ false
      → is_by p.0 actor ≡ false
  actor_stays actors.Builder p is h = refl
  actor_stays (actors.Cpu q) p is h = h
  actor_stays actors.Reclaimer p is h = refl

  on_processor : (p : Cpu)
      → read_events (lanes.Processor p) (steps_on past e (Some (lane_of e.actor))) (Some (stack_of (open_on past (lanes.Processor p))))
      ≡ Some (stack_of (open_on (e ∷ past) (lanes.Processor p)))
  on_processor p =
      elim (tested (same_lane (lane_of e.actor) (lanes.Processor p))) [
        | inl own ↦ hit past e (lane_of e.actor) (lanes.Processor p) own
        | inr other ↦
            let away = actor_stays e.actor p refl other in
            let still : stay past p.0 ≡ stay (e ∷ past) p.0
            = sym (ap (λ (b : Bool). stay_after (move_by e.event) b past (stay past p.0)) away
            ∙ stay_stays (move_by e.event) past (stay past p.0)) in
            miss past e (lane_of e.actor) (lanes.Processor p) (stack_of (open_on past (lanes.Processor p))) other
            ∙ ap (λ (s : Option Stay). Some (stack_of (only (inside s)))) still
      ]

  -- ---- a frame

  frame_kept : (f : Frame) → is_on (frame_in e.event) f.0 ≡ false → open_on past (lanes.Frame f) ≡ open_on (e ∷ past) (lanes.Frame f)
  frame_kept f h =
      let whose = tenant_stays e.event (va_number (vas_made past)) f.0 (tenant past f.0) h in
      let far = leaving_more past e f.0 ∙ leaving_stays e.event f.0 (leaving_of past f.0) h in
      sym (λ i. record {
        outer = sits (whose i);
        middle = when_so (far i).blocked spans.Blocked;
        inner = when_so (far i).sealing spans.Sealing;
      })

  on_frame : (o : Option Frame) (f : Frame) → frame_in e.event ≡ o
      → read_events (lanes.Frame f) (steps_on past e (frame_lane o)) (Some (stack_of (open_on past (lanes.Frame f))))
      ≡ Some (stack_of (open_on (e ∷ past) (lanes.Frame f)))
  on_frame None f is = ap (λ (o : Open). Some (stack_of o)) (frame_kept f (ap (λ (o : Option Frame). is_on o f.0) is))
  on_frame (Some k) f is =
      elim (tested (same_lane (lanes.Frame k) (lanes.Frame f))) [
        | inl own ↦ hit past e (lanes.Frame k) (lanes.Frame f) own
        | inr other ↦
            miss past e (lanes.Frame k) (lanes.Frame f) (stack_of (open_on past (lanes.Frame f))) other
            ∙ ap (λ (o : Open). Some (stack_of o)) (frame_kept f (ap (λ (o : Option Frame). is_on o f.0) is ∙ other))
      ]

  -- ---- a page

  hit_page : (o : Option Page) (g : Page) → is_this o g ≡ true
      → read_events (lanes.Page g) (steps_on past e (page_lane o)) (Some (stack_of (open_on past (lanes.Page g))))
      ≡ Some (stack_of (open_on (e ∷ past) (lanes.Page g)))
  hit_page None g h = absurd (false≢true h)
  hit_page (Some k) g h = hit past e (lanes.Page k) (lanes.Page g) h

  pass_page : (o : Option Page) (g : Page) (st : List Span) → is_this o g ≡ false
      → read_events (lanes.Page g) (steps_on past e (page_lane o)) (Some st) ≡ Some st
  pass_page None g st h = refl
  pass_page (Some k) g st h = miss past e (lanes.Page k) (lanes.Page g) st h

  -- a page that the change names and its frame does not have is among the two
  pub named_other : (change : Option Change) (g : Page) → is_this (pages_by past change).former g ≡ false
      → is_this (pages_by past change).named g ≡ is_this (named_by change) g
  named_other None g h = refl
  named_other (Some change) g h = other_false (pages_by past (Some change)).former (page_named change) g h

  -- .. and one that the frame has is so once
  pub named_once : (change : Option Change) (g : Page) → is_this (pages_by past change).former g ≡ true
      → is_this (pages_by past change).named g ≡ false
  named_once None g h = absurd (false≢true h)
  named_once (Some change) g h = other_true (pages_by past (Some change)).former (page_named change) g h

  abbrev before : Page → List Span
  before g = stack_of (open_on past (lanes.Page g))

  abbrev behind : Page → List Span
  behind g = stack_of (open_on (e ∷ past) (lanes.Page g))

  -- a page that the frame did not have is named, and then its lane changes there, or stays where it is
  on_named : (g : Page) → is_this (pages_by past (change_after past e)).former g ≡ false
      → read_events (lanes.Page g) (steps_on past e (page_lane (pages_by past (change_after past e)).named)) (Some (before g))
      ≡ Some (behind g)
  on_named g a =
      let named = (pages_by past (change_after past e)).named in
      elim (tested (is_this named g)) [
        | inl b ↦ hit_page named g b
        | inr b ↦
            pass_page named g (before g) b
            ∙ ap (λ (w : Where). Some (stack_of (only (span_of w))))
            (sym (place_stays past e (change_after past e) g refl a (sym (named_other (change_after past e) g a) ∙ b)))
      ]

  on_page : (g : Page)
      → read_events (lanes.Page g) (steps_on past e (page_lane (pages_by past (change_after past e)).named))
      (read_events (lanes.Page g) (steps_on past e (page_lane (pages_by past (change_after past e)).former)) (Some (before g)))
      ≡ Some (behind g)
  on_page g =
      let pages = pages_by past (change_after past e) in
      elim (tested (is_this pages.former g)) [
        | inl a ↦
            ap (read_events (lanes.Page g) (steps_on past e (page_lane pages.named))) (hit_page pages.former g a)
            ∙ pass_page pages.named g (behind g) (named_once (change_after past e) g a)
        | inr a ↦
            ap (read_events (lanes.Page g) (steps_on past e (page_lane pages.named))) (pass_page pages.former g (before g) a)
            ∙ on_named g a
      ]

  -- ---- all lanes

  -- the entry itself opens and ends nothing
  read_does : (m l : Lane) (st : List Span)
      → (if same_lane m l then Some st else Some st) ≡ Some st
  read_does m l st = same_if (same_lane m l) (Some st)
    where
      same_if : (b : Bool) (o : Option (List Span)) → (if b then o else o) ≡ o
      same_if true o = refl
      same_if false o = refl

  actor_other : (actor : Actor) (f : Frame) → same_lane (lane_of actor) (lanes.Frame f) ≡ false
  actor_other actors.Builder f = refl
  actor_other (actors.Cpu p) f = refl
  actor_other actors.Reclaimer f = refl

  actor_else : (actor : Actor) (g : Page) → same_lane (lane_of actor) (lanes.Page g) ≡ false
  actor_else actors.Builder g = refl
  actor_else (actors.Cpu p) g = refl
  actor_else actors.Reclaimer g = refl

  -- on a lane of the driver nothing is open before and behind
  on_driver : (l : Lane) → open_on past l ≡ open_on (e ∷ past) l
      → read_events l (steps_on past e (Some (lane_of e.actor))) (Some (stack_of (open_on past l)))
      ≡ Some (stack_of (open_on (e ∷ past) l))
  on_driver l still =
      elim (tested (same_lane (lane_of e.actor) l)) [
        | inl own ↦ hit past e (lane_of e.actor) l own
        | inr other ↦
            miss past e (lane_of e.actor) l (stack_of (open_on past l)) other
            ∙ ap (λ (o : Open). Some (stack_of o)) still
      ]

  -- .. nor by the frame and the pages
  on_the_driver : (l : Lane) → open_on past l ≡ open_on (e ∷ past) l → ((f : Frame) → same_lane (lanes.Frame f) l ≡ false)
      → ((g : Page) → same_lane (lanes.Page g) l ≡ false)
      → read_events l (((steps_on past e (Some (lane_of e.actor)) ++ steps_on past e (frame_lane (frame_in e.event)))
      ++ steps_on past e (page_lane (pages_by past (change_after past e)).former))
      ++ steps_on past e (page_lane (pages_by past (change_after past e)).named)) (Some (stack_of (open_on past l)))
      ≡ Some (stack_of (open_on (e ∷ past) l))
  on_the_driver l still frames pages =
      let after = stack_of (open_on (e ∷ past) l) in
      let two = pages_by past (change_after past e) in
      read_four l (steps_on past e (Some (lane_of e.actor))) (steps_on past e (frame_lane (frame_in e.event)))
      (steps_on past e (page_lane two.former)) (steps_on past e (page_lane two.named)) (Some (stack_of (open_on past l))) (Some after)
      (Some after) (Some after) (Some after) (on_driver l still) (miss_frame past e (frame_in e.event) l after frames)
      (miss_page past e two.former l after pages) (miss_page past e two.named l after pages)

  -- the steps on the four lanes that the entry may change
  after_steps : (l : Lane)
      → read_events l (((steps_on past e (Some (lane_of e.actor)) ++ steps_on past e (frame_lane (frame_in e.event)))
      ++ steps_on past e (page_lane (pages_by past (change_after past e)).former))
      ++ steps_on past e (page_lane (pages_by past (change_after past e)).named)) (Some (stack_of (open_on past l)))
      ≡ Some (stack_of (open_on (e ∷ past) l))
  after_steps (lanes.Processor p) =
      let l = lanes.Processor p in
      let after = stack_of (open_on (e ∷ past) l) in
      let pages = pages_by past (change_after past e) in
      read_four l (steps_on past e (Some (lane_of e.actor))) (steps_on past e (frame_lane (frame_in e.event)))
      (steps_on past e (page_lane pages.former)) (steps_on past e (page_lane pages.named)) (Some (stack_of (open_on past l)))
      (Some after) (Some after) (Some after) (Some after) (on_processor p) (miss_frame past e (frame_in e.event) l after (λ f. refl))
      (miss_page past e pages.former l after (λ g. refl)) (miss_page past e pages.named l after (λ g. refl))
  after_steps (lanes.Frame f) =
      let l = lanes.Frame f in
      let first = stack_of (open_on past l) in
      let after = stack_of (open_on (e ∷ past) l) in
      let pages = pages_by past (change_after past e) in
      read_four l (steps_on past e (Some (lane_of e.actor))) (steps_on past e (frame_lane (frame_in e.event)))
      (steps_on past e (page_lane pages.former)) (steps_on past e (page_lane pages.named)) (Some first) (Some first) (Some after)
      (Some after) (Some after) (miss past e (lane_of e.actor) l first (actor_other e.actor f))
      (on_frame (frame_in e.event) f refl) (miss_page past e pages.former l after (λ g. refl))
      (miss_page past e pages.named l after (λ g. refl))
  after_steps (lanes.Page g) =
      let l = lanes.Page g in
      let pages = pages_by past (change_after past e) in
      read_four l (steps_on past e (Some (lane_of e.actor))) (steps_on past e (frame_lane (frame_in e.event)))
      (steps_on past e (page_lane pages.former)) (steps_on past e (page_lane pages.named)) (Some (before g)) (Some (before g))
      (Some (before g)) (read_events l (steps_on past e (page_lane pages.former)) (Some (before g))) (Some (behind g))
      (miss past e (lane_of e.actor) l (before g) (actor_else e.actor g))
      (miss_frame past e (frame_in e.event) l (before g) (λ f. refl)) refl (on_page g)
  after_steps lanes.Builder = on_the_driver lanes.Builder refl (λ f. refl) (λ g. refl)
  after_steps lanes.Reclaimer = on_the_driver lanes.Reclaimer refl (λ f. refl) (λ g. refl)
  after_steps lanes.Counters = on_the_driver lanes.Counters refl (λ f. refl) (λ g. refl)

  -- the events of an entry lead from what was open on a lane to what is
  pub read_after : (l : Lane)
      → read_events l (events_after past e) (Some (stack_of (open_on past l))) ≡ Some (stack_of (open_on (e ∷ past) l))
  read_after l =
      ap (λ (o : Option (List Span)). read_events l
      (((steps_on past e (Some (lane_of e.actor)) ++ steps_on past e (frame_lane (frame_in e.event)))
      ++ steps_on past e (page_lane (pages_by past (change_after past e)).former))
      ++ steps_on past e (page_lane (pages_by past (change_after past e)).named)) o)
      (read_does (lane_of e.actor) l (stack_of (open_on past l)))
      ∙ after_steps l

-- ---- counters open and end nothing

read_count : (l : Lane) (place : ℕ) (counter : Counter) (before value : ℕ) (st : List Span)
    → read_events l (count_to place counter before value) (Some st) ≡ Some st
read_count l place counter before value st = by_test (before == value)
  where
    same_if : (b : Bool) → (if b then Some st else Some st) ≡ Some st
    same_if true = refl
    same_if false = refl

    by_test : (b : Bool)
        → read_events l (if b then [] else marked place lanes.Counters (marks.Counts counter value) ∷ []) (Some st) ≡ Some st
    by_test true = refl
    by_test false = same_if (same_lane lanes.Counters l)

read_counts : (l : Lane) (place : ℕ) (a b : Counts) (st : List Span) → read_events l (counts_to place a b) (Some st) ≡ Some st
read_counts l place a b st =
    let frames = count_to place counters.Frames a.frames b.frames in
    let pages = count_to place counters.Pages a.pages b.pages in
    let version = count_to place counters.Version a.version b.version in
    read_append l (frames ++ pages) version (Some st)
    ∙ ap (read_events l version) (read_append l frames pages (Some st)
    ∙ ap (read_events l pages) (read_count l place counters.Frames a.frames b.frames st)
    ∙ read_count l place counters.Pages a.pages b.pages st)
    ∙ read_count l place counters.Version a.version b.version st

-- what is read back from a lane is what is open on it
pub read_back : (past : List Entry) (lane : Lane) → read_events lane (events_of past) (Some []) ≡ Some (stack_of (open_on past lane))
read_back [] (lanes.Processor p) = refl
read_back [] (lanes.Frame f) = refl
read_back [] (lanes.Page g) = refl
read_back [] lanes.Builder = refl
read_back [] lanes.Reclaimer = refl
read_back [] lanes.Counters = refl
read_back (e ∷ past) l =
    let counts = counts_to (length past) (counts_of past) (counts_of (e ∷ past)) in
    read_append l (events_of past) (events_by past e) (Some [])
    ∙ ap (read_events l (events_by past e)) (read_back past l)
    ∙ read_append l (events_after past e) counts (Some (stack_of (open_on past l)))
    ∙ ap (read_events l counts) (read_after past e l)
    ∙ read_counts l (length past) (counts_of past) (counts_of (e ∷ past)) (stack_of (open_on (e ∷ past) l))
