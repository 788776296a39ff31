-- The events of a picture: what each entry does, and what begins and ends behind it. Entries stand newest first, events oldest first.
use Rattle.std.specs.Prelude.{ℕ, ◌+◌, ◌-◌, ◌==◌, ◌||◌, not, Bool, true, false, if◌then◌else◌, List, [], ◌∷◌, ◌++◌, length, Option}
use Rattle.std.specs.Prelude.{Some, None, is_some}
use Rattle.sgx_rules.specs.declared.entries.Action.{Action}
use Rattle.sgx_rules.specs.declared.entries.Action.TheVariants as actions
use Rattle.sgx_rules.specs.declared.entries.Answer.TheVariants as answers
use Rattle.sgx_rules.specs.declared.entries.Entry.{Entry}
use Rattle.sgx_rules.specs.declared.entries.Event.{Event}
use Rattle.sgx_rules.specs.declared.entries.Event.TheVariants.{Did, Refused}
use Rattle.sgx_types.specs.declared.names.Actor.{Actor}
use Rattle.sgx_types.specs.declared.names.Actor.TheVariants as actors
use Rattle.sgx_types.specs.declared.names.Frame.{Frame}
use Rattle.sgx_types.specs.declared.names.Page.{Page}
use Rattle.trace_places.specs.declared.change.Change.{Change}
use Rattle.trace_places.specs.declared.moves.MayMove.{MayMove}
use Rattle.trace_places.specs.Places.{change_after, frame_changed, tenant, page_at_frame, page_named, other_than}
use Rattle.picture_text.specs.declared.counts.Counts.{Counts}
use Rattle.picture_text.specs.declared.events.Counter.{Counter}
use Rattle.picture_text.specs.declared.events.Counter.TheVariants as counters
use Rattle.picture_text.specs.declared.events.Lane.{Lane}
use Rattle.picture_text.specs.declared.events.Lane.TheVariants as lanes
use Rattle.picture_text.specs.declared.events.Mark.{Mark}
use Rattle.picture_text.specs.declared.events.Mark.TheVariants as marks
use Rattle.picture_text.specs.declared.events.Open.{Open}
use Rattle.picture_text.specs.declared.events.PictureEvent.{PictureEvent}
use Rattle.picture_text.specs.declared.events.Span.{Span}
use Rattle.picture_text.specs.declared.events.Span.TheVariants as spans
use Rattle.picture_text.specs.Open.{open_if, open_on, same_spans}

abbrev pub marked : ℕ → Lane → Mark → PictureEvent
marked place lane mark = record { place = place; lane = lane; mark = mark }

-- ---- from some open spans to others

abbrev pub ends : ℕ → Lane → Bool → Option Span → List PictureEvent
ends place lane changed None = []
ends place lane changed (Some span) = if changed then marked place lane marks.Ends ∷ [] else []

abbrev pub begins : ℕ → Lane → Bool → Option Span → List PictureEvent
begins place lane changed None = []
begins place lane changed (Some span) = if changed then marked place lane (marks.Begins span) ∷ [] else []

-- what ends and begins on a lane by an entry at a place. A span that is another one from now on ends, and those within it do; then
-- those begin that are open from now on
abbrev pub steps : ℕ → Lane → Open → Open → List PictureEvent
steps place lane before after =
    let outer = not (same_spans before.outer after.outer) in
    let middle = outer || not (same_spans before.middle after.middle) in
    let inner = middle || not (same_spans before.inner after.inner) in
    ends place lane inner before.inner
    ++ ends place lane middle before.middle
    ++ ends place lane outer before.outer
    ++ begins place lane outer after.outer
    ++ begins place lane middle after.middle
    ++ begins place lane inner after.inner

-- ---- the lanes on which an entry may begin or end something

abbrev pub lane_of : Actor → Lane
lane_of actors.Builder = lanes.Builder
lane_of (actors.Cpu p) = lanes.Processor p
lane_of actors.Reclaimer = lanes.Reclaimer

-- the frame whose content an instruction puts, takes or blocks
abbrev pub frame_touched : Action → Option Frame
frame_touched (actions.Epa f) = Some f
frame_touched (actions.Create enclave f base size) = Some f
frame_touched (actions.Add enclave number f kind perm init) = Some f
frame_touched (actions.Block f) = Some f
frame_touched (actions.EwbStart f slot) = Some f
frame_touched (actions.Ewb f) = Some f
frame_touched (actions.EldStart f page slot) = Some f
frame_touched (actions.Eld f) = Some f
frame_touched action = None

-- .. and an event: a load that is refused at its end leaves its frame to nobody
abbrev pub frame_in : Event → Option Frame
frame_in (Did action answer) = frame_touched action
frame_in (Refused (actions.Eld f) why) = Some f
frame_in event = None

-- the pages that a change may move: the one that its frame has or awaits, and the one that it names
abbrev pub pages_by : List Entry → Option Change → MayMove
pages_by past None = record { former = None; named = None }
pages_by past (Some change) =
    let former = page_at_frame (tenant past (frame_changed change)) in
    record { former = former; named = other_than former (page_named change) }

abbrev pub frame_lane : Option Frame → Option Lane
frame_lane None = None
frame_lane (Some f) = Some (lanes.Frame f)

abbrev pub page_lane : Option Page → Option Lane
page_lane None = None
page_lane (Some g) = Some (lanes.Page g)

-- ---- the events

-- what ends and begins on a lane by the next entry
abbrev pub steps_on : List Entry → Entry → Option Lane → List PictureEvent
steps_on past e None = []
steps_on past e (Some lane) = steps (length past) lane (open_on past lane) (open_on (e ∷ past) lane)

-- the next entry stands on the lane of its actor; then what it ends and begins there, on its frame's lane and on those of its pages
abbrev pub events_after : List Entry → Entry → List PictureEvent
events_after past e =
    marked (length past) (lane_of e.actor) marks.Does
    ∷ (steps_on past e (Some (lane_of e.actor))
    ++ steps_on past e (frame_lane (frame_in e.event))
    ++ steps_on past e (page_lane (pages_by past (change_after past e)).former)
    ++ steps_on past e (page_lane (pages_by past (change_after past e)).named))

-- ---- what is counted

-- a frame has a page, or awaits one
abbrev pub in_use : Open → Bool
in_use on = is_some on.outer

abbrev pub is_sealed : Option Span → Bool
is_sealed (Some (spans.Sealed version)) = true
is_sealed _ = false

-- a page is outside
abbrev pub is_outside : Open → Bool
is_outside on = is_sealed on.outer

-- one more where something counts from now on, and one less where it counts no more
abbrev pub more_or_less : Bool → Bool → ℕ → ℕ
more_or_less false true count = count + 1
more_or_less true false count = count - 1
more_or_less before after count = count

-- .. by a lane, and what is open on it before and behind the next entry
abbrev pub counted : (Open → Bool) → List Entry → Entry → Option Lane → ℕ → ℕ
counted test past e lane count = more_or_less (test (open_if past lane)) (test (open_if (e ∷ past) lane)) count

-- the version that a start of EWB drew
abbrev pub drawn_after : Event → ℕ → ℕ
drawn_after (Did (actions.EwbStart f slot) (answers.Version version)) before = version
drawn_after event before = before

-- the frames in use, the pages outside, and the version that was drawn last
abbrev pub counts_of : List Entry → Counts
counts_of [] = record { frames = 0; pages = 0; version = 0 }
counts_of (e ∷ past) =
    let pages = pages_by past (change_after past e) in
    let before = counts_of past in
    record {
      frames = counted in_use past e (frame_lane (frame_in e.event)) before.frames;
      pages = counted is_outside past e (page_lane pages.named) (counted is_outside past e (page_lane pages.former) before.pages);
      version = drawn_after e.event before.version;
    }

abbrev pub count_to : ℕ → Counter → ℕ → ℕ → List PictureEvent
count_to place counter before value = if before == value then [] else marked place lanes.Counters (marks.Counts counter value) ∷ []

-- the counters that an entry at a place changes
abbrev pub counts_to : ℕ → Counts → Counts → List PictureEvent
counts_to place before after =
    count_to place counters.Frames before.frames after.frames
    ++ count_to place counters.Pages before.pages after.pages
    ++ count_to place counters.Version before.version after.version

-- ---- all

-- an entry's events, and then the counters that it changes
abbrev pub events_by : List Entry → Entry → List PictureEvent
events_by past e = events_after past e ++ counts_to (length past) (counts_of past) (counts_of (e ∷ past))

-- those of an entry stand behind those of the entries before it
abbrev pub events_of : List Entry → List PictureEvent
events_of [] = []
events_of (e ∷ past) = events_of past ++ events_by past e
