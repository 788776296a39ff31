-- What is read back from the events of a lane, by the rule of the format: a span that begins lies within those that are open, and an end
-- is that of the innermost one.
use Rattle.std.specs.Prelude.{ℕ, ◌+◌, ◌≤◌, Bool, true, false, if◌then◌else◌, List, [], ◌∷◌, ◌++◌, length, Option, Some, None}
use Rattle.std.specs.Prelude.{option_and_then, option_to_list}
use Rattle.sgx_rules.specs.declared.entries.Entry.{Entry}
use Rattle.sgx_types.specs.declared.names.Page.{Page}
use Rattle.trace_places.specs.declared.moves.Where.{Where}
use Rattle.trace_places.specs.Places.{moved_by}
use Rattle.picture_text.specs.declared.counts.Counts.{Counts}
use Rattle.picture_text.specs.declared.events.Counter.{Counter}
use Rattle.picture_text.specs.declared.events.Counter.TheVariants as counters
use Rattle.picture_text.specs.declared.events.Lane.{Lane}
use Rattle.picture_text.specs.declared.events.Mark.{Mark}
use Rattle.picture_text.specs.declared.events.Mark.TheVariants as marks
use Rattle.picture_text.specs.declared.events.Open.{Open}
use Rattle.picture_text.specs.declared.events.PictureEvent.{PictureEvent}
use Rattle.picture_text.specs.declared.events.Span.{Span}
use Rattle.picture_text.specs.Lanes.{same_lane}
use Rattle.picture_text.specs.Open.{span_of}

-- ---- what is open

-- open spans as they lie within one another, the innermost first
abbrev pub stack_of : Open → List Span
stack_of open_spans = option_to_list open_spans.inner ++ (option_to_list open_spans.middle ++ option_to_list open_spans.outer)

-- the spans that are open behind a mark, the innermost first. Where none is open, no end can be read
abbrev pub read_mark : Mark → List Span → Option (List Span)
read_mark (marks.Begins span) spans = Some (span ∷ spans)
read_mark marks.Ends [] = None
read_mark marks.Ends (span ∷ spans) = Some spans
read_mark marks.Does spans = Some spans
read_mark (marks.Counts counter value) spans = Some spans

abbrev pub read_event : Lane → PictureEvent → List Span → Option (List Span)
read_event lane event spans = if same_lane event.lane lane then read_mark event.mark spans else Some spans

-- .. and behind events that stand oldest first
abbrev pub read_events : Lane → List PictureEvent → Option (List Span) → Option (List Span)
read_events lane [] spans = spans
read_events lane (event ∷ events) spans = read_events lane events (option_and_then (read_event lane event) spans)

-- ---- when it began

-- a span, and the place from which on it is open
pub record Begun : Type 0 where
  pub place : ℕ
  pub span : Span

abbrev pub begun_by : ℕ → Mark → List Begun
begun_by place (marks.Begins span) = record { place = place + 1; span = span } ∷ []
begun_by place marks.Ends = []
begun_by place marks.Does = []
begun_by place (marks.Counts counter value) = []

-- the spans that begin on a lane, in their order
abbrev pub begun_on : Lane → List PictureEvent → List Begun
begun_on lane [] = []
begun_on lane (event ∷ events) = (if same_lane event.lane lane then begun_by event.place event.mark else []) ++ begun_on lane events

abbrev pub begun_if : ℕ → Option Span → List Begun
begun_if place None = []
begun_if place (Some span) = record { place = place; span = span } ∷ []

abbrev pub begun_to : ℕ → Option Where → List Begun
begun_to place None = []
begun_to place (Some to) = begun_if place (span_of to)

-- the moves of a page but for those to nowhere, oldest first, as spans: one for each entry behind which it is elsewhere than before it
abbrev pub begun_by_moves : List Entry → Page → List Begun
begun_by_moves [] g = []
begun_by_moves (e ∷ past) g = begun_by_moves past g ++ begun_to (length past + 1) (moved_by past e g)

-- ---- counters

abbrev pub same_counter : Counter → Counter → Bool
same_counter counters.Frames counters.Frames = true
same_counter counters.Pages counters.Pages = true
same_counter counters.Version counters.Version = true
same_counter one other = false

abbrev pub value_by : Counter → Mark → ℕ → ℕ
value_by counter (marks.Counts other value) before = if same_counter other counter then value else before
value_by counter mark before = before

-- the value that a counter has behind events that stand oldest first
abbrev pub read_value : Counter → List PictureEvent → ℕ → ℕ
read_value counter [] value = value
read_value counter (event ∷ events) value = read_value counter events (value_by counter event.mark value)

abbrev pub count_in : Counter → Counts → ℕ
count_in counters.Frames counts = counts.frames
count_in counters.Pages counts = counts.pages
count_in counters.Version counts = counts.version

-- ---- times

abbrev pub time_of : ℕ → Mark → ℕ
time_of place (marks.Begins span) = place + 1
time_of place marks.Ends = place + 1
time_of place marks.Does = place
time_of place (marks.Counts counter value) = place + 1

-- no time is before this one, and none before the one that stands before it
abbrev pub NeverFall : ℕ → List PictureEvent → Type 0
NeverFall from [] = Unit {0}
NeverFall from (event ∷ events) = (from ≤ time_of event.place event.mark) × NeverFall (time_of event.place event.mark) events
