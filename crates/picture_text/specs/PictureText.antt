-- The text of a picture: strict JSON in the Trace Event Format, one event a line.
use Rattle.std.specs.Prelude.{ℕ, ◌+◌, List, [], ◌∷◌, ◌++◌, Option, Some, None, codes, flat_map, length, reverse, slice_get}
use Rattle.std.specs.Fmt.{decimal}
use Rattle.std.specs.List.{join_with_byte}
use Rattle.sgx_rules.specs.declared.entries.Entry.{Entry}
use Rattle.sgx_rules.specs.declared.entries.Event.{Event}
use Rattle.sgx_rules.specs.declared.entries.Event.TheVariants as events
use Rattle.text_words.specs.Words.{Words, enclave_word}
use Rattle.trace_text.specs.declared.edition.Edition.TheVariants as editions
use Rattle.trace_text.specs.Fields.{page_words}
use Rattle.trace_text.specs.TraceText.{action_name, spelling}
use Rattle.picture_text.specs.declared.events.Counter.{Counter}
use Rattle.picture_text.specs.declared.events.Counter.TheVariants as counters
use Rattle.picture_text.specs.declared.events.Lane.{Lane}
use Rattle.picture_text.specs.declared.events.Lane.TheVariants as lanes
use Rattle.picture_text.specs.declared.events.Mark.{Mark}
use Rattle.picture_text.specs.declared.events.Mark.TheVariants as marks
use Rattle.picture_text.specs.declared.events.PictureEvent.{PictureEvent}
use Rattle.picture_text.specs.declared.events.Span.{Span}
use Rattle.picture_text.specs.declared.events.Span.TheVariants as spans
use Rattle.picture_text.specs.Events.{events_of}
use Rattle.picture_text.specs.Lanes.{lanes_of, number_in, process}

-- ---- names

abbrev pub span_words : Span → Words
span_words (spans.Inside enclave tcs) = codes "in" ∷ enclave_word enclave ∷ codes "by" ∷ codes "tcs" ∷ decimal tcs ∷ []
span_words (spans.Holds g) = page_words editions.Two g
span_words (spans.Awaits g) = codes "loading" ∷ page_words editions.Two g
span_words spans.Blocked = codes "blocked" ∷ []
span_words spans.Sealing = codes "sealing" ∷ []
span_words (spans.At f) = codes "frame" ∷ decimal f.0 ∷ []
span_words (spans.Loading f) = codes "loading" ∷ decimal f.0 ∷ []
span_words (spans.Sealed version) = codes "sealed" ∷ decimal version ∷ []

-- the instruction that was done or refused, or what else happened and to whom. The entry's line, which stands beside it, has the rest
abbrev pub event_words : Event → Words
event_words (events.Did action answer) = action_name action
event_words (events.Refused action why) = codes "refused" ∷ action_name action
event_words (events.Age g look) = codes "age" ∷ page_words editions.Two g
event_words (events.Kick cpu) = codes "kick" ∷ decimal cpu.0 ∷ []
event_words (events.Bus g why) = codes "bus" ∷ page_words editions.Two g

abbrev pub lane_words : Lane → Words
lane_words (lanes.Processor p) = codes "processor" ∷ decimal p.0 ∷ []
lane_words (lanes.Frame f) = codes "frame" ∷ decimal f.0 ∷ []
lane_words (lanes.Page g) = page_words editions.Two g
lane_words lanes.Builder = codes "builder" ∷ []
lane_words lanes.Reclaimer = codes "reclaimer" ∷ []
lane_words lanes.Counters = codes "counters" ∷ []

abbrev pub counter_name : Counter → List ℕ
counter_name counters.Frames = codes "frames in use"
counter_name counters.Pages = codes "pages outside"
counter_name counters.Version = codes "version"

-- one space between two words
abbrev pub spaced : Words → List ℕ
spaced words = join_with_byte 32 words

-- ---- lines

abbrev pub number_or_none : Option ℕ → ℕ
number_or_none None = 0
number_or_none (Some number) = number

-- the thread that a lane is shown as. Processors and frames stand by their numbers, pages in the order of their first moves
abbrev pub thread : List Lane → Lane → ℕ
thread known (lanes.Processor p) = p.0 + 1
thread known (lanes.Frame f) = f.0 + 1
thread known (lanes.Page g) = number_or_none (number_in known (lanes.Page g))
thread known lanes.Builder = 1
thread known lanes.Reclaimer = 2
thread known lanes.Counters = 0

-- which lane
abbrev pub on_lane : List Lane → Lane → List ℕ
on_lane known lane = codes "\"pid\":" ++ decimal (process lane) ++ codes ",\"tid\":" ++ decimal (thread known lane)

-- the entry's line of trace text, and its place
abbrev pub cause : Entry → ℕ → List ℕ
cause e place = codes ",\"args\":{\"line\":\"" ++ spelling editions.Two e ++ codes "\",\"place\":" ++ decimal place ++ codes "}},\n"

abbrev pub mark_text : List Lane → Entry → ℕ → Lane → Mark → List ℕ
mark_text known e place lane (marks.Begins span) =
    codes "{\"ph\":\"B\"," ++ on_lane known lane ++ codes ",\"ts\":" ++ decimal (place + 1)
    ++ codes ",\"name\":\"" ++ spaced (span_words span) ++ codes "\"" ++ cause e place
mark_text known e place lane marks.Ends =
    codes "{\"ph\":\"E\"," ++ on_lane known lane ++ codes ",\"ts\":" ++ decimal (place + 1) ++ codes "},\n"
mark_text known e place lane marks.Does =
    codes "{\"ph\":\"X\"," ++ on_lane known lane ++ codes ",\"ts\":" ++ decimal place
    ++ codes ",\"dur\":1,\"name\":\"" ++ spaced (event_words e.event) ++ codes "\"" ++ cause e place
mark_text known e place lane (marks.Counts counter value) =
    codes "{\"ph\":\"C\"," ++ on_lane known lane ++ codes ",\"ts\":" ++ decimal (place + 1)
    ++ codes ",\"name\":\"" ++ counter_name counter ++ codes "\",\"args\":{\"n\":" ++ decimal value ++ codes "}},\n"

abbrev pub text_by : List Lane → PictureEvent → Option Entry → List ℕ
text_by known event None = []
text_by known event (Some e) = mark_text known e event.place event.lane event.mark

-- the line of an event of entries that stand oldest first
unfoldable pub event_text : List Entry → List Lane → PictureEvent → List ℕ
event_text entries known event = text_by known event (slice_get entries event.place)

-- the name of a lane
unfoldable pub lane_text : List Lane → Lane → List ℕ
lane_text known lane =
    codes "{\"ph\":\"M\"," ++ on_lane known lane ++ codes ",\"name\":\"thread_name\",\"args\":{\"name\":\"" ++ spaced (lane_words lane)
    ++ codes "\"}},\n"

-- what stands before all events
abbrev pub head_text : List ℕ
head_text =
    codes "{\"traceEvents\":[\n"
    ++ codes "{\"ph\":\"M\",\"pid\":1,\"tid\":0,\"name\":\"process_name\",\"args\":{\"name\":\"processors\"}},\n"
    ++ codes "{\"ph\":\"M\",\"pid\":2,\"tid\":0,\"name\":\"process_name\",\"args\":{\"name\":\"frames\"}},\n"
    ++ codes "{\"ph\":\"M\",\"pid\":3,\"tid\":0,\"name\":\"process_name\",\"args\":{\"name\":\"pages\"}},\n"
    ++ codes "{\"ph\":\"M\",\"pid\":4,\"tid\":0,\"name\":\"process_name\",\"args\":{\"name\":\"driver\"}},\n"

-- the end of so many entries
abbrev pub tail_text : ℕ → List ℕ
tail_text entries = codes "{\"ph\":\"I\",\"pid\":4,\"tid\":1,\"ts\":" ++ decimal entries ++ codes ",\"s\":\"g\",\"name\":\"end\"}\n]}\n"

-- the text of events of entries, which stand oldest first, on lanes, which stand newest first: the names of the lanes before the events
unfoldable pub text_of : List Entry → List Lane → List PictureEvent → List ℕ
text_of entries known drawn =
    head_text ++ flat_map (lane_text known) (reverse known) ++ flat_map (event_text entries known) drawn ++ tail_text (length entries)

-- the picture of a trace, whose entries stand newest first
abbrev pub picture_of : List Entry → List ℕ
picture_of past = text_of (reverse past) (lanes_of (events_of past)) (events_of past)
