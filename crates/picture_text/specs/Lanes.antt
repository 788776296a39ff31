-- The lanes of a picture, each once, and their numbers.
use Rattle.std.specs.Prelude.{ℕ, ◌+◌, ◌==◌, ◌&&◌, Bool, if◌then◌else◌, List, [], ◌∷◌, length, Option, Some, None, is_some}
use Rattle.picture_text.specs.declared.events.Lane.{Lane}
use Rattle.picture_text.specs.declared.events.Lane.TheVariants as lanes
use Rattle.picture_text.specs.declared.events.PictureEvent.{PictureEvent}
use Rattle.picture_text.specs.declared.lanes.LaneKey.{LaneKey}

-- the process that a lane is shown under: 1 processors, 2 frames, 3 pages, 4 the driver
abbrev pub process : Lane → ℕ
process (lanes.Processor p) = 1
process (lanes.Frame f) = 2
process (lanes.Page g) = 3
process lanes.Builder = 4
process lanes.Reclaimer = 4
process lanes.Counters = 4

abbrev pub key : ℕ → ℕ → ℕ → LaneKey
key group enclave number = record { group = group; enclave = enclave; number = number }

abbrev pub lane_key : Lane → LaneKey
lane_key (lanes.Processor p) = key 1 0 p.0
lane_key (lanes.Frame f) = key 2 0 f.0
lane_key (lanes.Page g) = key 3 g.enclave g.number
lane_key lanes.Builder = key 4 0 0
lane_key lanes.Reclaimer = key 4 0 1
lane_key lanes.Counters = key 4 0 2

abbrev pub same_lane_key : LaneKey → LaneKey → Bool
same_lane_key a b = (a.group == b.group) && ((a.enclave == b.enclave) && (a.number == b.number))

abbrev pub same_lane : Lane → Lane → Bool
same_lane a b = same_lane_key (lane_key a) (lane_key b)

-- the number of a lane among lanes that stand newest first: how many stand behind it, and itself
abbrev pub number_in : List Lane → Lane → Option ℕ
number_in [] lane = None
number_in (first ∷ others) lane = if same_lane first lane then Some (length others + 1) else number_in others lane

abbrev pub with_lane : List Lane → Lane → List Lane
with_lane known lane = if is_some (number_in known lane) then known else lane ∷ known

abbrev pub lanes_after : List Lane → List PictureEvent → List Lane
lanes_after known [] = known
lanes_after known (event ∷ events) = lanes_after (with_lane known event.lane) events

-- the lanes of events, which stand oldest first: each once, the one whose first event is the newest before the others
abbrev pub lanes_of : List PictureEvent → List Lane
lanes_of events = lanes_after [] events
