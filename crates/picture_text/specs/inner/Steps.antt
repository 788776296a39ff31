-- What one entry begins and ends, by what was open before it and is open behind it.
use Rattle.std.specs.Prelude.{ℕ, List, [], ◌∷◌, ◌++◌, Option, Some, None}
use Rattle.sgx_rules.specs.declared.entries.Entry.{Entry}
use Rattle.sgx_rules.specs.declared.entries.Event.{Event}
use Rattle.trace_places.specs.Places.{change_after}
use Rattle.picture_text.specs.declared.counts.Counts.{Counts}
use Rattle.picture_text.specs.declared.drawing.Seen.{Seen}
use Rattle.picture_text.specs.declared.drawing.Touched.{Touched}
use Rattle.picture_text.specs.declared.events.Lane.{Lane}
use Rattle.picture_text.specs.declared.events.Mark.TheVariants as marks
use Rattle.picture_text.specs.declared.events.Open.{Open}
use Rattle.picture_text.specs.declared.events.PictureEvent.{PictureEvent}
use Rattle.picture_text.specs.Events.{frame_in, frame_lane, in_use, is_outside, lane_of, marked, more_or_less, page_lane, pages_by}
use Rattle.picture_text.specs.Events.{steps, drawn_after}
use Rattle.picture_text.specs.Open.{open_if, open_on}

abbrev pub steps_if : ℕ → Option Lane → Open → Open → List PictureEvent
steps_if place None before after = []
steps_if place (Some lane) before after = steps place lane before after

-- the lanes on which an entry may begin or end something, and what is open on them
abbrev pub touched_by : List Entry → Entry → Touched
touched_by past e =
    let pages = pages_by past (change_after past e) in
    record {
      actor = lane_of e.actor;
      frame = frame_lane (frame_in e.event);
      former = page_lane pages.former;
      named = page_lane pages.named;
    }

abbrev pub seen_on : List Entry → Touched → Seen
seen_on past lanes = record {
  actor = open_on past lanes.actor;
  frame = open_if past lanes.frame;
  former = open_if past lanes.former;
  named = open_if past lanes.named;
}

-- an entry stands on its actor's lane, and then these lanes change
abbrev pub drawn : ℕ → Touched → Seen → Seen → List PictureEvent
drawn place lanes before after =
    marked place lanes.actor marks.Does
    ∷ (steps place lanes.actor before.actor after.actor
    ++ steps_if place lanes.frame before.frame after.frame
    ++ steps_if place lanes.former before.former after.former
    ++ steps_if place lanes.named before.named after.named)

-- the counters behind an event, by what is seen
abbrev pub counts_by : Event → Seen → Seen → Counts → Counts
counts_by event before after counts = record {
  frames = more_or_less (in_use before.frame) (in_use after.frame) counts.frames;
  pages = more_or_less (is_outside before.named) (is_outside after.named)
      (more_or_less (is_outside before.former) (is_outside after.former) counts.pages);
  version = drawn_after event counts.version;
}
