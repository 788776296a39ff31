-- What is kept along the entries that were pushed, and what it stands for.
use Rattle.std.specs.Prelude.{◌≡◌, ℕ, ◌&&◌, ◌||◌, ◌==◌, not, Bool, false, nat_eq, List, [], reverse, Option, Some, None}
use Rattle.std.specs.HashMap.{get}
use Rattle.sgx_rules.specs.declared.entries.Entry.{Entry}
use Rattle.sgx_rules.specs.declared.entries.Event.{Event}
use Rattle.sgx_rules.specs.Frames.{put_by, made_before, is_put, is_block, is_blocked, sealing_after, is_sealing}
use Rattle.sgx_rules.specs.Processors.{stay}
use Rattle.sgx_types.specs.declared.names.Frame.{Frame}
use Rattle.trace_places.specs.inner.Tables as tables
use Rattle.picture_text.specs.declared.events.Lane.{Lane}
use Rattle.picture_text.specs.declared.events.Span.{Span}
use Rattle.picture_text.specs.declared.lanes.Lanes.{Lanes}
use Rattle.picture_text.specs.declared.leaving.Leaving.{Leaving}
use Rattle.picture_text.specs.declared.leaving.Leavings.{Leavings}
use Rattle.picture_text.specs.declared.open_spans.OpenSpans.{OpenSpans}
use Rattle.picture_text.specs.declared.seats.Seats.{Seats}
use Rattle.picture_text.specs.Lanes.{lane_key, same_lane_key, number_in}
use Rattle.picture_text.specs.Open.{inside}

-- ---- frames

-- an event is on this frame
abbrev pub is_on : Option Frame → ℕ → Bool
is_on None n = false
is_on (Some f) n = f.0 == n

-- neither blocked nor on its way out
abbrev pub staying : Leaving
staying = record { blocked = false; sealing = false }

abbrev pub leaving_or_none : Option Leaving → Leaving
leaving_or_none None = staying
leaving_or_none (Some leaving) = leaving

abbrev pub leaving_in : Leavings → ℕ → Leaving
leaving_in known n = leaving_or_none (get nat_eq known.frames n)

-- how far what is in a frame is on its way out behind an event. Which frame an event puts does not depend on what was made before
abbrev pub leaving_after : Event → ℕ → Leaving → Leaving
leaving_after event n before = record {
  blocked = is_block event n || (not (is_put (put_by event (made_before [])) n) && before.blocked);
  sealing = sealing_after event n before.sealing;
}

-- .. and behind entries
abbrev pub leaving_of : List Entry → ℕ → Leaving
leaving_of past n = record { blocked = is_blocked past n; sealing = is_sealing past n }

-- ---- processors

abbrev pub seat_in : Seats → ℕ → Option Span
seat_in known p = get nat_eq known.spans p

-- ---- all of it

-- what is kept stands for these entries
pub record Follows (known : OpenSpans) (past : List Entry) : Type 0 where
  pub places : tables.Stands known.places past
  pub leavings : (n : ℕ) → leaving_in known.leavings n ≡ leaving_of past n
  pub seats : (p : ℕ) → seat_in known.seats p ≡ inside (stay past p)

-- ---- lanes

-- these are the lanes, the newest first, and each one's number
pub record AreNumbered (known : Lanes) (order : List Lane) : Type 0 where
  pub lanes : known.lanes.items ≡ reverse order
  pub numbers : (lane : Lane) → get same_lane_key known.numbers (lane_key lane) ≡ number_in order lane
