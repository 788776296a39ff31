-- Which actors have an open start. Entries stand newest first.
use Rattle.std.specs.Prelude.{ℕ, Bool, true, false, List, Option, Some, None}
use Rattle.sgx_rules.specs.declared.entries.Entry.{Entry}
use Rattle.sgx_rules.specs.declared.entries.Event.{Event}
use Rattle.sgx_rules.specs.declared.entries.Event.TheVariants.{Did}
use Rattle.sgx_types.specs.declared.names.Actor.{Actor}
use Rattle.sgx_rules.specs.declared.entries.Action.TheVariants.{EwbStart, EldStart}
use Rattle.driver_rules.specs.Stops.{last_event}

-- ---- open starts

-- the frame of a write-out or a load that has started
abbrev pub frame_started : Option Event → Option ℕ
frame_started (Some (Did (EwbStart f slot) answer)) = Some f.0
frame_started (Some (Did (EldStart f page slot) answer)) = Some f.0
frame_started _ = None

abbrev pub is_frame : Option ℕ → Bool
is_frame None = false
is_frame (Some f) = true

-- whether an actor has an open start: its last entry is a done start
abbrev pub started : List Entry → Actor → Bool
started past actor = is_frame (frame_started (last_event past actor))
