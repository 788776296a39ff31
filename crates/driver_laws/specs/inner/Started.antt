-- The load that a processor has started.
use Rattle.std.specs.Prelude.{ℕ, Option, None, Some}
use Rattle.driver_rules.specs.Turns.{Last, Loads}

-- the frame of a load that is to be ended
abbrev pub frame_loaded : Last → Option ℕ
frame_loaded (Loads f page) = Some f
frame_loaded _ = None
