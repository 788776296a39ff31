-- What stands of a processor, in the words of the rules.
use Rattle.std.specs.Prelude.{ℕ, ◌+◌, false, List, Option, None, Some, slice_index_or}
use Rattle.driver_rules.specs.Needs.{Interruption}
use Rattle.driver_rules.specs.Turns.{Fails, Last, Loads, Other, WasEnded}
use Rattle.due_tables.specs.declared.cpu_turns.CpuTurn.{CpuTurn}
use Rattle.due_tables.specs.declared.cpu_turns.Interruption as kept
use Rattle.due_tables.specs.declared.cpu_turns.Last as lasts
use Rattle.due_tables.specs.declared.cpu_turns.Last.TheVariants as ways

-- a processor before its first entry
abbrev pub first_turn : CpuTurn
first_turn = record { replied = 0; is_kicked = false; interruption = None; last = ways.Other }

abbrev pub turn_at : List CpuTurn → ℕ → CpuTurn
turn_at turns p = slice_index_or turns p first_turn

-- one reply more
abbrev pub replying : CpuTurn → CpuTurn
replying x = record x { replied = x.replied + 1; last = ways.Other }

-- an interruption as the rules see it
abbrev pub interruption_told : Option kept.Interruption → Option Interruption
interruption_told None = None
interruption_told (Some i) = Some (record { enclave = i.enclave; tcs = i.tcs; for_page = i.for_page })

-- how its last entry left a processor, as the rules see it
abbrev pub last_told : lasts.Last → Last
last_told (ways.Loads f page) = Loads f.0 page
last_told (ways.Fails page why) = Fails page why
last_told ways.WasEnded = WasEnded
last_told ways.Other = Other
