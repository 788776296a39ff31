-- What a turn asks of the store.
use Rattle.std.specs.Prelude.{ℕ, ◌+◌, List, Option, None, Some}
use Rattle.sgx_rules.specs.declared.entries.Event.{Event}
use Rattle.sgx_rules.specs.declared.entries.Event.TheVariants.{Age}
use Rattle.sgx_rules.specs.declared.entries.Look.{Look}
use Rattle.sgx_rules.specs.declared.entries.Look.TheVariants as looks
use Rattle.sgx_types.specs.declared.names.Page.{Page}
use Rattle.backing_store.specs.Calls.{Call}
use Rattle.driver_reclaim.specs.inner.Looked.{told_look}
use Rattle.driver_reclaim.specs.declared.turns.PassTurn.{PassTurn}
use Rattle.driver_reclaim.specs.declared.turns.PassTurn.TheVariants as turns

abbrev pub look_of : Event → Option (Page × Look)
look_of (Age page look) = Some (page, look)
look_of _ = None

-- the look of a turn
abbrev pub look_told : PassTurn → Option (Page × Look)
look_told (turns.One e) = look_of e.event
look_told _ = None

-- a store is asked by looks alone
abbrev pub told_by : Option (Page × Look) → Option (List Call) → Option (List Call)
told_by None told = told
told_by (Some x) told = told_look x.0 x.1 told

-- each page that is taken has a place made for its record
abbrev pub places_with : Look → ℕ → ℕ
places_with looks.Taken n = n + 1
places_with _ n = n

abbrev pub places_by : Option (Page × Look) → ℕ → ℕ
places_by None n = n
places_by (Some x) n = places_with x.1 n

-- a look that tells that the store failed to make place
abbrev pub IsNoRoom : Look → Type 0
IsNoRoom looks.NoRoom = Unit {0}
IsNoRoom _ = ⊥

abbrev pub NoRoomIn : Option (Page × Look) → Type 0
NoRoomIn None = ⊥
NoRoomIn (Some x) = IsNoRoom x.1
