-- When nothing is left to be told.
use Rattle.std.specs.Prelude.{ℕ, ◌≡◌, true, List}
use Rattle.sgx_rules.specs.declared.entries.Action.TheVariants.{Eld, EldStart}
use Rattle.sgx_rules.specs.declared.entries.BusWhy.{BusWhy}
use Rattle.sgx_rules.specs.declared.entries.Entry.{Entry}
use Rattle.sgx_rules.specs.declared.entries.Event.{Event}
use Rattle.sgx_rules.specs.declared.entries.Event.TheVariants.{Refused}
use Rattle.sgx_types.specs.declared.names.Page.{Page}
use Rattle.sgx_rules.specs.Starts.{open_start}
use Rattle.driver_rules.specs.Stops.{has_bus}
use Rattle.driver_rules.specs.Turns.{Fails, WasEnded, fails_with, last_of, load_of, start_fails}

-- a load is refused only for its record, and its start only for a slot that holds no version, so that the refusal is to be told
abbrev pub IsForRecord : List Entry → Event → Type 0
IsForRecord past (Refused (Eld f) refusal) = fails_with (load_of (open_start past f.0)) refusal ≡ WasEnded → ⊥
IsForRecord past (Refused (EldStart f page slot) refusal) = start_fails page refusal ≡ WasEnded → ⊥
IsForRecord past _ = Unit {0}

-- who was ended was told why
abbrev pub EndsAreTold : List Entry → Type 0
EndsAreTold past = (p : ℕ) → last_of past p ≡ WasEnded → has_bus past p ≡ true

-- no refused load has still to be told
abbrev pub NoneFails : List Entry → Type 0
NoneFails past = (p : ℕ) (page : Page) (why : BusWhy) → last_of past p ≡ Fails page why → ⊥
