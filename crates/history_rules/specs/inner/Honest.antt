-- What a run over an honest store has.
use Rattle.std.specs.Prelude.{ℕ, ◌≡◌, List, Some}
use Rattle.sgx_rules.specs.declared.entries.Entry.{Entry}
use Rattle.sgx_types.specs.declared.names.Page.{Page}
use Rattle.sgx_types.specs.declared.names.VaSlot.{VaSlot}
use Rattle.sgx_types.specs.Sealed.{Sealed}
use Rattle.backing_store.specs.Calls.{Call}
use Rattle.driver_rules.specs.Places.{Loading, place}
use Rattle.history_rules.specs.Given.{gift}
use Rattle.history_rules.specs.Stored.{IsSealedRecord}
use Rattle.history_rules.specs.Honest.{last_put}

-- ---- a run over it

-- the last record put of a page is sealed under this version
pub record IsLastPut (key : List ℕ) (past : List Entry) (calls : List Call) (g : Page) (version : ℕ) : Type 0 where
  pub rec : Sealed
  pub put : last_put calls g ≡ Some rec
  pub sealed : IsSealedRecord key past g version rec

-- each load that has started was given the last record put of its page
abbrev pub GiftsAreLast : List Entry → List Call → Type 0
GiftsAreLast past calls = (g : Page) (f : ℕ) (slot : VaSlot) → place past g ≡ Loading f slot → gift past calls f ≡ last_put calls g
