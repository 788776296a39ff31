-- Starts as a machine notes them, which start loads a page, and that loads are apart.
use Rattle.std.specs.Prelude.{ℕ, ◌≡◌, Bool, true, false, List, Option, Some, None, option_map}
use Rattle.sgx_rules.specs.declared.entries.Entry.{Entry}
use Rattle.sgx_types.specs.declared.names.Page.{Page}
use Rattle.sgx_types.specs.declared.names.SlotAt.{SlotAt}
use Rattle.sgx_types.specs.declared.names.VaSlot.{VaSlot}
use Rattle.sgx_rules.specs.Frames.{content, is_this, stands}
use Rattle.sgx_rules.specs.Starts.{Start, open_start}

-- a start without its place and its actor, which a machine does not note
pub record BareStart : Type 0 where
  pub at : SlotAt
  pub slot : VaSlot
  pub version : ℕ
  pub loads : Option Page

abbrev pub without_place : Start → BareStart
without_place x = record { at = x.at; slot = x.slot; version = x.version; loads = x.loads }

abbrev pub bare_start : Option Start → Option BareStart
bare_start o = option_map without_place o

-- a start loads this page
abbrev pub is_load_of : Option Start → Page → Bool
is_load_of None g = false
is_load_of (Some start) g = is_this start.loads g

-- no frame holds a page that is being loaded, and no page is loaded twice
pub record LoadsAreApart (past : List Entry) : Type 0 where
  pub frames : (m n : ℕ) (g : Page) → is_load_of (open_start past m) g ≡ true → stands (content past n) g ≡ false
  pub loads : (m n : ℕ) (g : Page) → is_load_of (open_start past m) g ≡ true → is_load_of (open_start past n) g ≡ true → m ≡ n
