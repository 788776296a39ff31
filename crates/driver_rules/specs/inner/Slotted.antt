-- Which slots a driver names when it writes out: for a TCS or REG page one that is not out, and for a SECS or a version array page that
-- page's own.
use Rattle.std.specs.Prelude.{ℕ, ◌≡◌, ◌+◌, ◌-◌, ◌==◌, ◌||◌, nat_le, not, Bool, true}
use Rattle.std.specs.Prelude.{false, if◌then◌else◌, List, [], ◌∷◌, Option, Some, None}
use Rattle.std.specs.Prelude.{length}
use Rattle.sgx_rules.specs.declared.entries.Entry.{Entry}
use Rattle.sgx_rules.specs.declared.entries.Event.{Event}
use Rattle.sgx_rules.specs.declared.entries.Event.TheVariants.{Did, Refused}
use Rattle.sgx_rules.specs.declared.entries.Action.TheVariants.{EwbStart}
use Rattle.sgx_types.specs.declared.names.Page.{Page}
use Rattle.sgx_types.specs.declared.names.SlotAt.{SlotAt}
use Rattle.sgx_types.specs.declared.names.VaSlot.{VaSlot}
use Rattle.sgx_rules.specs.Frames.{content, page_there}
use Rattle.sgx_types.specs.Pages.{is_own_page, is_va_page}
use Rattle.sgx_rules.specs.Starts.{slot_found}
use Rattle.job_grammar.specs.Jobs.{JobView, va_pages}
use Rattle.driver_rules.specs.Spares.{outs_kept}
use Rattle.sgx_rules.specs.declared.refusals.Refusal.TheVariants as why

-- the first slot of version array page 0 that is for TCS and REG pages: before it stand those of the SECSs and of the version array
-- pages
abbrev pub fixed_count : JobView → ℕ
fixed_count j = length j.enclaves + va_pages j

-- the slot of a SECS, and of a version array page
abbrev pub fixed_slot : JobView → Page → VaSlot
fixed_slot j g =
    if is_va_page g then record { va = 0; index = length j.enclaves + g.number } else record { va = 0; index = g.enclave - 1 }

-- a slot for TCS and REG pages
abbrev pub is_page_slot : JobView → VaSlot → Bool
is_page_slot j s = not (s.va == 0) || nat_le (fixed_count j) s.index

-- the slot that a write-out of this page takes
pub record IsSlotFor (j : JobView) (past : List Entry) (g : Page) (slot : VaSlot) : Type 0 where
  pub own : is_own_page g ≡ true → is_page_slot j slot ≡ true
  pub free : is_own_page g ≡ true → outs_kept j past slot ≡ false
  pub fixed : is_own_page g ≡ false → slot ≡ fixed_slot j g

pub record NamesSlot (j : JobView) (past : List Entry) (f : ℕ) (at : SlotAt) : Type 0 where
  pub page : Page
  pub there : page_there (content past f) ≡ Some page
  pub slot : VaSlot
  pub found : slot_found (content past) at ≡ Some slot
  pub for_page : IsSlotFor j past page slot

-- a try that found its slot in use was of one that the driver held for free
pub record NamesFree (j : JobView) (past : List Entry) (at : SlotAt) : Type 0 where
  pub slot : VaSlot
  pub found : slot_found (content past) at ≡ Some slot
  pub free : outs_kept j past slot ≡ false

abbrev pub SlotTells : JobView → List Entry → Event → Type 0
SlotTells j past (Did (EwbStart f at) answer) = NamesSlot j past f.0 at
SlotTells j past (Refused (EwbStart f at) (why.SlotOccupied version)) = NamesFree j past at
SlotTells j past _ = Unit {0}

abbrev pub SlotRule : JobView → List Entry → Entry → Type 0
SlotRule j past e = SlotTells j past e.event

-- ---- no try found its slot in use

abbrev pub is_occupied : Event → Bool
is_occupied (Refused (EwbStart f at) (why.SlotOccupied version)) = true
is_occupied _ = false

abbrev pub has_occupied : List Entry → Bool
has_occupied [] = false
has_occupied (e ∷ past) = is_occupied e.event || has_occupied past

-- how many did
abbrev pub occupied : List Entry → ℕ
occupied [] = 0
occupied (e ∷ past) = if is_occupied e.event then occupied past + 1 else occupied past
