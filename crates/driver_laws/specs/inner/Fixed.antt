-- Whose slot a slot is, as long as the driver names slots by its rule.
use Rattle.std.specs.Prelude.{◌≡◌, ◌<◌, ◌≤◌, length, true, false, List, Some}
use Rattle.sgx_rules.specs.declared.entries.Entry.{Entry}
use Rattle.sgx_types.specs.declared.names.Page.{Page}
use Rattle.sgx_types.specs.declared.names.VaSlot.{VaSlot}
use Rattle.sgx_types.specs.declared.names.TheConstants.{SECS_NUMBER}
use Rattle.sgx_types.specs.Pages.{is_own_page, is_va_page}
use Rattle.job_grammar.specs.Jobs.{JobView, va_pages}
use Rattle.driver_rules.specs.inner.Slotted.{fixed_slot, is_page_slot}
use Rattle.driver_laws.specs.inner.Sound.{slot_of}

pub record IsItsSlot (j : JobView) (g : Page) (s : VaSlot) : Type 0 where
  pub own : is_own_page g ≡ true → is_page_slot j s ≡ true
  pub fixed : is_own_page g ≡ false → s ≡ fixed_slot j g

-- the SECS of an enclave of the job, or one of its version array pages
pub record IsInJob (j : JobView) (g : Page) : Type 0 where
  pub array : is_va_page g ≡ true → g.number < va_pages j
  pub least : is_va_page g ≡ false → 1 ≤ g.enclave
  pub secs : is_va_page g ≡ false → g.enclave ≤ length j.enclaves
  pub number : is_va_page g ≡ false → g.number ≡ SECS_NUMBER

-- each page that has a slot has one for pages, or its own
abbrev pub SlotsAreTheirs : JobView → List Entry → Type 0
SlotsAreTheirs j past = (g : Page) (s : VaSlot) → slot_of past g ≡ Some s → IsItsSlot j g s
