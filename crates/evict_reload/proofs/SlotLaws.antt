-- The slots of the frames that hold version array pages.
use Rattle.std.proofs.Common.{◌≡◌, ℕ, ◌<◌, true, false, List, Option, Some, None, refl, sym, ◌∙◌}
use Rattle.std.proofs.lemmas.Bool.{false≢true}
use Rattle.sgx_types.specs.declared.names.SlotAt.{SlotAt}
use Rattle.sgx_rules.specs.Table.{is_va}
use Rattle.epcm_entry.specs.inner.Epc.{EpcFrame}
use Rattle.epcm_entry.specs.inner.Sights.{sight_in}
use Rattle.version_array.specs.declared.va_page.SlotState.{SlotState}
use Rattle.version_array.specs.inner.Slots.{IsSlot, page_at, page_slots, is_busy_at, empty_slot}
use Rattle.std.specs.Prelude.{is_some, slice_index_or}
use Rattle.evict_reload.specs.inner.Sights.{AreVaPages}

-- the slots of a version array page in a frame are slots of the table
pub is_slot : (epc : List EpcFrame) (va : List (Option (List SlotState))) (slot : SlotAt) → AreVaPages epc va
    → is_va (sight_in epc slot.frame.0).content ≡ true → slot.index < 512 → IsSlot va slot
is_slot epc va slot pages here low = record { paged = pages slot.frame.0 ∙ here; within = low }

-- a frame without a page has no busy slot
idle : (page : Option (List SlotState)) (i : ℕ) → is_some page ≡ false → (slice_index_or (page_slots page) i empty_slot).busy ≡ false
idle None i e = refl
idle (Some slots) i e = absurd (false≢true (sym e))

pub idle_without_page : (epc : List EpcFrame) (va : List (Option (List SlotState))) (slot : SlotAt) → AreVaPages epc va
    → is_va (sight_in epc slot.frame.0).content ≡ false → is_busy_at va slot ≡ false
idle_without_page epc va slot pages other = idle (page_at va slot.frame.0) slot.index (pages slot.frame.0 ∙ other)
