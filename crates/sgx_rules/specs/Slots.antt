-- The slots of version array pages by the entries before a place: which are busy, and which version each holds. A slot is one of a
-- page, wherever that page is.
use Rattle.std.specs.Prelude.{ℕ, ◌==◌, ◌+◌, ◌&&◌, ◌||◌, Bool, true, false, if◌then◌else◌, List, [], ◌∷◌}
use Rattle.std.specs.Prelude.{Option, Some, None}
use Rattle.sgx_rules.specs.declared.entries.Entry.{Entry}
use Rattle.sgx_rules.specs.declared.entries.Event.{Event}
use Rattle.sgx_rules.specs.declared.entries.Event.TheVariants.{Did}
use Rattle.sgx_rules.specs.declared.entries.Action.TheVariants.{EwbStart, Ewb, Eld}
use Rattle.sgx_rules.specs.declared.entries.Answer.TheVariants.{Moved}
use Rattle.sgx_types.specs.declared.names.SlotAt.{SlotAt}
use Rattle.sgx_types.specs.declared.names.VaSlot.{VaSlot}
use Rattle.sgx_types.specs.Pages.{same_slot}
use Rattle.sgx_types.specs.Counts.{any_below}
use Rattle.sgx_rules.specs.Frames.{Content, IsVa, content, is_sealing}
use Rattle.sgx_rules.specs.Starts.{Start, open_start, slot_found}

-- the slot that a start named
abbrev pub slot_of : Option Start → Option VaSlot
slot_of None = None
slot_of (Some start) = Some start.slot

-- the slot that the open start of a frame named, None where no start of it is open
abbrev pub open_slot : List Entry → ℕ → Option VaSlot
open_slot past n = slot_of (open_start past n)

abbrev pub names_slot : Option VaSlot → VaSlot → Bool
names_slot None s = false
names_slot (Some slot) s = same_slot slot s

-- the frame holds the version array page of this number
abbrev pub is_va_of : Content → ℕ → Bool
is_va_of (IsVa k) number = k == number
is_va_of _ number = false

-- the version array page of this number is on its way out of a frame
abbrev pub takes_out : List Entry → ℕ → ℕ → Bool
takes_out past number n = is_va_of (content past n) number && is_sealing past n

-- an open start of one of so many frames names the slot, or its page is on its way out of one
abbrev pub is_slot_busy : ℕ → List Entry → VaSlot → Bool
is_slot_busy frames past s = any_below (λ n. names_slot (open_slot past n) s || takes_out past s.va n) frames

abbrev pub is_of_va : Option VaSlot → ℕ → Bool
is_of_va None number = false
is_of_va (Some slot) number = slot.va == number

-- an open start of one of so many frames names a slot of the version array page
abbrev pub is_va_in_use : ℕ → List Entry → ℕ → Bool
is_va_in_use frames past number = any_below (λ n. is_of_va (open_slot past n) number) frames

abbrev pub version_after : Event → (ℕ → Option VaSlot) → VaSlot → ℕ → ℕ
version_after (Did (Ewb f) (Moved page version tag)) opened s before = if names_slot (opened f.0) s then version else before
version_after (Did (Eld f) answer) opened s before = if names_slot (opened f.0) s then 0 else before
version_after _ opened s before = before

-- the version in a slot: that of the last page written out into it, 0 where none was, or where it came back since
abbrev pub version_in : List Entry → VaSlot → ℕ
version_in [] s = 0
version_in (e ∷ past) s = version_after e.event (open_slot past) s (version_in past s)

abbrev pub version_of : List Entry → Option VaSlot → ℕ
version_of past None = 0
version_of past (Some s) = version_in past s

-- the version in the slot that is found in a frame, 0 where the frame holds no version array page
abbrev pub version_at : List Entry → SlotAt → ℕ
version_at past at = version_of past (slot_found (content past) at)

abbrev pub is_busy_of : ℕ → List Entry → Option VaSlot → Bool
is_busy_of frames past None = false
is_busy_of frames past (Some s) = is_slot_busy frames past s

-- whether the slot that is found in a frame is busy
abbrev pub is_busy_at : ℕ → List Entry → SlotAt → Bool
is_busy_at frames past at = is_busy_of frames past (slot_found (content past) at)

abbrev pub is_draw : Event → Bool
is_draw (Did (EwbStart f slot) answer) = true
is_draw _ = false

-- the version that the next EWB draws: the first one, and one more for each EWB that has started
abbrev pub next_version : ℕ → List Entry → ℕ
next_version first [] = first
next_version first (e ∷ past) = if is_draw e.event then next_version first past + 1 else next_version first past
