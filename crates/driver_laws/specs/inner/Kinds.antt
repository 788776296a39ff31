-- The kinds of entries by what they do to pages, and what a driver sees to before each.
use Rattle.std.specs.Prelude.{◌≡◌, ℕ, ◌==◌, Bool, true, false, List, Some}
use Rattle.sgx_rules.specs.declared.entries.Answer.TheVariants.{Moved}
use Rattle.sgx_rules.specs.declared.entries.Entry.{Entry}
use Rattle.sgx_rules.specs.declared.entries.Event.{Event}
use Rattle.sgx_rules.specs.declared.entries.Event.TheVariants.{Age, Did, Refused}
use Rattle.sgx_rules.specs.declared.entries.Action.TheVariants.{Add, Create, Eld, EldStart, Epa, Ewb, EwbStart}
use Rattle.sgx_types.specs.declared.names.Page.{Page}
use Rattle.sgx_types.specs.declared.names.VaSlot.{VaSlot}
use Rattle.sgx_rules.specs.declared.entries.Look.{Look}
use Rattle.sgx_rules.specs.Slots.{is_of_va, open_slot}
use Rattle.sgx_rules.specs.Frames.{content, Free, is_child, vas_made}
use Rattle.sgx_types.specs.Pages.{is_own_page, is_secs_page, is_va_page, page_at, secs_page, va_page}
use Rattle.sgx_rules.specs.Starts.{open_start, slot_found, Start}
use Rattle.driver_rules.specs.Ages.{head_of}
use Rattle.driver_rules.specs.Places.{Absent, active, Away, is_here, Leaving, Loading, place}
use Rattle.driver_laws.specs.inner.Sound.{slot_of}
use Rattle.sgx_rules.specs.declared.entries.Look.TheVariants as looks

-- a SECS that leaves has no page of its enclave in a frame, and of a version array page no open start names a slot
pub record CanLeave (past : List Entry) (page : Page) : Type 0 where
  pub here : is_here (place past page) ≡ true
  pub children : is_secs_page page ≡ true → (n : ℕ) → is_child (content past n) page.enclave ≡ false
  pub first : is_va_page page ≡ true → (page.number == 0) ≡ false
  pub named : is_va_page page ≡ true → (n : ℕ) → is_of_va (open_slot past n) page.number ≡ false

-- a TCS or REG page is looked at as the head of the list; another page leaves, or the store has no room for it
abbrev pub CanLook : List Entry → Page → Look → Type 0
CanLook past page looks.Taken =
    (is_own_page page ≡ true → head_of (active past) ≡ Some page) × (is_own_page page ≡ false → CanLeave past page)
CanLook past page look = is_own_page page ≡ true → head_of (active past) ≡ Some page

-- what a page's move asks of the entries before it
abbrev pub CanMove : List Entry → Event → Type 0
CanMove past (Did (Epa f) answer) = (content past f.0 ≡ Free) × (place past (va_page (vas_made past)) ≡ Absent)
CanMove past (Did (Create enclave f base size) answer) = (content past f.0 ≡ Free) × (place past (secs_page enclave) ≡ Absent)
    × (is_va_page (secs_page enclave) ≡ false)
CanMove past (Did (Add enclave number f kind perm init) answer) = (content past f.0 ≡ Free) × (place past (page_at enclave number) ≡ Absent)
    × (is_own_page (page_at enclave number) ≡ true) × (is_here (place past (secs_page enclave)) ≡ true)
CanMove past (Age page look) = CanLook past page look
CanMove past (Did (EwbStart f at) answer) =
    ((page : Page) × (place past page ≡ Leaving f.0)) × (slot : VaSlot) × (slot_found (content past) at ≡ Some slot)
    × (is_here (place past (va_page slot.va)) ≡ true) × ((g : Page) → slot_of past g ≡ Some slot → ⊥)
CanMove past (Did (Ewb f) (Moved page version tag)) = (place past page ≡ Leaving f.0) × ((x : Start) × (open_start past f.0 ≡ Some x))
CanMove past (Did (EldStart f page at) answer) = (content past f.0 ≡ Free) × (slot : VaSlot) × (place past page ≡ Away slot)
    × (slot_found (content past) at ≡ Some slot) × (is_here (place past (va_page slot.va)) ≡ true)
    × (is_own_page page ≡ true → is_here (place past (secs_page page.enclave)) ≡ true)
CanMove past (Did (Eld f) (Moved page version tag)) = (slot : VaSlot) × (place past page ≡ Loading f.0 slot)
CanMove past (Refused (Eld f) refusal) = (page : Page) × (slot : VaSlot) × (place past page ≡ Loading f.0 slot)
CanMove past (Did (Ewb f) answer) = ⊥
CanMove past (Did (Eld f) answer) = ⊥
CanMove past _ = Unit {0}

-- an entry that moves no page and turns no list
abbrev pub is_quiet : Event → Bool
is_quiet (Did (Epa f) answer) = false
is_quiet (Did (Create enclave f base size) answer) = false
is_quiet (Did (Add enclave number f kind perm init) answer) = false
is_quiet (Did (Ewb f) answer) = false
is_quiet (Did (EldStart f page slot) answer) = false
is_quiet (Did (Eld f) answer) = false
is_quiet (Refused (Eld f) refusal) = false
is_quiet (Age page look) = false
is_quiet _ = true
