-- What the entries give of places, the list and the slots as long as each entry is the driver's: a page is in the frame in which it
-- stands, the list has each TCS and REG page that is here once, no two pages have one slot, and what a page needs besides it is here.
use Rattle.std.specs.Prelude.{ℕ, ◌≡◌, ◌==◌, ◌+◌, ◌<◌, Bool, true, false, not, if◌then◌else◌, List, [], ◌∷◌, Option}
use Rattle.std.specs.Prelude.{Some, None, is_some}
use Rattle.sgx_rules.specs.declared.entries.Entry.{Entry}
use Rattle.sgx_types.specs.declared.names.Kind.{Kind}
use Rattle.sgx_types.specs.declared.names.Page.{Page}
use Rattle.sgx_types.specs.declared.names.Perm.{Perm}
use Rattle.sgx_types.specs.declared.names.VaSlot.{VaSlot}
use Rattle.sgx_rules.specs.Frames.{added, Content, content, Holds, is_child, IsLoading, stands, vas_made}
use Rattle.sgx_types.specs.Pages.{is_own_page, same_page, secs_page, va_page}
use Rattle.sgx_rules.specs.inner.Enclaves.{is_there}
use Rattle.sgx_rules.specs.Slots.{slot_of as slot_of_start, version_in}
use Rattle.sgx_rules.specs.Starts.{open_start, Start}
use Rattle.sgx_rules.specs.inner.Starts.{is_load_of}
use Rattle.sgx_rules.specs.Fresh.{last_out, Out}
use Rattle.sgx_rules.specs.Table.{is_loading}
use Rattle.driver_rules.specs.Turns.{load_of}
use Rattle.driver_rules.specs.Places.{Absent, active, Away, Here, is_here, Leaving, Loading, Place, place}

-- ---- places

-- the page stands in this frame: it is here or leaving
abbrev pub stands_in : Place → ℕ → Bool
stands_in (Here m) n = m == n
stands_in (Leaving m) n = m == n
stands_in _ n = false

abbrev pub slot_if : Bool → VaSlot → Option VaSlot
slot_if true slot = Some slot
slot_if false slot = None

-- the slot from which a page comes back into this frame
abbrev pub slot_loading : Place → ℕ → Option VaSlot
slot_loading (Loading m slot) n = slot_if (m == n) slot
slot_loading _ n = None

-- the slot of a start that loads this page
abbrev pub load_slot : Option Start → Page → Option VaSlot
load_slot None g = None
load_slot (Some start) g = slot_if (is_load_of (Some start) g) start.slot

abbrev pub is_load_start : Option Start → Bool
is_load_start None = false
is_load_start (Some start) = is_some start.loads

abbrev pub is_write_start : Option Start → Bool
is_write_start None = false
is_write_start (Some start) = not (is_some start.loads)

-- the page for which a frame waits
abbrev pub waiting : Content → Option Page
waiting (IsLoading page) = Some page
waiting _ = None

-- by the place of each page, what each frame holds, and the open start of each frame
pub record PlacesAreFrames (at : Page → Place) (held : ℕ → Content) (opened : ℕ → Option Start) : Type 0 where
  -- a frame holds the page that stands in it, of whatever kind, and no other
  pub frames : (g : Page) (n : ℕ) → stands (held n) g ≡ stands_in (at g) n
  -- the starts of loads that are open are those of the pages that are loading, by their slots
  pub loads : (g : Page) (n : ℕ) → load_slot (opened n) g ≡ slot_loading (at g) n
  -- their frames hold no page yet, and wait for the page that the start loads
  pub loading : (n : ℕ) → is_load_start (opened n) ≡ is_loading (held n)
  pub waits : (n : ℕ) → load_of (opened n) ≡ waiting (held n)
  -- each open start of a write-out is of a page that is leaving
  pub writes : (n : ℕ) → is_write_start (opened n) ≡ true → (g : Page) × (at g ≡ Leaving n)

-- ---- the list

-- how often a page stands in a list
abbrev pub times : List Page → Page → ℕ
times [] g = 0
times (h ∷ hs) g = (if same_page h g then 1 else 0) + times hs g

abbrev pub once_here : Place → ℕ
once_here place = if is_here place then 1 else 0

-- each TCS and REG page that is here stands in the list once, and no other page does
abbrev pub once_listed : Page → Place → ℕ
once_listed g at = if is_own_page g then once_here at else 0

abbrev pub ListIsHere : List Page → (Page → Place) → Type 0
ListIsHere pages at = (g : Page) → times pages g ≡ once_listed g (at g)

-- ---- slots

-- the slot that is a page's: its version is in it, or it goes out into it
abbrev pub slot_at : (ℕ → Option Start) → Place → Option VaSlot
slot_at opened (Away slot) = Some slot
slot_at opened (Loading n slot) = Some slot
slot_at opened (Leaving n) = slot_of_start (opened n)
slot_at opened _ = None

abbrev pub slot_of : List Entry → Page → Option VaSlot
slot_of past g = slot_at (open_start past) (place past g)

-- the slot from which a page can come back
abbrev pub slot_outside : Place → Option VaSlot
slot_outside (Away slot) = Some slot
slot_outside (Loading n slot) = Some slot
slot_outside _ = None

abbrev pub version_out : Option Out → Option ℕ
version_out None = None
version_out (Some o) = Some o.version

-- no two pages have one slot
abbrev pub SlotsAreApart : (Page → Place) → (ℕ → Option Start) → Type 0
SlotsAreApart at opened = (g h : Page) (slot : VaSlot) → slot_at opened (at g) ≡ Some slot → slot_at opened (at h) ≡ Some slot → g ≡ h

-- in the slot of a page that is outside is the version of its last write-out
abbrev pub SlotsHaveVersions : (Page → Place) → (Page → Option Out) → (VaSlot → ℕ) → Type 0
SlotsHaveVersions at out version = (g : Page) (slot : VaSlot) → slot_outside (at g) ≡ Some slot → version_out (out g) ≡ Some (version slot)

-- ---- all of it

abbrev pub is_absent : Place → Bool
is_absent Absent = true
is_absent _ = false

-- a page is absent until it is added, a SECS until its enclave is created, and a version array page until it is made
abbrev pub MadeAreThere : (Page → Place) → (Page → Bool) → Type 0
MadeAreThere at exists = (g : Page) → exists g ≡ not (is_absent (at g))

-- ---- what has to be here

-- a frame holds or loads a TCS or REG page only of an enclave whose SECS is here
abbrev pub SecsAreHere : (Page → Place) → (ℕ → Content) → Type 0
SecsAreHere at held =
    (n enclave : ℕ) → (enclave == 0) ≡ false → is_child (held n) enclave ≡ true → is_here (at (secs_page enclave)) ≡ true

-- version array page 0 is here once it is made, and so is each whose slot an open start named
pub record ArraysAreHere (at : Page → Place) (opened : ℕ → Option Start) (made : ℕ) : Type 0 where
  pub first : 0 < made → is_here (at (va_page 0)) ≡ true
  pub named : (n : ℕ) (x : Start) → opened n ≡ Some x → is_here (at (va_page x.slot.va)) ≡ true

-- a frame that holds a page by its kind holds a TCS or REG page
abbrev pub HeldAreOwn : (ℕ → Content) → Type 0
HeldAreOwn held = (n : ℕ) (page : Page) (kind : Kind) (perm : Perm) → held n ≡ Holds page kind perm → is_own_page page ≡ true

pub record IsSound (past : List Entry) : Type 0 where
  pub places : PlacesAreFrames (place past) (content past) (open_start past)
  pub list : ListIsHere (active past) (place past)
  pub apart : SlotsAreApart (place past) (open_start past)
  pub versions : SlotsHaveVersions (place past) (last_out past) (version_in past)
  pub made : MadeAreThere (place past) (is_there past)
  -- what was added is no SECS and no version array page
  pub added : (g : Page) → is_some (added past g) ≡ true → is_own_page g ≡ true
  pub secs : SecsAreHere (place past) (content past)
  pub arrays : ArraysAreHere (place past) (open_start past) (vas_made past)
  pub held : HeldAreOwn (content past)
