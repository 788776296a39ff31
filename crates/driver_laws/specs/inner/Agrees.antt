-- What a driver's tables agree with: the list with its marks, the keeper of the slots and the loads, as the entries give them.
use Rattle.std.specs.Prelude.{◌||◌, ◌&&◌, ◌++◌, ◌⊎◌, ℕ, ◌≡◌, nat_le, nat_lt, ◌==◌, if◌then◌else◌, Bool, true, false, List, [], ◌∷◌}
use Rattle.std.specs.Prelude.{Option, Some, None, map}
use Rattle.std.specs.List.{list_any}
use Rattle.sgx_rules.specs.declared.entries.Entry.{Entry}
use Rattle.sgx_rules.specs.declared.entries.Event.{Event}
use Rattle.sgx_rules.specs.declared.entries.Event.TheVariants.{Did}
use Rattle.sgx_rules.specs.declared.entries.Action.TheVariants.{Add}
use Rattle.sgx_types.specs.declared.names.Page.{Page}
use Rattle.sgx_types.specs.declared.names.VaSlot.{VaSlot}
use Rattle.sgx_types.specs.Pages.{same_page, va_page}
use Rattle.sgx_rules.specs.Frames.{vas_made}
use Rattle.sgx_rules.specs.inner.Slots.{IsIdle}
use Rattle.sgx_rules.specs.Slots.{version_in}
use Rattle.driver_slots.specs.inner.Keeper.{is_added, is_ours, is_out, Keeper}
use Rattle.job_grammar.specs.Jobs.{JobView, va_pages}
use Rattle.driver_rules.specs.Places.{active, is_here, is_young, place}
use Rattle.driver_rules.specs.inner.Slotted.{fixed_count}
use Rattle.driver_rules.specs.Spares.{was_occupied}
use Rattle.driver_laws.specs.inner.Sound.{slot_of}
use Rattle.driver_rules.specs.Turns.{Last, Loads}

-- a page of the list, and its mark
pub record Listed : Type 0 where
  pub page : Page
  pub young : Bool

-- the head at the tail, without its mark
abbrev pub turned : List Listed → List Listed
turned [] = []
turned (x ∷ xs) = xs ++ record { page = x.page; young = false } ∷ []

-- a page with its mark set where it is this one
abbrev pub touched : Page → Listed → Listed
touched g x = record { page = x.page; young = same_page g x.page || x.young }

-- a page with the mark that the entries give it
abbrev pub marked : List Entry → Page → Listed
marked past g = record { page = g; young = is_young past g }

-- the list with its marks
abbrev pub listed_by : List Entry → List Listed
listed_by past = map (marked past) (active past)

-- ---- slots

abbrev pub is_add : Event → Bool
is_add (Did (Add enclave number f kind perm init) answer) = true
is_add _ = false

-- a page was added
abbrev pub has_pages : List Entry → Bool
has_pages past = list_any (λ (e : Entry). is_add e.event) past

-- a keeper of the slots of each page from a first one on, and whether a slot that a try found in use stays out. A driver's keeper has
-- the slots for TCS and REG pages, and keeps those out; an auditor's has all slots
pub record Keeping : Type 0 where
  pub firsts : ℕ → ℕ
  pub keeps : Bool

-- a driver's
abbrev pub first_kept : JobView → ℕ → ℕ
first_kept j va = if va == 0 then fixed_count j else 0

abbrev pub drivers : JobView → Keeping
drivers j = record { firsts = first_kept j; keeps = true }

-- an auditor's
abbrev pub first_of_all : ℕ → ℕ
first_of_all va = 0

abbrev pub auditors : Keeping
auditors = record { firsts = first_of_all; keeps = false }

-- the slot stays out
abbrev pub stays : Keeping → List Entry → VaSlot → Bool
stays k past s = k.keeps && was_occupied past s

abbrev pub is_ours_by : Keeping → List Entry → VaSlot → Bool
is_ours_by k past s = nat_lt s.va (vas_made past) && (nat_le (k.firsts s.va) s.index && nat_lt s.index 512)

pub record ShowsSlots (k : Keeping) (j : JobView) (keeper : Keeper) (past : List Entry) : Type 0 where
  -- the keeper's slots are those of the version array pages, and each page's slot is one's, one of its 512; all of these are made before
  -- the first page is added
  pub ours : (s : VaSlot) → is_ours keeper s ≡ is_ours_by k past s
  pub placed : (g : Page) (s : VaSlot) → slot_of past g ≡ Some s → nat_lt s.va (vas_made past) ≡ true
  pub within : (g : Page) (s : VaSlot) → slot_of past g ≡ Some s → nat_lt s.index 512 ≡ true
  pub tried : (s : VaSlot) → stays k past s ≡ true → nat_lt s.va (vas_made past) ≡ true
  pub added : (va : ℕ) → is_added keeper va ≡ nat_lt va (vas_made past)
  pub made : has_pages past ≡ true → vas_made past ≡ va_pages j
  -- one of them is out exactly where it is a page's, or stays out
  pub out : (s : VaSlot) → is_out keeper s ≡ true → ((g : Page) × (slot_of past g ≡ Some s)) ⊎ (stays k past s ≡ true)
  pub used : (g : Page) (s : VaSlot) → slot_of past g ≡ Some s → is_ours keeper s ≡ true → is_out keeper s ≡ true
  pub kept : (s : VaSlot) → stays k past s ≡ true → is_ours keeper s ≡ true → is_out keeper s ≡ true
  pub alone : (g : Page) (s : VaSlot) → slot_of past g ≡ Some s → is_ours keeper s ≡ true → stays k past s ≡ false
  -- another one is empty, and no open start names it
  pub empty : (s : VaSlot) → is_ours keeper s ≡ true → is_out keeper s ≡ false → (version_in past s ≡ 0) × IsIdle past s
  -- .. and its page is here
  pub here : (s : VaSlot) → is_ours keeper s ≡ true → is_out keeper s ≡ false → is_here (place past (va_page s.va)) ≡ true

-- ---- copies

-- the page that a processor loads
abbrev pub loaded_by : Last → Option Page
loaded_by (Loads n page) = Some page
loaded_by _ = None
