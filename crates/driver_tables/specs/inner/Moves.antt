-- What the entries that move a page change in the driver's tables.
use Rattle.std.specs.Prelude.{ℕ, ◌≡◌, Bool, true, false, Some, slice_set}
use Rattle.sgx_types.specs.declared.names.Cpu.{Cpu}
use Rattle.sgx_types.specs.declared.names.Frame.{Frame}
use Rattle.sgx_types.specs.declared.names.Page.{Page}
use Rattle.sgx_types.specs.declared.names.VaSlot.{VaSlot}
use Rattle.sgx_types.specs.Pages.{va_page}
use Rattle.sgx_types.specs.Sealed.{Sealed}
use Rattle.sgx_rules.specs.declared.entries.Look.{Look}
use Rattle.sgx_rules.specs.declared.entries.Look.TheVariants as looks
use Rattle.driver_list.specs.inner.Active.{RemovesActive, pushed, turned}
use Rattle.driver_list.specs.inner.Keeping.{keeping}
use Rattle.driver_list.specs.inner.States.{state_of, with_state}
use Rattle.driver_list.specs.declared.page_states.PageState.{PageState}
use Rattle.driver_list.specs.declared.page_states.PageState.TheVariants.{Away, Here, Leaving, Loading, Lost}
use Rattle.driver_slots.specs.inner.Keeper.{Adds, Gives}
use Rattle.driver_laws.specs.inner.Keeps.{GivesIf}
use Rattle.driver_tables.specs.declared.driver.Driver.{Driver}

-- a page that is here leaves
abbrev pub leaving_of : PageState → PageState
leaving_of (Here f) = Leaving f
leaving_of state = state

-- the frame of a page that stands in one, the first for another
abbrev pub frame_in : PageState → Frame
frame_in (Here f) = f
frame_in (Leaving f) = f
frame_in state = record { 0 = 0 }

-- a page that was loading is away in its slot
abbrev pub slot_away : PageState → PageState
slot_away (Loading f slot) = Away slot
slot_away state = state

-- a page that was written out, and whose record the store may have refused
abbrev pub gone : VaSlot → Bool → PageState
gone slot true = Lost slot
gone slot false = Away slot

-- ---- looks

-- a page leaves its frame
abbrev pub with_leaving : Driver → Page → Driver
with_leaving d page = record d { states = with_state d.states page (leaving_of (state_of d.states page)) }

-- .. from the head of the list
pub record IsTakenOff (old : Driver) (page : Page) (new : Driver) : Type 0 where
  pub list : RemovesActive old.active page new.active
  pub others : new ≡ record old { active = new.active; states = with_state old.states page (leaving_of (state_of old.states page)) }

abbrev pub IsLooked : Driver → Page → Look → Driver → Type 0
IsLooked old page looks.Taken new = IsTakenOff old page new
IsLooked old page _ new = new ≡ record old { active = turned old.active }

-- a SECS or a version array page was looked at, which no list has
abbrev pub IsLookedAside : Driver → Page → Look → Driver → Type 0
IsLookedAside old page looks.Taken new = new ≡ with_leaving old page
IsLookedAside old page _ new = new ≡ old

-- ---- pages that come

-- a page is in a frame
abbrev pub with_here : Driver → Page → Frame → Driver
with_here d page frame = record d { states = with_state d.states page (Here frame) }

-- a version array page was made: it is here, and the keeper hands out its slots from one on
pub record HasArray (old : Driver) (va first : ℕ) (frame : Frame) (new : Driver) : Type 0 where
  pub slots : Adds old.slots va first new.slots
  pub others : new ≡ record old { states = with_state old.states (va_page va) (Here frame); slots = new.slots }

-- a TCS or REG page came back from its slot, which is out no more
pub record IsLoaded (old : Driver) (page : Page) (frame : Frame) (slot : VaSlot) (new : Driver) : Type 0 where
  pub slots : Gives old.slots slot new.slots
  pub others : new ≡ record old { active = pushed old.active page; states = with_state old.states page (Here frame); slots = new.slots }

-- a SECS or a version array page came back: its slot is out no more where it is the keeper's
pub record IsLoadedAside (old : Driver) (page : Page) (frame : Frame) (slot : VaSlot) (new : Driver) : Type 0 where
  pub slots : GivesIf old.slots slot new.slots
  pub others : new ≡ record old { states = with_state old.states page (Here frame); slots = new.slots }

-- the tables behind a load's start: the page is loading, and its record is kept
abbrev pub with_load : Driver → Cpu → Page → VaSlot → Frame → Sealed → Driver
with_load d cpu page slot frame rec = record d {
  states = with_state d.states page (Loading frame slot);
  kept = slice_set d.kept cpu.0 (Some (keeping page rec));
}
