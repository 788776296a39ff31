-- What an entry that is no plain instruction does to the driver's tables, by the tables alone.
use Rattle.std.specs.Prelude.{◌≡◌, ◌<◌, Bool, true, false, Option, None, Some, length, slice_set}
use Rattle.sgx_rules.specs.declared.entries.Action.{Action}
use Rattle.sgx_rules.specs.declared.entries.Action.TheVariants.{EwbStart, Ewb, EldStart, Eld}
use Rattle.sgx_types.specs.declared.names.Actor.{Actor}
use Rattle.sgx_types.specs.declared.names.Actor.TheVariants as actors
use Rattle.sgx_rules.specs.declared.entries.Answer.{Answer}
use Rattle.sgx_rules.specs.declared.entries.Answer.TheVariants.{Moved}
use Rattle.sgx_rules.specs.declared.entries.Event.{Event}
use Rattle.sgx_rules.specs.declared.entries.Event.TheVariants.{Did, Refused, Age}
use Rattle.sgx_rules.specs.declared.entries.Look.{Look}
use Rattle.sgx_types.specs.declared.names.Cpu.{Cpu}
use Rattle.sgx_types.specs.declared.names.Frame.{Frame}
use Rattle.sgx_types.specs.declared.names.Page.{Page}
use Rattle.sgx_types.specs.declared.names.VaSlot.{VaSlot}
use Rattle.sgx_types.specs.Pages.{is_own_page}
use Rattle.sgx_types.specs.Sealed.{Sealed}
use Rattle.driver_list.specs.declared.page_states.PageState.TheVariants as states
use Rattle.driver_list.specs.inner.Listing.{head_of}
use Rattle.driver_list.specs.inner.Places.{IsPlaced}
use Rattle.driver_list.specs.inner.Ring.{is_listed}
use Rattle.driver_list.specs.inner.States.{state_of, with_state}
use Rattle.driver_slots.specs.inner.Keeper.{Gives, Keeper, Takes, is_ours, is_out}
use Rattle.sgx_machine.specs.declared.starts.Start.{Start}
use Rattle.driver_tables.specs.declared.driver.Driver.{Driver}
use Rattle.driver_tables.specs.inner.Moves.{IsLoaded, IsLooked, IsLookedAside, slot_away, with_load}
use Rattle.due_notes.specs.inner.Plain.{is_plain}

-- an instruction that moves no page out or back, done or refused
abbrev pub is_plain_event : Event → Bool
is_plain_event (Did action answer) = is_plain action
is_plain_event (Refused action refusal) = is_plain action
is_plain_event event = false

-- ---- what is done

-- a page of any kind was looked at. A TCS or REG page is the head of the list, and another one is in none
abbrev pub HasLooked : Driver → Page → Look → Driver → Type 0
HasLooked old page look new =
    (is_own_page page ≡ true → IsLooked old page look new) × (is_own_page page ≡ false → IsLookedAside old page look new)

-- a page's write-out has started into its slot
pub record IsStarted (old : Driver) (slot : VaSlot) (new : Driver) : Type 0 where
  pub slots : Takes old.slots slot new.slots
  pub others : new ≡ record old { slots = new.slots }

abbrev pub HasStarted : Option Start → Driver → Driver → Type 0
HasStarted (Some start) old new = IsStarted old start.slot new
HasStarted None old new = new ≡ old

-- a page that has gone out is away in the slot of the start that it ends
abbrev pub with_gone : Option Start → Answer → Driver → Driver
with_gone (Some start) (Moved page version tag) d = record d { states = with_state d.states page (states.Away start.slot) }
with_gone start answer d = d

-- a page is loading, and the record is kept for the processor that loads it
abbrev pub with_begun : Actor → Frame → Page → Option Start → Sealed → Driver → Driver
with_begun (actors.Cpu cpu) f page (Some start) rec d = with_load d cpu page start.slot f rec
with_begun actor f page start rec d = d

-- no record is kept for the processor
abbrev pub forgetting : Driver → Cpu → Driver
forgetting d cpu = record d { kept = slice_set d.kept cpu.0 None }

-- a SECS or a version array page has come back from its slot, which is out no more
pub record IsBack (old : Driver) (page : Page) (f : Frame) (slot : VaSlot) (new : Driver) : Type 0 where
  pub slots : Gives old.slots slot new.slots
  pub others : new ≡ record old { states = with_state old.states page (states.Here f); slots = new.slots }

-- .. or a TCS or REG page, which is listed as the last
abbrev pub ComesBack : Driver → Page → Frame → VaSlot → Driver → Type 0
ComesBack old page f slot new =
    (is_own_page page ≡ true → IsLoaded old page f slot new) × (is_own_page page ≡ false → IsBack old page f slot new)

-- the page of a load has come back from the slot of the load's start
abbrev pub HasEnded : Actor → Frame → Option Start → Answer → Driver → Driver → Type 0
HasEnded (actors.Cpu cpu) f (Some start) (Moved page version tag) old new = ComesBack (forgetting old cpu) page f start.slot new
HasEnded actor f start answer old new = new ≡ old

-- a page that was to be loaded is away again
abbrev pub away_again : Cpu → Option Page → Driver → Driver
away_again cpu None d = d
away_again cpu (Some page) d = record (forgetting d cpu) { states = with_state d.states page (slot_away (state_of d.states page)) }

abbrev pub with_refused : Actor → Option Start → Driver → Driver
with_refused (actors.Cpu cpu) (Some start) d = away_again cpu start.loads d
with_refused actor start d = d

-- by an instruction that was done
abbrev pub DoesMove : Option Start → Sealed → Actor → Action → Answer → Driver → Driver → Type 0
DoesMove start rec actor (EwbStart f at) answer old new = HasStarted start old new
DoesMove start rec actor (Ewb f) answer old new = new ≡ with_gone start answer old
DoesMove start rec actor (EldStart f page at) answer old new = new ≡ with_begun actor f page start rec old
DoesMove start rec actor (Eld f) answer old new = HasEnded actor f start answer old new
DoesMove start rec actor action answer old new = new ≡ old

-- by any entry
abbrev pub DoesEvent : Option Start → Sealed → Actor → Event → Driver → Driver → Type 0
DoesEvent start rec actor (Age page look) old new = HasLooked old page look new
DoesEvent start rec actor (Did action answer) old new = DoesMove start rec actor action answer old new
DoesEvent start rec actor (Refused (Eld f) refusal) old new = new ≡ with_refused actor start old
DoesEvent start rec actor event old new = new ≡ old

-- ---- what it needs

-- a page that can be looked at
pub record FitsLook (d : Driver) (page : Page) : Type 0 where
  pub head : is_own_page page ≡ true → head_of d.active.pages ≡ Some page
  pub listed : IsPlaced d.active.counts page
  pub placed : IsPlaced d.states.counts page
  pub counts : d.states.counts ≡ d.active.counts

-- a slot that can be taken: it is the keeper's, and is not out
pub record IsLeft (keeper : Keeper) (slot : VaSlot) : Type 0 where
  pub ours : is_ours keeper slot ≡ true
  pub free : is_out keeper slot ≡ false

abbrev pub FitsStarted : Option Start → Driver → Type 0
FitsStarted (Some start) d = IsLeft d.slots start.slot
FitsStarted None d = Unit {0}

-- a page that can be listed again, and its slot given back
pub record FitsEnd (d : Driver) (cpu : Cpu) (page : Page) (slot : VaSlot) : Type 0 where
  pub room : cpu.0 < length d.kept
  pub listed : IsPlaced d.active.counts page
  pub placed : IsPlaced d.states.counts page
  pub counts : d.states.counts ≡ d.active.counts
  pub absent : is_listed d.active.pages page ≡ false
  pub out : is_out d.slots slot ≡ true

-- a page with a place, and a processor with room for a record
pub record FitsLoad (d : Driver) (cpu : Cpu) (page : Page) : Type 0 where
  pub room : cpu.0 < length d.kept
  pub placed : IsPlaced d.states.counts page

abbrev pub FitsGone : Option Start → Answer → Driver → Type 0
FitsGone (Some start) (Moved page version tag) d = IsPlaced d.states.counts page
FitsGone start answer d = Unit {0}

abbrev pub FitsBegun : Actor → Page → Driver → Type 0
FitsBegun (actors.Cpu cpu) page d = FitsLoad d cpu page
FitsBegun actor page d = Unit {0}

abbrev pub FitsEnded : Actor → Option Start → Answer → Driver → Type 0
FitsEnded (actors.Cpu cpu) (Some start) (Moved page version tag) d = FitsEnd d cpu page start.slot
FitsEnded actor start answer d = Unit {0}

abbrev pub FitsAway : Cpu → Option Page → Driver → Type 0
FitsAway cpu None d = Unit {0}
FitsAway cpu (Some page) d = FitsLoad d cpu page

abbrev pub FitsRefused : Actor → Option Start → Driver → Type 0
FitsRefused (actors.Cpu cpu) (Some start) d = FitsAway cpu start.loads d
FitsRefused actor start d = Unit {0}

abbrev pub FitsMove : Option Start → Actor → Action → Answer → Driver → Type 0
FitsMove start actor (EwbStart f at) answer d = FitsStarted start d
FitsMove start actor (Ewb f) answer d = FitsGone start answer d
FitsMove start actor (EldStart f page at) answer d = FitsBegun actor page d
FitsMove start actor (Eld f) answer d = FitsEnded actor start answer d
FitsMove start actor action answer d = Unit {0}

abbrev pub FitsEvent : Option Start → Actor → Event → Driver → Type 0
FitsEvent start actor (Age page look) d = FitsLook d page
FitsEvent start actor (Did action answer) d = FitsMove start actor action answer d
FitsEvent start actor (Refused (Eld f) refusal) d = FitsRefused actor start d
FitsEvent start actor event d = Unit {0}
