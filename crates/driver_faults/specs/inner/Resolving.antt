-- What the first half of a fault step does.
use Rattle.std.specs.Prelude.{ℕ, ◌≡◌, true, false, List, Option, Some, None, Result, Ok, Err}
use Rattle.sgx_rules.specs.declared.entries.Action.TheVariants as actions
use Rattle.sgx_types.specs.declared.names.Actor.TheVariants as actors
use Rattle.sgx_rules.specs.declared.entries.BusWhy.TheVariants as reasons
use Rattle.sgx_rules.specs.declared.entries.Entry.{Entry}
use Rattle.sgx_types.specs.declared.names.Cpu.{Cpu}
use Rattle.sgx_types.specs.declared.names.Frame.{Frame}
use Rattle.sgx_types.specs.declared.names.Page.{Page}
use Rattle.sgx_types.specs.declared.names.SlotAt.{SlotAt}
use Rattle.sgx_types.specs.declared.names.VaSlot.{VaSlot}
use Rattle.sgx_types.specs.Pages.{is_own_page, secs_page, va_page}
use Rattle.sgx_rules.specs.Frames.{least_free}
use Rattle.sgx_types.specs.Sealed.{Sealed}
use Rattle.sgx_rules.specs.inner.Starts.{BareStart}
use Rattle.sgx_types.specs.Pages.{frame_at}
use Rattle.std.specs.Global.{Box}
use Rattle.seal_record.specs.declared.unseal.UnsealWork.{UnsealWork}
use Rattle.machine_laws.specs.inner.State.{State}
use Rattle.machine_laws.specs.inner.Steps.{IsStep}
use Rattle.sgx_machine.specs.inner.Parts.{Parts, state_of}
use Rattle.backing_store.specs.Calls.{Call}
use Rattle.backing_store.specs.inner.Calls.{told_got}
use Rattle.backing_store.specs.declared.backing.StoreFault.{StoreFault}
use Rattle.backing_store.specs.declared.backing.StoreFault.TheVariants as faults
use Rattle.driver_list.specs.inner.Places.{IsPlaced}
use Rattle.driver_list.specs.inner.States.{state_of as page_state}
use Rattle.driver_list.specs.declared.page_states.PageState.{PageState}
use Rattle.driver_list.specs.declared.page_states.PageState.TheVariants as states
use Rattle.driver_rules.specs.declared.waits.Why.TheVariants as waits
use Rattle.driver_rules.specs.inner.Reclaims.{is_refused}
use Rattle.driver_tables.specs.inner.Carried.{Carries}
use Rattle.driver_tables.specs.declared.driver.Driver.{Driver}
use Rattle.driver_tables.specs.inner.Moves.{with_load}
use Rattle.driver_tables.specs.inner.Targets.{slot_here_in, target_in}
use Rattle.driver_faults.specs.declared.answers.FaultAnswer.{FaultAnswer}
use Rattle.driver_faults.specs.declared.answers.FaultAnswer.TheVariants as answers

-- ---- the page that is asked for

-- a page that is away is asked for by the one that has to be back first, any other page by itself
abbrev pub asked_by : Driver → Page → PageState → Page
asked_by d g (states.Away slot) = target_in d g slot
asked_by d g state = g

abbrev pub asked_in : Driver → Page → Page
asked_in d g = asked_by d g (page_state d.states g)

-- the tables have the places of a page and of what has to be back before it
pub record CanAsk (d : Driver) (g : Page) : Type 0 where
  pub placed : IsPlaced d.states.counts g
  pub secs : (slot : VaSlot) → page_state d.states g ≡ states.Away slot → is_own_page g ≡ true
      → IsPlaced d.states.counts (secs_page g.enclave)
  pub array : (slot : VaSlot) → page_state d.states g ≡ states.Away slot → is_own_page g ≡ true
      → IsPlaced d.states.counts (va_page slot.va)

-- .. and the page that is asked for, where it is away, has a slot in a version array page that is here
pub record CanResolve (d : Driver) (g : Page) : Type 0 where
  pub ask : CanAsk d g
  pub asked : IsPlaced d.states.counts (asked_in d g)
  pub slot : (slot : VaSlot) → page_state d.states (asked_in d g) ≡ states.Away slot → IsPlaced d.states.counts (va_page slot.va)
  pub here : (slot : VaSlot) → page_state d.states (asked_in d g) ≡ states.Away slot → slot_here_in d slot ≡ None → ⊥

-- ---- what is answered

-- an answer that tells a failure of the store
abbrev pub TellsFault : FaultAnswer → Type 0
TellsFault (answers.Bus reasons.GetFailed) = Unit {0}
TellsFault answer = ⊥

-- an answer that changes nothing in the tables and in the machine
pub record IsSaid (said : FaultAnswer) (d : Driver) (m : Parts) (answer : FaultAnswer) (d' : Driver) (m' : Parts) : Type 0 where
  pub says : answer ≡ said
  pub driver : d' ≡ d
  pub machine : m' ≡ m

-- the work opens this record by the machine's key and the version that the start found
pub record IsToOpen (s : State) (f : ℕ) (rec : Sealed) (work : UnsealWork) : Type 0 where
  pub brought : work.rec ≡ rec
  pub key : work.key ≡ s.key
  pub start : BareStart
  pub opened : s.start f ≡ Some start
  pub version : work.version ≡ start.version

-- the tables and the work of a load that has started
pub record HasStarted (cpu : Cpu) (page : Page) (slot : VaSlot) (frame : Frame) (rec : Sealed) (d : Driver) (entry : Entry)
    (answer : FaultAnswer) (d' : Driver) (m' : Parts) : Type 0 where
  pub work : Box UnsealWork
  pub says : answer ≡ answers.Started entry work
  pub driver : d' ≡ with_load d cpu page slot frame rec
  pub opens : IsToOpen (state_of m') frame.0 rec work.value

-- a load's start by its row: where it is done, tables and work are the load's; a refused one changes nothing
pub record IsStarted (cpu : Cpu) (page : Page) (slot : VaSlot) (at : SlotAt) (frame : Frame) (rec : Sealed) (d : Driver) (m : Parts)
    (answer : FaultAnswer)
    (d' : Driver) (m' : Parts) : Type 0 where
  pub entry : Entry
  pub step : IsStep (state_of m) (actors.Cpu cpu) (actions.EldStart frame page at) entry (state_of m')
  pub carries : Carries (state_of m) entry (state_of m')
  pub refused : is_refused entry.event ≡ true → (answer ≡ answers.Slot entry) × (d' ≡ d)
  pub started : is_refused entry.event ≡ false → HasStarted cpu page slot frame rec d entry answer d' m'

-- by what the store gave
abbrev pub IsGot : Cpu → Page → VaSlot → SlotAt → Frame → Result (Option Sealed) StoreFault → Driver → Parts → FaultAnswer → Driver → Parts
    → Type 0
IsGot cpu page slot at frame (Ok (Some rec)) d m answer d' m' = IsStarted cpu page slot at frame rec d m answer d' m'
IsGot cpu page slot at frame (Ok None) d m answer d' m' = IsSaid (answers.Bus reasons.NoRecord) d m answer d' m'
IsGot cpu page slot at frame (Err faults.Failed) d m answer d' m' = IsSaid (answers.Bus reasons.GetFailed) d m answer d' m'
IsGot cpu page slot at frame (Err faults.Memory) d m answer d' m' = ⊥

-- the store is asked once
pub record IsAsked (cpu : Cpu) (page : Page) (slot : VaSlot) (at : SlotAt) (frame : Frame) (d : Driver) (m : Parts)
    (told : Option (List Call)) (answer : FaultAnswer) (d' : Driver) (m' : Parts) (told' : Option (List Call)) : Type 0 where
  pub got : Result (Option Sealed) StoreFault
  pub calls : told' ≡ told_got page got told
  pub does : IsGot cpu page slot at frame got d m answer d' m'

-- .. or not at all
pub record IsSilent (said : FaultAnswer) (d : Driver) (m : Parts) (told : Option (List Call)) (answer : FaultAnswer) (d' : Driver)
    (m' : Parts)
    (told' : Option (List Call)) : Type 0 where
  pub calls : told' ≡ told
  pub does : IsSaid said d m answer d' m'

-- a page that is away is asked for where a frame is free, to be loaded by its slot
abbrev pub FetchesPage : Cpu → Page → VaSlot → Option SlotAt → Option ℕ → Driver → Parts → Option (List Call) → FaultAnswer → Driver → Parts
    → Option (List Call) → Type 0
FetchesPage cpu page slot None free d m told answer d' m' told' = ⊥
FetchesPage cpu page slot (Some at) None d m told answer d' m' told' = IsSilent (answers.Again waits.NoFrame) d m told answer d' m' told'
FetchesPage cpu page slot (Some at) (Some f) d m told answer d' m' told' = IsAsked cpu page slot at (frame_at f) d m told answer d' m' told'

-- by what became of the page that is asked for
abbrev pub IsResolved : Cpu → Page → PageState → Driver → Parts → Option (List Call) → FaultAnswer → Driver → Parts → Option (List Call)
    → Type 0
IsResolved cpu page (states.Here f) d m told answer d' m' told' = IsSilent answers.Here d m told answer d' m' told'
IsResolved cpu page (states.Lost slot) d m told answer d' m' told' = IsSilent (answers.Bus reasons.PutFailed) d m told answer d' m' told'
IsResolved cpu page (states.Away slot) d m told answer d' m' told' =
    FetchesPage cpu page slot (slot_here_in d slot) (least_free (state_of m).frames (state_of m).content) d m told answer d' m' told'
IsResolved cpu page _ d m told answer d' m' told' = IsSilent (answers.Again (waits.Busy page)) d m told answer d' m' told'
