-- What the end of a load does.
use Rattle.std.specs.Prelude.{ℕ, ◌≡◌, ◌<◌, true, false, List, ◌∷◌, ◌++◌, None, Some, length, slice_set}
use Rattle.sgx_types.specs.declared.names.Actor.TheVariants as actors
use Rattle.sgx_rules.specs.declared.entries.BusWhy.{BusWhy}
use Rattle.sgx_rules.specs.declared.entries.BusWhy.TheVariants as reasons
use Rattle.sgx_rules.specs.declared.entries.Entry.{Entry}
use Rattle.sgx_rules.specs.declared.entries.Event.{Event}
use Rattle.sgx_rules.specs.declared.entries.Event.TheVariants.{Refused}
use Rattle.sgx_types.specs.declared.names.Cpu.{Cpu}
use Rattle.sgx_types.specs.declared.names.Frame.{Frame}
use Rattle.sgx_types.specs.declared.names.Page.{Page}
use Rattle.sgx_types.specs.declared.names.VaSlot.{VaSlot}
use Rattle.sgx_types.specs.Pages.{is_own_page}
use Rattle.sgx_rules.specs.declared.refusals.Refusal.TheVariants as why
use Rattle.sgx_types.specs.Making.{Making}
use Rattle.sgx_types.specs.Sealed.{Sealed}
use Rattle.sgx_rules.specs.Slots.{version_in}
use Rattle.sgx_rules.specs.Starts.{Start, open_start}
use Rattle.sgx_rules.specs.Table.{is_loading}
use Rattle.seal_record.specs.Records.{Given, Made, Unforged}
use Rattle.machine_laws.specs.inner.Columns.{HasAllVersions}
use Rattle.machine_laws.specs.inner.Histories.{BringsArrayIn, BringsIn, StandsWithAllRules, looked_at}
use Rattle.machine_laws.specs.inner.Notes.{IsDidEvent}
use Rattle.machine_laws.specs.inner.Shape.{FitsApart, ShapeWithRules}
use Rattle.machine_laws.specs.inner.State.{State, making_of}
use Rattle.machine_laws.specs.inner.Steps.{CanBring, IsReloaded}
use Rattle.sgx_machine.specs.inner.Parts.{Parts, state_of}
use Rattle.driver_slots.specs.inner.Keeper.{is_out}
use Rattle.driver_list.specs.inner.Keeping.{keeping, kept_at}
use Rattle.driver_list.specs.inner.Places.{IsPlaced}
use Rattle.driver_list.specs.inner.Ring.{is_listed}
use Rattle.driver_list.specs.inner.States.{state_of as page_state, with_state}
use Rattle.driver_list.specs.declared.page_states.PageState.TheVariants as states
use Rattle.driver_rules.specs.inner.Reclaims.{is_refused}
use Rattle.driver_tables.specs.declared.driver.Driver.{Driver}
use Rattle.driver_tables.specs.inner.Moves.{IsLoaded, with_here}
use Rattle.driver_faults.specs.declared.answers.Loaded.{Loaded}
use Rattle.driver_faults.specs.declared.answers.Loaded.TheVariants as answers

-- a page that is loading; a TCS or REG page can be listed again, and its slot can be given back
pub record IsToList (d : Driver) (page : Page) (frame : Frame) (slot : VaSlot) : Type 0 where
  pub loading : page_state d.states page ≡ states.Loading frame slot
  pub placed : IsPlaced d.states.counts page
  pub counts : d.states.counts ≡ d.active.counts
  pub absent : is_own_page page ≡ true → is_listed d.active.pages page ≡ false
  pub out : is_own_page page ≡ true → is_out d.slots slot ≡ true

-- a processor loads the page, a record is kept for it, the frame waits for it, and its load may end
pub record CanFinish (cpu : Cpu) (page : Page) (d : Driver) (m : Parts) : Type 0 where
  pub frame : Frame
  pub slot : VaSlot
  pub tables : IsToList d page frame slot
  pub room : cpu.0 < length d.kept
  pub kept : Sealed
  pub copy : kept_at d.kept cpu.0 ≡ Some (keeping page kept)
  pub waits : is_loading ((state_of m).content frame.0) ≡ true
  pub apart : CanBring (state_of m) frame.0

-- why a record is refused
abbrev pub bus_why : Event → BusWhy
bus_why (Refused action (why.BadHeader enclave address flags)) = reasons.Header
bus_why event = reasons.Mac

-- a TCS or REG page is listed again and its slot given back, another page is only here
abbrev pub ComesBack : Driver → Page → Frame → VaSlot → Driver → Type 0
ComesBack d page frame slot d' =
    (is_own_page page ≡ true → IsLoaded d page frame slot d') × (is_own_page page ≡ false → d' ≡ with_here d page frame)

abbrev pub Ends : Driver → Page → Frame → VaSlot → Entry → Loaded → Driver → Type 0
Ends d page frame slot e loaded d' =
    (is_refused e.event ≡ true
    → (loaded ≡ answers.Bus e (bus_why e.event)) × (d' ≡ record d { states = with_state d.states page (states.Away slot) }))
    × (is_refused e.event ≡ false → (loaded ≡ answers.Here e) × ComesBack d page frame slot d')

-- what the entry carries on, as the machine says it of the end of a load
pub record CarriesLoad (s : State) (f : ℕ) (rec : Sealed) (e : Entry) (t : State) : Type 0 where
  pub shape : (making : Making) (past : List Entry) → ShapeWithRules making s past → ShapeWithRules making t (e ∷ past)
  pub fits : (making : Making) (past : List Entry) → ShapeWithRules making s past → FitsApart making.frames past
      → FitsApart making.frames (e ∷ past)
  pub history : (making : Making) (past : List Entry) (records : List Made) (given : List Given) → StandsWithAllRules making s past records
      → Unforged making.key records (given ++ looked_at s f records rec) → StandsWithAllRules making t (e ∷ past) records
  pub back : (making : Making) (past : List Entry) (records : List Made) → StandsWithAllRules making s past records
      → (IsDidEvent e.event → BringsIn making.key past s f rec) → StandsWithAllRules making t (e ∷ past) records
  -- the slots of version array pages go on to have the versions that the entries say, where a page that comes back brings the slots with
  -- which it went out
  pub arrays : (making : Making) (past : List Entry) → ShapeWithRules making s past → HasAllVersions s past
      → (IsDidEvent e.event → BringsArrayIn making.key past s f rec) → HasAllVersions t (e ∷ past)
  pub making : making_of t ≡ making_of s

-- the load ends by the kept record, which is kept no longer
pub record IsFinished (cpu : Cpu) (page : Page) (slot : VaSlot) (frame : Frame) (kept : Sealed) (d : Driver) (s : State) (loaded : Loaded)
    (d' : Driver) (t : State) : Type 0 where
  pub entry : Entry
  pub reloaded : IsReloaded s (actors.Cpu cpu) frame kept entry t
  pub carries : CarriesLoad s frame.0 kept entry t
  pub ends : Ends (record d { kept = slice_set d.kept cpu.0 None }) page frame slot entry loaded d'

-- the start of a frame's load found the version that the entries put into the slot
abbrev pub FindsVersion : List Entry → ℕ → VaSlot → Type 0
FindsVersion past f slot = (x : Start) → open_start past f ≡ Some x → x.version ≡ version_in past slot

-- the page is back
abbrev pub IsBack : Loaded → Type 0
IsBack (answers.Here e) = Unit {0}
IsBack (answers.Bus e why) = ⊥
