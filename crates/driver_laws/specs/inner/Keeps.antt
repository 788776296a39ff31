-- How the keeper of the version slots moves with each kind of entry.
use Rattle.std.specs.Prelude.{◌≡◌, Bool, true, false, List, Some, count_by, take}
use Rattle.sgx_rules.specs.declared.entries.Action.TheVariants.{Add, Eld, Epa, EwbStart}
use Rattle.sgx_rules.specs.declared.entries.Entry.{Entry}
use Rattle.sgx_rules.specs.declared.entries.Event.{Event}
use Rattle.sgx_rules.specs.declared.entries.Event.TheVariants.{Age, Did, Refused}
use Rattle.sgx_types.specs.declared.names.SlotAt.{SlotAt}
use Rattle.sgx_types.specs.declared.names.VaSlot.{VaSlot}
use Rattle.sgx_rules.specs.Frames.{content, vas_made}
use Rattle.sgx_types.specs.Pages.{is_va_page}
use Rattle.sgx_rules.specs.Starts.{slot_found}
use Rattle.sgx_rules.specs.Slots.{open_slot}
use Rattle.driver_slots.specs.inner.Keeper.{Adds, count_out, Gives, HasSame, is_ours, is_out, Keeper, Takes}
use Rattle.job_grammar.specs.Jobs.{JobView, va_pages}
use Rattle.script_rules.specs.declared.steps.BuildStep.{BuildStep}
use Rattle.script_rules.specs.Script.{build_of, built}
use Rattle.driver_laws.specs.inner.Agrees.{has_pages, Keeping}
use Rattle.sgx_rules.specs.declared.entries.Look.TheVariants as looks
use Rattle.sgx_rules.specs.declared.refusals.Refusal.TheVariants as why
use Rattle.script_rules.specs.declared.steps.BuildStep.TheVariants as builds

-- the same slots are out, of the same pages
pub record IsSameOut (old new : Keeper) : Type 0 where
  pub pages : HasSame old new
  pub out : (s : VaSlot) → is_out new s ≡ is_out old s
  pub counted : count_out new ≡ count_out old

-- a slot is taken where it is the keeper's
abbrev pub TakesIf : Keeper → VaSlot → Keeper → Type 0
TakesIf old s new = (is_ours old s ≡ true → Takes old s new) × (is_ours old s ≡ false → IsSameOut old new)

abbrev pub GivesIf : Keeper → VaSlot → Keeper → Type 0
GivesIf old s new = (is_ours old s ≡ true → Gives old s new) × (is_ours old s ≡ false → IsSameOut old new)

-- a try that found its slot in use leaves it out, or nothing
abbrev pub OccupiedMoves : Bool → List Entry → SlotAt → Keeper → Keeper → Type 0
OccupiedMoves true past at old new = (s : VaSlot) × (slot_found (content past) at ≡ Some s) × TakesIf old s new
OccupiedMoves false past at old new = IsSameOut old new

-- a version array page is added, a write-out takes its slot, the end of a load gives its slot back, and every other entry leaves them.
-- Another refused write-out took a slot and gave it back
abbrev pub KeeperMoves : Keeping → List Entry → Event → Keeper → Keeper → Type 0
KeeperMoves k past (Did (Epa f) answer) old new = Adds old (vas_made past) (k.firsts (vas_made past)) new
KeeperMoves k past (Did (EwbStart f at) answer) old new = (s : VaSlot) × (slot_found (content past) at ≡ Some s) × TakesIf old s new
KeeperMoves k past (Did (Eld f) answer) old new = (s : VaSlot) × (open_slot past f.0 ≡ Some s) × GivesIf old s new
KeeperMoves k past (Refused (EwbStart f at) (why.SlotOccupied version)) old new = OccupiedMoves k.keeps past at old new
KeeperMoves k past _ old new = IsSameOut old new

-- a version array page leaves only with each of the keeper's slots out
abbrev pub LeavesFull : Keeper → Event → Type 0
LeavesFull keeper (Age page looks.Taken) =
    is_va_page page ≡ true → (s : VaSlot) → s.va ≡ page.number → is_ours keeper s ≡ true → is_out keeper s ≡ true
LeavesFull keeper _ = Unit {0}

-- the version array pages are made first, all of them before a page is added
abbrev pub ArraysFirst : JobView → List Entry → Event → Type 0
ArraysFirst j past (Did (Epa f) answer) = has_pages past ≡ false
ArraysFirst j past (Did (Add enclave number f kind perm init) answer) = vas_made past ≡ va_pages j
ArraysFirst j past _ = Unit {0}

-- a step of the build makes a version array page
abbrev pub is_va_step : BuildStep → Bool
is_va_step builds.Va = true
is_va_step _ = false

abbrev pub is_epa : Event → Bool
is_epa (Did (Epa f) answer) = true
is_epa _ = false

abbrev pub is_epa_refused : Event → Bool
is_epa_refused (Refused (Epa f) refusal) = true
is_epa_refused _ = false

-- as many version array pages were made as the builder's steps till now make
abbrev pub ArraysAreBuilt : JobView → List Entry → Type 0
ArraysAreBuilt j past = vas_made past ≡ count_by is_va_step (take (built past) (build_of j))
