-- What an instruction that moves no page out or back does to the driver's tables, by the tables alone.
use Rattle.std.specs.Prelude.{ℕ, ◌≡◌, ◌==◌, ◌<◌, ◌≤◌, if◌then◌else◌, false, List, Option, None, Some, IfSome, length, map}
use Rattle.sgx_rules.specs.declared.entries.Action.{Action}
use Rattle.sgx_rules.specs.declared.entries.Action.TheVariants.{Epa, Create, Add, Enter, Resume, Fill, Load, Store, Xadd}
use Rattle.sgx_rules.specs.declared.entries.Answer.{Answer}
use Rattle.sgx_rules.specs.declared.entries.Answer.TheVariants.{Va}
use Rattle.sgx_rules.specs.declared.entries.Event.{Event}
use Rattle.sgx_rules.specs.declared.entries.Event.TheVariants.{Did}
use Rattle.sgx_types.specs.declared.names.Frame.{Frame}
use Rattle.sgx_types.specs.declared.names.Page.{Page}
use Rattle.sgx_types.specs.Pages.{page_at, secs_page, va_page}
use Rattle.cached_translations.specs.declared.processor.Mode.{Mode}
use Rattle.cached_translations.specs.declared.processor.Mode.TheVariants.{Inside, Outside}
use Rattle.driver_list.specs.declared.page_states.PageState.TheVariants as states
use Rattle.driver_list.specs.declared.ring.Listed.{Listed}
use Rattle.driver_list.specs.inner.Active.{pushed}
use Rattle.driver_list.specs.inner.Listing.{touched}
use Rattle.driver_list.specs.inner.Places.{IsPlaced}
use Rattle.driver_list.specs.inner.Ring.{is_listed}
use Rattle.driver_list.specs.inner.States.{with_state}
use Rattle.driver_slots.specs.inner.Keeper.{is_added}
use Rattle.driver_tables.specs.declared.driver.Driver.{Driver}
use Rattle.driver_tables.specs.inner.Moves.{HasArray, with_here}
use Rattle.due_tables.specs.declared.turns.Turns.{Turns}
use Rattle.due_tables.specs.inner.Asked.{last_save_of, next_save_of, page_of}
use Rattle.due_tables.specs.inner.Holding.{page_inside_of}
use Rattle.due_tables.specs.inner.TcsTurns.{tcs_at}

-- the page of an offset in the enclave that the processor is inside
abbrev pub offset_inside_of : Mode → ℕ → Option Page
offset_inside_of Outside off = None
offset_inside_of (Inside enclave tcs tf sf epoch) off = Some (page_of enclave off)

abbrev pub touched_if : Option Page → List Listed → List Listed
touched_if None pages = pages
touched_if (Some g) pages = map (touched g) pages

-- the tables with a page young, if there is one
abbrev pub touching : Driver → Option Page → Driver
touching d page = record d { active = record d.active { pages = touched_if page d.active.pages } }

-- ---- what is done

-- the first slot of a version array page that the keeper has, where it has those of page 0 from this one on
abbrev pub first_slot : ℕ → ℕ → ℕ
first_slot first va = if va == 0 then first else 0

-- a version array page more, by the number that it was told by
abbrev pub MakesArray : ℕ → Frame → Answer → Driver → Driver → Type 0
MakesArray first f (Va va) old new = HasArray old va (first_slot first va) f new
MakesArray first f answer old new = new ≡ old

-- a page more that is here, listed as the last
abbrev pub with_page : Driver → Page → Frame → Driver
with_page d g f = record d { active = pushed d.active g; states = with_state d.states g (states.Here f) }

-- by an instruction that was done with this answer, and before which its processor stood so
abbrev pub Does : Turns → ℕ → Mode → Action → Answer → Driver → Driver → Type 0
Does t first before (Epa f) answer old new = MakesArray first f answer old new
Does t first before (Create enclave f base size) answer old new = new ≡ with_here old (secs_page enclave) f
Does t first before (Add enclave number f kind perm init) answer old new = new ≡ with_page old (page_at enclave number) f
Does t first before (Fill number f) answer old new = new ≡ touching old (page_inside_of before number)
Does t first before (Load off) answer old new = new ≡ touching old (offset_inside_of before off)
Does t first before (Store off value) answer old new = new ≡ touching old (offset_inside_of before off)
Does t first before (Xadd off value) answer old new = new ≡ touching old (offset_inside_of before off)
Does t first before (Enter enclave tcs tf sf) answer old new =
    new ≡ touching (touching old (next_save_of enclave (tcs_at t.tcs (page_at enclave tcs)))) (Some (page_at enclave tcs))
Does t first before (Resume enclave tcs tf sf) answer old new =
    new ≡ touching (touching old (last_save_of enclave (tcs_at t.tcs (page_at enclave tcs)))) (Some (page_at enclave tcs))
Does t first before _ answer old new = new ≡ old

abbrev pub DoesEvent : Turns → ℕ → Mode → Event → Driver → Driver → Type 0
DoesEvent t first before (Did action answer) old new = Does t first before action answer old new
DoesEvent t first before _ old new = new ≡ old

-- ---- what it needs

pub record FitsArray (d : Driver) (first va : ℕ) : Type 0 where
  pub placed : IsPlaced d.states.counts (va_page va)
  pub room : length d.slots.arrays < d.slots.room
  pub fresh : is_added d.slots va ≡ false
  pub within : first ≤ 512

abbrev pub FitsAnswer : Driver → ℕ → Answer → Type 0
FitsAnswer d first (Va va) = FitsArray d first va
FitsAnswer d first answer = Unit {0}

pub record FitsPage (d : Driver) (g : Page) : Type 0 where
  pub placed : IsPlaced d.active.counts g
  pub absent : is_listed d.active.pages g ≡ false
  pub counts : d.states.counts ≡ d.active.counts

pub record FitsBoth (d : Driver) (tcs : Page) (save : Option Page) : Type 0 where
  pub tcs_placed : IsPlaced d.active.counts tcs
  pub save_placed : IfSome save (IsPlaced d.active.counts)

abbrev pub Fits : Turns → ℕ → Mode → Action → Answer → Driver → Type 0
Fits t first before (Epa f) answer d = FitsAnswer d first answer
Fits t first before (Create enclave f base size) answer d = IsPlaced d.states.counts (secs_page enclave)
Fits t first before (Add enclave number f kind perm init) answer d = FitsPage d (page_at enclave number)
Fits t first before (Fill number f) answer d = IfSome (page_inside_of before number) (IsPlaced d.active.counts)
Fits t first before (Load off) answer d = IfSome (offset_inside_of before off) (IsPlaced d.active.counts)
Fits t first before (Store off value) answer d = IfSome (offset_inside_of before off) (IsPlaced d.active.counts)
Fits t first before (Xadd off value) answer d = IfSome (offset_inside_of before off) (IsPlaced d.active.counts)
Fits t first before (Enter enclave tcs tf sf) answer d =
    FitsBoth d (page_at enclave tcs) (next_save_of enclave (tcs_at t.tcs (page_at enclave tcs)))
Fits t first before (Resume enclave tcs tf sf) answer d =
    FitsBoth d (page_at enclave tcs) (last_save_of enclave (tcs_at t.tcs (page_at enclave tcs)))
Fits t first before _ answer d = Unit {0}

abbrev pub FitsEvent : Turns → ℕ → Mode → Event → Driver → Type 0
FitsEvent t first before (Did action answer) d = Fits t first before action answer d
FitsEvent t first before _ d = Unit {0}
