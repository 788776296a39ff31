-- The holds behind an entry, by what the tables show.
use Rattle.std.specs.Prelude.{ℕ, ◌≡◌, ◌<◌, ◌≤◌, Bool, true, false, if◌then◌else◌, List, ◌∷◌, ◌++◌, Option}
use Rattle.std.specs.Prelude.{None, Some, IfSome, is_some, length, map, slice_get}
use Rattle.sgx_rules.specs.declared.entries.Action.{Action}
use Rattle.sgx_rules.specs.declared.entries.Action.TheVariants.{Aex, EldStart, Fill, Resume}
use Rattle.sgx_types.specs.declared.names.Actor.{Actor}
use Rattle.sgx_types.specs.declared.names.Actor.TheVariants as actors
use Rattle.sgx_rules.specs.declared.entries.Cause.TheVariants.{Fault}
use Rattle.sgx_rules.specs.declared.entries.Entry.{Entry}
use Rattle.sgx_rules.specs.declared.entries.Event.{Event}
use Rattle.sgx_types.specs.declared.names.Frame.{Frame}
use Rattle.sgx_types.specs.declared.names.Page.{Page}
use Rattle.sgx_types.specs.declared.names.SlotAt.{SlotAt}
use Rattle.sgx_types.specs.Pages.{is_own_page, is_va_page, page_at, same_page}
use Rattle.cached_translations.specs.declared.processor.Mode.{Mode}
use Rattle.cached_translations.specs.declared.processor.Mode.TheVariants.{Inside, Outside}
use Rattle.job_grammar.specs.declared.jobs.Op.{Op}
use Rattle.job_grammar.specs.declared.jobs.Op.TheVariants as ops
use Rattle.job_grammar.specs.Jobs.{JobView}
use Rattle.script_rules.specs.inner.Cursor.{IsCursor, left}
use Rattle.script_rules.specs.Script.{action_of, is_reply}
use Rattle.driver_list.specs.inner.Active.{ActiveList, with_hold, without_holds}
use Rattle.driver_list.specs.inner.Holds.{joined, most_of, own_of}
use Rattle.driver_list.specs.inner.Places.{IsPlaced}
use Rattle.driver_list.specs.inner.States.{StateTable, state_of as page_state}
use Rattle.sgx_machine.specs.inner.Parts.{Parts, cpu_at}
use Rattle.driver_rules.specs.Holds.{page_extended}
use Rattle.driver_rules.specs.Needs.{listed}
use Rattle.driver_rules.specs.Places.{is_here, place}
use Rattle.driver_rules.specs.Scripts.{ScriptRule}
use Rattle.driver_laws.specs.inner.Agrees.{Keeping}
use Rattle.driver_laws.specs.inner.Sound.{times}
use Rattle.driver_laws.specs.inner.Three.{HoldsThree}
use Rattle.driver_tables.specs.declared.driver.Driver.{Driver}
use Rattle.driver_tables.specs.inner.Held.{ShowsHolds}
use Rattle.driver_tables.specs.inner.Tables.{place_in}
use Rattle.due_tables.specs.declared.cpu_turns.Interruption.{Interruption}
use Rattle.due_tables.specs.declared.holding.HeldPages.{HeldPages}
use Rattle.due_tables.specs.declared.holding.Needed.{Needed}
use Rattle.due_tables.specs.declared.tcs_turns.TcsTurn.{TcsTurn}
use Rattle.due_tables.specs.declared.turns.Turns.{Turns}
use Rattle.due_tables.specs.inner.Asked.{access_page, here_seen, last_save_of, next_save_of, op_at}
use Rattle.due_tables.specs.inner.CpuTurns.{turn_at}
use Rattle.due_tables.specs.inner.Due.{IsOrderly, IsShown}
use Rattle.due_tables.specs.inner.Shown.{ShowsTurns}
use Rattle.due_tables.specs.inner.TcsTurns.{rows, tcs_at}

-- ---- the pages that a processor begins to hold

abbrev pub none_held : HeldPages
none_held = record { first = None; second = None; third = None }

abbrev pub one_held : Option Page → HeldPages
one_held page = record { first = page; second = None; third = None }

abbrev pub page_inside_of : Mode → ℕ → Option Page
page_inside_of Outside number = None
page_inside_of (Inside enclave tcs tf sf epoch) number = Some (page_at enclave number)

abbrev pub access_inside_of : Mode → Option Op → Option Page
access_inside_of (Inside enclave tcs tf sf epoch) (Some op) = access_page enclave op
access_inside_of _ op = None

abbrev pub resume_needs : (Page → Option TcsTurn) → ℕ → ℕ → Needed
resume_needs turns enclave tcs = record { tcs = page_at enclave tcs; save = last_save_of enclave (turns (page_at enclave tcs)) }

abbrev pub enter_needs : (Page → Option TcsTurn) → ℕ → ℕ → Needed
enter_needs turns enclave tcs = record { tcs = page_at enclave tcs; save = next_save_of enclave (turns (page_at enclave tcs)) }

-- the TCS page and the state save page that a processor outside needs
abbrev pub needed_of : (Page → Option TcsTurn) → Option Interruption → Option Op → Option Needed
needed_of turns (Some i) op = Some (resume_needs turns i.enclave i.tcs)
needed_of turns None (Some (ops.Enter enclave tcs)) = Some (enter_needs turns enclave tcs)
needed_of turns None (Some (ops.Resume enclave tcs)) = Some (resume_needs turns enclave tcs)
needed_of turns None _ = None

-- a page that it brings back, with those that it needs before it
abbrev pub loads_held : Option Needed → Page → HeldPages
loads_held None page = record { first = None; second = None; third = Some page }
loads_held (Some x) page = record {
  first = Some x.tcs;
  second = if same_page page x.tcs then None else x.save;
  third = Some page;
}

-- .. which is a SECS or a version array page, with those of them that are here. No SECS is held
abbrev pub array_held : Page → Option Page
array_held page = if is_va_page page then Some page else None

abbrev pub if_here : (Page → Bool) → Option Page → Option Page
if_here here None = None
if_here here (Some g) = if here g then Some g else None

abbrev pub aside_held : (Page → Bool) → Option Needed → Page → HeldPages
aside_held here None page = record { first = None; second = None; third = array_held page }
aside_held here (Some x) page =
    if here x.tcs then record { first = Some x.tcs; second = if_here here x.save; third = array_held page }
    else record { first = None; second = None; third = array_held page }

abbrev pub brought : (Page → Bool) → Option Needed → Page → HeldPages
brought here needed page = if is_own_page page then loads_held needed page else aside_held here needed page

abbrev pub held_of : (Page → Bool) → (Page → Option TcsTurn) → Mode → Option Interruption → Option Op → Option Action → HeldPages
held_of here turns before i op (Some (Fill number f)) = one_held (page_inside_of before number)
held_of here turns before i op (Some (Aex Fault)) = one_held (access_inside_of before op)
held_of here turns before i op (Some (EldStart f page slot)) = brought here (needed_of turns i op) page
held_of here turns before i op (Some (Resume enclave tcs tf sf)) =
    record { first = Some (page_at enclave tcs); second = last_save_of enclave (turns (page_at enclave tcs)); third = None }
held_of here turns before i op _ = none_held

abbrev pub pages_of : HeldPages → List Page
pages_of h = listed h.first ++ (listed h.second ++ listed h.third)

-- ---- holds

abbrev pub holding : ActiveList → ℕ → Option Page → ActiveList
holding list holder None = list
holding list holder (Some g) = with_hold list holder g

abbrev pub holding_all : ActiveList → ℕ → HeldPages → ActiveList
holding_all list holder h = holding (holding (holding list holder h.first) holder h.second) holder h.third

-- a page of the job can be held, since the actor has room for it
pub record FitsHold (list : ActiveList) (holder : ℕ) (g : Page) : Type 0 where
  pub placed : IsPlaced list.counts g
  pub room : length (joined (own_of list.own holder) g) ≤ most_of holder

pub record FitsAll (list : ActiveList) (holder : ℕ) (h : HeldPages) : Type 0 where
  pub first : IfSome h.first (FitsHold list holder)
  pub second : IfSome h.second (FitsHold (holding list holder h.first) holder)
  pub third : IfSome h.third (FitsHold (holding (holding list holder h.first) holder h.second) holder)

-- the page that the builder measures behind its next step
abbrev pub measured_next : JobView → Turns → Option Page
measured_next j t = page_extended (slice_get (left j t.cursor) 1)

-- no actor holds a page twice
abbrev pub HoldsOnce : List (List Page) → Type 0
HoldsOnce own = (p : ℕ) (g : Page) → times (own_of own p) g ≤ 1

-- ---- behind an entry

abbrev pub mode_of : Parts → Actor → Mode
mode_of m (actors.Cpu p) = (cpu_at m p.0).mode
mode_of m _ = Outside

abbrev pub own_held : JobView → StateTable → Turns → ℕ → Mode → Event → HeldPages
own_held j table t p before event =
    held_of (here_seen table t) (tcs_at t.tcs) before (turn_at t.cpus p).interruption (op_at j p (turn_at t.cpus p).replied)
    (action_of event)

-- the holds of a processor end with each reply, and else some begin
abbrev pub own_after : Bool → ActiveList → ℕ → HeldPages → ActiveList
own_after true list p h = without_holds list p
own_after false list p h = holding_all list p h

abbrev pub replies : Turns → ℕ → Event → Bool
replies t p event = is_reply (is_some (turn_at t.cpus p).interruption) event

abbrev pub held_after : JobView → StateTable → Turns → Mode → Actor → Event → ActiveList → ActiveList
held_after j table t before actors.Builder event list = holding (without_holds list 16) 16 (measured_next j t)
held_after j table t before (actors.Cpu p) event list = own_after (replies t p.0 event) list p.0 (own_held j table t p.0 before event)
held_after j table t before actors.Reclaimer event list = list

pub record FitsOwn (j : JobView) (table : StateTable) (t : Turns) (before : Mode) (p : ℕ) (event : Event) (list : ActiveList) : Type 0 where
  pub turn : p < length t.cpus
  pub holder : p < 16
  -- the tables have the places of the states
  pub places : map length t.tcs ≡ rows table.counts
  pub pages : replies t p event ≡ false → FitsAll list p (own_held j table t p before event)

pub record FitsNext (j : JobView) (t : Turns) (list : ActiveList) : Type 0 where
  pub cursor : IsCursor j t.cursor
  pub page : IfSome (measured_next j t) (FitsHold (without_holds list 16) 16)

-- what begins to be held can be held
abbrev pub FitsEntry : JobView → StateTable → Turns → Mode → Actor → Event → ActiveList → Type 0
FitsEntry j table t before actors.Builder event list = FitsNext j t list
FitsEntry j table t before (actors.Cpu p) event list = FitsOwn j table t before p.0 event list
FitsEntry j table t before actors.Reclaimer event list = Unit {0}

-- the holds that are kept are those of the entries, each once
pub record KeepsHolds (j : JobView) (own : List (List Page)) (past : List Entry) : Type 0 where
  pub shows : ShowsHolds j own past
  pub once : HoldsOnce own

-- what is supposed of an entry, so that its holds can be kept. The list is that of the tables but for its pages and their marks, and the
-- states tell at the start of a load which pages are here
pub record CanHold (j : JobView) (table : StateTable) (list : ActiveList) (before : Mode) (t : Turns) (e : Entry) : Type 0 where
  pub keeping : Keeping
  pub past : List Entry
  -- the tables and the machine before the entry
  pub d : Driver
  pub m : Parts
  pub shown : IsShown keeping j past d m
  pub own : list.own ≡ d.active.own
  pub counts : list.counts ≡ d.active.counts
  pub places : table.counts ≡ d.states.counts
  pub here : (f : Frame) (page : Page) (slot : SlotAt) → action_of e.event ≡ Some (EldStart f page slot)
      → (g : Page) → IsPlaced table.counts g → is_here (place_in (page_state table g)) ≡ is_here (place past g)
  -- the entry's processor stood so before it
  pub stood : before ≡ mode_of m e.actor
  pub shows : ShowsTurns j past t
  pub orderly : IsOrderly j past
  pub script : ScriptRule j past e
  pub holds : KeepsHolds j list.own past
  -- what each processor holds is of three pages and of version array pages, behind the entry too
  pub three : (p : ℕ) → HoldsThree j past p
  pub after : (p : ℕ) → HoldsThree j (e ∷ past) p
