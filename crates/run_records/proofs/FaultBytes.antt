-- The entry of a fault step carries the standing on: the start of a load by its own clause, and why a page does not come back by the
-- machine's.
use Rattle.std.specs.Prelude.{IfSome}
use Rattle.std.proofs.Common.{◌≡◌, ℕ, Bool, true, false, refl, sym, ap, subst, List, Option, Some, None, MatchOption, Result, Ok, Err}
use Rattle.sgx_rules.specs.declared.entries.Action.TheVariants.{EldStart}
use Rattle.sgx_types.specs.declared.names.Actor.TheVariants as actors
use Rattle.sgx_rules.specs.declared.entries.BusWhy.{BusWhy}
use Rattle.sgx_rules.specs.declared.entries.Entry.{Entry}
use Rattle.sgx_types.specs.declared.names.Cpu.{Cpu}
use Rattle.sgx_types.specs.declared.names.Frame.{Frame}
use Rattle.sgx_types.specs.declared.names.Page.{Page}
use Rattle.sgx_types.specs.declared.names.SlotAt.{SlotAt}
use Rattle.sgx_types.specs.declared.names.VaSlot.{VaSlot}
use Rattle.sgx_rules.specs.declared.refusals.Refusal.{Refusal}
use Rattle.sgx_rules.specs.Frames.{least_free}
use Rattle.sgx_types.specs.Making.{Making}
use Rattle.sgx_types.specs.Sealed.{Sealed}
use Rattle.sgx_types.specs.Cases.{first_of_row}
use Rattle.job_grammar.specs.Jobs.{JobView}
use Rattle.backing_store.specs.Calls.{Call}
use Rattle.backing_store.specs.declared.backing.StoreFault.{StoreFault}
use Rattle.backing_store.specs.declared.backing.StoreFault.TheVariants as faults
use Rattle.machine_laws.specs.inner.State.{State, row_of}
use Rattle.machine_laws.specs.inner.Steps.{IsDone, IsStep, refused_by}
use Rattle.sgx_machine.specs.inner.Parts.{Parts, state_of}
use Rattle.sgx_types.specs.Pages.{frame_at}
use Rattle.driver_list.specs.declared.page_states.PageState.{PageState}
use Rattle.driver_list.specs.declared.page_states.PageState.TheVariants as states
use Rattle.driver_tables.specs.inner.Carried.{Carries}
use Rattle.driver_rules.specs.inner.Reclaims.{is_refused}
use Rattle.driver_tables.specs.declared.driver.Driver.{Driver}
use Rattle.driver_tables.specs.inner.Targets.{slot_here_in}
use Rattle.run_calls.specs.inner.Comes.{bus_of}
use Rattle.driver_faults.specs.declared.answers.FaultAnswer.{FaultAnswer}
use Rattle.driver_faults.specs.declared.answers.FaultAnswer.TheVariants as answers
use Rattle.driver_faults.specs.inner.Resolving.{FetchesPage, IsGot, IsResolved, IsStarted}
use Rattle.run_laws.specs.inner.Books.{CarriesBytes}
use Rattle.run_laws.specs.inner.Loads.{OfAnswer}
use Rattle.run_records.specs.inner.Records.{StaysWith, writes_out}
use Rattle.run_records.proofs.StepBytes.{note_bytes, step_bytes}

-- ---- what a fault step leaves the machine as

-- the start of a load, done or refused, is no write-out
record IsLoadStart (m m' : Parts) (e : Entry) : Type 0 where
  carries : Carries (state_of m) e (state_of m')
  quiet : writes_out e.event ≡ false

start_quiet : (s t : State) (cpu : Cpu) (f : Frame) (page : Page) (slot : SlotAt) (e : Entry)
    → IsStep s (actors.Cpu cpu) (EldStart f page slot) e t → writes_out e.event ≡ false
start_quiet s t cpu f page slot e = by_row (first_of_row (row_of s (actors.Cpu cpu) (EldStart f page slot)))
  where
    by_row : (o : Option Refusal) → MatchOption o (IsDone s (actors.Cpu cpu) (EldStart f page slot) e t)
        (λ refusal. (e ≡ refused_by (actors.Cpu cpu) (EldStart f page slot) refusal) × (t ≡ s)) → writes_out e.event ≡ false
    by_row None k = ap (λ (x : Entry). writes_out x.event) k.0
    by_row (Some refusal) k = ap (λ (x : Entry). writes_out x.event) k.0

-- by its answer
abbrev DidSo : FaultAnswer → Parts → Parts → Type 0
DidSo (answers.Started e work) m m' = IsLoadStart m m' e
DidSo (answers.Slot e) m m' = IsLoadStart m m' e
DidSo (answers.Bus why) m m' = m' ≡ m
DidSo answer m m' = Unit {0}

started : (cpu : Cpu) (page : Page) (slot : VaSlot) (at : SlotAt) (f : Frame) (rec : Sealed) (answer : FaultAnswer) (d d' : Driver)
    (m m' : Parts) → IsStarted cpu page slot at f rec d m answer d' m' → DidSo answer m m'
started cpu page slot at f rec answer d d' m m' is = by_refused (is_refused is.entry.event) refl
  where
    start : IsLoadStart m m' is.entry
    start = record { carries = is.carries; quiet = start_quiet (state_of m) (state_of m') cpu f page at is.entry is.step }

    by_refused : (b : Bool) → is_refused is.entry.event ≡ b → DidSo answer m m'
    by_refused true refused = subst (λ a. DidSo a m m') (sym (is.refused refused).0) start
    by_refused false done = subst (λ a. DidSo a m m') (sym (is.started done).says) start

got_did : (cpu : Cpu) (page : Page) (slot : VaSlot) (at : SlotAt) (f : Frame) (got : Result (Option Sealed) StoreFault)
    (answer : FaultAnswer) (d d' : Driver) (m m' : Parts) → IsGot cpu page slot at f got d m answer d' m' → DidSo answer m m'
got_did cpu page slot at f (Ok (Some rec)) answer d d' m m' is = started cpu page slot at f rec answer d d' m m' is
got_did cpu page slot at f (Ok None) answer d d' m m' is = rw is.says is.machine
got_did cpu page slot at f (Err faults.Failed) answer d d' m m' is = rw is.says is.machine
got_did cpu page slot at f (Err faults.Memory) answer d d' m m' is = absurd is

fetch_did : (cpu : Cpu) (page : Page) (slot : VaSlot) (at : Option SlotAt) (o : Option ℕ) (answer : FaultAnswer) (d d' : Driver)
    (m m' : Parts) (told told' : Option (List Call)) → FetchesPage cpu page slot at o d m told answer d' m' told' → DidSo answer m m'
fetch_did cpu page slot None o answer d d' m m' told told' is = absurd is
fetch_did cpu page slot (Some at) None answer d d' m m' told told' is = rw is.does.says tt
fetch_did cpu page slot (Some at) (Some f) answer d d' m m' told told' is =
    got_did cpu page slot at (frame_at f) is.got answer d d' m m' is.does

resolved_did : (cpu : Cpu) (page : Page) (x : PageState) (answer : FaultAnswer) (d d' : Driver) (m m' : Parts)
    (told told' : Option (List Call)) → IsResolved cpu page x d m told answer d' m' told' → DidSo answer m m'
resolved_did cpu page (states.Away slot) answer d d' m m' told told' is =
    fetch_did cpu page slot (slot_here_in d slot) (least_free (state_of m).frames (state_of m).content) answer d d' m m' told told' is
resolved_did cpu page (states.Lost slot) answer d d' m m' told told' is = rw is.does.says is.does.machine
resolved_did cpu page (states.Here f) answer d d' m m' told told' is = rw is.does.says tt
resolved_did cpu page states.Absent answer d d' m m' told told' is = rw is.does.says tt
resolved_did cpu page (states.Leaving f) answer d d' m m' told told' is = rw is.does.says tt
resolved_did cpu page (states.Loading f slot) answer d d' m m' told told' is = rw is.does.says tt

-- ---- the entry carries the standing on

-- a fact of all calls is one of those that a store tells
all_told : (P : List Call → Type 0) (told : Option (List Call)) → ((longer : List Call) → P longer) → IfSome told P
all_told P None each = tt
all_told P (Some longer) each = each longer

pub answer_bytes : (made : Making) (j : JobView) (past : List Entry) (d d' : Driver) (m m' : Parts) (cpu : Cpu) (page : Page)
    (state : PageState) (answer : FaultAnswer) (told told' : Option (List Call)) → IsResolved cpu page state d m told answer d' m' told'
    → ((why : BusWhy) → answer ≡ answers.Bus why → StaysWith (state_of m) (bus_of cpu page why))
    → OfAnswer cpu page answer (λ e. IfSome told' (CarriesBytes made j past m e m'))
answer_bytes made j past d d' m m' cpu page state answer told told' is =
    by_answer answer (resolved_did cpu page state answer d d' m m' told told' is)
  where
    by_answer : (a : FaultAnswer) → DidSo a m m'
        → ((why : BusWhy) → a ≡ answers.Bus why → StaysWith (state_of m) (bus_of cpu page why))
        → OfAnswer cpu page a (λ e. IfSome told' (CarriesBytes made j past m e m'))
    by_answer (answers.Started e work) did stays =
        all_told (CarriesBytes made j past m e m') told' (λ longer. step_bytes made j past m m' e longer did.carries did.quiet)
    by_answer (answers.Slot e) did stays =
        all_told (CarriesBytes made j past m e m') told' (λ longer. step_bytes made j past m m' e longer did.carries did.quiet)
    by_answer (answers.Bus why) did stays =
        subst (λ (x : Parts). IfSome told' (CarriesBytes made j past m (bus_of cpu page why) x)) (sym did)
        (all_told (CarriesBytes made j past m (bus_of cpu page why) m) told'
        (λ longer. note_bytes made j past m (bus_of cpu page why) longer tt (stays why refl)))
    by_answer answers.Here did stays = tt
    by_answer (answers.Again why) did stays = tt
