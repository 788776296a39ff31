-- The entry of a fault step is the next of what driver and machine agree on.
use Rattle.std.proofs.Common.{◌≡◌, ◌<◌, ℕ, Bool, true, false, refl, sym, ◌∙◌, ap, subst, List}
use Rattle.std.proofs.Common.{◌∷◌, Option, Some, None, inl, inr, Result, Ok, Err, length}
use Rattle.sgx_rules.specs.declared.entries.Action.TheVariants.{EldStart, Eld}
use Rattle.sgx_types.specs.declared.names.Actor.TheVariants as actors
use Rattle.sgx_rules.specs.declared.entries.BusWhy.{BusWhy}
use Rattle.sgx_rules.specs.declared.entries.Entry.{Entry}
use Rattle.sgx_rules.specs.declared.entries.Event.TheVariants.{Bus}
use Rattle.sgx_types.specs.declared.names.Cpu.{Cpu}
use Rattle.sgx_types.specs.declared.names.Frame.{Frame}
use Rattle.sgx_types.specs.declared.names.Page.{Page}
use Rattle.sgx_types.specs.declared.names.SlotAt.{SlotAt}
use Rattle.sgx_types.specs.declared.names.VaSlot.{VaSlot}
use Rattle.sgx_rules.specs.Frames.{least_free}
use Rattle.sgx_types.specs.Making.{Making}
use Rattle.sgx_rules.specs.inner.Rules.{LoadsAwayRule}
use Rattle.sgx_types.specs.Sealed.{Sealed}
use Rattle.job_grammar.specs.Jobs.{JobView}
use Rattle.backing_store.specs.Calls.{Call}
use Rattle.backing_store.specs.declared.backing.StoreFault.{StoreFault}
use Rattle.backing_store.specs.declared.backing.StoreFault.TheVariants as faults
use Rattle.machine_laws.specs.inner.Shape.{ShapeWithRules}
use Rattle.machine_laws.specs.inner.State.{State}
use Rattle.machine_laws.specs.inner.Steps.{IsStep}
use Rattle.sgx_machine.specs.inner.Parts.{Parts, state_of}
use Rattle.driver_slots.specs.inner.Keeper.{count_out}
use Rattle.sgx_types.specs.Pages.{frame_at}
use Rattle.driver_list.specs.inner.States.{state_of as page_state}
use Rattle.driver_list.specs.declared.page_states.PageState.{PageState}
use Rattle.driver_list.specs.declared.page_states.PageState.TheVariants as states
use Rattle.driver_rules.specs.Dues.{Ends, IsNext}
use Rattle.driver_rules.specs.Passes.{pass}
use Rattle.driver_rules.specs.Places.{Absent, Away, Here, Leaving, Loading, Place, place}
use Rattle.driver_rules.specs.inner.Reclaims.{is_refused}
use Rattle.driver_rules.specs.Stops.{is_spent}
use Rattle.driver_rules.specs.Turns.{Fails, Last, Loads, Other, WasEnded, cpu_due, fetches, last_of}
use Rattle.driver_rules.specs.inner.Slotted.{SlotTells}
use Rattle.driver_laws.specs.inner.Agrees.{drivers, loaded_by}
use Rattle.driver_laws.specs.inner.Counted.{CountMoves}
use Rattle.driver_laws.specs.inner.Inits.{InitTells}
use Rattle.driver_laws.specs.inner.Kinds.{CanMove}
use Rattle.driver_laws.specs.inner.Tracking.{TrackingRule}
use Rattle.driver_laws.specs.inner.Tracks.{TryTells}
use Rattle.driver_laws.specs.inner.Used.{StartTells}
use Rattle.driver_tables.specs.declared.driver.Driver.{Driver}
use Rattle.driver_tables.specs.inner.Tables.{ShowsTables}
use Rattle.driver_tables.specs.inner.Targets.{slot_here_in}
use Rattle.driver_tables.specs.inner.Agrees.{Agrees}
use Rattle.driver_tables.specs.inner.Asked.{IsNextOf}
use Rattle.driver_tables.specs.inner.Carried.{Carries}
use Rattle.run_calls.specs.inner.Comes.{bus_of}
use Rattle.driver_faults.specs.declared.answers.FaultAnswer.{FaultAnswer}
use Rattle.driver_faults.specs.declared.answers.FaultAnswer.TheVariants as answers
use Rattle.driver_faults.specs.inner.Due.{IsRight}
use Rattle.driver_faults.specs.inner.Resolving.{FetchesPage, IsGot, IsResolved, IsStarted}
use Rattle.driver_pass.specs.inner.Standing.{StandsAt}
use Rattle.driver_pass.specs.inner.Viewed.{is_amid, PassView}
use Rattle.run_laws.specs.inner.Loads.{GoesOnWith, OfAnswer}
use Rattle.due_notes.proofs.EntryLaws.{entry_by, IsEntryOf}
use Rattle.run_laws.proofs.PlainLaws.{beside, kicks, others_age}

-- ---- what a fault step did

-- a load's start, done or refused
record IsLoadStart (cpu : Cpu) (page : Page) (d d' : Driver) (m m' : Parts) (e : Entry) : Type 0 where
  frame : Frame
  at : SlotAt
  step : IsStep (state_of m) (actors.Cpu cpu) (EldStart frame page at) e (state_of m')
  carries : Carries (state_of m) e (state_of m')
  slots : d'.slots ≡ d.slots

-- nothing
record IsAsBefore (d d' : Driver) (m m' : Parts) : Type 0 where
  driver : d' ≡ d
  machine : m' ≡ m

-- by its answer
abbrev DidSo : Cpu → Page → FaultAnswer → Driver → Driver → Parts → Parts → Type 0
DidSo cpu page (answers.Started e work) d d' m m' = IsLoadStart cpu page d d' m m' e
DidSo cpu page (answers.Slot e) d d' m m' = IsLoadStart cpu page d d' m m' e
DidSo cpu page (answers.Bus why) d d' m m' = IsAsBefore d d' m m'
DidSo cpu page answer d d' m m' = Unit {0}

started : (cpu : Cpu) (page : Page) (slot : VaSlot) (at : SlotAt) (f : Frame) (rec : Sealed) (answer : FaultAnswer) (d d' : Driver)
    (m m' : Parts) → IsStarted cpu page slot at f rec d m answer d' m' → DidSo cpu page answer d d' m m'
started cpu page slot at f rec answer d d' m m' is = by_refused (is_refused is.entry.event) refl
  where
    start : d'.slots ≡ d.slots → IsLoadStart cpu page d d' m m' is.entry
    start same = record { frame = f; at = at; step = is.step; carries = is.carries; slots = same }

    by_refused : (b : Bool) → is_refused is.entry.event ≡ b → DidSo cpu page answer d d' m m'
    by_refused true refused =
        let k = is.refused refused in
        subst (λ a. DidSo cpu page a d d' m m') (sym k.0) (start (ap (λ (x : Driver). x.slots) k.1))
    by_refused false done =
        let k = is.started done in
        subst (λ a. DidSo cpu page a d d' m m') (sym k.says) (start (ap (λ (x : Driver). x.slots) k.driver))

got_did : (cpu : Cpu) (page : Page) (slot : VaSlot) (at : SlotAt) (f : Frame) (got : Result (Option Sealed) StoreFault)
    (answer : FaultAnswer) (d d' : Driver) (m m' : Parts) → IsGot cpu page slot at f got d m answer d' m' → DidSo cpu page answer d d' m m'
got_did cpu page slot at f (Ok (Some rec)) answer d d' m m' is = started cpu page slot at f rec answer d d' m m' is
got_did cpu page slot at f (Ok None) answer d d' m m' is = rw is.says record { driver = is.driver; machine = is.machine }
got_did cpu page slot at f (Err faults.Failed) answer d d' m m' is = rw is.says record { driver = is.driver; machine = is.machine }
got_did cpu page slot at f (Err faults.Memory) answer d d' m m' is = absurd is

fetch_did : (cpu : Cpu) (page : Page) (slot : VaSlot) (at : Option SlotAt) (o : Option ℕ) (answer : FaultAnswer) (d d' : Driver)
    (m m' : Parts) (told told' : Option (List Call)) → FetchesPage cpu page slot at o d m told answer d' m' told'
    → DidSo cpu page answer d d' m m'
fetch_did cpu page slot None o answer d d' m m' told told' is = absurd is
fetch_did cpu page slot (Some at) None answer d d' m m' told told' is = rw is.does.says tt
fetch_did cpu page slot (Some at) (Some f) answer d d' m m' told told' is =
    got_did cpu page slot at (frame_at f) is.got answer d d' m m' is.does

resolved_did : (cpu : Cpu) (page : Page) (x : PageState) (answer : FaultAnswer) (d d' : Driver) (m m' : Parts)
    (told told' : Option (List Call)) → IsResolved cpu page x d m told answer d' m' told' → DidSo cpu page answer d d' m m'
resolved_did cpu page (states.Away slot) answer d d' m m' told told' is =
    fetch_did cpu page slot (slot_here_in d slot) (least_free (state_of m).frames (state_of m).content) answer d d' m m' told told' is
resolved_did cpu page (states.Lost slot) answer d d' m m' told told' is =
    rw is.does.says record { driver = is.does.driver; machine = is.does.machine }
resolved_did cpu page (states.Here f) answer d d' m m' told told' is = rw is.does.says tt
resolved_did cpu page states.Absent answer d d' m m' told told' is = rw is.does.says tt
resolved_did cpu page (states.Leaving f) answer d d' m m' told told' is = rw is.does.says tt
resolved_did cpu page (states.Loading f slot) answer d d' m m' told told' is = rw is.does.says tt

-- ---- a processor that needs a page has no load to end

fetches_no_end : (frames : ℕ) (past : List Entry) (g : Page) (p : Place) (f : Frame) → Ends (Eld f) ≡ fetches frames past g p → ⊥
fetches_no_end frames past g (Away slot) f k = cc
fetches_no_end frames past g (Here n) f k = cc
fetches_no_end frames past g (Leaving n) f k = cc
fetches_no_end frames past g (Loading n slot) f k = cc
fetches_no_end frames past g Absent f k = cc

idle : (j : JobView) (past : List Entry) (p : ℕ) (page : Page) → is_spent past ≡ false
    → cpu_due j past p ≡ fetches j.epc past page (place past page) → loaded_by (last_of past p) ≡ None
idle j past p page going due = by_last (last_of past p) refl
  where
    by_last : (l : Last) → last_of past p ≡ l → loaded_by l ≡ None
    by_last (Loads f g) is =
        let ends : cpu_due j past p ≡ Ends (Eld (frame_at f)) = rw (going, is) refl in
        absurd (fetches_no_end j.epc past page (place past page) (frame_at f) (sym ends ∙ due))
    by_last (Fails g why) is = refl
    by_last WasEnded is = refl
    by_last Other is = refl

-- ---- the entry

-- what a load's start tells is so, and no slot is given or taken by it
record StartsSo (first : ℕ) (past : List Entry) (e : Entry) (old new : ℕ) : Type 0 where
  tries : TryTells past e.event
  starts : StartTells past e.event
  inits : InitTells past e.event
  tracking : TrackingRule first past e
  counts : CountMoves past e.event old new
  slots : (j : JobView) → SlotTells j past e.event

start_tells : (first : ℕ) (s t : State) (past : List Entry) (cpu : Cpu) (f : Frame) (page : Page) (at : SlotAt) (e : Entry) (old new : ℕ)
    → new ≡ old → IsStep s (actors.Cpu cpu) (EldStart f page at) e t → StartsSo first past e old new
start_tells first s t past cpu f page at e old new same is = by_entry (entry_by s t (actors.Cpu cpu) (EldStart f page at) e is)
  where
    by_entry : IsEntryOf s (actors.Cpu cpu) (EldStart f page at) e → StartsSo first past e old new
    by_entry (inl k) = rw k.is record {
      tries = tt;
      starts = tt;
      inits = tt;
      tracking = record { stay = tt; track = tt };
      counts = same;
      slots = λ j. tt;
    }
    by_entry (inr k) = rw k.is record {
      tries = tt;
      starts = tt;
      inits = tt;
      tracking = record { stay = tt; track = tt };
      counts = same;
      slots = λ j. tt;
    }

pub fault_next : (made : Making) (j : JobView) (past : List Entry) (d d' : Driver) (m m' : Parts) (v : PassView) (cpu : Cpu)
    (page asked : Page) (answer : FaultAnswer) (told told' : Option (List Call)) → Agrees made j past d m
    → StandsAt made.first_epoch j past v → is_amid v ≡ false → is_spent past ≡ false → cpu.0 < length j.scripts
    → cpu_due j past cpu.0 ≡ fetches j.epc past page (place past page)
    → IsResolved cpu asked (page_state d.states asked) d m told answer d' m' told' → IsRight j past cpu page asked answer d'
    → length m'.cpus ≡ length m.cpus → ((why : BusWhy) → answer ≡ answers.Bus why → GoesOnWith made past (bus_of cpu asked why) m)
    → OfAnswer cpu asked answer (λ e. IsNextOf made j past d m e d' m')
fault_next made j past d d' m m' v cpu page asked answer told told' r stands whole going mine due is right cpus bus =
    by_answer answer right (resolved_did cpu asked (page_state d.states asked) answer d d' m m' told told' is) bus
  where
    free : loaded_by (last_of past cpu.0) ≡ None
    free = idle j past cpu.0 page going due

    -- the start of a load
    starts : (e : Entry) → IsLoadStart cpu asked d d' m m' e → e.actor ≡ actors.Cpu cpu
        → IsNext (fetches j.epc past page (place past page)) e.event
        → CanMove past e.event → LoadsAwayRule past e → ShowsTables (drivers j) j d' (e ∷ past) → IsNextOf made j past d m e d' m'
    starts e did actor next can away shows =
        let so = start_tells made.first_epoch (state_of m) (state_of m') past cpu did.frame asked did.at e
        (count_out d.slots) (count_out d'.slots) (ap count_out did.slots) did.step in
        record {
          script = record { not_spent = going; next = rw actor (mine, subst (λ x. IsNext x e.event) (sym due) next) };
          age = rw actor (others_age j past (actors.Cpu cpu) e.event refl);
          kick = rw actor (kicks j past (actors.Cpu cpu) e.event refl (beside made.first_epoch past v (pass j past) stands whole));
          slots = so.slots j;
          can = can;
          tries = so.tries;
          starts = so.starts;
          inits = so.inits;
          tracking = so.tracking;
          follows = did.carries.shape made past r.follows;
          fits = did.carries.fits made past r.follows away r.fits;
          cpus = cpus;
          shows = shows;
          counts = so.counts;
        }

    by_answer : (a : FaultAnswer) → IsRight j past cpu page asked a d' → DidSo cpu asked a d d' m m'
        → ((why : BusWhy) → a ≡ answers.Bus why → GoesOnWith made past (bus_of cpu asked why) m)
        → OfAnswer cpu asked a (λ e. IsNextOf made j past d m e d' m')
    by_answer (answers.Started e work) k did goes = starts e did k.due.1 k.due.2 k.kept.0 k.kept.1 (k.shows free)
    by_answer (answers.Slot e) k did goes = starts e did k.due.1 k.due.2 k.kept.0 k.kept.1 (k.shows free).0
    by_answer (answers.Bus why) k did goes =
        let on = goes why refl in
        record {
          script = record { not_spent = going; next = (mine, subst (λ x. IsNext x (Bus asked why)) (sym due) k.due.1) };
          age = others_age j past (actors.Cpu cpu) (Bus asked why) refl;
          kick = kicks j past (actors.Cpu cpu) (Bus asked why) refl (beside made.first_epoch past v (pass j past) stands whole);
          slots = tt;
          can = tt;
          tries = tt;
          starts = tt;
          inits = tt;
          tracking = record { stay = tt; track = tt };
          follows = subst (λ (x : Parts). ShapeWithRules made (state_of x) (bus_of cpu asked why ∷ past)) (sym did.machine) on.shape;
          fits = on.fits;
          cpus = cpus;
          shows = k.shows free;
          counts = ap (λ (x : Driver). count_out x.slots) did.driver;
        }
    by_answer answers.Here k did goes = tt
    by_answer (answers.Again why) k did goes = tt
