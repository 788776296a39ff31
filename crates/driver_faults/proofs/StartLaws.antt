-- What the start of a load makes of a state.
use Rattle.std.proofs.Common.{◌≡◌, Bool, true, false, Option, None, Some, MatchOption, refl, sym, ap, subst, ◌∙◌}
use Rattle.std.proofs.lemmas.Bool.{eq-eqb, false≢true}
use Rattle.sgx_types.specs.declared.names.Actor.{Actor}
use Rattle.sgx_rules.specs.declared.entries.Action.TheVariants.{EldStart}
use Rattle.sgx_rules.specs.declared.entries.Entry.{Entry}
use Rattle.sgx_types.specs.declared.names.Actor.TheVariants as actors
use Rattle.sgx_types.specs.declared.names.Cpu.{Cpu}
use Rattle.sgx_types.specs.declared.names.Frame.{Frame}
use Rattle.sgx_types.specs.declared.names.Page.{Page}
use Rattle.sgx_types.specs.declared.names.SlotAt.{SlotAt}
use Rattle.sgx_types.specs.declared.names.VaSlot.{VaSlot}
use Rattle.sgx_rules.specs.declared.refusals.Refusal.{Refusal}
use Rattle.sgx_types.specs.Cases.{first_of_row}
use Rattle.sgx_rules.specs.Table.{is_loading}
use Rattle.machine_laws.specs.inner.State.{State, after_eldstart, row_of}
use Rattle.machine_laws.specs.inner.Steps.{IsDone, IsStep, refused_by}
use Rattle.sgx_types.specs.Sealed.{Sealed}
use Rattle.sgx_rules.specs.inner.Starts.{BareStart}
use Rattle.std.specs.Option.{IsSomeAnd}
use Rattle.std.specs.Global.{Box}
use Rattle.seal_record.specs.declared.unseal.UnsealWork.{UnsealWork}
use Rattle.sgx_machine.specs.inner.Parts.{Parts, state_of}
use Rattle.driver_rules.specs.inner.Reclaims.{is_refused}
use Rattle.driver_tables.specs.inner.Carried.{Carries}
use Rattle.driver_tables.specs.declared.driver.Driver.{Driver}
use Rattle.driver_faults.specs.inner.Resolving.{IsStarted, IsToOpen, TellsFault}
use Rattle.driver_tables.specs.inner.Moves.{with_load}
use Rattle.driver_faults.specs.declared.answers.FaultAnswer.{FaultAnswer}
use Rattle.driver_faults.specs.declared.answers.FaultAnswer.TheVariants as answers

-- where it is not refused, the frame waits for the page
pub start_done : (s t : State) (a : Actor) (f : Frame) (page : Page) (slot : SlotAt) (e : Entry) → IsStep s a (EldStart f page slot) e t
    → is_refused e.event ≡ false → t ≡ after_eldstart s f.0 page slot
start_done s t a f page slot e step done = by_row (first_of_row (row_of s a (EldStart f page slot))) step
  where
    by_row : (r : Option Refusal)
        → MatchOption r (IsDone s a (EldStart f page slot) e t) (λ refusal. (e ≡ refused_by a (EldStart f page slot) refusal) × (t ≡ s))
        → t ≡ after_eldstart s f.0 page slot
    by_row None is = is.1
    by_row (Some refusal) is = absurd (false≢true (sym done ∙ ap (λ (x : Entry). is_refused x.event) is.0))

-- .. and else nothing changes
pub start_refused : (s t : State) (a : Actor) (f : Frame) (page : Page) (slot : SlotAt) (e : Entry) → IsStep s a (EldStart f page slot) e t
    → is_refused e.event ≡ true → t ≡ s
start_refused s t a f page slot e step refused = by_row (first_of_row (row_of s a (EldStart f page slot))) step
  where
    by_row : (r : Option Refusal)
        → MatchOption r (IsDone s a (EldStart f page slot) e t) (λ refusal. (e ≡ refused_by a (EldStart f page slot) refusal) × (t ≡ s))
        → t ≡ s
    by_row None is = absurd (false≢true (sym (ap (λ (x : Entry). is_refused x.event) is.0) ∙ refused))
    by_row (Some refusal) is = is.1

pub start_loads : (s t : State) (a : Actor) (f : Frame) (page : Page) (slot : SlotAt) (e : Entry) → IsStep s a (EldStart f page slot) e t
    → is_refused e.event ≡ false → is_loading (t.content f.0) ≡ true
start_loads s t a f page slot e step done =
    ap (λ (x : State). is_loading (x.content f.0)) (start_done s t a f page slot e step done) ∙ rw (eq-eqb f.0 f.0 refl) refl

-- ---- what the code's start says

module _ (cpu : Cpu) (page : Page) (slot : VaSlot) (to : SlotAt) (frame : Frame) (rec : Sealed) (d : Driver) (m m' : Parts) (entry : Entry)
    (step : IsStep (state_of m) (actors.Cpu cpu) (EldStart frame page to) entry (state_of m'))
    (carries : Carries (state_of m) entry (state_of m'))
  where
    pub says_refused : is_refused entry.event ≡ true → IsStarted cpu page slot to frame rec d m (answers.Slot entry) d m'
    says_refused refused = record {
      entry = entry;
      step = step;
      carries = carries;
      refused = λ k. (refl, refl);
      started = λ done. absurd (false≢true (sym done ∙ refused));
    }

    pub says_started : (work : Box UnsealWork) (d' : Driver) → is_refused entry.event ≡ false → d' ≡ with_load d cpu page slot frame rec
        → work.value.rec ≡ rec → work.value.key ≡ (state_of m').key
        → IsSomeAnd ((state_of m').start frame.0) (λ start. work.value.version ≡ start.version)
        → IsStarted cpu page slot to frame rec d m (answers.Started entry work) d' m'
    says_started work d' done tables brought key version = record {
      entry = entry;
      step = step;
      carries = carries;
      refused = λ k. absurd (false≢true (sym done ∙ k));
      started = λ k. record {
        work = work;
        says = refl;
        driver = tables;
        opens = opened ((state_of m').start frame.0) refl version;
      };
    }
      where
        opened : (x : Option BareStart) → (state_of m').start frame.0 ≡ x → IsSomeAnd x (λ start. work.value.version ≡ start.version)
            → IsToOpen (state_of m') frame.0 rec work.value
        opened None is v = absurd v
        opened (Some start) is v = record { brought = brought; key = key; start = start; opened = is; version = v }

-- a load's start tells no failure of the store
pub no_fault : {cpu : Cpu} {page : Page} {slot : VaSlot} {to : SlotAt} {frame : Frame} {rec : Sealed} {d d' : Driver} {m m' : Parts}
    {answer : FaultAnswer} → IsStarted cpu page slot to frame rec d m answer d' m' → TellsFault answer → ⊥
no_fault is told = by_test (is_refused is.entry.event) refl
  where
    by_test : (b : Bool) → is_refused is.entry.event ≡ b → ⊥
    by_test true k = subst TellsFault (is.refused k).0 told
    by_test false k = subst TellsFault (is.started k).says told
