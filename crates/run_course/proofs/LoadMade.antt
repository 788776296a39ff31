-- The entry of a fault step, the end of a load, and the bus behind a refused one are entries with which the book goes on.
use Rattle.std.proofs.Common.{◌≡◌, ℕ, ◌<◌, Bool, true, false, cond, List, ◌∷◌, Option, Some, None}
use Rattle.std.proofs.Common.{IfSome, Result, Ok, Err, length, slice_set, refl, sym, ap, subst, ◌∙◌, inl, inr}
use Rattle.std.proofs.lemmas.List.{get_or-set_same}
use Rattle.sgx_rules.specs.declared.entries.Action.TheVariants.{Eld, EldStart}
use Rattle.sgx_types.specs.declared.names.Actor.TheVariants as actors
use Rattle.sgx_rules.specs.declared.entries.BusWhy.{BusWhy}
use Rattle.sgx_rules.specs.declared.entries.Entry.{Entry}
use Rattle.sgx_rules.specs.declared.entries.Event.{Event}
use Rattle.sgx_rules.specs.declared.entries.Event.TheVariants.{Bus, Did, Refused}
use Rattle.sgx_types.specs.declared.names.Cpu.{Cpu}
use Rattle.sgx_types.specs.declared.names.Frame.{Frame}
use Rattle.sgx_types.specs.declared.names.Page.{Page}
use Rattle.sgx_types.specs.declared.names.SlotAt.{SlotAt}
use Rattle.sgx_types.specs.declared.names.VaSlot.{VaSlot}
use Rattle.sgx_rules.specs.Frames.{least_free}
use Rattle.sgx_types.specs.Pages.{is_own_page}
use Rattle.sgx_types.specs.Sealed.{Sealed}
use Rattle.job_grammar.specs.Jobs.{JobView}
use Rattle.script_rules.specs.Machines.{machine_of}
use Rattle.script_rules.specs.Script.{action_of}
use Rattle.sgx_types.specs.Pages.{frame_at}
use Rattle.std.specs.Global.{Box}
use Rattle.seal_record.specs.declared.unseal.UnsealWork.{UnsealWork}
use Rattle.backing_store.specs.Calls.{Call}
use Rattle.backing_store.specs.declared.backing.StoreFault.{StoreFault}
use Rattle.backing_store.specs.declared.backing.StoreFault.TheVariants as faults
use Rattle.sgx_machine.specs.inner.Parts.{Parts, state_of}
use Rattle.driver_list.specs.inner.Keeping.{keeping, kept_at}
use Rattle.driver_list.specs.inner.Places.{IsPlaced}
use Rattle.driver_list.specs.inner.States.{state_of as page_state, with_state}
use Rattle.driver_list.specs.declared.page_states.PageState.{PageState}
use Rattle.driver_list.specs.declared.page_states.PageState.TheVariants as states
use Rattle.driver_list.proofs.StateLaws.{state_of-with_state}
use Rattle.driver_rules.specs.Dues.{IsNext, Reports}
use Rattle.driver_rules.specs.Passes.{pass}
use Rattle.driver_rules.specs.Places.{place}
use Rattle.driver_rules.specs.inner.Reclaims.{is_refused}
use Rattle.driver_rules.specs.Stops.{is_spent}
use Rattle.driver_rules.specs.Turns.{Loads, cpu_due, fetches, last_of}
use Rattle.driver_tables.specs.declared.driver.Driver.{Driver}
use Rattle.driver_tables.specs.inner.Moves.{with_load}
use Rattle.driver_tables.specs.inner.Tables.{ShowsTables}
use Rattle.driver_tables.specs.inner.Targets.{slot_here_in}
use Rattle.driver_laws.specs.inner.Agrees.{drivers}
use Rattle.driver_tables.specs.inner.Asked.{IsNextOf}
use Rattle.run_calls.specs.inner.Comes.{bus_of}
use Rattle.run_calls.specs.inner.Stores.{StoreMoves, TellsStore}
use Rattle.driver_faults.specs.declared.answers.FaultAnswer.{FaultAnswer}
use Rattle.driver_faults.specs.declared.answers.FaultAnswer.TheVariants as answers
use Rattle.driver_faults.specs.declared.answers.Loaded.{Loaded}
use Rattle.driver_faults.specs.declared.answers.Loaded.TheVariants as ends
use Rattle.driver_faults.specs.inner.Due.{EndsLoadAt, IsRight, IsRightEnd}
use Rattle.driver_faults.specs.inner.Finishing.{CanFinish, ComesBack, IsFinished}
use Rattle.driver_faults.specs.inner.Repeating.{IsAgain, IsWorkFor}
use Rattle.driver_faults.specs.inner.Resolving.{FetchesPage, IsGot, IsResolved, IsStarted, IsToOpen}
use Rattle.driver_pass.specs.inner.Standing.{StandsAt}
use Rattle.driver_pass.specs.inner.Viewed.{PassView, is_amid}
use Rattle.due_tables.specs.declared.turns.Turns.{Turns}
use Rattle.due_tables.specs.declared.cpu_turns.CpuTurn.{CpuTurn}
use Rattle.due_tables.specs.inner.Noting.{with_kick}
use Rattle.driver_laws.specs.inner.Keeps.{is_epa}
use Rattle.run_laws.specs.inner.Books.{AreTold, CarriesBytes, IsMade, KeepsBook, with_own}
use Rattle.run_laws.specs.inner.Loads.{GoesOnWith, OfAnswer, entry_in}
use Rattle.run_laws.proofs.EndTurns.{end_next}
use Rattle.run_laws.proofs.LoadTurns.{fault_next}
use Rattle.run_laws.proofs.PlainLaws.{beside, kicks, others_age}
use Rattle.run_records.specs.inner.Records.{StaysWith}
use Rattle.run_records.proofs.EndBytes.{end_bytes}
use Rattle.run_records.proofs.FaultBytes.{answer_bytes}
use Rattle.run_records.proofs.StepBytes.{note_bytes}
use Rattle.run_records.proofs.FlatSteps.{flat_other}
use Rattle.run_records.specs.inner.Honest.{IsNeverHonest, StaysHonest}
use Rattle.run_records.proofs.HonestEnds.{ended_honest}
use Rattle.run_records.proofs.HonestRecords.{fault_honest}
use Rattle.run_records.proofs.LoadRecords.{end_flat, end_told, fault_flat, fault_told}
use Rattle.run_course.proofs.LoadLaws.{due_quiet, end_of_load}
use Rattle.driver_rules.specs.Stops.{spends}
use Rattle.run_course.proofs.SpentLaws.{step_calm}
use Rattle.due_notes.proofs.EntryLaws.{IsEntryOf, entry_by}
use Rattle.sgx_types.specs.declared.names.Actor.{Actor}
use Rattle.sgx_types.proofs.Pages.{same_page-refl}
use Rattle.sgx_rules.specs.inner.Enclaves.{EnclavesAreFlat}
use Rattle.machine_laws.specs.inner.State.{State}
use Rattle.machine_laws.specs.inner.Steps.{IsStep}

-- ---- what a fault step leaves

-- the start of a load, done or refused
abbrev pub IsLoadStart : Event → Type 0
IsLoadStart (Did (EldStart f page at) answer) = Unit {0}
IsLoadStart (Refused (EldStart f page at) refusal) = Unit {0}
IsLoadStart event = ⊥

-- it makes no version array page
pub start_none : (event : Event) → IsLoadStart event → is_epa event ≡ false
start_none (Did (EldStart f page at) answer) h = refl
start_none (Refused (EldStart f page at) refusal) h = refl
start_none event h = absurd h

-- and kicks nobody
pub start_kicks : (event : Event) → IsLoadStart event → (turns : List CpuTurn) → with_kick event turns ≡ turns
start_kicks (Did (EldStart f page at) answer) h turns = refl
start_kicks (Refused (EldStart f page at) refusal) h turns = refl
start_kicks event h turns = absurd h

-- a load has begun
pub record IsBegun (cpu : Cpu) (page : Page) (d d' : Driver) (m' : Parts) (e : Entry) (work : Box UnsealWork) : Type 0 where
  pub frame : Frame
  pub slot : VaSlot
  pub rec : Sealed
  pub driver : d' ≡ with_load d cpu page slot frame rec
  pub opens : IsToOpen (state_of m') frame.0 rec work.value
  pub calm : spends e.event ≡ false
  pub acts : IsLoadStart e.event

-- the start of one was refused, and the tables are as before
pub record IsTurnedDown (d d' : Driver) (e : Entry) : Type 0 where
  pub driver : d' ≡ d
  pub refused : is_refused e.event ≡ true
  pub calm : spends e.event ≡ false
  pub acts : IsLoadStart e.event

-- tables and machine are as before
pub record IsAsBefore (d d' : Driver) (m m' : Parts) : Type 0 where
  pub driver : d' ≡ d
  pub machine : m' ≡ m

-- .. and the store was asked nothing
pub record IsStill (d d' : Driver) (m m' : Parts) (told told' : Option (List Call)) : Type 0 where
  pub as_before : IsAsBefore d d' m m'
  pub calls : told' ≡ told

-- by the answer
abbrev pub Leaves : Cpu → Page → FaultAnswer → Driver → Driver → Parts → Parts → Option (List Call) → Option (List Call) → Type 0
Leaves cpu page (answers.Started e work) d d' m m' told told' = IsBegun cpu page d d' m' e work
Leaves cpu page (answers.Slot e) d d' m m' told told' = IsTurnedDown d d' e
Leaves cpu page (answers.Bus why) d d' m m' told told' = IsAsBefore d d' m m'
Leaves cpu page answer d d' m m' told told' = IsStill d d' m m' told told'

-- the entry of a load's start is one
start_acts : (s t : State) (a : Actor) (f : Frame) (page : Page) (at : SlotAt) (e : Entry) → IsStep s a (EldStart f page at) e t
    → IsLoadStart e.event
start_acts s t a f page at e is = by_entry (entry_by s t a (EldStart f page at) e is)
  where
    by_entry : IsEntryOf s a (EldStart f page at) e → IsLoadStart e.event
    by_entry (inl k) = rw k.is tt
    by_entry (inr k) = rw k.is tt

-- by a load's start
begun : (cpu : Cpu) (page : Page) (slot : VaSlot) (at : SlotAt) (f : Frame) (rec : Sealed) (answer : FaultAnswer) (d d' : Driver)
    (m m' : Parts) (told told' : Option (List Call)) → IsStarted cpu page slot at f rec d m answer d' m'
    → Leaves cpu page answer d d' m m' told told'
begun cpu page slot at f rec answer d d' m m' told told' is = by_refused (is_refused is.entry.event) refl
  where
    calm : spends is.entry.event ≡ false
    calm = step_calm (state_of m) (state_of m') (actors.Cpu cpu) (EldStart f page at) is.entry refl is.step

    acts : IsLoadStart is.entry.event
    acts = start_acts (state_of m) (state_of m') (actors.Cpu cpu) f page at is.entry is.step

    by_refused : (b : Bool) → is_refused is.entry.event ≡ b → Leaves cpu page answer d d' m m' told told'
    by_refused true refused =
        let k = is.refused refused in
        subst (λ a. Leaves cpu page a d d' m m' told told') (sym k.0)
        (record {
          driver = k.1;
          refused = refused;
          calm = calm;
          acts = acts;
        })
    by_refused false done =
        let k = is.started done in
        subst (λ a. Leaves cpu page a d d' m m' told told') (sym k.says)
        (record { frame = f; slot = slot; rec = rec; driver = k.driver; opens = k.opens; calm = calm; acts = acts })

-- by what the store gave
got_leaves : (cpu : Cpu) (page : Page) (slot : VaSlot) (at : SlotAt) (f : Frame) (got : Result (Option Sealed) StoreFault)
    (answer : FaultAnswer) (d d' : Driver) (m m' : Parts) (told told' : Option (List Call))
    → IsGot cpu page slot at f got d m answer d' m' → Leaves cpu page answer d d' m m' told told'
got_leaves cpu page slot at f (Ok (Some rec)) answer d d' m m' told told' is =
    begun cpu page slot at f rec answer d d' m m' told told' is
got_leaves cpu page slot at f (Ok None) answer d d' m m' told told' is =
    rw is.says record { driver = is.driver; machine = is.machine }
got_leaves cpu page slot at f (Err faults.Failed) answer d d' m m' told told' is =
    rw is.says record { driver = is.driver; machine = is.machine }
got_leaves cpu page slot at f (Err faults.Memory) answer d d' m m' told told' is = absurd is

-- by the free frame
fetch_leaves : (cpu : Cpu) (page : Page) (slot : VaSlot) (at : Option SlotAt) (o : Option ℕ) (answer : FaultAnswer) (d d' : Driver)
    (m m' : Parts) (told told' : Option (List Call)) → FetchesPage cpu page slot at o d m told answer d' m' told'
    → Leaves cpu page answer d d' m m' told told'
fetch_leaves cpu page slot None o answer d d' m m' told told' is = absurd is
fetch_leaves cpu page slot (Some at) None answer d d' m m' told told' is =
    rw is.does.says record { as_before = record { driver = is.does.driver; machine = is.does.machine }; calls = is.calls }
fetch_leaves cpu page slot (Some at) (Some f) answer d d' m m' told told' is =
    got_leaves cpu page slot at (frame_at f) is.got answer d d' m m' told told' is.does

-- whatever became of the page
pub resolved_leaves : (cpu : Cpu) (page : Page) (x : PageState) (answer : FaultAnswer) (d d' : Driver) (m m' : Parts)
    (told told' : Option (List Call)) → IsResolved cpu page x d m told answer d' m' told' → Leaves cpu page answer d d' m m' told told'
resolved_leaves cpu page (states.Away slot) answer d d' m m' told told' is =
    fetch_leaves cpu page slot (slot_here_in d slot) (least_free (state_of m).frames (state_of m).content) answer d d' m m' told told' is
resolved_leaves cpu page (states.Lost slot) answer d d' m m' told told' is =
    rw is.does.says record { driver = is.does.driver; machine = is.does.machine }
resolved_leaves cpu page (states.Here f) answer d d' m m' told told' is =
    rw is.does.says record { as_before = record { driver = is.does.driver; machine = is.does.machine }; calls = is.calls }
resolved_leaves cpu page states.Absent answer d d' m m' told told' is =
    rw is.does.says record { as_before = record { driver = is.does.driver; machine = is.does.machine }; calls = is.calls }
resolved_leaves cpu page (states.Leaving f) answer d d' m m' told told' is =
    rw is.does.says record { as_before = record { driver = is.does.driver; machine = is.does.machine }; calls = is.calls }
resolved_leaves cpu page (states.Loading f slot) answer d d' m m' told told' is =
    rw is.does.says record { as_before = record { driver = is.does.driver; machine = is.does.machine }; calls = is.calls }

-- ---- the entry of a fault step

-- the machine goes on with a bus, with its bytes too
pub record NotesBus (j : JobView) (past : List Entry) (m : Parts) (e : Entry) : Type 0 where
  pub goes : GoesOnWith (machine_of j) past e m
  pub stays : StaysWith (state_of m) e

-- it was made
pub fault_made : (j : JobView) (past : List Entry) (told told' : Option (List Call)) (d d' : Driver) (m m' : Parts) (t : Turns)
    (v : PassView) (cpu : Cpu) (page asked : Page) (answer : FaultAnswer)
    → KeepsBook (machine_of j) j past told d m t → StandsAt j.start_epoch j past v → is_amid v ≡ false → is_spent past ≡ false
    → cpu.0 < length j.scripts → cpu_due j past cpu.0 ≡ fetches j.epc past page (place past page) → cpu.0 < length d.kept
    → IsPlaced d.states.counts asked → IsResolved cpu asked (page_state d.states asked) d m told answer d' m' told'
    → IsRight j past cpu page asked answer d' → length m'.cpus ≡ length m.cpus
    → ((why : BusWhy) → answer ≡ answers.Bus why → NotesBus j past m' (bus_of cpu asked why))
    → OfAnswer cpu asked answer (λ e. IsMade (machine_of j) j past told d m e told' d' m')
fault_made j past told told' d d' m m' t v cpu page asked answer k stands whole going mine due room placed is right cpus bus =
    by_answer answer right (resolved_leaves cpu asked (page_state d.states asked) answer d d' m m' told told' is)
    (fault_next (machine_of j) j past d d' m m' v cpu page asked answer told told' k.agrees stands whole going mine due is right cpus
    (λ why same. (notes why same).goes))
    (fault_flat past cpu asked (page_state d.states asked) d d' m m' told told' answer is k.flat).0
    (fault_told (machine_of j) j past told told' d d' m m' t cpu asked answer k room placed k.agrees.shows.sized is).0
    (answer_bytes (machine_of j) j past d d' m m' cpu asked (page_state d.states asked) answer told told' is
    (λ why same. (notes why same).stays))
    (fault_honest (machine_of j) j past told told' d d' m m' t cpu asked answer k room placed is)
  where
    notes : (why : BusWhy) → answer ≡ answers.Bus why → NotesBus j past m (bus_of cpu asked why)
    notes why same =
        let left = subst (λ a. Leaves cpu asked a d d' m m' told told') same
        (resolved_leaves cpu asked (page_state d.states asked) answer d d' m m' told told' is) in
        subst (λ x. NotesBus j past x (bus_of cpu asked why)) left.machine (bus why same)

    by_answer : (a : FaultAnswer) → IsRight j past cpu page asked a d' → Leaves cpu asked a d d' m m' told told'
        → OfAnswer cpu asked a (λ e. IsNextOf (machine_of j) j past d m e d' m')
        → OfAnswer cpu asked a (λ e. EnclavesAreFlat (e ∷ past))
        → OfAnswer cpu asked a (λ e. AreTold j past e told told' d d')
        → OfAnswer cpu asked a (λ e. IfSome told' (CarriesBytes (machine_of j) j past m e m'))
        → OfAnswer cpu asked a (λ e. StaysHonest (machine_of j) past m e m' told')
        → OfAnswer cpu asked a (λ e. IsMade (machine_of j) j past told d m e told' d' m')
    by_answer (answers.Started e work) r left next flat store bytes honest = record {
      next = next;
      own = ap (λ (x : Driver). x.active.own) left.driver;
      enters = (due_quiet past j.epc page (place past page) e.event r.due.2).quiet.enters;
      flat = flat;
      store = store;
      bytes = bytes;
      honest = honest;
    }
    by_answer (answers.Slot e) r left next flat store bytes honest = record {
      next = next;
      own = ap (λ (x : Driver). x.active.own) left.driver;
      enters = (due_quiet past j.epc page (place past page) e.event r.due.2).quiet.enters;
      flat = flat;
      store = store;
      bytes = bytes;
      honest = honest;
    }
    by_answer (answers.Bus why) r left next flat store bytes honest = record {
      next = next;
      own = ap (λ (x : Driver). x.active.own) left.driver;
      enters = tt;
      flat = flat;
      store = store;
      bytes = bytes;
      honest = honest;
    }
    by_answer answers.Here r left next flat store bytes honest = tt
    by_answer (answers.Again why) r left next flat store bytes honest = tt

-- the work of a load that has begun is that of the kept record, whoever holds which pages
pub begun_opens : (j : JobView) (past : List Entry) (cpu : Cpu) (page : Page) (d d' : Driver) (m' : Parts) (e : Entry)
    (work : Box UnsealWork)
    (own : List (List Page)) → ShowsTables (drivers j) j d past → IsPlaced d.states.counts page → cpu.0 < length d.kept
    → IsBegun cpu page d d' m' e work → IsAgain cpu (with_own d' own) m' (Some work)
begun_opens j past cpu page d d' m' e work own shows placed room is =
    subst (λ (x : Driver). IsAgain cpu (with_own x own) m' (Some work)) (sym is.driver)
    (subst (λ o. IsWorkFor (with_own loading own) m' o (Some work)) (sym kept) record {
      frame = is.frame;
      slot = is.slot;
      loading = state;
      opens = is.opens;
    })
  where
    loading : Driver
    loading = with_load d cpu page is.slot is.frame is.rec

    kept : kept_at (slice_set d.kept cpu.0 (Some (keeping page is.rec))) cpu.0 ≡ Some (keeping page is.rec)
    kept = get_or-set_same d.kept cpu.0 (Some (keeping page is.rec)) None room

    state : page_state (with_state d.states page (states.Loading is.frame is.slot)) page ≡ states.Loading is.frame is.slot
    state =
        state_of-with_state d.states page page (states.Loading is.frame is.slot) shows.sized placed placed
        ∙ ap (λ b. cond b (states.Loading is.frame is.slot) (page_state d.states page)) (same_page-refl page)

-- ---- the end of a load

-- the entry by which a load ended
pub end_is : (past : List Entry) (cpu : Cpu) (page : Page) (f : Frame) (e : Entry) (loaded : Loaded) → EndsLoadAt past cpu page f e loaded
    → entry_in loaded ≡ e
end_is past cpu page f e (ends.Here entry) is = is.0
end_is past cpu page f e (ends.Bus entry why) is = is.0

-- .. is that of the load's end
pub end_acts : (j : JobView) (past : List Entry) (cpu : Cpu) (page : Page) (f : Frame) (loaded : Loaded) (d : Driver)
    → IsRightEnd j past cpu page f loaded d → action_of (entry_in loaded).event ≡ Some (Eld f)
end_acts j past cpu page f loaded d right =
    subst (λ (e : Entry). action_of e.event ≡ Some (Eld f)) (sym (end_is past cpu page f right.entry loaded right.end)) right.due

-- .. and its processor's
pub end_by : (j : JobView) (past : List Entry) (cpu : Cpu) (page : Page) (f : Frame) (loaded : Loaded) (d : Driver)
    → IsRightEnd j past cpu page f loaded d → (entry_in loaded).actor ≡ actors.Cpu cpu
end_by j past cpu page f loaded d right =
    ap (λ (e : Entry). e.actor) (end_is past cpu page f right.entry loaded right.end) ∙ right.actor

-- who holds which pages is as before
back_own : (d : Driver) (page : Page) (f : Frame) (slot : VaSlot) (d' : Driver) (loaded : Loaded) (e : Entry)
    → (loaded ≡ ends.Here e) × ComesBack d page f slot d' → d'.active.own ≡ d.active.own
back_own d page f slot d' loaded e (says, back) = by_own (is_own_page page) refl
  where
    by_own : (b : Bool) → is_own_page page ≡ b → d'.active.own ≡ d.active.own
    by_own true own = ap (λ (x : Driver). x.active.own) (back.0 own).others
    by_own false other = ap (λ (x : Driver). x.active.own) (back.1 other)

-- the keeper of another page than a TCS or REG page is as before
back_slots : (d : Driver) (page : Page) (f : Frame) (slot : VaSlot) (d' : Driver) (loaded : Loaded) (e : Entry)
    → (loaded ≡ ends.Here e) × ComesBack d page f slot d' → is_own_page page ≡ false → d'.slots ≡ d.slots
back_slots d page f slot d' loaded e (says, back) other = ap (λ (x : Driver). x.slots) (back.1 other)

-- so it is behind the end of its load
pub end_slots : (d d' : Driver) (m : Parts) (t : State) (cpu : Cpu) (page : Page) (loaded : Loaded) (can : CanFinish cpu page d m)
    → IsFinished cpu page can.slot can.frame can.kept d (state_of m) loaded d' t → is_own_page page ≡ false → d'.slots ≡ d.slots
end_slots d d' m t cpu page loaded can is other = by_refused (is_refused is.entry.event) refl
  where
    by_refused : (b : Bool) → is_refused is.entry.event ≡ b → d'.slots ≡ d.slots
    by_refused true refused = ap (λ (x : Driver). x.slots) (is.ends.0 refused).1
    by_refused false done =
        back_slots (record d { kept = slice_set d.kept cpu.0 None }) page can.frame can.slot d' loaded is.entry (is.ends.1 done) other

-- it was made
pub end_made : (j : JobView) (past : List Entry) (told : Option (List Call)) (d d' : Driver) (m m' : Parts) (t : Turns)
    (v : PassView) (cpu : Cpu) (page : Page) (n : ℕ) (loaded : Loaded) (can : CanFinish cpu page d m)
    → KeepsBook (machine_of j) j past told d m t → StandsAt j.start_epoch j past v → is_amid v ≡ false → is_spent past ≡ false
    → cpu.0 < length j.scripts → last_of past cpu.0 ≡ Loads n page
    → IsFinished cpu page can.slot can.frame can.kept d (state_of m) loaded d' (state_of m')
    → IsRightEnd j past cpu page can.frame loaded d' → length m'.cpus ≡ length m.cpus
    → IsMade (machine_of j) j past told d m (entry_in loaded) told d' m'
end_made j past told d d' m m' t v cpu page n loaded can k stands whole going mine last is right cpus = record {
  next = end_next (machine_of j) j past d d' m m' v cpu page n loaded can k.agrees stands whole going mine last is right cpus;
  own = by_refused (is_refused is.entry.event) refl;
  enters = (end_of_load can.frame (entry_in loaded).event (end_acts j past cpu page can.frame loaded d' right)).enters;
  flat = (end_flat past d d' (state_of m) (state_of m') cpu page can.slot can.frame can.kept loaded is k.flat).0;
  store = (end_told (machine_of j) j past told d d' m m' t cpu page n loaded can k refl last is).0;
  bytes = by_told told k.store;
  honest = ended_honest (machine_of j) j past told d d' m m' t cpu page n loaded can k refl last is;
}
  where
    by_refused : (b : Bool) → is_refused is.entry.event ≡ b → d'.active.own ≡ d.active.own
    by_refused true refused = ap (λ (x : Driver). x.active.own) (is.ends.0 refused).1
    by_refused false done =
        back_own (record d { kept = slice_set d.kept cpu.0 None }) page can.frame can.slot d' loaded is.entry (is.ends.1 done)

    by_told : (o : Option (List Call)) → IfSome o (λ calls. TellsStore j.key past calls d)
        → IfSome o (CarriesBytes (machine_of j) j past m (entry_in loaded) m')
    by_told None store = tt
    by_told (Some calls) store = end_bytes (machine_of j) j past calls d d' m m' cpu page n loaded can k.agrees refl store last is

-- ---- the bus behind a refused one

-- a bus changes no table
bus_moves : (cpu : Cpu) (page : Page) (why : BusWhy) (calls : List Call) (d : Driver) → StoreMoves (bus_of cpu page why) calls d d
bus_moves cpu page why calls d = record {
  counts = refl;
  given = λ p f g slot answer mine no. cc;
  others = λ p other. refl;
  lost = λ g placed. refl;
}

-- .. whoever holds which pages
pub bus_told : (j : JobView) (past : List Entry) (told : Option (List Call)) (cpu : Cpu) (page : Page) (why : BusWhy) (d d' : Driver)
    → AreTold j past (bus_of cpu page why) told told d d → AreTold j past (bus_of cpu page why) told told d' d'
bus_told j past None cpu page why d d' is = tt
bus_told j past (Some calls) cpu page why d d' is = record {
  comes = record { comes = is.comes.comes; earlier = is.comes.earlier; moves = bus_moves cpu page why calls d' };
  tells = is.tells;
}

-- a processor that has to tell why a page does not come back tells it
pub bus_made : (j : JobView) (past : List Entry) (told : Option (List Call)) (d : Driver) (m : Parts) (t : Turns) (v : PassView)
    (cpu : Cpu) (page : Page) (why : BusWhy) → KeepsBook (machine_of j) j past told d m t
    → StandsAt j.start_epoch j past v → is_amid v ≡ false → is_spent past ≡ false → cpu.0 < length j.scripts
    → cpu_due j past cpu.0 ≡ Reports page why → ShowsTables (drivers j) j d (bus_of cpu page why ∷ past)
    → AreTold j past (bus_of cpu page why) told told d d → NotesBus j past m (bus_of cpu page why) → IsNeverHonest told
    → IsMade (machine_of j) j past told d m (bus_of cpu page why) told d m
bus_made j past told d m t v cpu page why k stands whole going mine due shows store notes never = record {
  next = record {
    script = record { not_spent = going; next = (mine, subst (λ x. IsNext x (Bus page why)) (sym due) refl) };
    age = others_age j past (actors.Cpu cpu) (Bus page why) refl;
    kick = kicks j past (actors.Cpu cpu) (Bus page why) refl (beside j.start_epoch past v (pass j past) stands whole);
    slots = tt;
    can = tt;
    tries = tt;
    starts = tt;
    inits = tt;
    tracking = record { stay = tt; track = tt };
    follows = notes.goes.shape;
    fits = notes.goes.fits;
    cpus = refl;
    shows = shows;
    counts = refl;
  };
  own = refl;
  enters = tt;
  flat = flat_other past (bus_of cpu page why) refl k.flat;
  store = store;
  bytes = by_told told;
  honest = by_honest told never;
}
  where
    by_told : (o : Option (List Call)) → IfSome o (CarriesBytes (machine_of j) j past m (bus_of cpu page why) m)
    by_told None = tt
    by_told (Some calls) = note_bytes (machine_of j) j past m (bus_of cpu page why) calls tt notes.stays

    by_honest : (o : Option (List Call)) → IsNeverHonest o → StaysHonest (machine_of j) past m (bus_of cpu page why) m o
    by_honest None is = tt
    by_honest (Some calls) is = λ honest. absurd (is honest)
