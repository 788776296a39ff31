-- What a fault step's answer is for a turn.
use Rattle.std.proofs.Common.{◌≡◌, ℕ, ◌+◌, ◌≤◌, ◌<◌, List, ◌∷◌, Option, Some, None, IfSome, length, reverse, vec_len}
use Rattle.std.proofs.Common.{vec_capacity, refl, sym, ap, subst, ◌∙◌, arith, false, true, Bool, if◌then◌else◌, count_by, set, is_some}
use Rattle.std.proofs.Common.{◌*◌, ◌++◌, suc}
use Rattle.std.proofs.lemmas.Bool.{false≢true}
use Rattle.std.proofs.lemmas.List.{length-set}
use Rattle.std.proofs.lemmas.List.Sums.{count_by-le-length}
use Rattle.std.specs.Global.{Vec}
use Rattle.sgx_types.specs.declared.names.Actor.TheVariants as actors
use Rattle.sgx_rules.specs.declared.entries.BusWhy.{BusWhy}
use Rattle.sgx_rules.specs.declared.entries.BusWhy.TheVariants as reasons
use Rattle.sgx_rules.specs.declared.entries.Entry.{Entry}
use Rattle.sgx_rules.specs.declared.entries.Event.TheVariants.{Bus}
use Rattle.sgx_types.specs.declared.names.Cpu.{Cpu}
use Rattle.sgx_types.specs.declared.names.Page.{Page}
use Rattle.sgx_types.specs.declared.names.SlotAt.{SlotAt}
use Rattle.sgx_types.specs.declared.names.VaSlot.{VaSlot}
use Rattle.sgx_types.specs.Making.{Making}
use Rattle.cached_translations.specs.declared.processor.Mode.{Mode}
use Rattle.script_rules.specs.Machines.{machine_of}
use Rattle.std.specs.Global.{Box}
use Rattle.seal_record.specs.declared.unseal.UnsealWork.{UnsealWork}
use Rattle.backing_store.specs.Calls.{Call, Failed, Given, Got, Nothing}
use Rattle.backing_store.specs.inner.Calls.{told_got, with_call}
use Rattle.backing_store.specs.declared.backing.StoreFault.{StoreFault}
use Rattle.backing_store.specs.declared.backing.StoreFault.TheVariants as faults
use Rattle.sgx_types.specs.Sealed.{Sealed}
use Rattle.std.proofs.Common.{Result, Ok, Err}
use Rattle.driver_list.specs.inner.Places.{IsPlaced}
use Rattle.driver_list.specs.inner.States.{state_of as page_state}
use Rattle.driver_list.specs.declared.page_states.PageState.{PageState}
use Rattle.driver_list.specs.declared.page_states.PageState.TheVariants as states
use Rattle.machine_laws.specs.inner.Shape.{FitsApart, ShapeWithRules}
use Rattle.sgx_machine.specs.inner.Parts.{Parts, cpu_at, state_of}
use Rattle.driver_rules.specs.declared.waits.Why.{Why}
use Rattle.driver_rules.specs.declared.waits.Why.TheVariants as waits
use Rattle.driver_rules.specs.Dues.{Asks, Due, Fetch, Fetches, IsFetch, IsNext, Waits, WaitsFor}
use Rattle.driver_rules.specs.Stops.{is_spent}
use Rattle.driver_rules.specs.Targets.{slot_here, target_by}
use Rattle.driver_laws.specs.inner.Agrees.{drivers, loaded_by}
use Rattle.driver_rules.specs.Places.{Absent, Away, Here, Leaving, Loading, Place, place}
use Rattle.sgx_rules.specs.Frames.{content, least_free}
use Rattle.driver_rules.specs.Turns.{Fails, cpu_due, fetch, fetch_by, fetches, last_of}
use Rattle.driver_tables.specs.declared.driver.Driver.{Driver}
use Rattle.run_calls.specs.inner.Comes.{bus_of}
use Rattle.run_calls.specs.inner.Stores.{TellsStore, is_lost_state}
use Rattle.history_rules.specs.Calls.{is_lost}
use Rattle.driver_faults.specs.declared.answers.FaultAnswer.{FaultAnswer}
use Rattle.driver_faults.specs.declared.answers.FaultAnswer.TheVariants as answers
use Rattle.driver_faults.specs.inner.Due.{IsRight, WaitsBy}
use Rattle.driver_faults.specs.inner.Resolving.{FetchesPage as IsAsking, IsResolved, asked_by, asked_in}
use Rattle.driver_faults.proofs.AskLaws.{can_resolve}
use Rattle.driver_tables.specs.inner.Tables.{ShowsTables, place_in}
use Rattle.driver_tables.specs.inner.Targets.{slot_here_in, target_in}
use Rattle.driver_tables.proofs.TargetLaws.{target_is}
use Rattle.driver_pass.specs.inner.Viewed.{is_sealing}
use Rattle.driver_reclaim.specs.inner.Ready.{HasFirst}
use Rattle.driver_slots.specs.inner.Keeper.{Keeper}
use Rattle.due_notes.specs.inner.Arrays.{KeepsKeeper}
use Rattle.due_notes.proofs.ArrayLaws.{arrays_stay}
use Rattle.script_rules.specs.Script.{is_builder}
use Rattle.due_tables.specs.declared.turns.Turns.{Turns}
use Rattle.due_tables.specs.inner.CpuTurns.{turn_at}
use Rattle.due_tables.specs.inner.Ending.{EndsAreTold}
use Rattle.due_tables.specs.inner.Noting.{IsNoted, turn_after, with_own}
use Rattle.run_records.proofs.HonestRecords.{start_never}
use Rattle.run_records.proofs.LoadRecords.{fault_told}
use Rattle.driver_faults.proofs.DueLaws.{resolved_is_right}
use Rattle.due_notes.specs.inner.Plain.{is_reclaimer}
use Rattle.due_tables.specs.inner.Holding.{mode_of}
use Rattle.due_tables.specs.inner.TcsTurns.{has_place}
use Rattle.driver_faults.specs.inner.Repeating.{IsAgain}
use Rattle.run_laws.specs.inner.Books.{AreTold, IsMade}
use Rattle.run_records.specs.inner.Records.{StaysWith}
use Rattle.run_course.specs.declared.course.Course.{Course}
use Rattle.run_course.specs.inner.Courses.{Grows, IsClear, IsSame, KeepsCourse, has_open_load, past_of}
use Rattle.run_course.specs.inner.Refusing.{CanRefuse}
use Rattle.run_course.specs.inner.Recording.{CanTake}
use Rattle.run_course.specs.inner.Turns.{IsNotLost, IsWaitBy, OpensFor, RunsBy}
use Rattle.run_course.proofs.IdleLaws.{fetches_none}
use Rattle.run_course.proofs.KeepLaws.{few_cpus}
use Rattle.run_course.proofs.LoadCourse.{can_take, course_stands, here_waits, kept_room, placed_there, stands_first}
use Rattle.run_course.proofs.LoadPair.{refused_going}
use Rattle.run_course.proofs.LoadEnds.{Takes, fetch_going, fetch_made, fetched_keeps, grows_one, notes_of, right_away, took_in, took_past}
use Rattle.run_course.proofs.SameLaws.{same_keeps}
use Rattle.run_course.proofs.LoadMade.{IsLoadStart, Leaves, NotesBus, begun_opens, resolved_leaves, start_kicks, start_none}

-- a fault step of a processor's turn that gave this answer, over a course with room for its entry
pub record Fetched (s : Course) (entries : Vec Entry) (d' : Driver) (m' : Parts) (told told' : Option (List Call)) (spare : ℕ) (cpu : Cpu)
    (page : Page) (before : Mode) (answer : FaultAnswer) : Type 0 where
  pub keeps : KeepsCourse s told spare
  pub mine : cpu.0 < length s.job.scripts
  pub due : cpu_due s.job (past_of s) cpu.0 ≡ fetches s.job.epc (past_of s) page (place (past_of s) page)
  pub placed : IsPlaced s.driver.states.counts page
  pub stood : before ≡ (cpu_at s.machine cpu.0).mode
  pub items : entries.items ≡ s.entries.items
  pub room : vec_len entries + 64 ≤ vec_capacity entries
  pub does : IsResolved cpu (asked_in s.driver page) (page_state s.driver.states (asked_in s.driver page)) s.driver s.machine told answer
      d' m' told'
  pub cpus : length m'.cpus ≡ length s.machine.cpus

-- its answer is right
pub right_of : (s : Course) (entries : Vec Entry) (d' : Driver) (m' : Parts) (told told' : Option (List Call)) (spare : ℕ)
    (cpu : Cpu) (page : Page) (before : Mode) (answer : FaultAnswer) → Fetched s entries d' m' told told' spare cpu page before answer
    → IsRight s.job (past_of s) cpu page (asked_in s.driver page) answer d'
right_of s entries d' m' told told' spare cpu page before answer f =
    resolved_is_right (machine_of s.job) s.job (past_of s) s.driver d' s.machine m' cpu page told told' answer f.keeps.book.agrees f.placed
    (kept_room s.job s.driver (past_of s) cpu.0 f.keeps.book.agrees.shows f.mine) f.does

-- the course behind it, before its entry is taken in
abbrev pub mid : Course → Vec Entry → Driver → Parts → Course
mid s entries d' m' = record s { driver = d'; machine = m'; entries = entries }

-- by all that is said of it
pub fetched_of : (s : Course) (entries : Vec Entry) (d' : Driver) (m' : Parts) (told told' : Option (List Call)) (spare : ℕ) (cpu : Cpu)
    (page : Page) (before : Mode) (answer said : FaultAnswer) → KeepsCourse s told spare → cpu.0 < length s.job.scripts
    → cpu_due s.job (past_of s) cpu.0 ≡ fetches s.job.epc (past_of s) page (place (past_of s) page) → has_place s.turns.tcs page ≡ true
    → before ≡ (cpu_at s.machine cpu.0).mode → entries.items ≡ s.entries.items → vec_len entries + 64 ≤ vec_capacity entries
    → IsResolved cpu (asked_in s.driver page) (page_state s.driver.states (asked_in s.driver page)) s.driver s.machine told answer d' m'
    told' → length m'.cpus ≡ length s.machine.cpus → answer ≡ said → Fetched s entries d' m' told told' spare cpu page before said
fetched_of s entries d' m' told told' spare cpu page before answer said keeps mine due has stood items room does cpus is =
    subst (Fetched s entries d' m' told told' spare cpu page before) is
    (record {
      keeps = keeps;
      mine = mine;
      due = due;
      placed = placed_there s.job s.driver (past_of s) s.turns page keeps.book.agrees.shows keeps.book.turns has;
      stood = stood;
      items = items;
      room = room;
      does = does;
      cpus = cpus;
    })

-- where nothing has changed it is the same
still : (s : Course) (entries : Vec Entry) (d' : Driver) (m' : Parts) → s.driver ≡ d' → s.machine ≡ m' → entries.items ≡ s.entries.items
    → vec_capacity s.entries ≤ vec_capacity entries → IsSame s (mid s entries d' m')
still s entries d' m' driver machine items room = record {
  job = refl;
  machine = sym machine;
  driver = sym driver;
  turns = refl;
  pass = refl;
  entries = items;
  room = room;
}

-- ---- what is waited for is not lost

-- a fault step that tells no failed put has found the page elsewhere
not_lost : (cpu : Cpu) (page : Page) (state : PageState) (d d' : Driver) (m m' : Parts) (told told' : Option (List Call))
    (answer : FaultAnswer) → (answer ≡ answers.Bus reasons.PutFailed → ⊥) → IsResolved cpu page state d m told answer d' m' told'
    → is_lost_state state ≡ false
not_lost cpu page (states.Lost slot) d d' m m' told told' answer other does = absurd (other does.does.says)
not_lost cpu page (states.Here f) d d' m m' told told' answer other does = refl
not_lost cpu page (states.Away slot) d d' m m' told told' answer other does = refl
not_lost cpu page (states.Leaving f) d d' m m' told told' answer other does = refl
not_lost cpu page (states.Loading f slot) d d' m m' told told' answer other does = refl
not_lost cpu page states.Absent d d' m m' told told' answer other does = refl

-- of the page that is needed, and of the one that has to be back first
needs_unlost : (told : Option (List Call)) (frames : ℕ) (past : List Entry) (g asked : Page) (slot : VaSlot)
    → target_by past g (Away slot) ≡ asked → IfSome told (λ calls. (is_lost calls g ≡ false) × (is_lost calls asked ≡ false))
    → IsNotLost told (fetches frames past g (Away slot))
needs_unlost told frames past g asked slot same h =
    subst (λ t. IsNotLost told (Fetches g (fetch frames past t))) (sym same) (by_place (place past asked))
  where
    by_free : (at : Option SlotAt) (o : Option ℕ) → IsNotLost told (Fetches g (Asks asked at o))
    by_free at None = h
    by_free at (Some f) = tt

    by_place : (at : Place) → IsNotLost told (Fetches g (fetch_by frames past asked at))
    by_place (Away there) = by_free (slot_here past there) (least_free frames (content past))
    by_place Absent = tt
    by_place (Here f) = tt
    by_place (Leaving f) = tt
    by_place (Loading f there) = tt

-- by what the tables tell of the store's calls
told_unlost : (key : List ℕ) (past : List Entry) (d : Driver) (g : Page) (o : Option (List Call))
    → IfSome o (λ calls. TellsStore key past calls d) → IsPlaced d.states.counts g → is_lost_state (page_state d.states g) ≡ false
    → IfSome o (λ calls. is_lost calls g ≡ false)
told_unlost key past d g None tells placed is = tt
told_unlost key past d g (Some calls) tells placed is = sym (tells.lost g placed) ∙ is

-- of both
both_unlost : (o : Option (List Call)) (g asked : Page) → IfSome o (λ calls. is_lost calls g ≡ false)
    → IfSome o (λ calls. is_lost calls asked ≡ false) → IfSome o (λ calls. (is_lost calls g ≡ false) × (is_lost calls asked ≡ false))
both_unlost None g asked one two = tt
both_unlost (Some calls) g asked one two = (one, two)

-- the arrays behind the start of a load
pub start_arrays : (s : Course) (d' : Driver) (cpu : Cpu) (e : Entry) → e.actor ≡ actors.Cpu cpu → IsLoadStart e.event
    → d'.slots ≡ s.driver.slots → KeepsKeeper s.job s.driver.slots (past_of s) → KeepsKeeper s.job d'.slots (e ∷ past_of s)
start_arrays s d' cpu e by acts same =
    arrays_stay s.job s.driver.slots d'.slots (past_of s) e (ap is_builder by) (start_none e.event acts)
    (ap (λ (x : Keeper). length x.arrays) same) (ap (λ (x : Keeper). x.room) same)

-- two entries more are more
pub two_apart : (past : List Entry) (e e' : Entry) → past ≡ e ∷ e' ∷ past → ⊥
two_apart past e e' same =
    let more : length past ≡ suc (suc (length past)) = ap length same in omega (arith, more)

-- a failure of the store is told by one entry
fetch_runs : (g : Page) (fetch : Fetch) (page : Page) (reason : BusWhy) → IsFetch g fetch (Bus page reason) → RunsBy 1 (Bus page reason)
fetch_runs g (WaitsFor target) page reasons.Slot h = absurd h
fetch_runs g (Asks target at None) page reasons.Slot h = absurd h
fetch_runs g (Asks target at (Some f)) page reasons.Slot h = absurd h
fetch_runs g fetch page reason h = refl

due_runs : (frames : ℕ) (past : List Entry) (g : Page) (at : Place) (page : Page) (reason : BusWhy)
    → IsNext (fetches frames past g at) (Bus page reason) → RunsBy 1 (Bus page reason)
due_runs frames past g (Away slot) page reason h = fetch_runs g (fetch frames past (target_by past g (Away slot))) page reason h
due_runs frames past g Absent page reason h = absurd h
due_runs frames past g (Here f) page reason h = absurd h
due_runs frames past g (Leaving f) page reason h = absurd h
due_runs frames past g (Loading f slot) page reason h = absurd h

-- a store goes on telling its calls, or none
call_tells : (call : Call) (o : Option (List Call)) → is_some (with_call call o) ≡ is_some o
call_tells call None = refl
call_tells call (Some calls) = refl

got_tells : (page : Page) (got : Result (Option Sealed) StoreFault) (o : Option (List Call)) → is_some (told_got page got o) ≡ is_some o
got_tells page (Ok (Some rec)) o = call_tells (Got page (Given rec)) o
got_tells page (Ok None) o = call_tells (Got page Nothing) o
got_tells page (Err faults.Failed) o = call_tells (Got page Failed) o
got_tells page (Err faults.Memory) o = refl

resolved_tells : (cpu : Cpu) (page : Page) (state : PageState) (d d' : Driver) (m m' : Parts) (told told' : Option (List Call))
    (answer : FaultAnswer) → IsResolved cpu page state d m told answer d' m' told' → is_some told' ≡ is_some told
resolved_tells cpu page (states.Away slot) d d' m m' told told' answer does =
    by_slot (slot_here_in d slot) (least_free (state_of m).frames (state_of m).content) does
  where
    by_slot : (at : Option SlotAt) (o : Option ℕ) → IsAsking cpu page slot at o d m told answer d' m' told' → is_some told' ≡ is_some told
    by_slot None o k = absurd k
    by_slot (Some at) None k = ap is_some k.calls
    by_slot (Some at) (Some f) k = ap is_some k.calls ∙ got_tells page k.got told
resolved_tells cpu page (states.Lost slot) d d' m m' told told' answer does = ap is_some does.calls
resolved_tells cpu page (states.Here f) d d' m m' told told' answer does = ap is_some does.calls
resolved_tells cpu page (states.Leaving f) d d' m m' told told' answer does = ap is_some does.calls
resolved_tells cpu page (states.Loading f slot) d d' m m' told told' answer does = ap is_some does.calls
resolved_tells cpu page states.Absent d d' m m' told told' answer does = ap is_some does.calls

module _ {s : Course} {entries : Vec Entry} {d' : Driver} {m' : Parts} {told told' : Option (List Call)} {spare : ℕ} {cpu : Cpu}
    {page : Page} {before : Mode} where
  -- .. and what it leaves
  pub left_by : (answer : FaultAnswer) → Fetched s entries d' m' told told' spare cpu page before answer
      → Leaves cpu (asked_in s.driver page) answer s.driver d' s.machine m' told told'
  left_by answer f =
      resolved_leaves cpu (asked_in s.driver page) (page_state s.driver.states (asked_in s.driver page)) answer s.driver d' s.machine m'
      told told' f.does

  -- .. and what its store tells
  pub fetch_tells : (answer : FaultAnswer) → Fetched s entries d' m' told told' spare cpu page before answer
      → is_some told' ≡ is_some told
  fetch_tells answer f =
      resolved_tells cpu (asked_in s.driver page) (page_state s.driver.states (asked_in s.driver page)) s.driver d' s.machine m' told told'
      answer f.does

  -- the page that is asked for has its place
  pub asked_placed : (answer : FaultAnswer) → Fetched s entries d' m' told told' spare cpu page before answer
      → IsPlaced s.driver.states.counts (asked_in s.driver page)
  asked_placed answer f =
      (can_resolve (machine_of s.job) s.job (past_of s) s.driver s.machine f.keeps.book.agrees page f.placed).asked

  -- a page that is here, and a wait
  pub here_same : Fetched s entries d' m' told told' spare cpu page before answers.Here → vec_capacity s.entries ≤ vec_capacity entries
      → IsSame s (mid s entries d' m')
  here_same f room =
      let left = left_by answers.Here f in still s entries d' m' (sym left.as_before.driver) (sym left.as_before.machine) f.items room

  -- .. where it waits
  pub again_same : (why : Why) → Fetched s entries d' m' told told' spare cpu page before (answers.Again why)
      → vec_capacity s.entries ≤ vec_capacity entries → IsSame s (mid s entries d' m')
  again_same why f room =
      let left = left_by (answers.Again why) f in
      still s entries d' m' (sym left.as_before.driver) (sym left.as_before.machine) f.items room

  -- .. and the store was asked nothing
  pub here_told : Fetched s entries d' m' told told' spare cpu page before answers.Here → told' ≡ told
  here_told f = (left_by answers.Here f).calls

  -- .. where it waits too
  pub again_told : (why : Why) → Fetched s entries d' m' told told' spare cpu page before (answers.Again why) → told' ≡ told
  again_told why f = (left_by (answers.Again why) f).calls

  -- it waits as is due
  pub here_waits_by : Fetched s entries d' m' told told' spare cpu page before answers.Here
      → IsWaitBy (cpu_due s.job (past_of s) cpu.0) (waits.Busy page)
  here_waits_by f =
      subst (λ due. IsWaitBy due (waits.Busy page))
      (sym (f.due ∙ here_waits s.job.epc (past_of s) page (place (past_of s) page)
      (right_of s entries d' m' told told' spare cpu page before answers.Here f).due)) refl

  -- .. for the reason that is due
  pub again_waits_by : (why : Why) → Fetched s entries d' m' told told' spare cpu page before (answers.Again why)
      → IsWaitBy (cpu_due s.job (past_of s) cpu.0) why
  again_waits_by why f =
      subst (λ due. IsWaitBy due why) (sym f.due)
      (by_due (fetches s.job.epc (past_of s) page (place (past_of s) page))
      (right_of s entries d' m' told told' spare cpu page before (answers.Again why) f).due.1)
    where
      by_due : (due : Due) → WaitsBy due why → IsWaitBy due why
      by_due (Waits reason) h = h
      by_due (Fetches g (WaitsFor target)) h = h
      by_due (Fetches g (Asks target slot None)) h = h
      by_due _ h = absurd h

  -- where it waits for a free frame, its page is not lost
  unlost : (answer : FaultAnswer) → (answer ≡ answers.Bus reasons.PutFailed → ⊥)
      → Fetched s entries d' m' told told' spare cpu page before answer → IsNotLost told (cpu_due s.job (past_of s) cpu.0)
  unlost answer other f =
      subst (IsNotLost told) (sym f.due) (by_state (page_state s.driver.states page) refl f.does)
    where
      at : (x : PageState) → page_state s.driver.states page ≡ x → place (past_of s) page ≡ place_in x
      at x is = sym (f.keeps.book.agrees.shows.states page f.placed) ∙ ap place_in is

      none : (x : PageState) → page_state s.driver.states page ≡ x
          → IsNotLost told (fetches s.job.epc (past_of s) page (place_in x))
          → IsNotLost told (fetches s.job.epc (past_of s) page (place (past_of s) page))
      none x is = subst (λ p. IsNotLost told (fetches s.job.epc (past_of s) page p)) (sym (at x is))

      by_state : (x : PageState) → page_state s.driver.states page ≡ x
          → IsResolved cpu (asked_by s.driver page x) (page_state s.driver.states (asked_by s.driver page x)) s.driver s.machine told
          answer d' m' told' → IsNotLost told (fetches s.job.epc (past_of s) page (place (past_of s) page))
      by_state (states.Away slot) is does =
          let target = target_in s.driver page slot in
          let same : asked_in s.driver page ≡ target = ap (asked_by s.driver page) is in
          none (states.Away slot) is
          (needs_unlost told s.job.epc (past_of s) page target slot
          (sym (target_is (drivers s.job) s.job s.driver (past_of s) f.keeps.book.agrees.shows page slot f.keeps.book.agrees.sound
          (at (states.Away slot) is) ∙ ap (target_by (past_of s) page) (at (states.Away slot) is)))
          (both_unlost told page target
          (told_unlost s.job.key (past_of s) s.driver page told f.keeps.book.store f.placed (ap is_lost_state is))
          (told_unlost s.job.key (past_of s) s.driver target told f.keeps.book.store
          (subst (IsPlaced s.driver.states.counts) same (asked_placed answer f))
          (not_lost cpu target (page_state s.driver.states target) s.driver d' s.machine m' told told' answer other does))))
      by_state (states.Lost slot) is does =
          absurd (lost_says (page_state s.driver.states page) is does)
        where
          lost_says : (x : PageState) → x ≡ states.Lost slot
              → IsResolved cpu page x s.driver s.machine told answer d' m' told' → ⊥
          lost_says x same k =
              false≢true (sym (not_lost cpu page x s.driver d' s.machine m' told told' answer other k) ∙ ap is_lost_state same)
      by_state (states.Here n) is does = none (states.Here n) is tt
      by_state states.Absent is does = none states.Absent is tt
      by_state (states.Leaving n) is does = none (states.Leaving n) is tt
      by_state (states.Loading n slot) is does = none (states.Loading n slot) is tt

  pub here_unlost : Fetched s entries d' m' told told' spare cpu page before answers.Here
      → IsNotLost told' (cpu_due s.job (past_of s) cpu.0)
  here_unlost f =
      subst (λ o. IsNotLost o (cpu_due s.job (past_of s) cpu.0)) (sym (here_told f)) (unlost answers.Here (λ same. cc) f)

  pub again_unlost : (why : Why) → Fetched s entries d' m' told told' spare cpu page before (answers.Again why)
      → IsNotLost told' (cpu_due s.job (past_of s) cpu.0)
  again_unlost why f =
      subst (λ o. IsNotLost o (cpu_due s.job (past_of s) cpu.0)) (sym (again_told why f)) (unlost (answers.Again why) (λ same. cc) f)

  -- ---- the start of a load

  -- it was made
  pub start_made : (e : Entry) (work : Box UnsealWork) → Fetched s entries d' m' told told' spare cpu page before (answers.Started e work)
      → IsMade (machine_of s.job) s.job (past_of s) told s.driver s.machine e told' d' m'
  start_made e work f =
      fetch_made s d' m' told told' spare cpu page (asked_in s.driver page) (answers.Started e work) f.keeps f.mine f.due
      (asked_placed (answers.Started e work) f) f.does
      (right_of s entries d' m' told told' spare cpu page before (answers.Started e work) f) f.cpus (λ reason same. cc)

  -- it can be taken in
  abbrev pub start_can : (e : Entry) (work : Box UnsealWork)
      → Fetched s entries d' m' told told' spare cpu page before (answers.Started e work)
      → CanTake (mid s entries d' m') before e
  start_can e work f =
      can_take (mid s entries d' m') (past_of s) told told' spare s.driver s.machine before e
      (course_stands s entries d' m' told spare f.items f.keeps)
      (start_made e work f)
      (f.stood ∙ sym (ap (mode_of s.machine) (right_of s entries d' m' told told' spare cpu page before (answers.Started e work) f).due.1))
      (let room = f.room in omega (arith, room))
      (ap is_reclaimer (right_of s entries d' m' told told' spare cpu page before (answers.Started e work) f).due.1)

  -- the course has grown by it
  pub start_grows : (e : Entry) (work : Box UnsealWork) (new : Course)
      → Fetched s entries d' m' told told' spare cpu page before (answers.Started e work) → Takes (mid s entries d' m') new before e
      → Grows s (actors.Cpu cpu) 1 new told' spare
  start_grows e work new f takes =
      let took = took_in (mid s entries d' m') new before e takes (start_can e work f) in
      let right = right_of s entries d' m' told told' spare cpu page before (answers.Started e work) f in
      let away = right_away s.job (past_of s) cpu page (asked_in s.driver page) (answers.Started e work) d' right in
      grows_one s new cpu e told' spare away.0
      (took_past (mid s entries d' m') new (past_of s) told' before e (ap reverse f.items) took) took.job takes.kicks
      (fetched_keeps (mid s entries d' m') new (past_of s) told told' spare s.driver s.machine before e page
      (course_stands s entries d' m' told spare f.items f.keeps) took away.1 right.due.3 (ap is_reclaimer away.0)
      (start_arrays s d' cpu e away.0 (left_by (answers.Started e work) f).acts
      (ap (λ (x : Driver). x.slots) (left_by (answers.Started e work) f).driver) f.keeps.arrays)
      (left_by (answers.Started e work) f).calm f.keeps.clear f.room)

  -- what is left is to open the record
  pub start_opens : (e : Entry) (work : Box UnsealWork) (new : Course)
      → Fetched s entries d' m' told told' spare cpu page before (answers.Started e work) → Takes (mid s entries d' m') new before e
      → OpensFor new cpu work
  start_opens e work new f takes =
      subst (λ (x : Parts). IsAgain cpu new.driver x (Some work)) (sym (ap (λ (x : Course). x.machine) takes.others))
      (subst (λ (x : Driver). IsAgain cpu x m' (Some work)) (sym takes.driver)
      (begun_opens s.job (past_of s) cpu (asked_in s.driver page) s.driver d' m' e work new.driver.active.own f.keeps.book.agrees.shows
      (asked_placed (answers.Started e work) f) (kept_room s.job s.driver (past_of s) cpu.0 f.keeps.book.agrees.shows f.mine)
      (left_by (answers.Started e work) f)))

  -- ---- a bus

  -- it was made
  pub told_made : (reason : BusWhy) → Fetched s entries d' m' told told' spare cpu page before (answers.Bus reason) → (b : Entry)
      → b ≡ bus_of cpu (asked_in s.driver page) reason
      → ((making : Making) (h : List Entry) → ShapeWithRules making (state_of m') h → ShapeWithRules making (state_of m') (b ∷ h))
      → ((frames : ℕ) (h : List Entry) → FitsApart frames h → FitsApart frames (b ∷ h)) → StaysWith (state_of m') b
      → IsMade (machine_of s.job) s.job (past_of s) told s.driver s.machine (bus_of cpu (asked_in s.driver page) reason) told' d' m'
  told_made reason f b is shape fits history =
      fetch_made s d' m' told told' spare cpu page (asked_in s.driver page) (answers.Bus reason) f.keeps f.mine f.due
      (asked_placed (answers.Bus reason) f) f.does
      (right_of s entries d' m' told told' spare cpu page before (answers.Bus reason) f) f.cpus
      (λ other same agrees. (let reasons : reason ≡ other = cc in
      subst (NotesBus s.job (past_of s) m') (is ∙ ap (bus_of cpu (asked_in s.driver page)) reasons)
      (notes_of s.job (past_of s) s.driver m' b agrees shape fits history)))

  -- it can be taken in
  abbrev pub told_can : (reason : BusWhy) → Fetched s entries d' m' told told' spare cpu page before (answers.Bus reason)
      → IsMade (machine_of s.job) s.job (past_of s) told s.driver s.machine (bus_of cpu (asked_in s.driver page) reason) told' d' m'
      → CanTake (mid s entries d' m') before (bus_of cpu (asked_in s.driver page) reason)
  told_can reason f made =
      can_take (mid s entries d' m') (past_of s) told told' spare s.driver s.machine before (bus_of cpu (asked_in s.driver page) reason)
      (course_stands s entries d' m' told spare f.items f.keeps) made f.stood (let room = f.room in omega (arith, room)) refl

  -- the course has grown by it
  pub told_grows : (reason : BusWhy) (new : Course) → Fetched s entries d' m' told told' spare cpu page before (answers.Bus reason)
      → IsMade (machine_of s.job) s.job (past_of s) told s.driver s.machine (bus_of cpu (asked_in s.driver page) reason) told' d' m'
      → Takes (mid s entries d' m') new before (bus_of cpu (asked_in s.driver page) reason) → Grows s (actors.Cpu cpu) 1 new told' spare
  told_grows reason new f made takes =
      let took = took_in (mid s entries d' m') new before (bus_of cpu (asked_in s.driver page) reason) takes (told_can reason f made) in
      let right = right_of s entries d' m' told told' spare cpu page before (answers.Bus reason) f in
      let away = right_away s.job (past_of s) cpu page (asked_in s.driver page) (answers.Bus reason) d' right in
      grows_one s new cpu (bus_of cpu (asked_in s.driver page) reason) told' spare refl
      (took_past (mid s entries d' m') new (past_of s) told' before (bus_of cpu (asked_in s.driver page) reason) (ap reverse f.items) took)
      took.job takes.kicks
      (fetched_keeps (mid s entries d' m') new (past_of s) told told' spare s.driver s.machine before
      (bus_of cpu (asked_in s.driver page) reason) page
      (course_stands s entries d' m' told spare f.items f.keeps) took away.1 refl refl
      (arrays_stay s.job s.driver.slots d'.slots (past_of s) (bus_of cpu (asked_in s.driver page) reason) refl refl
      (ap (λ (x : Driver). length x.slots.arrays) (left_by (answers.Bus reason) f).driver)
      (ap (λ (x : Driver). x.slots.room) (left_by (answers.Bus reason) f).driver) f.keeps.arrays) refl f.keeps.clear f.room)

  -- ---- the refused start of a load

  -- there is room for its entry and the bus behind it, and for the ends of the starts that are open
  pub slot_room : (e : Entry) → Fetched s entries d' m' told told' spare cpu page before (answers.Slot e) → (t : Turns)
      → IsNoted s.job s.turns before e t
      → vec_len entries + 2 + 2 * (count_by has_open_load t.cpus + (if is_sealing s.pass then 1 else 0)) ≤ vec_capacity entries
  slot_room e f t noted =
      let by = (right_of s entries d' m' told told' spare cpu page before (answers.Slot e) f).due.1 in
      let turn = turn_after e.event before (turn_at s.turns.cpus cpu.0) in
      let cpus : t.cpus ≡ set s.turns.cpus cpu.0 turn = noted.cpus
      ∙ start_kicks e.event (left_by (answers.Slot e) f).acts (with_own e.actor e.event before s.turns.cpus)
      ∙ ap (λ a. with_own a e.event before s.turns.cpus) by in
      let same : length t.cpus ≡ length s.turns.cpus = ap length cpus ∙ length-set s.turns.cpus cpu.0 turn in
      let few = few_cpus (machine_of s.job) s.job (past_of s) told s.driver s.machine s.turns f.keeps.book in
      let room = f.room in
      by_pass t (is_sealing s.pass) (count_by-le-length has_open_load t.cpus) same few room
    where
      by_pass : (t' : Turns) (b : Bool) → count_by has_open_load t'.cpus ≤ length t'.cpus → length t'.cpus ≡ length s.turns.cpus
          → length s.turns.cpus ≤ 16 → vec_len entries + 64 ≤ vec_capacity entries
          → vec_len entries + 2 + 2 * (count_by has_open_load t'.cpus + (if b then 1 else 0)) ≤ vec_capacity entries
      by_pass t' true low same few room = omega (arith, low, same, few, room)
      by_pass t' false low same few room = omega (arith, low, same, few, room)

  -- a processor that needs a page has no load to end
  pub free : (e : Entry) → Fetched s entries d' m' told told' spare cpu page before (answers.Slot e)
      → loaded_by (last_of (past_of s) cpu.0) ≡ None
  free e k = by_load (loaded_by (last_of (past_of s) cpu.0)) refl
    where
      by_load : (o : Option Page) → loaded_by (last_of (past_of s) cpu.0) ≡ o → o ≡ None
      by_load None is = refl
      by_load (Some g) is =
          absurd (fetches_none s.job (past_of s) cpu.0 s.job.epc page (place (past_of s) page) k.due (ap is_some is))

  -- so both can be taken in
  abbrev pub slot_refuses : (e : Entry) → Fetched s entries d' m' told told' spare cpu page before (answers.Slot e)
      → CanRefuse (mid s entries d' m') cpu (asked_in s.driver page) before e reasons.Slot
  slot_refuses e f =
      let right = right_of s entries d' m' told told' spare cpu page before (answers.Slot e) f in
      let asked = asked_in s.driver page in
      let placed = asked_placed (answers.Slot e) f in
      let held = kept_room s.job s.driver (past_of s) cpu.0 f.keeps.book.agrees.shows f.mine in
      let same = ap (λ h. e ∷ reverse h) f.items in
      let stands = course_stands s entries d' m' told spare f.items f.keeps in
      let left = left_by (answers.Slot e) f in
      let made = fetch_made s d' m' told told' spare cpu page asked (answers.Slot e) f.keeps f.mine f.due placed f.does right f.cpus
      (λ reason same. cc) in
      record {
        spare = spare;
        take = can_take (mid s entries d' m') (past_of s) told told' spare s.driver s.machine before e stands made
            (f.stood ∙ sym (ap (mode_of s.machine) right.due.1)) (let room = f.room in omega (arith, room)) (ap is_reclaimer right.due.1);
        actor = right.due.1;
        mine = f.mine;
        going = subst (λ h. is_spent h ≡ false) (sym same)
            (refused_going (past_of s) cpu asked e reasons.Slot right.due.1 right.due.3 (fetch_going s.job (past_of s) cpu.0 page f.due));
        fails = subst (λ h. last_of h cpu.0 ≡ Fails asked reasons.Slot) (sym same) right.due.3;
        shows = subst (λ h. ShowsTables (drivers s.job) s.job d' (bus_of cpu asked reasons.Slot ∷ h)) (sym same) (right.shows (free e f)).1;
        store = subst (λ h. AreTold s.job h (bus_of cpu asked reasons.Slot) told' told' d' d') (sym same)
            (fault_told (machine_of s.job) s.job (past_of s) told told' s.driver d' s.machine m' s.turns cpu asked (answers.Slot e)
            f.keeps.book held placed f.keeps.book.agrees.shows.sized f.does).1;
        never = start_never (machine_of s.job) s.job (past_of s) told told' s.driver d' s.machine m' s.turns cpu page asked
            (answers.Slot e) f.keeps.book held placed f.does right tt;
        first = subst HasFirst (sym same)
            (stands_first (mid s entries d' m') (past_of s) told spare s.driver s.machine e stands (ap is_reclaimer right.due.1));
        places = f.keeps.places;
        arrays = subst (λ h. KeepsKeeper s.job d'.slots (bus_of cpu asked reasons.Slot ∷ h)) (sym same)
            (arrays_stay s.job d'.slots d'.slots (e ∷ past_of s) (bus_of cpu asked reasons.Slot) refl refl refl refl
            (start_arrays s d' cpu e right.due.1 left.acts (ap (λ (x : Driver). x.slots) left.driver) f.keeps.arrays));
        ends = subst EndsAreTold (sym (ap reverse f.items)) f.keeps.ends;
        clear = subst (IsClear s.job) (sym (ap reverse f.items)) f.keeps.clear;
        room = slot_room e f;
      }

  -- ---- what the turn owes

  -- of a load's start
  pub start_turns : (e : Entry) (work : Box UnsealWork) (new : Course) (spare' : ℕ)
      → Fetched s entries d' m' told told' spare cpu page before (answers.Started e work) → Takes (mid s entries d' m') new before e
      → spare' ≡ spare → OpensFor new cpu work × Grows s (actors.Cpu cpu) 1 new told' spare'
  start_turns e work new spare' f takes same = (
    start_opens e work new f takes,
    subst (Grows s (actors.Cpu cpu) 1 new told') (sym same) (start_grows e work new f takes),
  )

  -- it is the only entry of its turn
  pub told_runs : (reason : BusWhy) → Fetched s entries d' m' told told' spare cpu page before (answers.Bus reason)
      → RunsBy 1 (Bus (asked_in s.driver page) reason)
  told_runs reason f =
      due_runs s.job.epc (past_of s) page (place (past_of s) page) (asked_in s.driver page) reason
      (right_of s entries d' m' told told' spare cpu page before (answers.Bus reason) f).due.1

  -- .. and a refused start has a second one
  pub slot_grows : (e : Entry) (new : Course) (spare' : ℕ) → Fetched s entries d' m' told told' spare cpu page before (answers.Slot e)
      → Grows (mid s entries d' m') (actors.Cpu cpu) 2 new told' spare → spare' ≡ spare → Grows s (actors.Cpu cpu) 2 new told' spare'
  slot_grows e new spare' f g same =
      subst (Grows s (actors.Cpu cpu) 2 new told') (sym same)
      (record {
        entries = g.entries;
        count = g.count;
        actors = g.actors;
        past = g.past ∙ ap (λ items. g.entries ++ reverse items) f.items;
        job = g.job;
        kicks = g.kicks;
        keeps = g.keeps;
      })

  -- a bus can be taken in
  pub told_takes : (reason : BusWhy) → Fetched s entries d' m' told told' spare cpu page before (answers.Bus reason) → (b : Entry)
      → b ≡ bus_of cpu (asked_in s.driver page) reason
      → ((making : Making) (h : List Entry) → ShapeWithRules making (state_of m') h → ShapeWithRules making (state_of m') (b ∷ h))
      → ((frames : ℕ) (h : List Entry) → FitsApart frames h → FitsApart frames (b ∷ h)) → StaysWith (state_of m') b
      → CanTake (mid s entries d' m') before b
  told_takes reason f b is shape fits history =
      subst (CanTake (mid s entries d' m') before) (sym is) (told_can reason f (told_made reason f b is shape fits history))

  -- of a bus
  pub told_turns : (reason : BusWhy) (new : Course) (spare' : ℕ)
      → Fetched s entries d' m' told told' spare cpu page before (answers.Bus reason) → (b : Entry)
      → b ≡ bus_of cpu (asked_in s.driver page) reason
      → ((making : Making) (h : List Entry) → ShapeWithRules making (state_of m') h → ShapeWithRules making (state_of m') (b ∷ h))
      → ((frames : ℕ) (h : List Entry) → FitsApart frames h → FitsApart frames (b ∷ h)) → StaysWith (state_of m') b
      → Takes (mid s entries d' m') new before b → spare' ≡ spare → Grows s (actors.Cpu cpu) 1 new told' spare'
  told_turns reason new spare' f b is shape fits history takes same =
      subst (Grows s (actors.Cpu cpu) 1 new told') (sym same)
      (told_grows reason new f (told_made reason f b is shape fits history) (subst (Takes (mid s entries d' m') new before) is takes))

  -- of a page that is here
  pub here_keeps : (spare' : ℕ) → Fetched s entries d' m' told told' spare cpu page before answers.Here
      → vec_capacity s.entries ≤ vec_capacity entries → spare' ≡ spare → KeepsCourse (mid s entries d' m') told' spare'
  here_keeps spare' f room same =
      same_keeps s (mid s entries d' m') told' spare' (here_same f room)
      (subst (KeepsCourse s told') (sym same) (subst (λ o. KeepsCourse s o spare) (sym (here_told f)) f.keeps))

  -- of a wait
  pub again_keeps : (why : Why) (spare' : ℕ) → Fetched s entries d' m' told told' spare cpu page before (answers.Again why)
      → vec_capacity s.entries ≤ vec_capacity entries → spare' ≡ spare → KeepsCourse (mid s entries d' m') told' spare'
  again_keeps why spare' f room same =
      same_keeps s (mid s entries d' m') told' spare' (again_same why f room)
      (subst (KeepsCourse s told') (sym same) (subst (λ o. KeepsCourse s o spare) (sym (again_told why f)) f.keeps))
