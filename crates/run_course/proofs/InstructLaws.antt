-- An instruction that is due, and its entry.
use Rattle.std.proofs.Common.{◌≡◌, ℕ, ◌+◌, ◌≤◌, ◌<◌, ◌^◌, Bool, true, false, if◌then◌else◌, List, ◌∷◌, Option, Some}
use Rattle.std.proofs.Common.{None, IfSome, length, vec_len, vec_capacity, inl, inr, refl, sym, ap, subst, ◌∙◌, arith}
use Rattle.std.specs.Option.{option_map}
use Rattle.std.proofs.lemmas.Bool.{false≢true}
use Rattle.sgx_rules.specs.declared.entries.Action.{Action}
use Rattle.sgx_rules.specs.declared.entries.Action.TheVariants.{Eld, EldStart, Epa}
use Rattle.sgx_types.specs.declared.names.Actor.{Actor}
use Rattle.sgx_types.specs.declared.names.Actor.TheVariants as actors
use Rattle.sgx_rules.specs.declared.entries.Entry.{Entry}
use Rattle.sgx_rules.specs.declared.entries.Event.{Event}
use Rattle.sgx_rules.specs.declared.entries.Event.TheVariants.{Refused}
use Rattle.job_grammar.specs.Jobs.{JobView, va_pages}
use Rattle.script_rules.specs.Machines.{machine_of}
use Rattle.script_rules.specs.Script.{action_of}
use Rattle.backing_store.specs.Calls.{Call}
use Rattle.run_calls.specs.inner.Stores.{StoreMoves}
use Rattle.cached_translations.specs.declared.processor.Mode.{Mode}
use Rattle.machine_laws.specs.inner.Steps.{CanApply, CanMove, IsStep}
use Rattle.machine_laws.proofs.ColumnLaws.{vas_is}
use Rattle.driver_laws.proofs.ArrayLaws.{arrays_few}
use Rattle.sgx_rules.specs.Frames.{vas_made}
use Rattle.sgx_machine.specs.inner.Parts.{Parts, state_of}
use Rattle.driver_rules.specs.Dues.{Due, IsNext, Makes, Stopped}
use Rattle.driver_rules.specs.Scripts.{IsActors, ScriptRule}
use Rattle.driver_rules.specs.Stops.{is_spent}
use Rattle.driver_tables.specs.declared.driver.Driver.{Driver}
use Rattle.driver_tables.specs.inner.Carried.{Carries}
use Rattle.driver_laws.specs.inner.Agrees.{drivers}
use Rattle.driver_tables.specs.inner.Targets.{first_in}
use Rattle.driver_rules.specs.Passes.{pass, pass_after}
use Rattle.driver_pass.specs.inner.Standing.{StandsFor}
use Rattle.driver_pass.specs.inner.Viewed.{is_amid, PassView}
use Rattle.due_tables.specs.inner.Holding.{mode_of}
use Rattle.due_tables.specs.inner.Noting.{IsAmong}
use Rattle.due_tables.proofs.OrderLaws.{enters_apart}
use Rattle.due_notes.specs.inner.Noted.{AreNoted, CanNoteTables, HasSecsHere, KeepsFrom}
use Rattle.due_notes.proofs.FromLaws.{drivers_keep}
use Rattle.due_notes.proofs.SecsLaws.{added_with_secs}
use Rattle.due_tables.proofs.FirstLaws.{agrees_shown}
use Rattle.due_notes.proofs.EntryLaws.{IsEntryOf, entry_by}
use Rattle.run_laws.specs.inner.Books.{CarriesBytes, IsMade, KeepsBook}
use Rattle.due_notes.specs.inner.Plain.{is_plain, is_reclaimer}
use Rattle.driver_rules.specs.inner.Stops.{frame_started, started}
use Rattle.run_course.proofs.RecordLaws.{none_started_built, none_started_by}
use Rattle.run_laws.proofs.PlainLaws.{plain_next}
use Rattle.run_records.proofs.FlatSteps.{flat_step}
use Rattle.run_records.proofs.ToldLaws.{plain_told}
use Rattle.run_records.proofs.StepBytes.{plain_bytes}
use Rattle.run_laws.proofs.StayLaws.{passes_stay}
use Rattle.run_laws.proofs.MakeLaws.{builder_makes, cpu_makes}
use Rattle.run_course.specs.declared.course.Course.{Course}
use Rattle.run_course.proofs.EndedLaws.{is_failed}
use Rattle.run_course.proofs.KeepLaws.{Enters}
use Rattle.run_course.specs.inner.Courses.{past_of}
use Rattle.run_course.specs.inner.Turns.{CanInstruct, IsDueTo}
use Rattle.run_records.proofs.QuietLaws.{plain_honest}

-- ---- what is due

-- its actor is the builder or a processor of the machine, and it moves no page out or back
pub record IsLawful (c : Course) (actor : Actor) (action : Action) : Type 0 where
  pub can : CanApply (length c.machine.cpus) actor action
  pub plain : is_plain action ≡ true
  pub other : is_reclaimer actor ≡ false
  pub among : IsAmong (length c.machine.cpus) actor

-- as many processors as the job has scripts
pub cpus_of : (c : Course) (past : List Entry) (told : Option (List Call))
    → KeepsBook (machine_of c.job) c.job past told c.driver c.machine c.turns
    → length c.machine.cpus ≡ length c.job.scripts
cpus_of c past told k = k.agrees.cpus ∙ k.agrees.shows.cpus

pub lawful : (c : Course) (actor : Actor) (action : Action) → CanInstruct c actor action → IsLawful c actor action
lawful c actor action k = by_actor actor k.due
  where
    same : length c.machine.cpus ≡ length c.job.scripts
    same = cpus_of c (past_of c) k.told k.keeps.book

    by_actor : (a : Actor) → IsDueTo c a action → IsLawful c a action
    by_actor actors.Builder due =
        let both = builder_makes (length c.machine.cpus) c.job (past_of c) action due in
        record { can = both.0; plain = both.1; other = refl; among = tt }
    by_actor (actors.Cpu cpu) due =
        let low = due.0 in
        let within : cpu.0 < length c.machine.cpus = omega (arith, low, same) in
        let both = cpu_makes (length c.machine.cpus) c.job (past_of c) cpu.0 cpu action due.1 within refl in
        record { can = both.0; plain = both.1.0; other = refl; among = within }
    by_actor actors.Reclaimer due = absurd due

-- a version array page is made only where fewer were made than the job has
pub can_move : (c : Course) (actor : Actor) (action : Action) → CanInstruct c actor action → CanMove (state_of c.machine) action
can_move c actor action k = by_action action
  where
    few : (state_of c.machine).vas_made < 2 ^ 32
    few =
        let book = k.keeps.book in
        let made = vas_is book.agrees.follows.shape.columns in
        let low : vas_made (past_of c) ≤ va_pages c.job = arrays_few c.job (past_of c) book.agrees.built in
        omega (arith, made, low, book.turns.valid.enough_frames, book.turns.valid.few_frames)

    by_action : (x : Action) → CanMove (state_of c.machine) x
    by_action (Epa f) = few
    by_action x = tt

-- nothing was used up before an instruction that is due
going_by : (j : JobView) (past : List Entry) (a : Actor) (action : Action) (due : Due)
    → (if is_spent past then Stopped else due) ≡ Makes action → is_spent past ≡ false
going_by j past a action due = by_test (is_spent past)
  where
    by_test : (b : Bool) → (if b then Stopped else due) ≡ Makes action → b ≡ false
    by_test true h = cc
    by_test false h = refl

-- the entry of a step by its action
pub acts : (s t : Parts) (a : Actor) (action : Action) (e : Entry) → IsStep (state_of s) a action e (state_of t)
    → (e.actor ≡ a) × (action_of e.event ≡ Some action)
acts s t a action e is = by_entry (entry_by (state_of s) (state_of t) a action e is)
  where
    by_entry : IsEntryOf (state_of s) a action e → (e.actor ≡ a) × (action_of e.event ≡ Some action)
    by_entry (inl k) = rw k.is (refl, refl)
    by_entry (inr k) = rw k.is (refl, refl)

-- the entry of an instruction that is due is its actor's next
pub scripted : (c : Course) (m' : Parts) (actor : Actor) (action : Action) (e : Entry) → IsDueTo c actor action
    → IsStep (state_of c.machine) actor action e (state_of m') → ScriptRule c.job (past_of c) e
scripted c m' actor action e due is =
    let both = acts c.machine m' actor action e is in
    record {
      not_spent = spent actor due;
      next = subst (λ a. IsActors c.job (past_of c) a e.event) (sym both.0) (next actor due both.1);
    }
  where
    spent : (a : Actor) → IsDueTo c a action → is_spent (past_of c) ≡ false
    spent actors.Builder h = going_by c.job (past_of c) actors.Builder action _ h
    spent (actors.Cpu cpu) h = going_by c.job (past_of c) (actors.Cpu cpu) action _ h.1
    spent actors.Reclaimer h = absurd h

    next : (a : Actor) → IsDueTo c a action → action_of e.event ≡ Some action → IsActors c.job (past_of c) a e.event
    next actors.Builder h told = subst (λ due. IsNext due e.event) (sym h) told
    next (actors.Cpu cpu) h told = (h.0, subst (λ due. IsNext due e.event) (sym h.1) told)
    next actors.Reclaimer h told = absurd h

-- ---- the tables

-- a page is added while its enclave's SECS is here
with_secs : (c : Course) (m' : Parts) (actor : Actor) (action : Action) (e : Entry) → CanInstruct c actor action
    → IsStep (state_of c.machine) actor action e (state_of m') → HasSecsHere (past_of c) e.event
with_secs c m' actor action e k is =
    let b = k.keeps.book in
    added_with_secs c.job (past_of c) b.turns.valid b.script b.age b.agrees.sound (state_of c.machine) b.agrees.follows.shape.columns
    actor action e (state_of m') (lawful c actor action k).other (scripted c m' actor action e k.due is) is

pub notable : (c : Course) (m' : Parts) (actor : Actor) (action : Action) (e : Entry) (first : ℕ) (before : Mode)
    → CanInstruct c actor action → IsStep (state_of c.machine) actor action e (state_of m') → first ≡ first_in c.driver 0
    → before ≡ mode_of c.machine actor → CanNoteTables c.turns c.driver first before e
notable c m' actor action e first before k is from stood =
    let w = lawful c actor action k in
    let b = k.keeps.book in
    record {
      keeping = drivers c.job;
      keeps = subst (KeepsFrom (drivers c.job)) (sym from) (drivers_keep (drivers c.job) c.job c.driver (past_of c) b.agrees.shows);
      j = c.job;
      past = past_of c;
      m = c.machine;
      m' = m';
      actor = actor;
      action = action;
      plain = w.plain;
      other = w.other;
      step = is;
      script = scripted c m' actor action e k.due is;
      secs = with_secs c m' actor action e k is;
      stood = stood ∙ ap (mode_of c.machine) (sym (acts c.machine m' actor action e is).0);
      shown = agrees_shown (machine_of c.job) c.job (past_of c) c.driver c.machine b.agrees;
      stand = b.agrees.stand;
      shows = b.turns;
      orderly = b.orderly;
      arrays = k.keeps.arrays;
    }

-- .. so they are brought to it
pub noted_by : (c : Course) (d' : Driver) (m' : Parts) (actor : Actor) (action : Action) (e : Entry) (first : ℕ) (before : Mode)
    → CanInstruct c actor action → IsStep (state_of c.machine) actor action e (state_of m') → first ≡ first_in c.driver 0
    → before ≡ mode_of c.machine actor
    → ((can : CanNoteTables c.turns c.driver first before e) → AreNoted can.keeping can.j can.past c.driver e d')
    → AreNoted (drivers c.job) c.job (past_of c) c.driver e d'
unfolding notable
noted_by c d' m' actor action e first before k is from stood notes =
    notes (notable c m' actor action e first before k is from stood)

-- ---- what was made

pub instructed : (c : Course) (d' : Driver) (m' : Parts) (actor : Actor) (action : Action) (e : Entry) (k : CanInstruct c actor action)
    → IsStep (state_of c.machine) actor action e (state_of m') → Carries (state_of c.machine) e (state_of m')
    → length m'.cpus ≡ length c.machine.cpus → AreNoted (drivers c.job) c.job (past_of c) c.driver e d'
    → IsMade (machine_of c.job) c.job (past_of c) k.told c.driver c.machine e k.told d' m'
instructed c d' m' actor action e k is carries cpus noted =
    let made = machine_of c.job in
    let past = past_of c in
    let w = lawful c actor action k in
    let b = k.keeps.book in
    record {
      next = plain_next made c.job past c.driver d' c.machine m' c.pass actor action e w.other w.plain b.turns.valid b.agrees
          k.keeps.stands k.keeps.whole (scripted c m' actor action e k.due is) (with_secs c m' actor action e k is) is carries cpus
          noted.shows noted.counts;
      own = noted.own;
      enters = enters_apart (length c.machine.cpus) (state_of c.machine) actor action e (state_of m') w.can is;
      flat = flat_step (state_of c.machine) (state_of m') past actor action e b.agrees.follows.shape.columns is b.flat;
      store = plain_told c.job past e action k.told c.driver d' (acts c.machine m' actor action e is).1 w.plain (moves k.told);
      bytes = bytes k.told;
      honest = plain_honest made past e action k.told c.machine m' (acts c.machine m' actor action e is).1 w.plain b.agrees.follows carries;
    }
  where
    moves : (o : Option (List Call)) → IfSome o (λ calls. StoreMoves e calls c.driver d')
    moves None = tt
    moves (Some calls) = noted.moves calls

    bytes : (o : Option (List Call)) → IfSome o (CarriesBytes (machine_of c.job) c.job (past_of c) c.machine e m')
    bytes None = tt
    bytes (Some calls) =
        plain_bytes (machine_of c.job) c.job (past_of c) c.machine m' actor action e calls (lawful c actor action k).plain is carries

-- ---- the course behind it

abbrev holds : Option Bool → Bool
holds None = false
holds (Some b) = b

pub plain_event : (event : Event) (action : Action) → action_of event ≡ Some action → is_plain action ≡ true → is_failed event ≡ false
plain_event (Refused (Eld f) refusal) action is plain =
    absurd (false≢true (ap holds (subst (λ o. option_map is_plain o ≡ Some true) (sym is) (ap Some plain))))
plain_event (Refused (EldStart f page slot) refusal) action is plain =
    absurd (false≢true (ap holds (subst (λ o. option_map is_plain o ≡ Some true) (sym is) (ap Some plain))))
plain_event event action is plain = refl

-- ---- its way into the course

pub entered : (c x : Course) (m' : Parts) (actor : Actor) (action : Action) (e : Entry) (first : ℕ) (before : Mode)
    (k : CanInstruct c actor action)
    → IsStep (state_of c.machine) actor action e (state_of m') → Carries (state_of c.machine) e (state_of m')
    → length m'.cpus ≡ length c.machine.cpus → first ≡ first_in c.driver 0 → before ≡ mode_of c.machine actor
    → ((can : CanNoteTables c.turns c.driver first before e) → AreNoted can.keeping can.j can.past c.driver e x.driver) → x.machine ≡ m'
    → x.job ≡ c.job → x.turns ≡ c.turns → x.pass ≡ c.pass → x.entries.items ≡ c.entries.items
    → vec_len x.entries + 1 ≤ vec_capacity x.entries → Enters c x before e k.told k.told
entered c x m' actor action e first before k is carries cpus from stood notes machine job turns same items place =
    let noted = noted_by c x.driver m' actor action e first before k is from stood notes in
    let made = instructed c x.driver m' actor action e k is carries cpus noted in
    let both = acts c.machine m' actor action e is in
    let other = ap is_reclaimer both.0 ∙ (lawful c actor action k).other in
    record {
      job = job;
      turns = turns;
      items = items;
      tcs = k.keeps.tcs;
      book = k.keeps.book;
      made = subst (IsMade (machine_of c.job) c.job (past_of c) k.told c.driver c.machine e k.told x.driver) (sym machine) made;
      stood = stood ∙ ap (mode_of c.machine) (sym both.0);
      place = place;
      stands = subst (λ (p : PassView). StandsFor c.job.start_epoch (e ∷ past_of c) p
          (pass_after c.job (past_of c) e.actor e.event (pass c.job (past_of c)))) (sym same)
          (passes_stay (machine_of c.job) c.job (past_of c) c.driver x.driver c.machine m' e c.pass k.keeps.book.turns.valid.marks.4
          k.keeps.book.agrees made.next other k.keeps.stands);
      whole = ap is_amid same ∙ k.keeps.whole;
    }

-- behind an instruction that is no start its actor has none open
pub none_started_of : (c : Course) (past : List Entry) (e : Entry) (actor : Actor) (action : Action) → IsDueTo c actor action
    → e.actor ≡ actor → frame_started (Some e.event) ≡ None → started (e ∷ past) actor ≡ false
none_started_of c past e actors.Builder action due mine none = none_started_built past e mine none
none_started_of c past e (actors.Cpu p) action due mine none = none_started_by past e p mine none
none_started_of c past e actors.Reclaimer action due mine none = absurd due
