-- What stands behind the entries of a processor's turn.
use Rattle.std.proofs.Common.{◌≡◌, ℕ, ◌+◌, ◌*◌, ◌≤◌, ◌<◌, Bool, true, false, if◌then◌else◌, List, []}
use Rattle.std.proofs.Common.{◌∷◌, ◌++◌, Option, Some, None, length, vec_len, vec_capacity, refl, sym, ap, subst, ◌∙◌}
use Rattle.std.proofs.Common.{arith, IfSome}
use Rattle.std.proofs.lemmas.Bool.{eq-eqb}
use Rattle.std.proofs.lemmas.List.Elements.{All-cons, All-nil}
use Rattle.sgx_rules.specs.declared.entries.Action.{Action}
use Rattle.sgx_rules.specs.declared.entries.Action.TheVariants as actions
use Rattle.sgx_types.specs.declared.names.Actor.TheVariants as actors
use Rattle.sgx_rules.specs.declared.entries.BusWhy.{BusWhy}
use Rattle.sgx_rules.specs.declared.entries.Entry.{Entry}
use Rattle.sgx_rules.specs.declared.entries.Event.{Event}
use Rattle.sgx_rules.specs.declared.entries.Event.TheVariants.{Did, Refused, Age, Kick, Bus}
use Rattle.sgx_types.specs.declared.names.Cpu.{Cpu}
use Rattle.sgx_types.specs.declared.names.Frame.{Frame}
use Rattle.sgx_types.specs.declared.names.Page.{Page}
use Rattle.sgx_rules.specs.declared.refusals.Refusal.{Refusal}
use Rattle.sgx_rules.specs.declared.refusals.Refusal.TheVariants as why
use Rattle.sgx_rules.specs.Processors.{is_by}
use Rattle.sgx_rules.specs.Starts.{open_start}
use Rattle.cached_translations.specs.declared.processor.Mode.{Mode}
use Rattle.job_grammar.specs.Jobs.{JobView}
use Rattle.script_rules.specs.Machines.{machine_of}
use Rattle.script_rules.specs.Script.{action_of, is_builder}
use Rattle.sgx_types.specs.Making.{Making}
use Rattle.sgx_types.proofs.CountLaws.{one_if}
use Rattle.backing_store.specs.Calls.{Call}
use Rattle.driver_list.specs.inner.Places.{IsPlaced}
use Rattle.driver_list.specs.inner.States.{state_of as page_state}
use Rattle.machine_laws.specs.inner.Shape.{FitsApart, ShapeWithRules}
use Rattle.sgx_machine.specs.inner.Parts.{Parts, state_of}
use Rattle.driver_slots.specs.inner.Keeper.{Keeper}
use Rattle.driver_rules.specs.Dues.{Reports, Stopped}
use Rattle.driver_rules.specs.Places.{Absent, Away, Here, Leaving, Loading, Place, place}
use Rattle.driver_rules.specs.inner.Reclaims.{is_refused}
use Rattle.driver_rules.specs.Stops.{is_spent, spends}
use Rattle.driver_rules.specs.Turns.{Fails, Loads, cpu_due, due_after, fails_with, fetches, is_last, last_by, last_of, load_of}
use Rattle.driver_rules.specs.Turns.{start_fails}
use Rattle.driver_rules.specs.Turns.{turn_due}
use Rattle.driver_tables.specs.declared.driver.Driver.{Driver}
use Rattle.driver_laws.specs.inner.Agrees.{loaded_by}
use Rattle.driver_tables.specs.inner.Agrees.{Agrees}
use Rattle.run_calls.specs.inner.Comes.{bus_of}
use Rattle.driver_faults.specs.declared.answers.FaultAnswer.{FaultAnswer}
use Rattle.driver_faults.specs.declared.answers.FaultAnswer.TheVariants as answers
use Rattle.driver_faults.specs.declared.answers.Loaded.{Loaded}
use Rattle.driver_faults.specs.inner.Due.{EndsLoadAt, IsRight, IsRightEnd, ShowsEnd}
use Rattle.driver_faults.specs.inner.Finishing.{CanFinish, IsFinished}
use Rattle.driver_faults.specs.inner.Resolving.{IsResolved}
use Rattle.driver_faults.proofs.EndLaws.{can_finish, finished_is_right}
use Rattle.driver_pass.specs.inner.Viewed.{is_kicked, is_sealing, still_out}
use Rattle.due_notes.specs.inner.Arrays.{KeepsKeeper}
use Rattle.due_notes.proofs.ArrayLaws.{arrays_moved}
use Rattle.due_notes.specs.inner.Plain.{is_reclaimer}
use Rattle.driver_laws.specs.inner.Sound.{is_absent}
use Rattle.driver_tables.specs.inner.Tables.{place_in}
use Rattle.due_tables.specs.declared.turns.Turns.{Turns}
use Rattle.due_tables.specs.inner.CpuTurns.{first_turn, turn_at}
use Rattle.due_tables.specs.inner.Ending.{IsForRecord, NoneFails}
use Rattle.due_tables.specs.inner.Noting.{IsNoted}
use Rattle.due_tables.specs.inner.Shown.{ShowsTurns}
use Rattle.run_laws.specs.inner.Books.{AreTold, IsMade, with_own}
use Rattle.run_laws.specs.inner.Loads.{OfAnswer, entry_in}
use Rattle.run_records.specs.inner.Records.{StaysWith}
use Rattle.run_records.specs.inner.Silent.{OfBus}
use Rattle.run_records.proofs.LoadRecords.{end_told}
use Rattle.run_course.specs.declared.course.Course.{Course}
use Rattle.run_course.specs.inner.Courses.{Grows, IsClear, KeepsCourse, has_open_load, open_starts, past_of}
use Rattle.run_course.specs.inner.Recording.{CanTake, IsRecorded, IsTaken}
use Rattle.run_course.specs.inner.Turns.{EndsBy, EndsLoad, RefusesLoad}
use Rattle.run_course.proofs.KeepLaws.{few_cpus, room_behind}
use Rattle.run_course.proofs.LoadCourse.{Stands, is_open, kept_room, ended_starts, one_longer, stands_keeps}
use Rattle.run_course.proofs.LoadCourse.{taken_stands}
use Rattle.run_course.proofs.SpentLaws.{done_calm, used_calm}
use Rattle.run_course.proofs.LoadLaws.{IsOfAway, due_quiet, end_of_load, starts_set, end_quiet, loading_told}
use Rattle.run_course.proofs.LoadLaws.{none_more}
use Rattle.run_course.proofs.RecordLaws.{newest}
use Rattle.run_course.proofs.LoadMade.{Leaves, NotesBus, end_acts, end_by, end_made, end_slots, fault_made}
use Rattle.run_course.proofs.LoadMade.{resolved_leaves}
use Rattle.history_rules.specs.Honest.{IsHonest}
use Rattle.driver_faults.specs.inner.Finishing.{IsBack}
use Rattle.run_records.proofs.HonestEnds.{ended_back}

-- an entry was taken in, by all that is said of it
pub record TookIn (c c' : Course) (before : Mode) (e : Entry) (longer : Option (List Call)) : Type 0 where
  pub job : c'.job ≡ c.job
  pub machine : c'.machine ≡ c.machine
  pub driver : c'.driver ≡ with_own c.driver c'.driver.active.own
  pub book : IsRecorded c e longer c'
  pub stands : IsTaken c e c'
  pub kept : c'.entries.items ≡ c.entries.items ++ e ∷ []
  pub room : vec_capacity c'.entries ≡ vec_capacity c.entries
  pub noted : IsNoted c.job c.turns before e c'.turns
  pub places : still_out c'.pass ≡ still_out c.pass
  pub sealing : is_sealing c'.pass ≡ is_sealing c.pass
  pub kicks : is_kicked c'.pass ≡ is_kicked c.pass

-- all that is said of it for whatever made it
pub record Takes (c c' : Course) (before : Mode) (e : Entry) : Type 0 where
  pub others : c' ≡ record c { driver = c'.driver; turns = c'.turns; pass = c'.pass; entries = c'.entries }
  pub driver : c'.driver ≡ with_own c.driver c'.driver.active.own
  pub book : (take : CanTake c before e) → IsRecorded c e take.can.longer c'
  pub stands : CanTake c before e → IsTaken c e c'
  pub kept : c'.entries.items ≡ c.entries.items ++ e ∷ []
  pub room : vec_capacity c'.entries ≡ vec_capacity c.entries
  pub noted : IsNoted c.job c.turns before e c'.turns
  pub places : still_out c'.pass ≡ still_out c.pass
  pub sealing : is_sealing c'.pass ≡ is_sealing c.pass
  pub kicks : is_kicked c'.pass ≡ is_kicked c.pass

-- .. where it could be taken in
pub took_in : (c c' : Course) (before : Mode) (e : Entry) → Takes c c' before e → (take : CanTake c before e)
    → TookIn c c' before e take.can.longer
took_in c c' before e t take = record {
  job = ap (λ (x : Course). x.job) t.others;
  machine = ap (λ (x : Course). x.machine) t.others;
  driver = t.driver;
  book = t.book take;
  stands = t.stands take;
  kept = t.kept;
  room = t.room;
  noted = t.noted;
  places = t.places;
  sealing = t.sealing;
  kicks = t.kicks;
}

-- the newest entry stands first
pub took_past : (c c' : Course) (past : List Entry) (longer : Option (List Call)) (before : Mode) (e : Entry) → past_of c ≡ past
    → TookIn c c' before e longer → past_of c' ≡ e ∷ past
took_past c c' past longer before e same took =
    newest c.entries.items c'.entries.items e took.kept ∙ ap (λ h. e ∷ h) same

-- ---- growth

-- by one entry
pub grows_one : (old new : Course) (cpu : Cpu) (e : Entry) (told : Option (List Call)) (spare : ℕ) → e.actor ≡ actors.Cpu cpu
    → past_of new ≡ e ∷ past_of old → new.job ≡ old.job → is_kicked new.pass ≡ is_kicked old.pass → KeepsCourse new told spare
    → Grows old (actors.Cpu cpu) 1 new told spare
grows_one old new cpu e told spare by past job kicks keeps = record {
  entries = e ∷ [];
  count = refl;
  actors = All-cons (λ (x : Entry). x.actor ≡ actors.Cpu cpu) e [] by (All-nil (λ (x : Entry). x.actor ≡ actors.Cpu cpu));
  past = past;
  job = job;
  kicks = kicks;
  keeps = keeps;
}

-- .. by two
pub grows_two : (old new : Course) (cpu : Cpu) (e e' : Entry) (told : Option (List Call)) (spare : ℕ) → e.actor ≡ actors.Cpu cpu
    → e'.actor ≡ actors.Cpu cpu → past_of new ≡ e' ∷ e ∷ past_of old → new.job ≡ old.job
    → is_kicked new.pass ≡ is_kicked old.pass → KeepsCourse new told spare → Grows old (actors.Cpu cpu) 2 new told spare
grows_two old new cpu e e' told spare by by' past job kicks keeps = record {
  entries = e' ∷ e ∷ [];
  count = refl;
  actors = All-cons (λ (x : Entry). x.actor ≡ actors.Cpu cpu) e' (e ∷ []) by'
      (All-cons (λ (x : Entry). x.actor ≡ actors.Cpu cpu) e [] by (All-nil (λ (x : Entry). x.actor ≡ actors.Cpu cpu)));
  past = past;
  job = job;
  kicks = kicks;
  keeps = keeps;
}

-- ---- the newest entry

-- the end of a load that is no refusal is its only entry
ends_here : (f : Frame) (event : Event) → action_of event ≡ Some (actions.Eld f) → is_refused event ≡ false
    → (past : List Entry) → EndsBy 1 event past
ends_here f (Did action answer) acts done past = subst (λ a. EndsBy 1 (Did a answer) past) (sym (same action acts)) refl
  where
    same : (a : Action) → Some a ≡ Some (actions.Eld f) → a ≡ actions.Eld f
    same a is = cc
ends_here f (Refused action reason) acts done past = cc
ends_here f (Age page look) acts done past = cc
ends_here f (Kick cpu) acts done past = cc
ends_here f (Bus page reason) acts done past = cc

pub load_ends_here : (c : Course) (past : List Entry) (e : Entry) (f : Frame) → past_of c ≡ e ∷ past
    → action_of e.event ≡ Some (actions.Eld f)
    → is_refused e.event ≡ false → EndsLoad 1 (past_of c)
load_ends_here c past e f is acts done = subst (EndsLoad 1) (sym is) (ends_here f e.event acts done past)

-- .. and behind a refusal the processor is told
refuses_by : (past : List Entry) (f : Frame) (event : Event) (page : Page) (reason : BusWhy) → action_of event ≡ Some (actions.Eld f)
    → last_by event (open_start past) ≡ Fails page reason → RefusesLoad event
refuses_by past f (Refused action refusal) page reason acts is = subst (λ a. RefusesLoad (Refused a refusal)) (sym (same action acts)) tt
  where
    same : (a : Action) → Some a ≡ Some (actions.Eld f) → a ≡ actions.Eld f
    same a at = cc
refuses_by past f (Did action answer) page reason acts is =
    absurd (none (subst (λ a. last_by (Did a answer) (open_start past) ≡ Fails page reason) (same action acts) is))
  where
    same : (a : Action) → Some a ≡ Some (actions.Eld f) → a ≡ actions.Eld f
    same a at = cc

    none : last_by (Did (actions.Eld f) answer) (open_start past) ≡ Fails page reason → ⊥
    none at = cc
refuses_by past f (Age g look) page reason acts is = cc
refuses_by past f (Kick cpu) page reason acts is = cc
refuses_by past f (Bus g other) page reason acts is = cc

pub load_ends_so : (c : Course) (past : List Entry) (e : Entry) (cpu : Cpu) (page : Page) (reason : BusWhy) (f : Frame)
    → past_of c ≡ bus_of cpu page reason ∷ e ∷ past → action_of e.event ≡ Some (actions.Eld f)
    → last_by e.event (open_start past) ≡ Fails page reason → EndsLoad 2 (past_of c)
load_ends_so c past e cpu page reason f is acts fails = subst (EndsLoad 2) (sym is) (refl, refuses_by past f e.event page reason acts fails)

-- ---- a fault step

-- what is so of the entries is so behind one that finds no number used up
clear_more : (c c' : Course) (past : List Entry) (e : Entry) → c'.job ≡ c.job → spends e.event ≡ false → IsClear c.job past
    → NoneFails (e ∷ past) → IsClear c'.job (e ∷ past)
clear_more c c' past e job calm clear none =
    subst (λ (j : JobView). IsClear j (e ∷ past)) (sym job)
    (record { none = none; spent = (used_calm c.job past e.event calm, clear.spent) })

-- what stands behind an entry that was taken in
pub took_stands : (c c' : Course) (past : List Entry) (told longer : Option (List Call)) (spare : ℕ) (d : Driver) (m : Parts)
    (before : Mode) (e : Entry) → Stands c past told spare d m → TookIn c c' before e longer → IsForRecord past e.event
    → is_reclaimer e.actor ≡ false → Stands c' (e ∷ past) longer spare c'.driver c'.machine
took_stands c c' past told longer spare d m before e s took =
    taken_stands c c' past told longer spare d m e s took.job took.kept took.book took.stands took.places

-- the arrays behind it
pub took_arrays : (c c' : Course) (past : List Entry) (longer : Option (List Call)) (before : Mode) (e : Entry)
    → TookIn c c' before e longer → KeepsKeeper c.job c.driver.slots past → KeepsKeeper c'.job c'.driver.slots past
took_arrays c c' past longer before e took k =
    subst (λ (j : JobView). KeepsKeeper j c'.driver.slots past) (sym took.job)
    (subst (λ (x : Keeper). KeepsKeeper c.job x past) (sym (ap (λ (x : Driver). x.slots) took.driver)) k)

-- behind the entry of a fault step that is not refused is a course between two turns
pub fetched_keeps : (c c' : Course) (past : List Entry) (told longer : Option (List Call)) (spare : ℕ) (d : Driver) (m : Parts)
    (before : Mode) (e : Entry) (page : Page) → Stands c past told spare d m → TookIn c c' before e longer
    → IsOfAway past e.event (place past page) → is_refused e.event ≡ false → is_reclaimer e.actor ≡ false
    → KeepsKeeper c.job c.driver.slots (e ∷ past) → spends e.event ≡ false → IsClear c.job past
    → vec_len c.entries + 64 ≤ vec_capacity c.entries → KeepsCourse c' longer spare
fetched_keeps c c' past told longer spare d m before e page s took away done other arrays calm clear room =
    let s' = took_stands c c' past told longer spare d m before e s took away.quiet.for_record other in
    let longer_by = one_longer c.entries c'.entries e took.kept in
    let cap = took.room in
    stands_keeps c' (e ∷ past) longer spare s' (took_arrays c c' (e ∷ past) longer before e took arrays)
    (clear_more c c' past e took.job calm clear (none_more past e (away.quiet.fails done) clear.none))
    (room_behind c' (few_cpus (machine_of c'.job) c'.job (e ∷ past) longer c'.driver c'.machine c'.turns s'.book)
    (omega (arith, longer_by, cap, room)))

-- ---- the end of a load

-- a processor that loads a page has a start open
pub loads_open : (j : JobView) (past : List Entry) (t : Turns) (p n : ℕ) (page : Page) → ShowsTurns j past t → p < length j.scripts
    → last_of past p ≡ Loads n page → has_open_load (turn_at t.cpus p) ≡ true
loads_open j past t p n page shows mine last = loading_told (turn_at t.cpus p).last n page ((shows.cpus p mine).last ∙ last)

-- the tables have its turn
pub turns_room : (j : JobView) (past : List Entry) (t : Turns) (p : ℕ) → ShowsTurns j past t → p < length j.scripts → p < length t.cpus
turns_room j past t p shows mine = let each = shows.each in omega (arith, each, mine)

-- a load that is back leaves a course between two turns
pub back_keeps : (c c' : Course) (past : List Entry) (told : Option (List Call)) (spare : ℕ) (d : Driver) (m : Parts) (before : Mode)
    (e : Entry) (cpu : Cpu) (f : Frame) → Stands c past told spare d m → TookIn c c' before e told → e.actor ≡ actors.Cpu cpu
    → action_of e.event ≡ Some (actions.Eld f) → is_refused e.event ≡ false → cpu.0 < length c.turns.cpus
    → has_open_load (turn_at c.turns.cpus cpu.0) ≡ true → KeepsKeeper c.job c.driver.slots (e ∷ past) → IsClear c.job past
    → vec_len c.entries + 2 * open_starts c ≤ vec_capacity c.entries → KeepsCourse c' told spare
back_keeps c c' past told spare d m before e cpu f s took by acts done low loads arrays clear room =
    let quiet = end_quiet past f e.event acts done in
    let s' = took_stands c c' past told told spare d m before e s took quiet.for_record (ap is_reclaimer by) in
    let longer_by = one_longer c.entries c'.entries e took.kept in
    let cap = took.room in
    let closed = ended_starts c.job c c' before cpu e low loads by (end_of_load f e.event acts) took.noted took.sealing in
    stands_keeps c' (e ∷ past) told spare s' (took_arrays c c' (e ∷ past) told before e took arrays)
    (clear_more c c' past e took.job (done_calm e.event done) clear (none_more past e (quiet.fails done) clear.none))
    (omega (arith, longer_by, cap, closed, room))

-- ---- a refused load

-- a processor's own entry says how it is left
pub own_last : (past : List Entry) (cpu : Cpu) (e : Entry) → e.actor ≡ actors.Cpu cpu
    → last_of (e ∷ past) cpu.0 ≡ last_by e.event (open_start past)
own_last past cpu e by =
    ap (λ b. if b then last_by e.event (open_start past) else last_of past cpu.0) (ap (is_by cpu.0) by ∙ eq-eqb cpu.0 cpu.0 refl)

-- a load that is refused for its record stops no run
fails_go_on : (o : Option Page) (refusal : Refusal) (page : Page) (reason : BusWhy) (action : Action)
    → fails_with o refusal ≡ Fails page reason → spends (Refused action refusal) ≡ false
fails_go_on (Some g) (why.MacFail given computed) page reason action is = refl
fails_go_on (Some g) (why.BadHeader enclave address flags) page reason action is = refl
fails_go_on (Some g) refusal page reason action is = cc
fails_go_on None refusal page reason action is = cc

-- nor does the start of one that finds no version
start_goes_on : (g : Page) (refusal : Refusal) (page : Page) (reason : BusWhy) (action : Action)
    → start_fails g refusal ≡ Fails page reason → spends (Refused action refusal) ≡ false
start_goes_on g why.SlotEmpty page reason action is = refl
start_goes_on g refusal page reason action is = cc

-- .. whatever the entry
pub fails_not_spent : (past : List Entry) (event : Event) (page : Page) (reason : BusWhy)
    → last_by event (open_start past) ≡ Fails page reason → spends event ≡ false
fails_not_spent past (Refused (actions.Eld f) refusal) page reason is =
    fails_go_on (load_of (open_start past f.0)) refusal page reason (actions.Eld f) is
fails_not_spent past (Refused (actions.EldStart f g at) refusal) page reason is =
    start_goes_on g refusal page reason (actions.EldStart f g at) is
fails_not_spent past (Refused action refusal) page reason is = cc
fails_not_spent past (Did action answer) page reason is = refl
fails_not_spent past (Age g look) page reason is = refl
fails_not_spent past (Kick cpu) page reason is = refl
fails_not_spent past (Bus g other) page reason is = refl

-- who has a page to tell of tells it directly behind
pub fails_reports : (j : JobView) (h : List Entry) (p : ℕ) (page : Page) (reason : BusWhy) → is_spent h ≡ false
    → last_of h p ≡ Fails page reason → is_last h p ≡ true → cpu_due j h p ≡ Reports page reason
fails_reports j h p page reason going last own = rw (going, last, own) refl

-- ---- what a processor's call gives

-- the machine's own clauses on a note
pub notes_of : (j : JobView) (past : List Entry) (d : Driver) (m : Parts) (e : Entry) → Agrees (machine_of j) j past d m
    → ((making : Making) (h : List Entry) → ShapeWithRules making (state_of m) h → ShapeWithRules making (state_of m) (e ∷ h))
    → ((frames : ℕ) (h : List Entry) → FitsApart frames h → FitsApart frames (e ∷ h)) → StaysWith (state_of m) e → NotesBus j past m e
notes_of j past d m e r shape fits stays = record {
  goes = record { shape = shape (machine_of j) past r.follows; fits = fits (machine_of j).frames past r.fits };
  stays = stays;
}

-- of the end of a load
pub record EndFacts (s : Course) (d' : Driver) (m' : Parts) (told : Option (List Call)) (cpu : Cpu) (page : Page) (loaded : Loaded) : Type 0
  where
    pub made : IsMade (machine_of s.job) s.job (past_of s) told s.driver s.machine (entry_in loaded) told d' m'
    pub by : (entry_in loaded).actor ≡ actors.Cpu cpu
    pub frame : Frame
    pub acts : action_of (entry_in loaded).event ≡ Some (actions.Eld frame)
    pub low : cpu.0 < length s.turns.cpus
    pub opened : has_open_load (turn_at s.turns.cpus cpu.0) ≡ true
    pub place : vec_len s.entries + 1 ≤ vec_capacity s.entries
    pub entry : Entry
    pub ended : EndsLoadAt (past_of s) cpu page frame entry loaded
    pub shows : ShowsEnd s.job (past_of s) cpu page loaded d'
    pub store : OfBus cpu page loaded (λ e bus. AreTold s.job (e ∷ past_of s) bus told told d' d')
    pub back : IfSome told (λ calls. IsHonest calls → IsBack loaded)
    pub arrays : KeepsKeeper s.job d'.slots (entry_in loaded ∷ past_of s)

-- who loads a page can end that
pub opened_can : (s : Course) (told : Option (List Call)) (spare : ℕ) (cpu : Cpu) (page : Page) → KeepsCourse s told spare
    → cpu.0 < length s.job.scripts → loaded_by (last_of (past_of s) cpu.0) ≡ Some page → CanFinish cpu page s.driver s.machine
opened_can s told spare cpu page k mine loads =
    let loading = is_open (past_of s) cpu.0 page loads in
    can_finish (machine_of s.job) s.job (past_of s) s.driver s.machine k.book.agrees cpu page loading.0 loading.1
    (kept_room s.job s.driver (past_of s) cpu.0 k.book.agrees.shows mine)

-- it gives all these
pub end_facts : (s : Course) (d' : Driver) (m' : Parts) (told : Option (List Call)) (spare : ℕ) (cpu : Cpu) (page : Page) (loaded : Loaded)
    → KeepsCourse s told spare → cpu.0 < length s.job.scripts → is_spent (past_of s) ≡ false
    → loaded_by (last_of (past_of s) cpu.0) ≡ Some page
    → ((can : CanFinish cpu page s.driver s.machine)
    → IsFinished cpu page can.slot can.frame can.kept s.driver (state_of s.machine) loaded d' (state_of m'))
    → length m'.cpus ≡ length s.machine.cpus → EndFacts s d' m' told cpu page loaded
end_facts s d' m' told spare cpu page loaded k mine going loads does cpus = record {
  made = end_made s.job past told s.driver d' s.machine m' s.turns s.pass cpu page loading.0 loaded can k.book
      k.stands k.whole going mine loading.1 (does can) right cpus;
  by = end_by s.job past cpu page can.frame loaded d' right;
  frame = can.frame;
  acts = end_acts s.job past cpu page can.frame loaded d' right;
  low = low;
  opened = opened;
  place =
      let counts = starts_set s.turns.cpus cpu.0 first_turn low in
      let was : one_if (has_open_load (turn_at s.turns.cpus cpu.0)) ≡ 1 = ap one_if opened in
      let room = k.room in omega (arith, counts, was, room);
  entry = right.entry;
  ended = right.end;
  shows = right.shows;
  store = (end_told (machine_of s.job) s.job past told s.driver d' s.machine m' s.turns cpu page loading.0 loaded can k.book refl loading.1
      (does can)).1;
  back = ended_back (machine_of s.job) s.job past told s.driver d' s.machine m' s.turns cpu page loading.0 loaded can k.book refl loading.1
      (does can);
  arrays = arrays_moved s.job s.driver.slots d'.slots past (entry_in loaded) page k.book.agrees.sound
      (ap is_builder (end_by s.job past cpu page can.frame loaded d' right))
      (end_of_load can.frame (entry_in loaded).event (end_acts s.job past cpu page can.frame loaded d' right)).moves there
      (λ other.
      let same = end_slots s.driver d' s.machine (state_of m') cpu page loaded can (does can) other in
      record { pages = ap (λ (x : Keeper). length x.arrays) same; room = ap (λ (x : Keeper). x.room) same }) k.arrays;
}
  where
    past : List Entry
    past = past_of s

    loading : (n : ℕ) × (last_of (past_of s) cpu.0 ≡ Loads n page)
    loading = is_open (past_of s) cpu.0 page loads

    can : CanFinish cpu page s.driver s.machine
    can = opened_can s told spare cpu page k mine loads

    right : IsRightEnd s.job (past_of s) cpu page can.frame loaded d'
    right =
        finished_is_right (machine_of s.job) s.job (past_of s) s.driver d' s.machine (state_of m') k.book.agrees cpu page can loading.0
        loading.1 loaded (does can)

    there : is_absent (place (past_of s) page) ≡ false
    there =
        ap is_absent
        (sym (k.book.agrees.shows.states page can.tables.placed) ∙ ap place_in can.tables.loading)

    low : cpu.0 < length s.turns.cpus
    low = turns_room s.job (past_of s) s.turns cpu.0 k.book.turns mine

    opened : has_open_load (turn_at s.turns.cpus cpu.0) ≡ true
    opened = loads_open s.job (past_of s) s.turns cpu.0 loading.0 page k.book.turns mine loading.1

-- of a fault step
abbrev pub IsOwnAway : List Entry → Cpu → Page → Entry → Type 0
IsOwnAway past cpu page e = (e.actor ≡ actors.Cpu cpu) × IsOfAway past e.event (place past page)

-- its entry is its processor's, and of a page that is away
pub right_away : (j : JobView) (past : List Entry) (cpu : Cpu) (page asked : Page) (answer : FaultAnswer) (d : Driver)
    → IsRight j past cpu page asked answer d → OfAnswer cpu asked answer (IsOwnAway past cpu page)
right_away j past cpu page asked (answers.Started e work) d right =
    (right.due.1, due_quiet past j.epc page (place past page) e.event right.due.2)
right_away j past cpu page asked (answers.Slot e) d right =
    (right.due.1, due_quiet past j.epc page (place past page) e.event right.due.2)
right_away j past cpu page asked (answers.Bus reason) d right =
    (refl, due_quiet past j.epc page (place past page) (Bus asked reason) right.due.1)
right_away j past cpu page asked answers.Here d right = tt
right_away j past cpu page asked (answers.Again reason) d right = tt

-- a processor that needs a page is not stopped
pub fetch_going : (j : JobView) (past : List Entry) (p : ℕ) (page : Page) → cpu_due j past p ≡ fetches j.epc past page (place past page)
    → is_spent past ≡ false
fetch_going j past p page due = by_spent (is_spent past) refl
  where
    by_place : (at : Place) → Stopped ≡ fetches j.epc past page at → ⊥
    by_place Absent k = cc
    by_place (Here f) k = cc
    by_place (Leaving f) k = cc
    by_place (Loading f slot) k = cc
    by_place (Away slot) k = cc

    by_spent : (b : Bool) → is_spent past ≡ b → is_spent past ≡ false
    by_spent false is = is
    by_spent true is =
        absurd (by_place (place past page)
        (sym (ap (λ b. if b then Stopped else due_after (last_of past p) (is_last past p) (turn_due j past p)) is) ∙ due))

-- its answer's entry was made
pub fetch_made : (s : Course) (d' : Driver) (m' : Parts) (told told' : Option (List Call)) (spare : ℕ) (cpu : Cpu) (page asked : Page)
    (answer : FaultAnswer) → KeepsCourse s told spare → cpu.0 < length s.job.scripts
    → cpu_due s.job (past_of s) cpu.0 ≡ fetches s.job.epc (past_of s) page (place (past_of s) page)
    → IsPlaced s.driver.states.counts asked
    → IsResolved cpu asked (page_state s.driver.states asked) s.driver s.machine told answer d' m' told'
    → IsRight s.job (past_of s) cpu page asked answer d' → length m'.cpus ≡ length s.machine.cpus
    → ((reason : BusWhy) → answer ≡ answers.Bus reason → Agrees (machine_of s.job) s.job (past_of s) s.driver m'
    → NotesBus s.job (past_of s) m' (bus_of cpu asked reason))
    → OfAnswer cpu asked answer (λ e. IsMade (machine_of s.job) s.job (past_of s) told s.driver s.machine e told' d' m')
fetch_made s d' m' told told' spare cpu page asked answer k mine due placed is right cpus notes =
    fault_made s.job (past_of s) told told' s.driver d' s.machine m' s.turns s.pass cpu page asked answer k.book k.stands k.whole
    (fetch_going s.job (past_of s) cpu.0 page due) mine due (kept_room s.job s.driver (past_of s) cpu.0 k.book.agrees.shows mine) placed is
    right cpus (λ reason same. notes reason same (there reason same))
  where
    there : (reason : BusWhy) → answer ≡ answers.Bus reason → Agrees (machine_of s.job) s.job (past_of s) s.driver m'
    there reason same =
        let left = subst (λ a. Leaves cpu asked a s.driver d' s.machine m' told told') same
        (resolved_leaves cpu asked (page_state s.driver.states asked) answer s.driver d' s.machine m' told told' is) in
        subst (Agrees (machine_of s.job) s.job (past_of s) s.driver) (sym left.machine) k.book.agrees
