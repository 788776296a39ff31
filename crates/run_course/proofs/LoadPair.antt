-- An entry that refused a load or its start, and the bus behind it.
use Rattle.std.proofs.Common.{◌≡◌, ℕ, ◌+◌, ◌*◌, ◌≤◌, ◌<◌, true, false, if◌then◌else◌, List, ◌∷◌, Option, length, count_by}
use Rattle.std.proofs.Common.{vec_len, vec_capacity, refl, sym, ap, subst, ◌∙◌, arith}
use Rattle.std.proofs.lemmas.Bool.{eq-eqb}
use Rattle.sgx_types.specs.declared.names.Actor.TheVariants as actors
use Rattle.sgx_rules.specs.declared.entries.BusWhy.{BusWhy}
use Rattle.sgx_rules.specs.declared.entries.Entry.{Entry}
use Rattle.sgx_types.specs.declared.names.Cpu.{Cpu}
use Rattle.sgx_types.specs.declared.names.Page.{Page}
use Rattle.sgx_types.specs.Making.{Making}
use Rattle.sgx_rules.specs.Processors.{is_by}
use Rattle.sgx_rules.specs.Starts.{open_start}
use Rattle.cached_translations.specs.declared.processor.Mode.{Mode}
use Rattle.job_grammar.specs.Jobs.{JobView}
use Rattle.script_rules.specs.Machines.{machine_of}
use Rattle.backing_store.specs.Calls.{Call}
use Rattle.machine_laws.specs.inner.Shape.{FitsApart, ShapeWithRules}
use Rattle.sgx_machine.specs.inner.Parts.{Parts, cpu_at, state_of}
use Rattle.driver_rules.specs.inner.Reclaims.{is_refused}
use Rattle.driver_rules.specs.Stops.{is_spent}
use Rattle.driver_rules.specs.Turns.{Fails, last_by, last_of}
use Rattle.driver_laws.specs.inner.Agrees.{drivers}
use Rattle.driver_laws.specs.inner.Three.{TcsAreApart}
use Rattle.driver_tables.specs.declared.driver.Driver.{Driver}
use Rattle.driver_tables.specs.inner.Tables.{ShowsTables}
use Rattle.run_calls.specs.inner.Comes.{bus_of}
use Rattle.driver_faults.specs.declared.answers.Loaded.TheVariants as ends
use Rattle.driver_pass.specs.inner.Standing.{StandsAt}
use Rattle.driver_pass.specs.inner.Viewed.{is_sealing}
use Rattle.due_notes.specs.inner.Plain.{is_reclaimer}
use Rattle.due_notes.proofs.ArrayLaws.{arrays_stay}
use Rattle.due_tables.specs.declared.turns.Turns.{Turns}
use Rattle.due_tables.specs.inner.Holding.{mode_of}
use Rattle.due_tables.specs.inner.Noting.{IsNoted}
use Rattle.due_tables.proofs.EndLaws.{ends_go_on}
use Rattle.run_laws.specs.inner.Books.{AreTold, IsMade, KeepsBook}
use Rattle.run_laws.proofs.BookLaws.{shows_with}
use Rattle.run_records.specs.inner.Records.{StaysWith}
use Rattle.run_course.specs.declared.course.Course.{Course}
use Rattle.run_course.specs.inner.Courses.{Grows, IsClear, KeepsCourse, has_open_load, open_starts, past_of}
use Rattle.run_course.specs.inner.Recording.{CanTake}
use Rattle.run_course.specs.inner.Refusing.{CanRefuse}
use Rattle.run_course.proofs.LoadCourse.{Stands, bus_starts, can_take, course_stands, ended_starts, one_longer, sealing_starts}
use Rattle.run_course.proofs.LoadCourse.{stands_first, stands_keeps}
use Rattle.run_course.proofs.LoadEnds.{EndFacts, TookIn, fails_not_spent, fails_reports, grows_two, notes_of, own_last}
use Rattle.run_course.proofs.LoadEnds.{took_arrays, took_past, took_stands, turns_room}
use Rattle.run_course.proofs.LoadLaws.{end_of_load, fails_for_record, none_behind_bus}
use Rattle.run_course.proofs.LoadMade.{NotesBus, bus_made, bus_told}
use Rattle.run_course.proofs.RecordLaws.{newest}
use Rattle.run_course.proofs.SpentLaws.{used_calm}

-- ---- an entry by which a load or its start was refused, and the bus behind it

module _ (c : Course) (cpu : Cpu) (page : Page) (before : Mode) (e : Entry) (reason : BusWhy)
    (can : CanRefuse c cpu page before e reason) where
  -- it leaves its processor with the page to tell of
  own_fails : last_by e.event (open_start (past_of c)) ≡ Fails page reason
  own_fails = sym (own_last (past_of c) cpu e can.actor) ∙ can.fails

  -- what stands behind it
  pub first_stands : (c' : Course) → TookIn c c' before e can.take.can.longer
      → Stands c' (e ∷ past_of c) can.take.can.longer can.spare c'.driver c'.machine
  first_stands c' took = record {
    same = newest c.entries.items c'.entries.items e took.kept;
    tcs = subst TcsAreApart (sym took.job) can.take.can.tcs;
    book = subst (λ (j : JobView). KeepsBook (machine_of j) j (e ∷ past_of c) can.take.can.longer c'.driver c'.machine c'.turns)
        (sym took.job) took.book;
    stands = subst (λ (j : JobView). StandsAt j.start_epoch j (e ∷ past_of c) c'.pass) (sym took.job) took.stands.0;
    whole = took.stands.1;
    first = can.first;
    places = subst (λ n. n ≤ can.spare) (sym took.places) can.places;
    ends = ends_go_on (past_of c) e (fails_for_record (past_of c) e.event page reason own_fails) can.ends;
  }

  -- the processor is of the job
  first_mine : (c' : Course) → TookIn c c' before e can.take.can.longer → cpu.0 < length c'.job.scripts
  first_mine c' took = subst (λ (j : JobView). cpu.0 < length j.scripts) (sym took.job) can.mine

  -- the bus is made
  pub second_made : (c' : Course) → TookIn c c' before e can.take.can.longer
      → NotesBus c'.job (e ∷ past_of c) c'.machine (bus_of cpu page reason)
      → IsMade (machine_of c'.job) c'.job (e ∷ past_of c) can.take.can.longer c'.driver c'.machine (bus_of cpu page reason)
      can.take.can.longer c'.driver c'.machine
  second_made c' took notes =
      let s = first_stands c' took in
      bus_made c'.job (e ∷ past_of c) can.take.can.longer c'.driver c'.machine c'.turns c'.pass cpu page reason s.book s.stands s.whole
      can.going (first_mine c' took)
      (fails_reports c'.job (e ∷ past_of c) cpu.0 page reason can.going can.fails
      (ap (is_by cpu.0) can.actor ∙ eq-eqb cpu.0 cpu.0 refl))
      (subst (λ (j : JobView). ShowsTables (drivers j) j c'.driver (bus_of cpu page reason ∷ e ∷ past_of c)) (sym took.job)
      (subst (λ (x : Driver). ShowsTables (drivers c.job) c.job x (bus_of cpu page reason ∷ e ∷ past_of c)) (sym took.driver)
      (shows_with (drivers c.job) c.job c.driver (bus_of cpu page reason ∷ e ∷ past_of c) c'.driver.active.own can.shows)))
      (subst (λ (j : JobView). AreTold j (e ∷ past_of c) (bus_of cpu page reason) can.take.can.longer can.take.can.longer c'.driver
      c'.driver) (sym took.job)
      (bus_told c.job (e ∷ past_of c) can.take.can.longer cpu page reason c.driver c'.driver can.store)) notes can.never

  -- the machine goes on with a note of it
  pub second_notes : (c' : Course) → TookIn c c' before e can.take.can.longer → (b : Entry) → b ≡ bus_of cpu page reason
      → ((making : Making) (h : List Entry) → ShapeWithRules making (state_of c'.machine) h
      → ShapeWithRules making (state_of c'.machine) (b ∷ h))
      → ((frames : ℕ) (h : List Entry) → FitsApart frames h → FitsApart frames (b ∷ h)) → StaysWith (state_of c'.machine) b
      → NotesBus c'.job (e ∷ past_of c) c'.machine (bus_of cpu page reason)
  second_notes c' took b is shape fits history =
      subst (NotesBus c'.job (e ∷ past_of c) c'.machine) is
      (notes_of c'.job (e ∷ past_of c) c'.driver c'.machine b (first_stands c' took).book.agrees shape fits history)

  -- there is room for it
  pub second_room : (c' : Course) → TookIn c c' before e can.take.can.longer → vec_len c'.entries + 1 ≤ vec_capacity c'.entries
  second_room c' took =
      let longer_by = one_longer c.entries c'.entries e took.kept in
      let cap = took.room in
      let room = can.room c'.turns took.noted in omega (arith, longer_by, cap, room)

  -- it can be taken in
  abbrev pub second_can : (c' : Course) (between : Mode) → TookIn c c' before e can.take.can.longer
      → NotesBus c'.job (e ∷ past_of c) c'.machine (bus_of cpu page reason) → between ≡ (cpu_at c'.machine cpu.0).mode
      → CanTake c' between (bus_of cpu page reason)
  second_can c' between took notes stood =
      can_take c' (e ∷ past_of c) can.take.can.longer can.take.can.longer can.spare c'.driver c'.machine between (bus_of cpu page reason)
      (first_stands c' took) (second_made c' took notes) stood (second_room c' took) refl

  -- behind both is a course between two turns
  pair_keeps : (c' c'' : Course) (between : Mode) → TookIn c c' before e can.take.can.longer
      → TookIn c' c'' between (bus_of cpu page reason) can.take.can.longer → KeepsCourse c'' can.take.can.longer can.spare
  pair_keeps c' c'' between took took' =
      let s = first_stands c' took in
      let s' = took_stands c' c'' (e ∷ past_of c) can.take.can.longer can.take.can.longer can.spare c'.driver c'.machine between
      (bus_of cpu page reason) s took' tt refl in
      let longer_by = one_longer c.entries c'.entries e took.kept in
      let longer_by' = one_longer c'.entries c''.entries (bus_of cpu page reason) took'.kept in
      let cap = took.room in
      let cap' = took'.room in
      let low = turns_room c'.job (e ∷ past_of c) c'.turns cpu.0 s.book.turns (first_mine c' took) in
      let opens = bus_starts c'.job c' c'' between cpu page reason low took'.noted took'.sealing in
      let seals = ap sealing_starts took.sealing in
      let room = can.room c'.turns took.noted in
      stands_keeps c'' (bus_of cpu page reason ∷ e ∷ past_of c) can.take.can.longer can.spare s'
      (took_arrays c' c'' (bus_of cpu page reason ∷ e ∷ past_of c) can.take.can.longer between (bus_of cpu page reason) took'
      (took_arrays c c' (bus_of cpu page reason ∷ e ∷ past_of c) can.take.can.longer before e took can.arrays))
      (subst (λ (j : JobView). IsClear j (bus_of cpu page reason ∷ e ∷ past_of c)) (sym (took'.job ∙ took.job))
      (record {
        none = none_behind_bus (past_of c) cpu page reason e can.actor can.clear.none;
        spent = (
          refl,
          (used_calm c.job (past_of c) e.event (fails_not_spent (past_of c) e.event page reason own_fails), can.clear.spent),
        );
      })) (omega (arith, longer_by, longer_by', cap, cap', opens, seals, room))

  -- both were taken in
  pub pair_past : (c' c'' : Course) (between : Mode) → TookIn c c' before e can.take.can.longer
      → TookIn c' c'' between (bus_of cpu page reason) can.take.can.longer
      → past_of c'' ≡ bus_of cpu page reason ∷ e ∷ past_of c
  pair_past c' c'' between took took' =
      took_past c' c'' (e ∷ past_of c) can.take.can.longer between (bus_of cpu page reason) (first_stands c' took).same took'

  pub pair_grows : (c' c'' : Course) (between : Mode) → TookIn c c' before e can.take.can.longer
      → TookIn c' c'' between (bus_of cpu page reason) can.take.can.longer
      → Grows c (actors.Cpu cpu) 2 c'' can.take.can.longer can.spare
  pair_grows c' c'' between took took' =
      grows_two c c'' cpu e (bus_of cpu page reason) can.take.can.longer can.spare can.actor refl (pair_past c' c'' between took took')
      (took'.job ∙ took.job) (took'.kicks ∙ took.kicks) (pair_keeps c' c'' between took took')

-- ---- the end of a load

-- one that is back was not refused
pub back_done : (s : Course) (told : Option (List Call)) (cpu : Cpu) (page : Page) (d' : Driver) (m' : Parts) (e : Entry)
    → EndFacts s d' m' told cpu page (ends.Here e) → is_refused e.event ≡ false
back_done s told cpu page d' m' e f = subst (λ (x : Entry). is_refused x.event ≡ false) (sym f.ended.0) f.ended.1

-- who was refused has the page to tell of
pub end_last : (s : Course) (told : Option (List Call)) (cpu : Cpu) (page : Page) (d' : Driver) (m' : Parts) (e : Entry) (reason : BusWhy)
    → EndFacts s d' m' told cpu page (ends.Bus e reason) → last_of (e ∷ past_of s) cpu.0 ≡ Fails page reason
end_last s told cpu page d' m' e reason f =
    subst (λ (x : Entry). last_of (x ∷ past_of s) cpu.0 ≡ Fails page reason) (sym f.ended.0) f.ended.1

-- .. and stops no run
pub refused_going : (past : List Entry) (cpu : Cpu) (page : Page) (e : Entry) (reason : BusWhy) → e.actor ≡ actors.Cpu cpu
    → last_of (e ∷ past) cpu.0 ≡ Fails page reason → is_spent past ≡ false → is_spent (e ∷ past) ≡ false
refused_going past cpu page e reason by last going =
    ap (λ b. if b then true else is_spent past) (fails_not_spent past e.event page reason (sym (own_last past cpu e by) ∙ last)) ∙ going

-- the end of its load leaves room for the bus, and for the ends of the starts that are open
pub end_room : (s : Course) (told : Option (List Call)) (spare : ℕ) (cpu : Cpu) (page : Page) (d' : Driver) (m' : Parts)
    (before : Mode) (e : Entry) (reason : BusWhy) → KeepsCourse s told spare → EndFacts s d' m' told cpu page (ends.Bus e reason)
    → (t : Turns) → IsNoted s.job s.turns before e t → vec_len s.entries + 2
    + 2 * (count_by has_open_load t.cpus + (if is_sealing s.pass then 1 else 0)) ≤ vec_capacity s.entries
end_room s told spare cpu page d' m' before e reason k f t noted =
    let closed : open_starts (record s { turns = t }) + 1 ≡ open_starts s =
    ended_starts s.job s (record s { turns = t }) before cpu e f.low f.opened f.by (end_of_load f.frame e.event f.acts) noted refl in
    let room = k.room in omega (arith, closed, room)

-- so the refused load and the bus behind it can be taken in
abbrev pub end_refuses : (s : Course) (told : Option (List Call)) (spare : ℕ) (cpu : Cpu) (page : Page) (d' : Driver) (m' : Parts)
    (before : Mode) (e : Entry) (reason : BusWhy) → KeepsCourse s told spare → cpu.0 < length s.job.scripts
    → is_spent (past_of s) ≡ false → EndFacts s d' m' told cpu page (ends.Bus e reason) → before ≡ (cpu_at s.machine cpu.0).mode
    → CanRefuse (record s { driver = d'; machine = m' }) cpu page before e reason
end_refuses s told spare cpu page d' m' before e reason k mine going f stood = record {
  spare = spare;
  take = can_take (record s { driver = d'; machine = m' }) (past_of s) told told spare s.driver s.machine before e
      (course_stands s s.entries d' m' told spare refl k) f.made (stood ∙ sym (ap (mode_of s.machine) f.by)) f.place
      (ap is_reclaimer f.by);
  actor = f.by;
  mine = mine;
  going = refused_going (past_of s) cpu page e reason f.by (end_last s told cpu page d' m' e reason f) going;
  fails = end_last s told cpu page d' m' e reason f;
  shows = f.shows.1;
  store = f.store;
  never = f.back;
  first = stands_first (record s { driver = d'; machine = m' }) (past_of s) told spare s.driver s.machine e
      (course_stands s s.entries d' m' told spare refl k) (ap is_reclaimer f.by);
  places = k.places;
  arrays = arrays_stay s.job d'.slots d'.slots (e ∷ past_of s) (bus_of cpu page reason) refl refl refl refl f.arrays;
  ends = k.ends;
  clear = k.clear;
  room = end_room s told spare cpu page d' m' before e reason k f;
}
