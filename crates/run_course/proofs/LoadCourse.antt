-- A course that takes in an entry of a processor.
use Rattle.std.proofs.Common.{◌≡◌, ℕ, ◌+◌, ◌*◌, ◌≤◌, ◌<◌, Bool, true, false, if◌then◌else◌, is_some, List}
use Rattle.std.proofs.Common.{[], ◌∷◌, ◌++◌, Option, Some, IfSome, length, reverse, count_by, set, vec_len}
use Rattle.std.proofs.Common.{vec_capacity, refl, sym, ap, subst, ◌∙◌, arith}
use Rattle.std.proofs.lemmas.Bool.{false≢true}
use Rattle.std.proofs.lemmas.List.{length_push}
use Rattle.std.specs.Global.{Vec}
use Rattle.sgx_rules.specs.declared.entries.Action.TheVariants.{Eld}
use Rattle.sgx_types.specs.declared.names.Actor.TheVariants as actors
use Rattle.sgx_rules.specs.declared.entries.BusWhy.{BusWhy}
use Rattle.sgx_rules.specs.declared.entries.Entry.{Entry}
use Rattle.sgx_rules.specs.declared.entries.Event.TheVariants.{Bus, Refused}
use Rattle.sgx_types.specs.declared.names.Cpu.{Cpu}
use Rattle.sgx_types.specs.declared.names.Frame.{Frame}
use Rattle.sgx_types.specs.declared.names.Page.{Page}
use Rattle.sgx_rules.specs.declared.refusals.Refusal.TheVariants as why
use Rattle.sgx_types.proofs.CountLaws.{one_if}
use Rattle.cached_translations.specs.declared.processor.Mode.{Mode}
use Rattle.job_grammar.specs.Jobs.{JobView}
use Rattle.script_rules.specs.Machines.{machine_of}
use Rattle.backing_store.specs.Calls.{Call}
use Rattle.sgx_machine.specs.inner.Parts.{Parts}
use Rattle.driver_list.specs.inner.Keeping.{kept_at, page_kept}
use Rattle.driver_list.specs.inner.Places.{IsPlaced}
use Rattle.driver_rules.specs.declared.waits.Why.TheVariants as waits
use Rattle.driver_rules.specs.Dues.{Due, Ends, IsNext, Stopped, Waits}
use Rattle.driver_rules.specs.Passes.{pass, pass_after}
use Rattle.driver_laws.specs.inner.Sound.{is_absent}
use Rattle.driver_rules.specs.Places.{Absent, Away, Here, Leaving, Loading, Place, is_here, place}
use Rattle.driver_rules.specs.Stops.{is_spent}
use Rattle.driver_rules.specs.Turns.{Fails, Last, Loads, Other, WasEnded, cpu_due, due_after, fetches, is_last, last_of, turn_due}
use Rattle.driver_laws.specs.inner.Agrees.{drivers, loaded_by}
use Rattle.driver_laws.specs.inner.Loads.{EndsOwn}
use Rattle.driver_laws.specs.inner.Three.{TcsAreApart}
use Rattle.driver_laws.proofs.EndLaws.{their_rule}
use Rattle.driver_tables.specs.declared.driver.Driver.{Driver}
use Rattle.driver_tables.specs.inner.Tables.{ShowsTables}
use Rattle.driver_tables.proofs.HeldLaws.{held_same}
use Rattle.driver_tables.specs.inner.Agrees.{Agrees}
use Rattle.run_calls.specs.inner.Comes.{bus_of}
use Rattle.driver_faults.specs.inner.Repeating.{WaitsFor}
use Rattle.driver_faults.proofs.EndLaws.{can_finish}
use Rattle.driver_pass.specs.inner.Standing.{StandsFor}
use Rattle.driver_pass.specs.inner.Viewed.{is_amid, is_sealing, still_out}
use Rattle.driver_reclaim.specs.inner.Ready.{HasFirst}
use Rattle.driver_reclaim.proofs.FirstLaws.{stays_first}
use Rattle.due_notes.specs.inner.Arrays.{KeepsKeeper}
use Rattle.due_notes.specs.inner.Plain.{is_reclaimer}
use Rattle.due_tables.specs.declared.turns.Turns.{Turns}
use Rattle.due_tables.specs.inner.Ending.{EndsAreTold, IsForRecord}
use Rattle.due_tables.proofs.EndLaws.{ends_go_on}
use Rattle.due_tables.specs.inner.CpuTurns.{turn_at}
use Rattle.due_tables.specs.declared.cpu_turns.CpuTurn.{CpuTurn}
use Rattle.due_tables.specs.inner.Holding.{mode_of}
use Rattle.due_tables.specs.inner.Noting.{IsNoted, turn_after, with_own}
use Rattle.due_tables.specs.inner.Shown.{ShowsTurns}
use Rattle.due_tables.specs.inner.TcsTurns.{has_place, rows}
use Rattle.due_tables.proofs.RowLaws.{placed_row, row_placed}
use Rattle.run_laws.specs.inner.Books.{IsMade, KeepsBook}
use Rattle.run_laws.proofs.PlainLaws.{others_age}
use Rattle.run_laws.proofs.StayLaws.{passes_stay}
use Rattle.run_course.specs.declared.course.Course.{Course}
use Rattle.run_course.specs.inner.Courses.{IsClear, KeepsCourse, has_open_load, open_starts, past_of}
use Rattle.run_course.specs.inner.Recording.{CanTake, IsRecorded, IsTaken}
use Rattle.run_course.proofs.LoadLaws.{IsEndOfLoad, starts_set}
use Rattle.run_course.proofs.RecordLaws.{newest}

-- ---- what is taken in

-- what a course keeps of the entries before one that driver and machine have made, as these stood before it
pub record Stands (c : Course) (past : List Entry) (told : Option (List Call)) (spare : ℕ) (d : Driver) (m : Parts) : Type 0 where
  pub same : past_of c ≡ past
  pub tcs : TcsAreApart c.job
  pub book : KeepsBook (machine_of c.job) c.job past told d m c.turns
  pub stands : StandsFor c.job.start_epoch past c.pass (pass c.job past)
  pub whole : is_amid c.pass ≡ false
  pub first : HasFirst past
  pub places : still_out c.pass ≤ spare
  pub ends : EndsAreTold past

-- between two turns
pub course_stands : (c : Course) (entries : Vec Entry) (d : Driver) (m : Parts) (told : Option (List Call)) (spare : ℕ)
    → entries.items ≡ c.entries.items → KeepsCourse c told spare
    → Stands (record c { driver = d; machine = m; entries = entries }) (past_of c) told spare c.driver c.machine
course_stands c entries d m told spare same k =
    record {
      same = ap reverse same;
      tcs = k.tcs;
      book = k.book;
      stands = k.stands;
      whole = k.whole;
      first = k.first;
      places = k.places;
      ends = k.ends;
    }

-- behind an entry of another actor the first version array page was made, where a page goes out beside the passes
pub stands_first : (c : Course) (past : List Entry) (told : Option (List Call)) (spare : ℕ) (d : Driver) (m : Parts) (e : Entry)
    → Stands c past told spare d m → is_reclaimer e.actor ≡ false → HasFirst (e ∷ past)
stands_first c past told spare d m e s other =
    stays_first (machine_of c.job) c.job past c.pass d m
    (record {
      agrees = s.book.agrees;
      held = λ g. held_same c.job d.active.own past s.book.holds.shows g s.book.turns.valid.few_scripts;
      stands = s.stands;
      whole = s.whole;
      first = s.first;
      short = s.book.turns.valid.marks.4;
    }) e (others_age c.job past e.actor e.event other)

-- an entry of another actor than the reclaimer that was made can be taken in
abbrev pub can_take : (c : Course) (past : List Entry) (told longer : Option (List Call)) (spare : ℕ) (d : Driver) (m : Parts)
    (before : Mode) (e : Entry) → Stands c past told spare d m
    → IsMade (machine_of c.job) c.job past told d m e longer c.driver c.machine → before ≡ mode_of m e.actor
    → vec_len c.entries + 1 ≤ vec_capacity c.entries → is_reclaimer e.actor ≡ false → CanTake c before e
can_take c past told longer spare d m before e s made stood room other = record {
  can = record {
    told = told;
    longer = longer;
    d = d;
    m = m;
    tcs = s.tcs;
    book = subst (λ h. KeepsBook (machine_of c.job) c.job h told d m c.turns) (sym s.same) s.book;
    made = subst (λ h. IsMade (machine_of c.job) c.job h told d m e longer c.driver c.machine) (sym s.same) made;
    stood = stood;
    place = room;
  };
  stands = subst (λ h. StandsFor c.job.start_epoch (e ∷ h) c.pass
      (pass_after c.job h e.actor e.event (pass c.job h))) (sym s.same)
      (passes_stay (machine_of c.job) c.job past d c.driver m c.machine e c.pass s.book.turns.valid.marks.4 s.book.agrees made.next
      other s.stands);
  whole = s.whole;
}

-- behind an entry
pub taken_stands : (c c' : Course) (past : List Entry) (told longer : Option (List Call)) (spare : ℕ) (d : Driver) (m : Parts) (e : Entry)
    → Stands c past told spare d m → c'.job ≡ c.job → c'.entries.items ≡ c.entries.items ++ e ∷ [] → IsRecorded c e longer c'
    → IsTaken c e c' → still_out c'.pass ≡ still_out c.pass
    → IsForRecord past e.event → is_reclaimer e.actor ≡ false → Stands c' (e ∷ past) longer spare c'.driver c'.machine
taken_stands c c' past told longer spare d m e s job kept book stands places record_only other = record {
  same = newest c.entries.items c'.entries.items e kept ∙ more;
  tcs = subst TcsAreApart (sym job) s.tcs;
  book = subst (λ (j : JobView). KeepsBook (machine_of j) j (e ∷ past) longer c'.driver c'.machine c'.turns) (sym job)
      (subst (λ h. KeepsBook (machine_of c.job) c.job h longer c'.driver c'.machine c'.turns) more book);
  stands = subst (λ (j : JobView). StandsFor j.start_epoch (e ∷ past) c'.pass (pass j (e ∷ past))) (sym job)
      (subst (λ h. StandsFor c.job.start_epoch h c'.pass (pass c.job h)) more stands.0);
  whole = stands.1;
  first = stands_first c past told spare d m e s other;
  places = subst (λ n. n ≤ spare) (sym places) s.places;
  ends = ends_go_on past e record_only s.ends;
}
  where
    more : (e ∷ past_of c) ≡ (e ∷ past)
    more = ap (λ h. e ∷ h) s.same

-- where no refused load is to be told it is a course between two turns
pub stands_keeps : (c : Course) (past : List Entry) (told : Option (List Call)) (spare : ℕ) → Stands c past told spare c.driver c.machine
    → KeepsKeeper c.job c.driver.slots past → IsClear c.job past → vec_len c.entries + 2 * open_starts c ≤ vec_capacity c.entries
    → KeepsCourse c told spare
stands_keeps c past told spare s arrays clear room = record {
  tcs = s.tcs;
  book = subst (λ h. KeepsBook (machine_of c.job) c.job h told c.driver c.machine c.turns) (sym s.same) s.book;
  stands = subst (λ h. StandsFor c.job.start_epoch h c.pass (pass c.job h)) (sym s.same) s.stands;
  whole = s.whole;
  first = subst HasFirst (sym s.same) s.first;
  places = s.places;
  arrays = subst (KeepsKeeper c.job c.driver.slots) (sym s.same) arrays;
  ends = subst EndsAreTold (sym s.same) s.ends;
  clear = subst (IsClear c.job) (sym s.same) clear;
  room = room;
}

-- ---- open starts

-- a write-out counts for one
abbrev pub sealing_starts : Bool → ℕ
sealing_starts b = if b then 1 else 0

-- the end of a load closes one
pub ended_starts : (j : JobView) (c c' : Course) (before : Mode) (cpu : Cpu) (e : Entry) → cpu.0 < length c.turns.cpus
    → has_open_load (turn_at c.turns.cpus cpu.0) ≡ true → e.actor ≡ actors.Cpu cpu → IsEndOfLoad e.event
    → IsNoted j c.turns before e c'.turns → is_sealing c'.pass ≡ is_sealing c.pass → open_starts c' + 1 ≡ open_starts c
ended_starts j c c' before cpu e low loads by end noted sealing =
    let turn : CpuTurn = turn_after e.event before (turn_at c.turns.cpus cpu.0) in
    let cpus : c'.turns.cpus ≡ set c.turns.cpus cpu.0 turn = noted.cpus
    ∙ end.kicks (with_own e.actor e.event before c.turns.cpus) ∙ ap (λ a. with_own a e.event before c.turns.cpus) by in
    let counts = starts_set c.turns.cpus cpu.0 turn low in
    let was : one_if (has_open_load (turn_at c.turns.cpus cpu.0)) ≡ 1 = ap one_if loads in
    let now : one_if (has_open_load turn) ≡ 0 = ap one_if (end.stops (turn_at c.turns.cpus cpu.0).last) in
    let count : count_by has_open_load c'.turns.cpus ≡ count_by has_open_load (set c.turns.cpus cpu.0 turn) =
    ap (count_by has_open_load) cpus in
    let seals = ap sealing_starts sealing in
    omega (arith, counts, was, now, count, seals)

-- a bus opens none
pub bus_starts : (j : JobView) (c c' : Course) (before : Mode) (cpu : Cpu) (page : Page) (reason : BusWhy) → cpu.0 < length c.turns.cpus
    → IsNoted j c.turns before (bus_of cpu page reason) c'.turns → is_sealing c'.pass ≡ is_sealing c.pass
    → open_starts c' ≤ open_starts c
bus_starts j c c' before cpu page reason low noted sealing =
    let turn : CpuTurn = turn_after (Bus page reason) before (turn_at c.turns.cpus cpu.0) in
    let counts = starts_set c.turns.cpus cpu.0 turn low in
    let count : count_by has_open_load c'.turns.cpus ≡ count_by has_open_load (set c.turns.cpus cpu.0 turn) =
    ap (count_by has_open_load) noted.cpus in
    let seals = ap sealing_starts sealing in
    let now : one_if (has_open_load turn) ≡ 0 = refl in
    omega (arith, counts, count, seals, now)

-- one entry more
pub one_longer : (old new : Vec Entry) (e : Entry) → new.items ≡ old.items ++ e ∷ [] → vec_len new ≡ vec_len old + 1
one_longer old new e is =
    let before = old.ok.0 in
    let after = new.ok.0 in
    let more : length new.items ≡ length old.items + 1 = ap length is ∙ length_push old.items e in omega (arith, before, after, more)

-- ---- what is due

-- who has a load to end was loading
pub ends_loads : (j : JobView) (past : List Entry) (cpu : Cpu) (f : Frame) → cpu.0 < length j.scripts → cpu_due j past cpu.0 ≡ Ends (Eld f)
    → is_some (loaded_by (last_of past cpu.0)) ≡ true
ends_loads j past cpu f mine due = by_last (last_of past cpu.0) own
  where
    by_spent : (b : Bool)
        → (if b then Stopped else due_after (last_of past cpu.0) (is_last past cpu.0) (turn_due j past cpu.0)) ≡ Ends (Eld f) → b ≡ false
    by_spent true k = cc
    by_spent false k = refl

    own : EndsOwn (last_of past cpu.0) (Refused (Eld f) why.EpochSpent)
    own = their_rule j past (record { actor = actors.Cpu cpu; event = Refused (Eld f) why.EpochSpent }) record {
      not_spent = by_spent (is_spent past) due;
      next = (mine, subst (λ x. IsNext x (Refused (Eld f) why.EpochSpent)) (sym due) refl);
    }

    by_last : (l : Last) → EndsOwn l (Refused (Eld f) why.EpochSpent) → is_some (loaded_by l) ≡ true
    by_last (Loads n page) k = refl
    by_last (Fails page reason) k = cc
    by_last WasEnded k = cc
    by_last Other k = cc

-- a page with a place can be asked for
pub placed_there : (j : JobView) (d : Driver) (past : List Entry) (t : Turns) (page : Page) → ShowsTables (drivers j) j d past
    → ShowsTurns j past t → has_place t.tcs page ≡ true → IsPlaced d.states.counts page
placed_there j d past t page shows turns has =
    placed_row t.tcs d.states.counts page (turns.places ∙ sym (ap rows (shows.counts ∙ shows.of_job))) has

-- a page without a place was never added
absent_there : (j : JobView) (d : Driver) (past : List Entry) (t : Turns) (page : Page) → ShowsTables (drivers j) j d past
    → ShowsTurns j past t → has_place t.tcs page ≡ false → place past page ≡ Absent
absent_there j d past t page shows turns has = by_place (place past page) refl
  where
    no_place : is_absent (place past page) ≡ false → ⊥
    no_place k =
        false≢true (sym has ∙ row_placed t.tcs d.states.counts page (turns.places ∙ sym (ap rows (shows.counts ∙ shows.of_job)))
        (shows.placed page k))

    by_place : (at : Place) → place past page ≡ at → place past page ≡ Absent
    by_place Absent is = is
    by_place (Here f) is = absurd (no_place (ap is_absent is))
    by_place (Leaving f) is = absurd (no_place (ap is_absent is))
    by_place (Loading f slot) is = absurd (no_place (ap is_absent is))
    by_place (Away slot) is = absurd (no_place (ap is_absent is))

-- .. so it is waited for
pub absent_waits : (j : JobView) (d : Driver) (past : List Entry) (t : Turns) (page : Page) (due : Due) → ShowsTables (drivers j) j d past
    → ShowsTurns j past t → has_place t.tcs page ≡ false → due ≡ fetches j.epc past page (place past page)
    → due ≡ Waits (waits.Busy page)
absent_waits j d past t page due shows turns has is =
    is ∙ ap (fetches j.epc past page) (absent_there j d past t page shows turns has)

-- a page that is here is waited for
pub here_waits : (frames : ℕ) (past : List Entry) (page : Page) (at : Place) → is_here at ≡ true
    → fetches frames past page at ≡ Waits (waits.Busy page)
here_waits frames past page (Here f) is = refl
here_waits frames past page Absent is = cc
here_waits frames past page (Leaving f) is = cc
here_waits frames past page (Loading f slot) is = cc
here_waits frames past page (Away slot) is = cc

-- ---- a load that is open

-- who loads a page loads it into a frame
pub is_open : (past : List Entry) (p : ℕ) (page : Page) → loaded_by (last_of past p) ≡ Some page → (n : ℕ) × (last_of past p ≡ Loads n page)
is_open past p page is = by_last (last_of past p) refl is
  where
    by_last : (l : Last) → last_of past p ≡ l → loaded_by l ≡ Some page → (n : ℕ) × (last_of past p ≡ Loads n page)
    by_last (Loads n g) at k = (n, at ∙ ap (Loads n) (let same : g ≡ page = cc in same))
    by_last (Fails g other) at k = cc
    by_last WasEnded at k = cc
    by_last Other at k = cc

-- the page whose record is kept for a processor waits for it
pub open_waits : (j : JobView) (past : List Entry) (d : Driver) (m : Parts) (cpu : Cpu) → Agrees (machine_of j) j past d m
    → cpu.0 < length d.kept → IfSome (page_kept (kept_at d.kept cpu.0)) (WaitsFor d m)
open_waits j past d m cpu r room =
    subst (λ o. IfSome o (WaitsFor d m)) (sym (r.shows.copies cpu.0)) (by_last (last_of past cpu.0) refl)
  where
    by_last : (l : Last) → last_of past cpu.0 ≡ l → IfSome (loaded_by l) (WaitsFor d m)
    by_last (Loads n page) is =
        let can = can_finish (machine_of j) j past d m r cpu page n is room in
        record {
          placed = can.tables.placed;
          frame = can.frame;
          slot = can.slot;
          loading = can.tables.loading;
          waits = can.waits;
        }
    by_last (Fails g other) is = tt
    by_last WasEnded is = tt
    by_last Other is = tt

-- there is room for what is kept for each processor
pub kept_room : (j : JobView) (d : Driver) (past : List Entry) (p : ℕ) → ShowsTables (drivers j) j d past → p < length j.scripts
    → p < length d.kept
kept_room j d past p shows mine = let rooms = shows.rooms in let cpus = shows.cpus in omega (arith, rooms, cpus, mine)
