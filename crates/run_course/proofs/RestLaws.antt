-- What a course keeps, it keeps where nothing has changed.
use Rattle.std.proofs.Common.{◌≡◌, ℕ, ◌+◌, ◌≤◌, ◌++◌, if◌then◌else◌, List, Option, Some, None, IfSome, length, count_by}
use Rattle.std.proofs.Common.{reverse, sym, ap, subst, ◌∙◌, arith}
use Rattle.sgx_types.specs.declared.names.Actor.{Actor}
use Rattle.sgx_rules.specs.declared.entries.Entry.{Entry}
use Rattle.sgx_types.specs.Making.{Making}
use Rattle.job_grammar.specs.Jobs.{JobView}
use Rattle.backing_store.specs.Calls.{Call}
use Rattle.script_rules.specs.Machines.{machine_of}
use Rattle.machine_laws.specs.inner.Histories.{StandsWithAllRules}
use Rattle.machine_laws.specs.inner.Shape.{ShapeWithRules}
use Rattle.machine_laws.specs.inner.State.{State}
use Rattle.sgx_machine.specs.inner.Parts.{Parts, state_of}
use Rattle.driver_laws.specs.inner.Three.{TcsAreApart}
use Rattle.driver_tables.specs.declared.driver.Driver.{Driver}
use Rattle.driver_reclaim.specs.inner.Ready.{HasFirst}
use Rattle.driver_pass.specs.inner.Standing.{StandsAt}
use Rattle.driver_pass.specs.inner.Viewed.{is_amid, is_kicked, is_sealing, PassView, still_out}
use Rattle.history_rules.specs.Given.{UnforgedRun, made_in}
use Rattle.machine_laws.specs.inner.Columns.{HasAllVersions}
use Rattle.run_laws.specs.inner.Books.{KeepsBook, KeepsHonest}
use Rattle.due_notes.specs.inner.Arrays.{KeepsKeeper}
use Rattle.due_tables.specs.declared.turns.Turns.{Turns}
use Rattle.due_tables.specs.inner.Ending.{EndsAreTold}
use Rattle.run_course.specs.declared.course.Course.{Course}
use Rattle.run_course.specs.inner.Courses.{Grows, IsClear, IsSame, KeepsCourse, KeepsKicks, has_open_load, open_starts, past_of}
use Rattle.run_course.specs.inner.Turns.{IsAtRest}

-- what it keeps over an honest store is of the machine's state
rest_honest : (made : Making) (past : List Entry) (told : Option (List Call)) (m m' : Parts) → state_of m' ≡ state_of m
    → IfSome told (KeepsHonest made past m) → IfSome told (KeepsHonest made past m')
rest_honest made past None m m' same h = tt
rest_honest made past (Some calls) m m' same h = λ honest.
    let k = h honest in
    record {
      back = k.back;
      gifts = k.gifts;
      found = k.found;
      arrays = subst (λ s. HasAllVersions s past) (sym same) k.arrays;
      puts = k.puts;
    }

-- what a book keeps of a machine it keeps of another one in the same state
pub book_of_state : (made : Making) (j : JobView) (past : List Entry) (told : Option (List Call)) (d : Driver) (m m' : Parts) (t : Turns)
    → state_of m' ≡ state_of m → KeepsBook made j past told d m t → KeepsBook made j past told d m' t
book_of_state made j past told d m m' t same k = record {
  agrees = record {
    follows = subst (λ s. ShapeWithRules made s past) (sym same) k.agrees.follows;
    fits = k.agrees.fits;
    sound = k.agrees.sound;
    home = k.agrees.home;
    used = k.agrees.used;
    stand = k.agrees.stand;
    fixed = k.agrees.fixed;
    counted = k.agrees.counted;
    built = k.agrees.built;
    inits = k.agrees.inits;
    theirs = k.agrees.theirs;
    tracks = k.agrees.tracks;
    pages = k.agrees.pages;
    shows = k.agrees.shows;
    frames = k.agrees.frames;
    cpus = ap (λ (s : State). s.cpus) same ∙ k.agrees.cpus;
  };
  turns = k.turns;
  orderly = k.orderly;
  holds = k.holds;
  apart = k.apart;
  flat = k.flat;
  script = k.script;
  age = k.age;
  kick = k.kick;
  slots = k.slots;
  tracking = k.tracking;
  store = k.store;
  bytes = subst (λ s. IfSome told (λ calls. UnforgedRun j.key past calls → StandsWithAllRules made s past (made_in past calls))) (sym same)
      k.bytes;
  honest = rest_honest made past told m m' same k.honest;
}

-- the entries are the same, so their list from the newest on
pub same_past : (c c' : Course) → c'.entries.items ≡ c.entries.items → past_of c' ≡ past_of c
same_past c c' same = ap reverse same

-- so many starts are open as before
same_starts : (c c' : Course) → c'.turns ≡ c.turns → c'.pass ≡ c.pass → open_starts c' ≡ open_starts c
same_starts c c' turns same =
    ap (λ (t : Turns). count_by has_open_load t.cpus + (if is_sealing c'.pass then 1 else 0)) turns
    ∙ ap (λ (v : PassView). count_by has_open_load c.turns.cpus + (if is_sealing v then 1 else 0)) same

-- a course where nothing but the machine's way to keep its state has changed
pub rest_keeps : (c c' : Course) (told : Option (List Call)) (spare : ℕ) → IsAtRest c c' → KeepsCourse c told spare
    → KeepsCourse c' told spare
rest_keeps c c' told spare rests k =
    let past : past_of c' ≡ past_of c = same_past c c' rests.entries in
    record {
      tcs = subst TcsAreApart (sym rests.job) k.tcs;
      book =
          subst (λ (j : JobView). KeepsBook (machine_of j) j (past_of c') told c'.driver c'.machine c'.turns) (sym rests.job)
          (subst (λ h. KeepsBook (machine_of c.job) c.job h told c'.driver c'.machine c'.turns) (sym past)
          (subst (λ d. KeepsBook (machine_of c.job) c.job (past_of c) told d c'.machine c'.turns) (sym rests.driver)
          (subst (λ t. KeepsBook (machine_of c.job) c.job (past_of c) told c.driver c'.machine t) (sym rests.turns)
          (book_of_state (machine_of c.job) c.job (past_of c) told c.driver c.machine c'.machine c.turns rests.state k.book))));
      stands =
          subst (λ (j : JobView). StandsAt j.start_epoch j (past_of c') c'.pass) (sym rests.job)
          (subst (λ h. StandsAt c.job.start_epoch c.job h c'.pass) (sym past)
          (subst (StandsAt c.job.start_epoch c.job (past_of c)) (sym rests.pass) k.stands));
      whole = ap is_amid rests.pass ∙ k.whole;
      first = subst HasFirst (sym past) k.first;
      places = subst (λ (v : PassView). still_out v ≤ spare) (sym rests.pass) k.places;
      arrays =
          subst (λ (j : JobView). KeepsKeeper j c'.driver.slots (past_of c')) (sym rests.job)
          (subst (KeepsKeeper c.job c'.driver.slots) (sym past)
          (subst (λ (d : Driver). KeepsKeeper c.job d.slots (past_of c)) (sym rests.driver) k.arrays));
      ends = subst EndsAreTold (sym past) k.ends;
      clear = subst (λ (j : JobView). IsClear j (past_of c')) (sym rests.job) (subst (IsClear c.job) (sym past) k.clear);
      room =
          let long = c'.entries.ok.0 ∙ ap length rests.entries ∙ sym c.entries.ok.0 in
          let starts = same_starts c c' rests.turns rests.pass in
          let room = k.room in
          let more = rests.room in
          omega (arith, long, starts, room, more);
    }

-- a course that is the same is one at rest
pub same_rests : (c c' : Course) → IsSame c c' → IsAtRest c c'
same_rests c c' same = record {
  job = same.job;
  state = ap state_of same.machine;
  driver = same.driver;
  turns = same.turns;
  pass = same.pass;
  entries = same.entries;
  room = same.room;
}

pub same_keeps : (c c' : Course) (told : Option (List Call)) (spare : ℕ) → IsSame c c' → KeepsCourse c told spare
    → KeepsCourse c' told spare
same_keeps c c' told spare same = rest_keeps c c' told spare (same_rests c c' same)

-- nothing has changed in two turns
pub same_twice : (a b c : Course) → IsSame a b → IsSame b c → IsSame a c
same_twice a b c one two = record {
  job = two.job ∙ one.job;
  machine = two.machine ∙ one.machine;
  driver = two.driver ∙ one.driver;
  turns = two.turns ∙ one.turns;
  pass = two.pass ∙ one.pass;
  entries = two.entries ∙ one.entries;
  room = let first = one.room in let next = two.room in omega (arith, first, next);
}

pub rest_behind : (a b c : Course) → IsSame a b → IsAtRest b c → IsAtRest a c
rest_behind a b c one two = record {
  job = two.job ∙ one.job;
  state = two.state ∙ ap state_of one.machine;
  driver = two.driver ∙ one.driver;
  turns = two.turns ∙ one.turns;
  pass = two.pass ∙ one.pass;
  entries = two.entries ∙ one.entries;
  room = let first = one.room in let next = two.room in omega (arith, first, next);
}

-- a course that is the same but for its room grows by the same entries
pub same_grows : (a b c : Course) (by : Actor) (n : ℕ) (told : Option (List Call)) (spare : ℕ) → b.job ≡ a.job → past_of b ≡ past_of a
    → KeepsKicks by (is_kicked a.pass) (is_kicked c.pass) → Grows b by n c told spare → Grows a by n c told spare
same_grows a b c by n told spare job past kicks g = record {
  entries = g.entries;
  count = g.count;
  actors = g.actors;
  past = g.past ∙ ap (λ h. g.entries ++ h) past;
  job = g.job ∙ job;
  kicks = kicks;
  keeps = g.keeps;
}
