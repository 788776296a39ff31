-- What holds behind an entry that was taken in.
use Rattle.std.proofs.Common.{◌≡◌, ℕ, zero, suc, ◌+◌, ◌*◌, ◌≤◌, Bool, true, false, if◌then◌else◌, List, []}
use Rattle.std.proofs.Common.{◌∷◌, ◌++◌, All, Option, length, count_by, reverse, vec_len, vec_capacity, refl, sym, ap, subst}
use Rattle.std.proofs.Common.{◌∙◌, arith}
use Rattle.std.proofs.lemmas.List.{length-append}
use Rattle.std.proofs.lemmas.List.Sums.{count_by-le-length}
use Rattle.sgx_types.specs.declared.names.Actor.{Actor}
use Rattle.sgx_types.specs.declared.names.Actor.TheVariants as actors
use Rattle.sgx_rules.specs.declared.entries.Entry.{Entry}
use Rattle.sgx_types.specs.Making.{Making}
use Rattle.job_grammar.specs.Jobs.{JobView}
use Rattle.backing_store.specs.Calls.{Call}
use Rattle.script_rules.specs.Machines.{machine_of}
use Rattle.driver_laws.specs.inner.Three.{TcsAreApart}
use Rattle.cached_translations.specs.declared.processor.Mode.{Mode}
use Rattle.sgx_machine.specs.inner.Parts.{Parts}
use Rattle.driver_tables.specs.declared.driver.Driver.{Driver}
use Rattle.driver_rules.specs.Passes.{pass, pass_after}
use Rattle.driver_pass.specs.inner.Standing.{StandsFor}
use Rattle.driver_pass.specs.inner.Viewed.{is_amid, is_kicked, is_sealing, still_out}
use Rattle.driver_rules.specs.Ages.{KeptAgeRule}
use Rattle.driver_tables.proofs.HeldLaws.{held_same}
use Rattle.driver_reclaim.specs.inner.Ready.{HasFirst, Ready}
use Rattle.driver_reclaim.proofs.FirstLaws.{stays_first}
use Rattle.due_tables.specs.declared.turns.Turns.{Turns}
use Rattle.due_tables.specs.inner.Holding.{mode_of}
use Rattle.due_tables.specs.inner.Ending.{EndsAreTold}
use Rattle.due_notes.specs.inner.Arrays.{KeepsKeeper}
use Rattle.run_laws.specs.inner.Books.{IsMade, KeepsBook}
use Rattle.run_course.specs.declared.course.Course.{Course}
use Rattle.run_course.specs.inner.Courses.{Grows, IsClear, IsSame, KeepsCourse, KeepsKicks, has_open_load, open_starts, past_of}
use Rattle.run_course.specs.inner.Recording.{CanTake, IsRecorded, IsTaken}
use Rattle.run_course.proofs.RecordLaws.{newest}

-- no more than seventeen starts are open
pub few_starts : (c : Course) → length c.turns.cpus ≤ 16 → open_starts c ≤ 17
few_starts c few = by_pass (is_sealing c.pass)
  where
    by_pass : (b : Bool) → count_by has_open_load c.turns.cpus + (if b then 1 else 0) ≤ 17
    by_pass true = let k = count_by-le-length has_open_load c.turns.cpus in omega (arith, few, k)
    by_pass false = let k = count_by-le-length has_open_load c.turns.cpus in omega (arith, few, k)

-- with room for the ends of so many there is room for those that are open
pub room_behind : (c : Course) → length c.turns.cpus ≤ 16 → vec_len c.entries + 34 ≤ vec_capacity c.entries
    → vec_len c.entries + 2 * open_starts c ≤ vec_capacity c.entries
room_behind c few room = let k = few_starts c few in omega (arith, k, room)

-- the job has few processors, and the tables each
pub few_cpus : (made : Making) (j : JobView) (past : List Entry) (told : Option (List Call)) (d : Driver) (m : Parts) (t : Turns)
    → KeepsBook made j past told d m t → length t.cpus ≤ 16
few_cpus made j past told d m t k = let few = k.turns.valid.few_scripts in let each = k.turns.each in omega (arith, few, each)

-- a course is ready for a turn of its pass
pub course_ready : (c : Course) (told : Option (List Call)) (spare : ℕ) → KeepsCourse c told spare
    → Ready (machine_of c.job) c.job (past_of c) c.pass c.driver c.machine
course_ready c told spare k = record {
  agrees = k.book.agrees;
  held = λ g. held_same c.job c.driver.active.own (past_of c) k.book.holds.shows g k.book.turns.valid.few_scripts;
  stands = k.stands;
  whole = k.whole;
  first = k.first;
  short = k.book.turns.valid.marks.4;
}

-- behind one entry more the first version array page was made, where a page goes out beside the passes
pub first_behind : (c : Course) (told : Option (List Call)) (spare : ℕ) (e : Entry) → KeepsCourse c told spare
    → KeptAgeRule c.job (past_of c) e → HasFirst (e ∷ past_of c)
first_behind c told spare e k age =
    stays_first (machine_of c.job) c.job (past_of c) c.pass c.driver c.machine (course_ready c told spare k) e age

-- a course behind an entry that was taken in
pub taken_keeps : (c c' : Course) (e : Entry) (told : Option (List Call)) (spare : ℕ) → TcsAreApart c.job → c'.job ≡ c.job
    → c'.entries.items ≡ c.entries.items ++ e ∷ [] → IsRecorded c e told c' → IsTaken c e c'
    → HasFirst (e ∷ past_of c) → still_out c'.pass ≤ spare → KeepsKeeper c.job c'.driver.slots (e ∷ past_of c)
    → EndsAreTold (e ∷ past_of c) → IsClear c.job (e ∷ past_of c)
    → vec_len c'.entries + 2 * open_starts c' ≤ vec_capacity c'.entries → KeepsCourse c' told spare
taken_keeps c c' e told spare tcs job kept book stands first places arrays ends clear room =
    let past : past_of c' ≡ e ∷ past_of c = newest c.entries.items c'.entries.items e kept in
    record {
      tcs = subst TcsAreApart (sym job) tcs;
      book = subst (λ (j : JobView). KeepsBook (machine_of j) j (past_of c') told c'.driver c'.machine c'.turns) (sym job)
          (subst (λ h. KeepsBook (machine_of c.job) c.job h told c'.driver c'.machine c'.turns) (sym past) book);
      stands = subst (λ (j : JobView). StandsFor j.start_epoch (past_of c') c'.pass (pass j (past_of c')))
          (sym job)
          (subst (λ h. StandsFor c.job.start_epoch h c'.pass (pass c.job h)) (sym past) stands.0);
      whole = stands.1;
      first = subst HasFirst (sym past) first;
      places = places;
      arrays = subst (λ (j : JobView). KeepsKeeper j c'.driver.slots (past_of c')) (sym job)
          (subst (KeepsKeeper c.job c'.driver.slots) (sym past) arrays);
      ends = subst EndsAreTold (sym past) ends;
      clear = subst (λ (j : JobView). IsClear j (past_of c')) (sym job) (subst (IsClear c.job) (sym past) clear);
      room = room;
    }

-- an entry enters a course in which nothing else but machine, tables and pass has gone on
pub record Enters (c x : Course) (before : Mode) (e : Entry) (told longer : Option (List Call)) : Type 0 where
  pub job : x.job ≡ c.job
  pub turns : x.turns ≡ c.turns
  pub items : x.entries.items ≡ c.entries.items
  pub tcs : TcsAreApart c.job
  pub book : KeepsBook (machine_of c.job) c.job (past_of c) told c.driver c.machine c.turns
  pub made : IsMade (machine_of c.job) c.job (past_of c) told c.driver c.machine e longer x.driver x.machine
  pub stood : before ≡ mode_of c.machine e.actor
  pub place : vec_len x.entries + 1 ≤ vec_capacity x.entries
  pub stands : StandsFor c.job.start_epoch (e ∷ past_of c) x.pass
      (pass_after c.job (past_of c) e.actor e.event (pass c.job (past_of c)))
  pub whole : is_amid x.pass ≡ false

-- so it can be taken in
pub take_at : (c x : Course) (before : Mode) (e : Entry) (told longer : Option (List Call)) → Enters c x before e told longer
    → CanTake x before e
take_at c x before e told longer k = record {
  can = record {
    told = told;
    longer = longer;
    d = c.driver;
    m = c.machine;
    tcs = subst TcsAreApart (sym k.job) k.tcs;
    book = by_job (λ j t h. KeepsBook (machine_of j) j h told c.driver c.machine t) k.book;
    made = by_job (λ j t h. IsMade (machine_of j) j h told c.driver c.machine e longer x.driver x.machine) k.made;
    stood = k.stood;
    place = k.place;
  };
  stands = by_job (λ j t h. StandsFor j.start_epoch (e ∷ h) x.pass (pass_after j h e.actor e.event (pass j h)))
      k.stands;
  whole = k.whole;
}
  where
    by_job : (P : JobView → Turns → List Entry → Type 0) → P c.job c.turns (past_of c) → P x.job x.turns (past_of x)
    by_job P h =
        subst (λ j. P j x.turns (past_of x)) (sym k.job)
        (subst (λ t. P c.job t (past_of x)) (sym k.turns) (subst (λ items. P c.job c.turns (reverse items)) (sym k.items) h))

-- what the course was before it took the entry in, and what it is behind it
pub record Took (c x : Course) (before : Mode) (e : Entry) (told longer : Option (List Call)) (c' : Course) : Type 0 where
  pub enters : Enters c x before e told longer
  pub book : (take : CanTake x before e) → IsRecorded x e take.can.longer c'
  pub stands : CanTake x before e → IsTaken x e c'
  pub job : c'.job ≡ x.job
  pub kept : c'.entries.items ≡ x.entries.items ++ e ∷ []
  pub room : vec_capacity c'.entries ≡ vec_capacity x.entries

pub recorded : (c x : Course) (before : Mode) (e : Entry) (told longer : Option (List Call)) (c' : Course)
    → Took c x before e told longer c' → IsRecorded x e longer c' × IsTaken x e c'
unfolding take_at
recorded c x before e told longer c' k =
    (k.book (take_at c x before e told longer k.enters), k.stands (take_at c x before e told longer k.enters))

all_one : {A : Type 0} (P : A → Type 0) (x : A) → P x → All P (x ∷ [])
all_one P x h zero d low = h
all_one P x h (suc k) d low = absurd (omega (arith, low))

-- .. by whoever's turn it is
keeps_kicks : (by : Actor) {before behind : Bool} → behind ≡ before → KeepsKicks by before behind
keeps_kicks actors.Builder same = same
keeps_kicks (actors.Cpu cpu) same = same
keeps_kicks actors.Reclaimer same = tt

-- a turn that reserved its room, and took one entry in
pub grown_by_one : (c x : Course) (before : Mode) (e : Entry) (told longer : Option (List Call)) (c' : Course) (by : Actor) (spare : ℕ)
    → Took c x before e told longer c' → HasFirst (e ∷ past_of c) → still_out c'.pass ≤ spare
    → KeepsKeeper c.job c'.driver.slots (e ∷ past_of c) → EndsAreTold (e ∷ past_of c) → IsClear c.job (e ∷ past_of c)
    → vec_len x.entries + 64 ≤ vec_capacity x.entries → e.actor ≡ by → is_kicked c'.pass ≡ is_kicked c.pass
    → Grows c by 1 c' longer spare
grown_by_one c x before e told longer c' by spare k first places arrays ends clear room actor kicks =
    let past : past_of x ≡ past_of c = ap reverse k.enters.items in
    let kept : length c'.entries.items ≡ length x.entries.items + 1 = ap length k.kept ∙ length-append x.entries.items (e ∷ []) in
    let both = recorded c x before e told longer c' k in
    let same = k.room in
    let one = c'.entries.ok.0 in
    let two = x.entries.ok.0 in
    record {
      entries = e ∷ [];
      count = refl;
      actors = all_one (λ (y : Entry). y.actor ≡ by) e actor;
      past = newest x.entries.items c'.entries.items e k.kept ∙ ap (λ h. e ∷ h) past;
      job = k.job ∙ k.enters.job;
      kicks = keeps_kicks by kicks;
      keeps = taken_keeps x c' e longer spare (subst TcsAreApart (sym k.enters.job) k.enters.tcs) k.job k.kept both.0 both.1
          (subst (λ h. HasFirst (e ∷ h)) (sym past) first) places
          (subst (λ (j : JobView). KeepsKeeper j c'.driver.slots (e ∷ past_of x)) (sym k.enters.job)
          (subst (λ h. KeepsKeeper c.job c'.driver.slots (e ∷ h)) (sym past) arrays))
          (subst (λ h. EndsAreTold (e ∷ h)) (sym past) ends)
          (subst (λ (j : JobView). IsClear j (e ∷ past_of x)) (sym k.enters.job)
          (subst (λ h. IsClear c.job (e ∷ h)) (sym past) clear))
          (room_behind c' (few_cpus (machine_of x.job) x.job (e ∷ past_of x) longer c'.driver c'.machine c'.turns both.0)
          (omega (arith, room, same, kept, one, two)));
    }

-- a course is the same as itself
pub same_self : (c : Course) → IsSame c c
same_self c = record {
  job = refl;
  machine = refl;
  driver = refl;
  turns = refl;
  pass = refl;
  entries = refl;
  room = omega arith;
}
