-- A course in which nothing but room has changed keeps what it kept, and is seen as it was.
use Rattle.std.proofs.Common.{◌≡◌, ℕ, ◌+◌, ◌≤◌, Bool, false, if◌then◌else◌, List, Option, length, count_by, reverse, refl}
use Rattle.std.proofs.Common.{sym, ap, subst, arith}
use Rattle.sgx_rules.specs.declared.entries.Entry.{Entry}
use Rattle.io_edges.specs.declared.plans.PlanLine.{PlanLine}
use Rattle.job_grammar.specs.Jobs.{JobView}
use Rattle.backing_store.specs.Calls.{Call}
use Rattle.script_rules.specs.Machines.{machine_of}
use Rattle.sgx_machine.specs.inner.Parts.{Parts}
use Rattle.driver_rules.specs.Passes.{pass}
use Rattle.driver_laws.specs.inner.Three.{TcsAreApart}
use Rattle.driver_tables.specs.declared.driver.Driver.{Driver}
use Rattle.driver_pass.specs.inner.Standing.{StandsFor}
use Rattle.driver_pass.specs.inner.Viewed.{is_amid, is_kicked, is_sealing, PassView, still_out}
use Rattle.driver_reclaim.specs.inner.Ready.{HasFirst}
use Rattle.due_tables.specs.declared.turns.Turns.{Turns}
use Rattle.due_tables.specs.inner.Ending.{EndsAreTold}
use Rattle.due_notes.specs.inner.Arrays.{KeepsKeeper}
use Rattle.run_laws.specs.inner.Books.{KeepsBook}
use Rattle.run_course.specs.declared.course.Course.{Course}
use Rattle.run_course.specs.inner.Courses.{IsClear, IsSame, KeepsCourse, has_open_load, open_starts, past_of}
use Rattle.run_course.specs.inner.Kept.{view_of}
use Rattle.run_course.specs.inner.Views.{BookView}

-- a fact of the parts of a course
by_parts : (c c' : Course) → IsSame c c' → (P : JobView → List Entry → Driver → Parts → Turns → PassView → Type 0)
    → P c.job (past_of c) c.driver c.machine c.turns c.pass
    → P c'.job (past_of c') c'.driver c'.machine c'.turns c'.pass
by_parts c c' s P h =
    subst (λ j. P j (past_of c') c'.driver c'.machine c'.turns c'.pass) (sym s.job)
    (subst (λ items. P c.job (reverse items) c'.driver c'.machine c'.turns c'.pass) (sym s.entries)
    (subst (λ d. P c.job (past_of c) d c'.machine c'.turns c'.pass) (sym s.driver)
    (subst (λ m. P c.job (past_of c) c.driver m c'.turns c'.pass) (sym s.machine)
    (subst (λ t. P c.job (past_of c) c.driver c.machine t c'.pass) (sym s.turns)
    (subst (λ v. P c.job (past_of c) c.driver c.machine c.turns v) (sym s.pass) h)))))

pub same_keeps : (c c' : Course) (told : Option (List Call)) (spare : ℕ) → IsSame c c' → KeepsCourse c told spare
    → KeepsCourse c' told spare
same_keeps c c' told spare s k =
    let one = c.entries.ok.0 in
    let two = c'.entries.ok.0 in
    let size : length c'.entries.items ≡ length c.entries.items = ap length s.entries in
    let starts : open_starts c' ≡ open_starts c =
    by_parts c c' s (λ j h d m t v.
    count_by has_open_load t.cpus + (if is_sealing v then 1 else 0) ≡ open_starts c) refl in
    let room = k.room in
    let more = s.room in
    record {
      tcs = by_parts c c' s (λ j h d m t v. TcsAreApart j) k.tcs;
      book = by_parts c c' s (λ j h d m t v. KeepsBook (machine_of j) j h told d m t) k.book;
      stands = by_parts c c' s (λ j h d m t v. StandsFor j.start_epoch h v (pass j h)) k.stands;
      whole = by_parts c c' s (λ j h d m t v. is_amid v ≡ false) k.whole;
      first = by_parts c c' s (λ j h d m t v. HasFirst h) k.first;
      places = by_parts c c' s (λ j h d m t v. still_out v ≤ spare) k.places;
      arrays = by_parts c c' s (λ j h d m t v. KeepsKeeper j d.slots h) k.arrays;
      ends = by_parts c c' s (λ j h d m t v. EndsAreTold h) k.ends;
      clear = by_parts c c' s (λ j h d m t v. IsClear j h) k.clear;
      room = omega (arith, room, more, starts, size, one, two);
    }

-- .. as a book shows it
pub same_view : (c c' : Course) (told : Option (List Call)) (plans : List PlanLine) (out_of_memory : Bool) → IsSame c c'
    → view_of c' told plans out_of_memory ≡ view_of c told plans out_of_memory
same_view c c' told plans out_of_memory s =
    by_parts c c' s (λ j h d m t v. ◌≡◌ {A = BookView}
    (record { job = j; past = h; told = told; plans = plans; out_of_memory = out_of_memory; kicked = is_kicked v })
    (view_of c told plans out_of_memory)) refl
