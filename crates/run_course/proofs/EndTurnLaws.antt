-- The end of a write-out can be taken in.
use Rattle.std.proofs.Common.{◌≡◌, ℕ, ◌+◌, ◌*◌, ◌≤◌, zero, suc, true, false, if◌then◌else◌, List, [], ◌∷◌, Option, drop, is_some}
use Rattle.std.proofs.Common.{Some, None, IsSomeAnd, length, count_by, slice_get, vec_len, vec_capacity, refl, sym, ap}
use Rattle.std.proofs.Common.{subst}
use Rattle.std.proofs.Common.{◌∙◌, arith}
use Rattle.std.proofs.lemmas.Bool.{false≢true}
use Rattle.sgx_rules.specs.declared.entries.Action.TheVariants.{Ewb}
use Rattle.sgx_types.specs.declared.names.Actor.TheVariants as actors
use Rattle.sgx_rules.specs.declared.entries.Answer.{Answer}
use Rattle.sgx_rules.specs.declared.entries.Entry.{Entry}
use Rattle.sgx_rules.specs.declared.entries.Event.TheVariants.{Did}
use Rattle.sgx_types.specs.declared.names.Frame.{Frame}
use Rattle.backing_store.specs.Calls.{Call}
use Rattle.script_rules.specs.Machines.{machine_of}
use Rattle.machine_laws.specs.inner.Shape.{FitsApart, ShapeWithRules}
use Rattle.machine_laws.specs.inner.State.{State}
use Rattle.sgx_machine.specs.inner.Parts.{Parts, state_of}
use Rattle.driver_rules.specs.Stops.{is_spent}
use Rattle.driver_tables.specs.declared.driver.Driver.{Driver}
use Rattle.driver_pass.specs.declared.stages.Aside.{Aside}
use Rattle.driver_pass.specs.declared.stages.Aside.TheVariants as asides
use Rattle.driver_pass.specs.declared.stages.Form.TheVariants as forms
use Rattle.driver_pass.specs.declared.stages.Stage.{Stage}
use Rattle.driver_pass.specs.declared.stages.Stage.TheVariants as stages
use Rattle.driver_pass.specs.declared.stages.Taken.{Taken}
use Rattle.driver_pass.specs.inner.Noted.{after_done, after_page, aside_instructed, behind, instructed, unless_aside}
use Rattle.driver_pass.specs.inner.Viewed.{count_aside, is_amid, is_kicked, is_kicked_stage, is_sealing, PassView, sealing_at, sealing_in}
use Rattle.driver_pass.specs.inner.Viewed.{sealing_with, still_out, waiting_by}
use Rattle.driver_reclaim.specs.inner.After.{StandsBehind}
use Rattle.driver_reclaim.specs.inner.Ended.{IsEndedOut}
use Rattle.driver_reclaim.specs.inner.Ready.{Ready}
use Rattle.driver_reclaim.specs.inner.Stored.{IsOpen, IsStartedPass, IsStored, KeepsArrays, StoredSays}
use Rattle.driver_reclaim.proofs.MoveLaws.{amid_instructed}
use Rattle.driver_reclaim.proofs.OpenLaws.{can_store}
use Rattle.driver_reclaim.proofs.StoredLaws.{place_used, stored_ends}
use Rattle.driver_slots.specs.inner.Keeper.{Keeper}
use Rattle.run_laws.proofs.EndTurns.{out_next}
use Rattle.run_records.proofs.StepBytes.{stored_bytes}
use Rattle.run_records.proofs.HonestEnds.{stored_honest}
use Rattle.run_records.proofs.PassRecords.{out_flat, out_told}
use Rattle.due_tables.specs.inner.Noting.{with_kick}
use Rattle.due_tables.specs.inner.Entries.{EntersApart}
use Rattle.run_course.specs.declared.course.Course.{Course}
use Rattle.driver_rules.specs.Spent.{IsUsedUp}
use Rattle.run_course.specs.inner.Courses.{KeepsCourse, has_open_load, past_of}
use Rattle.run_course.specs.inner.Passing.{IsOwnEntry}
use Rattle.run_course.proofs.CalmLaws.{beside_calm}
use Rattle.run_course.proofs.KeepLaws.{course_ready}
use Rattle.run_course.proofs.TakeLaws.{own_entry}
use Rattle.driver_rules.specs.Stops.{is_bus}

-- ---- before it

-- a course whose write-out is open has its page's bytes, and can end it
pub course_open : (c : Course) (told : Option (List Call)) (spare : ℕ) → KeepsCourse c told spare → is_sealing c.pass ≡ true
    → IsOpen c.pass (state_of c.machine)
    × IsStartedPass c.pass (state_of c.machine) c.driver.states.counts
course_open c told spare k waits =
    can_store (machine_of c.job) c.job (past_of c) c.pass c.driver c.machine (course_ready c told spare k) waits

some_left : (n : ℕ) (xs : List Taken) → is_some (slice_get xs n) ≡ true → 1 ≤ length (drop n xs)
some_left zero [] h = absurd (false≢true h)
some_left zero (x ∷ xs) h = omega arith
some_left (suc n) [] h = absurd (false≢true h)
some_left (suc n) (x ∷ xs) h = some_left n xs h

sealing_left : (v : PassView) → is_sealing v ≡ true → 1 ≤ still_out v
sealing_left v = by_aside v.aside
  where
    by_stage : (stage : Stage) → is_some (sealing_at v.taken stage) ≡ true → 1 ≤ length (waiting_by v.taken stage) + 0
    by_stage (stages.Tries next forms.Sealing) h = let low = some_left next v.taken h in omega (arith, low)
    by_stage (stages.Tries next forms.First) h = absurd (false≢true h)
    by_stage (stages.Tries next forms.Track) h = absurd (false≢true h)
    by_stage (stages.Tries next forms.Second) h = absurd (false≢true h)
    by_stage (stages.Tries next (forms.Kick epoch made)) h = absurd (false≢true h)
    by_stage (stages.Tries next (forms.Kicks epoch place)) h = absurd (false≢true h)
    by_stage (stages.Tries next (forms.Third epoch)) h = absurd (false≢true h)
    by_stage (stages.Idle works) h = absurd (false≢true h)
    by_stage (stages.Scan left) h = absurd (false≢true h)
    by_stage (stages.Block next) h = absurd (false≢true h)

    by_aside : (x : Aside) → is_some (sealing_with x (sealing_at v.taken v.stage)) ≡ true
        → 1 ≤ length (waiting_by v.taken v.stage) + count_aside x
    by_aside asides.None h = by_stage v.stage h
    by_aside (asides.ToGo t) h = omega arith
    by_aside (asides.Going t) h = omega arith

-- .. so its page is still to go out, and has a place
pub one_out : (c : Course) (told : Option (List Call)) (spare : ℕ) → KeepsCourse c told spare → is_sealing c.pass ≡ true → 1 ≤ spare
one_out c told spare k waits = let left = sealing_left c.pass waits in let places = k.places in omega (arith, left, places)

-- ---- the entry

-- it is the reclaimer's, and leaves the holds and the slots
record IsEnd (e : Entry) (old new : Driver) : Type 0 where
  frame : Frame
  answer : Answer
  is : e ≡ record { actor = actors.Reclaimer; event = Did (Ewb frame) answer }
  own : new.active.own ≡ old.active.own
  slots : new.slots ≡ old.slots

end_of : (v : PassView) (s t : State) (d d' : Driver) (told told' : Option (List Call)) (faults faults' : ℕ) (e : Entry)
    → StoredSays v s d told faults e t d' told' faults' → IsEnd e d d'
end_of v s t d d' told told' faults faults' e says = by_page (sealing_in v) says
  where
    by_page : (o : Option Taken) → IsSomeAnd o (λ one. IsStored one s d told faults e t d' told' faults') → IsEnd e d d'
    by_page None k = absurd k
    by_page (Some one) k = record {
      frame = one.frame;
      answer = _;
      is = k.out.entry;
      own = ap (λ (x : Driver). x.active.own) k.tables;
      slots = ap (λ (x : Driver). x.slots) k.tables;
    }

page_closed : (taken : List Taken) (o : Option ℕ) → is_some (sealing_at taken (after_page o)) ≡ false
page_closed taken None = refl
page_closed taken (Some next) = refl

page_calm : (o : Option ℕ) → is_kicked_stage (after_page o) ≡ false
page_calm None = refl
page_calm (Some next) = refl

module _ (c : Course) (told : Option (List Call)) (spare : ℕ) (k : KeepsCourse c told spare) (f : Frame) (answer : Answer) where
  -- the stage behind it, by what goes out
  abbrev to : Aside → PassView
  to x = unless_aside x c.pass (record c.pass { stage = after_done c.pass.stage (length c.pass.taken) (Ewb f) })

  still : (c.pass.aside ≡ asides.None → ⊥)
      → (is_kicked_stage c.pass.stage ≡ false) × (is_some (sealing_at c.pass.taken c.pass.stage) ≡ false)
  still beside =
      beside_calm (machine_of c.job) c.job (past_of c) c.pass c.driver c.machine (course_ready c told spare k) k.book.age beside

  -- behind it no write-out is open
  closed : is_sealing (instructed (Did (Ewb f) answer) c.pass) ≡ false
  closed = by_aside c.pass.aside refl
    where
      by_stage : (stage : Stage) → is_some (sealing_at c.pass.taken (after_done stage (length c.pass.taken) (Ewb f))) ≡ false
      by_stage (stages.Tries next form) = page_closed c.pass.taken (behind next (length c.pass.taken))
      by_stage (stages.Idle works) = refl
      by_stage (stages.Scan left) = refl
      by_stage (stages.Block next) = refl

      by_aside : (x : Aside) → c.pass.aside ≡ x
          → is_some (sealing_with (aside_instructed (Did (Ewb f) answer) x) (sealing_at (to x).taken (to x).stage)) ≡ false
      by_aside asides.None is = by_stage c.pass.stage
      by_aside (asides.ToGo t) is = (still (λ none. let both = sym is ∙ none in cc)).1
      by_aside (asides.Going t) is = (still (λ none. let both = sym is ∙ none in cc)).1

  -- .. and no turn of kicks was made for the next page
  pub kicks_behind : is_kicked (instructed (Did (Ewb f) answer) c.pass) ≡ false
  kicks_behind = by_aside c.pass.aside refl
    where
      by_stage : (stage : Stage) → is_kicked_stage (after_done stage (length c.pass.taken) (Ewb f)) ≡ false
      by_stage (stages.Tries next form) = page_calm (behind next (length c.pass.taken))
      by_stage (stages.Idle works) = refl
      by_stage (stages.Scan left) = refl
      by_stage (stages.Block next) = refl

      by_aside : (x : Aside) → c.pass.aside ≡ x → is_kicked_stage (to x).stage ≡ false
      by_aside asides.None is = by_stage c.pass.stage
      by_aside (asides.ToGo t) is = (still (λ none. let both = sym is ∙ none in cc)).0
      by_aside (asides.Going t) is = (still (λ none. let both = sym is ∙ none in cc)).0

-- .. whatever its entry
pub ended_calm : (c : Course) (told longer : Option (List Call)) (spare faults faults' : ℕ) (e : Entry) (d : Driver) (s t : State)
    → KeepsCourse c told spare → StoredSays c.pass s c.driver told faults e t d longer faults'
    → is_kicked (instructed e.event c.pass) ≡ false
ended_calm c told longer spare faults faults' e d s t k says =
    let is = end_of c.pass s t c.driver d told longer faults faults' e says in
    ap (λ (x : Entry). is_kicked (instructed x.event c.pass)) is.is ∙ kicks_behind c told spare k is.frame is.answer

-- ---- it can be taken in

pub end_is_own : (c : Course) (told longer : Option (List Call)) (before spare faults faults' : ℕ) (e : Entry) (p : PassView) (d : Driver)
    (m : Parts) → KeepsCourse c told before → is_spent (past_of c) ≡ false → is_sealing c.pass ≡ true
    → StoredSays c.pass (state_of c.machine) c.driver told faults e (state_of m) d longer faults'
    → p ≡ instructed e.event c.pass → spare + 1 ≡ before
    → ShapeWithRules (machine_of c.job) (state_of m) (e ∷ past_of c) → FitsApart (machine_of c.job).frames (e ∷ past_of c)
    → KeepsArrays (state_of c.machine) e (state_of m) → length m.cpus ≡ length c.machine.cpus
    → IsOwnEntry (record c { pass = p; driver = d; machine = m }) e longer spare
end_is_own c told longer before spare faults faults' e p d m k going waits says to used shape fits arrays cpus =
    own_entry c told longer before spare e p d m k record {
      next =
          out_next (machine_of c.job) c.job (past_of c) c.driver d c.machine m c.pass told longer faults faults' e ready going says ended
          (record { shape = shape; fits = fits }) cpus;
      own = is.own;
      mine = record {
        actor = ap (λ (x : Entry). x.actor) is.is;
        enters = subst (λ (x : Entry). EntersApart x.event) (sym is.is) tt;
        back = subst (λ (x : Entry). is_bus x.event ≡ false) (sym is.is) refl;
      };
      used = subst (λ (x : Entry). IsUsedUp c.job (past_of c) x.event) (sym is.is) refl;
      flat = out_flat (past_of c) c.pass (state_of c.machine) (state_of m) c.driver d told longer faults faults' e says k.book.flat;
      store = out_told (machine_of c.job) c.job (past_of c) told longer c.driver d c.machine m c.turns c.pass faults faults' e k.book refl
          ready says;
      bytes = stored_bytes (machine_of c.job) c.job (past_of c) c.driver d c.machine m c.pass told longer faults faults' e says;
      honest = stored_honest (machine_of c.job) c.job (past_of c) told longer c.driver d c.machine m c.turns c.pass faults faults' e k.book
          says arrays;
      stands = subst (StandsBehind c.job.start_epoch c.job (past_of c) e) (sym to) ended.stands;
      whole = ap is_amid to ∙ amid_instructed e.event c.pass k.whole;
      many = record {
        pages = ap (λ (x : Keeper). length x.arrays) is.slots;
        room = ap (λ (x : Keeper). x.room) is.slots;
      };
      places = subst (λ v. still_out v ≤ spare) (sym to)
          (place_used c.pass c.driver d c.machine m told longer faults faults' e before spare says used k.places);
      room = subst (λ (x : Entry). vec_len c.entries + 1 + 2 * (count_by has_open_load (with_kick x.event c.turns.cpus)
          + (if is_sealing p then 1 else 0)) ≤ vec_capacity c.entries) (sym is.is)
          (subst (λ b. vec_len c.entries + 1 + 2 * (count_by has_open_load c.turns.cpus + (if b then 1 else 0)) ≤ vec_capacity c.entries)
          (sym (ap is_sealing to ∙ ap (λ (x : Entry). is_sealing (instructed x.event c.pass)) is.is
          ∙ closed c told before k is.frame is.answer)) (omega (arith, room)));
    }
  where
    is : IsEnd e c.driver d
    is = end_of c.pass (state_of c.machine) (state_of m) c.driver d told longer faults faults' e says

    ready : Ready (machine_of c.job) c.job (past_of c) c.pass c.driver c.machine
    ready = course_ready c told before k

    ended : IsEndedOut c.job.start_epoch c.job (past_of c) c.driver e (instructed e.event c.pass) d
    ended =
        stored_ends (machine_of c.job) c.job (past_of c) c.pass c.driver d c.machine m told longer faults faults' e ready k.book.age
        k.book.kick says

    room : vec_len c.entries + 2 * (count_by has_open_load c.turns.cpus + 1) ≤ vec_capacity c.entries
    room = subst (λ b. vec_len c.entries + 2 * (count_by has_open_load c.turns.cpus + (if b then 1 else 0)) ≤ vec_capacity c.entries)
        waits k.room
