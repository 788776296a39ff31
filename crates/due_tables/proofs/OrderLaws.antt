-- One entry more keeps in which frame each page is, and how many state save pages are in use.
use Rattle.std.proofs.Common.{◌≡◌, ◌≢◌, ℕ, ◌+◌, ◌-◌, ◌/◌, ◌==◌, ◌≤◌, ◌⊎◌, inl, inr, ⊎_elim, not}
use Rattle.std.proofs.Common.{Bool, true, false, if◌then◌else◌, List, [], ◌∷◌, Option, Some, None, MatchOption, refl, sym, ap}
use Rattle.std.proofs.Common.{subst, ◌∙◌, arith}
use Rattle.std.proofs.lemmas.Bool.{eq-eqb, eqb-false, eqb-true, false≢true}
use Rattle.sgx_rules.specs.declared.entries.AccessOp.{AccessOp}
use Rattle.sgx_rules.specs.declared.entries.AccessOp.TheVariants as accesses
use Rattle.sgx_rules.specs.declared.entries.Action.{Action}
use Rattle.sgx_rules.specs.declared.entries.Action.TheVariants as actions
use Rattle.sgx_types.specs.declared.names.Actor.{Actor}
use Rattle.sgx_types.specs.declared.names.Actor.TheVariants as actors
use Rattle.sgx_rules.specs.declared.entries.Answer.{Answer}
use Rattle.sgx_rules.specs.declared.entries.Answer.TheVariants as answers
use Rattle.sgx_rules.specs.declared.entries.Answer.TheVariants.{Moved}
use Rattle.sgx_rules.specs.declared.entries.Entry.{Entry}
use Rattle.sgx_rules.specs.declared.entries.Event.{Event}
use Rattle.sgx_rules.specs.declared.entries.Event.TheVariants.{Did, Refused, Age, Kick, Bus}
use Rattle.sgx_rules.specs.declared.entries.Look.{Look}
use Rattle.sgx_rules.specs.declared.entries.Look.TheVariants as looks
use Rattle.sgx_types.specs.declared.names.Cpu.{Cpu}
use Rattle.sgx_types.specs.declared.names.Page.{Page}
use Rattle.sgx_rules.specs.declared.refusals.Refusal.{Refusal}
use Rattle.sgx_rules.specs.declared.refusals.Refusal.TheVariants as why
use Rattle.sgx_rules.specs.Flat.{at_offset}
use Rattle.sgx_types.specs.Pages.{page_at, same_page}
use Rattle.sgx_rules.specs.Frames.{added, frame_of, vas_made}
use Rattle.sgx_rules.specs.Processors.{Stay, holds_number, is_by, move_by, stay, stay_after}
use Rattle.sgx_rules.specs.Processors.{translations}
use Rattle.sgx_rules.specs.Sights.{seat_of}
use Rattle.sgx_types.specs.Cases.{first_of_row, when}
use Rattle.sgx_rules.specs.Table.{is_lawful_access, is_reg, is_tcs}
use Rattle.sgx_rules.specs.Slots.{open_slot, slot_of}
use Rattle.sgx_types.specs.Pages.{is_own_page, secs_page, va_page}
use Rattle.sgx_types.proofs.Pages.{same_pages}
use Rattle.sgx_types.proofs.Truths.{not_false}
use Rattle.job_grammar.specs.declared.jobs.Op.{Op}
use Rattle.job_grammar.specs.declared.jobs.Op.TheVariants as ops
use Rattle.job_grammar.specs.declared.jobs.PageLine.{PageLine}
use Rattle.job_grammar.specs.declared.jobs.PageLine.TheVariants as lines
use Rattle.job_grammar.specs.Jobs.{JobView, lines_at, tcs_line}
use Rattle.job_grammar.specs.inner.Valid.{IsValid}
use Rattle.script_rules.specs.Script.{enter_with, is_seated_at, is_turned_away, leaves_by, resume_with, saved_frames}
use Rattle.sgx_types.specs.Pages.{frame_at}
use Rattle.script_rules.specs.Script.{saved_after}
use Rattle.machine_laws.specs.inner.State.{State, enter_sight, row_of}
use Rattle.machine_laws.specs.inner.Steps.{CanApply, IsDone, IsStep, answer_of, refused_by}
use Rattle.machine_laws.proofs.Contents.{tcs_no_reg}
use Rattle.machine_laws.proofs.EntryLaws.{enters as enters_by_row}
use Rattle.driver_rules.specs.declared.waits.Why.{Why}
use Rattle.driver_rules.specs.declared.waits.Why.TheVariants as waits
use Rattle.driver_rules.specs.Dues.{Due, Ends, Fetches, Finished, IsNext, IsTryOf, KicksAll, LooksAt, Makes, Reports, Stopped}
use Rattle.driver_rules.specs.Dues.{Asks, TriesOut, WaitsFor}
use Rattle.driver_rules.specs.Dues.{Waits, makes_or}
use Rattle.driver_rules.specs.Needs.{Interruption, interruption, needs_after, needs_to_enter, needs_to_resume, next_op, next_save}
use Rattle.driver_rules.specs.Needs.{save_to_enter, save_to_resume}
use Rattle.driver_rules.specs.Places.{Absent, Away, Here, Leaving, Loading, Place, after_look, back_from, comes_into, frame_here, gone_to}
use Rattle.driver_rules.specs.Places.{place}
use Rattle.driver_rules.specs.Scripts.{ScriptRule}
use Rattle.driver_rules.specs.Stops.{is_spent}
use Rattle.driver_rules.specs.Turns.{Fails, Last, Loads, Other, WasEnded, accesses_by, cpu_due, due_after, early_turn, enters}
use Rattle.driver_rules.specs.Turns.{fetches}
use Rattle.driver_rules.specs.Turns.{fills, first_away, inside_turn, is_built, is_kicked, is_last, last_of, op_turn}
use Rattle.driver_rules.specs.Turns.{outside_turn, resumes}
use Rattle.driver_rules.specs.Turns.{save_frame, stay_turn, turn_due, with_pages}
use Rattle.driver_rules.proofs.ReclaimLaws.{other_secs}
use Rattle.driver_laws.specs.inner.Kinds.{CanMove}
use Rattle.driver_laws.specs.inner.Three.{NamesOwn, TcsAreApart, names_tcs}
use Rattle.driver_laws.proofs.SoundLaws.{entry_of}
use Rattle.driver_laws.proofs.ThreeEntryLaws.{other_stay}
use Rattle.due_tables.specs.inner.Due.{IsOrderly, IsWithin, in_use, standing}
use Rattle.due_tables.specs.inner.Entries.{EntersApart}
use Rattle.due_tables.proofs.LineLaws.{IsTcsLine, saved_within, tcs_line_is, within_le}

-- ---- frames

abbrev Stand : List Entry → Type 0
Stand past = (g : Page) → is_own_page g ≡ true → frame_of past g ≡ standing (place past g)

looked : (look : Look) (at : Place) → standing (after_look look at) ≡ standing at
looked looks.Taken Absent = refl
looked looks.Taken (Here f) = refl
looked looks.Taken (Leaving f) = refl
looked looks.Taken (Loading f slot) = refl
looked looks.Taken (Away slot) = refl
looked looks.Young at = refl
looked looks.Held at = refl
looked looks.NoRoom at = refl

back : (n : ℕ) (at : Place) → standing (back_from n at) ≡ standing at
back n Absent = refl
back n (Here f) = refl
back n (Leaving f) = refl
back n (Loading f slot) = by_test (f == n)
  where
    by_test : (b : Bool) → standing (if b then Away slot else Loading f slot) ≡ None
    by_test true = refl
    by_test false = refl
back n (Away slot) = refl

comes : (n : ℕ) (at : Place) → standing (comes_into n at) ≡ standing at
comes n Absent = refl
comes n (Here f) = refl
comes n (Leaving f) = refl
comes n (Loading f slot) = refl
comes n (Away slot) = refl

-- a page that is no TCS or REG page is another one
other_page : (x g : Page) → is_own_page x ≡ false → is_own_page g ≡ true → same_page x g ≡ false
other_page x g aside own = by_test (same_page x g) refl
  where
    by_test : (b : Bool) → same_page x g ≡ b → b ≡ false
    by_test true is = absurd (false≢true (sym aside ∙ subst (λ (y : Page). is_own_page y ≡ true) (sym (same_pages x g is)) own))
    by_test false is = refl

-- an event that may change where a page is
stands_if : (b : Bool) (o q : Option ℕ) (x y : Place) → o ≡ standing x → (b ≡ true → q ≡ standing y)
    → (if b then q else o) ≡ standing (if b then y else x)
stands_if true o q x y h k = k refl
stands_if false o q x y h k = h

stays_if : (b : Bool) (o : Option ℕ) (x y : Place) → o ≡ standing x → (b ≡ true → o ≡ standing y) → o ≡ standing (if b then y else x)
stays_if true o x y h k = k refl
stays_if false o x y h k = h

frames_more : (past : List Entry) (a : Actor) (ev : Event) → CanMove past ev → Stand past → Stand (entry_of a ev ∷ past)
frames_more past a (Did (actions.Add enclave number f kind perm init) answer) can h g own =
    stands_if (same_page (page_at enclave number) g) (frame_of past g) (Some f.0) (place past g) (Here f.0) (h g own) (λ _. refl)
frames_more past a (Did (actions.Eld f) (Moved page version tag)) can h g own =
    stands_if (same_page page g) (frame_of past g) (Some f.0) (place past g) (Here f.0) (h g own) (λ _. refl)
frames_more past a (Did (actions.Ewb f) (Moved page version tag)) can h g own =
    stands_if (same_page page g) (frame_of past g) None (place past g) (gone_to (open_slot past f.0) (place past g)) (h g own)
    (λ _. ap (λ o. standing (gone_to (slot_of o) (place past g))) (sym can.1.1))
frames_more past a (Did (actions.EldStart f page slot) answer) can h g own =
    stays_if (same_page page g) (frame_of past g) (place past g) (comes_into f.0 (place past g)) (h g own)
    (λ same. h g own ∙ sym (comes f.0 (place past g)))
frames_more past a (Refused (actions.Eld f) why) can h g own =
    h g own ∙ sym (back f.0 (place past g))
frames_more past a (Did (actions.Epa f) answer) can h g own =
    h g own ∙ ap (λ b. standing (if b then Here f.0 else place past g)) (sym (other_page (va_page (vas_made past)) g refl own))
frames_more past a (Did (actions.Create enclave f base size) answer) can h g own =
    h g own ∙ ap (λ b. standing (if b then Here f.0 else place past g)) (sym (other_page (secs_page enclave) g (other_secs enclave) own))
frames_more past a (Age page look) can h g own =
    stays_if (same_page page g) (frame_of past g) (place past g) (after_look look (place past g)) (h g own)
    (λ _. h g own ∙ sym (looked look (place past g)))
frames_more past a (Did action answer) can h g own = h g own
frames_more past a (Refused action why) can h g own = h g own
frames_more past a (Kick cpu) can h g own = h g own
frames_more past a (Bus page why) can h g own = h g own

-- ---- which entries are due

abbrev LineOf : JobView → Page → Option PageLine
LineOf j g = tcs_line (lines_at j.enclaves g.enclave) g.number

-- an entry by two frames finds a state save page that is not in use
abbrev FindsRoom : JobView → List Entry → Action → Type 0
FindsRoom j past (actions.Enter e t tf sf) = tf.0 ≢ sf.0 → IsWithin (saved_frames past (page_at e t) + 1) (LineOf j (page_at e t))
FindsRoom j past _ = Unit {0}

abbrev DueFinds : JobView → List Entry → Due → Type 0
DueFinds j past (Ends action) = FindsRoom j past action
DueFinds j past (Makes action) = FindsRoom j past action
DueFinds j past _ = Unit {0}

find_either : (j : JobView) (past : List Entry) (b : Bool) (x y : Due) → DueFinds j past x → DueFinds j past y
    → DueFinds j past (if b then x else y)
find_either j past true x y h k = h
find_either j past false x y h k = k

find_fetch : (j : JobView) (past : List Entry) (g : Page) (at : Place) → DueFinds j past (fetches j.epc past g at)
find_fetch j past g Absent = tt
find_fetch j past g (Here f) = tt
find_fetch j past g (Leaving f) = tt
find_fetch j past g (Loading f slot) = tt
find_fetch j past g (Away slot) = tt

find_with : (j : JobView) (past : List Entry) (o : Option Page) (d : Due) → DueFinds j past d → DueFinds j past (with_pages j past o d)
find_with j past None d h = h
find_with j past (Some g) d h = find_fetch j past g (place past g)

find_resume : (j : JobView) (past : List Entry) (why : Why) (e t : ℕ) (tf sf : Option ℕ)
    → DueFinds j past (makes_or why (resume_with e t tf sf))
find_resume j past why e t None sf = tt
find_resume j past why e t (Some tf) None = tt
find_resume j past why e t (Some tf) (Some sf) = tt

less_within : (n : ℕ) (e : ℕ) (line : Option PageLine) (g : Page) → IsWithin n line → next_save e n line ≡ Some g → IsWithin (n + 1) line
less_within n e None g h is = tt
less_within n e (Some (lines.Reg first count perm value plain)) g h is = tt
less_within n e (Some (lines.Tcs page ossa nssa plain)) g h is = by_test (n == nssa) refl is
  where
    by_test : (b : Bool) → (n == nssa) ≡ b → (if b then None else Some (page_at e (ossa + n))) ≡ Some g → n + 1 ≤ nssa
    by_test true same k = cc
    by_test false same k = let other = eqb-false n nssa same in omega (arith, h, other)

find_enter : (j : JobView) (past : List Entry) (why : Why) (e t : ℕ) (save : Option Page)
    → next_save e (saved_frames past (page_at e t)) (LineOf j (page_at e t)) ≡ save
    → IsWithin (saved_frames past (page_at e t)) (LineOf j (page_at e t))
    → DueFinds j past (makes_or why (enter_with e t (frame_here (place past (page_at e t))) (save_frame past (page_at e t) save)))
find_enter j past why e t None is few = alone (frame_here (place past (page_at e t)))
  where
    alone : (o : Option ℕ) → DueFinds j past (makes_or why (enter_with e t o o))
    alone None = tt
    alone (Some f) = λ other. absurd (other refl)
find_enter j past why e t (Some g) is few = both (frame_here (place past (page_at e t))) (frame_here (place past g))
  where
    both : (o q : Option ℕ) → DueFinds j past (makes_or why (enter_with e t o q))
    both None q = tt
    both (Some f) None = tt
    both (Some f) (Some h) = λ other. less_within (saved_frames past (page_at e t)) e (LineOf j (page_at e t)) g few is

module _ (j : JobView) (past : List Entry) (few : (g : Page) → IsWithin (saved_frames past g) (LineOf j g)) where
  find_fills : (n : ℕ) (o : Option ℕ) → DueFinds j past (fills n o)
  find_fills n None = tt
  find_fills n (Some f) = tt

  find_access : (p : ℕ) (s : Option Stay) (op : AccessOp) (off : ℕ) (access : Action) → FindsRoom j past access
      → DueFinds j past (accesses_by past p s op off access)
  find_access p None op off access h = h
  find_access p (Some s) op off access h =
      find_either j past (not (is_lawful_access (added past (at_offset s.seat.enclave off)) op)) (Makes (actions.Pf op off))
      (if holds_number (translations past p) (off / 4096) then Makes access
      else fills (off / 4096) (frame_here (place past (at_offset s.seat.enclave off)))) tt
      (find_either j past (holds_number (translations past p) (off / 4096)) (Makes access)
      (fills (off / 4096) (frame_here (place past (at_offset s.seat.enclave off)))) h
      (find_fills (off / 4096) (frame_here (place past (at_offset s.seat.enclave off)))))

  find_resumes : (e t : ℕ) (pages : List Page) → DueFinds j past (resumes j past e t pages)
  find_resumes e t pages =
      find_with j past (first_away past pages)
      (makes_or (waits.Busy (page_at e t)) (resume_with e t (frame_here (place past (page_at e t)))
      (save_frame past (page_at e t) (save_to_resume j past e t))))
      (find_resume j past (waits.Busy (page_at e t)) e t (frame_here (place past (page_at e t)))
      (save_frame past (page_at e t) (save_to_resume j past e t)))

  find_op : (p : ℕ) (op : Op) → DueFinds j past (op_turn j past p op)
  find_op p (ops.Enter e t) =
      find_either j past (is_turned_away past p e) (Makes (actions.Enter e t (frame_at 0) (frame_at 0))) (enters j past e t)
      (λ other. absurd (other refl))
      (find_with j past (first_away past (needs_to_enter j past e t))
      (makes_or (waits.Busy (page_at e t)) (enter_with e t (frame_here (place past (page_at e t)))
      (save_frame past (page_at e t) (save_to_enter j past e t))))
      (find_enter j past (waits.Busy (page_at e t)) e t (save_to_enter j past e t) refl (few (page_at e t))))
  find_op p (ops.Resume e t) =
      find_either j past (is_turned_away past p e) (Makes (actions.Resume e t (frame_at 0) (frame_at 0)))
      (resumes j past e t (needs_to_resume j past e t)) tt (find_resumes e t (needs_to_resume j past e t))
  find_op p ops.Exit = tt
  find_op p ops.Timer = tt
  find_op p (ops.Load off) = find_access p (stay past p) accesses.Load off (actions.Load off) tt
  find_op p (ops.Store off value) = find_access p (stay past p) accesses.Store off (actions.Store off value) tt
  find_op p (ops.Xadd off value) = find_access p (stay past p) accesses.Xadd off (actions.Xadd off value) tt
  find_op p (ops.Set value) = tt
  find_op p (ops.Plus value) = tt
  find_op p (ops.OutLoad enclave off) = tt
  find_op p (ops.OutStore enclave off value) = tt

  find_outside : (p : ℕ) (i : Option Interruption) (op : Option Op) → DueFinds j past (outside_turn j past p i op)
  find_outside p i None = tt
  find_outside p (Some i) (Some op) = find_resumes i.enclave i.tcs (needs_after j past p i)
  find_outside p None (Some op) = find_op p op

  find_inside : (p : ℕ) (k : Bool) (op : Option Op) → DueFinds j past (inside_turn j past p k op)
  find_inside p true op = tt
  find_inside p false None = tt
  find_inside p false (Some op) = find_op p op

  find_stay : (p : ℕ) (s : Option Stay) → DueFinds j past (stay_turn j past p s)
  find_stay p None = find_outside p (interruption past p) (next_op j past p)
  find_stay p (Some s) = find_inside p (is_kicked past p) (next_op j past p)

  find_early : (s : Option Stay) (op : Option Op) → DueFinds j past (early_turn s op)
  find_early None None = tt
  find_early None (Some op) = tt
  find_early (Some s) op = tt

  find_after : (l : Last) (b : Bool) (d : Due) → DueFinds j past d → DueFinds j past (due_after l b d)
  find_after (Loads f page) b d h = tt
  find_after (Fails page why) true d h = tt
  find_after (Fails page why) false d h = tt
  find_after WasEnded b d h = tt
  find_after Other b d h = h

  find_due : (p : ℕ) → DueFinds j past (cpu_due j past p)
  find_due p =
      find_either j past (is_spent past) Stopped (due_after (last_of past p) (is_last past p) (turn_due j past p)) tt
      (find_after (last_of past p) (is_last past p) (turn_due j past p)
      (find_either j past (is_built j past) (stay_turn j past p (stay past p)) (early_turn (stay past p) (next_op j past p))
      (find_stay p (stay past p)) (find_early (stay past p) (next_op j past p))))

  -- who enters finds room
  finds : (d : Due) (action : Action) (answer : Answer) → DueFinds j past d → IsNext d (Did action answer) → FindsRoom j past action
  finds (Ends a) action answer h n = let same : action ≡ a = cc in subst (FindsRoom j past) (sym same) h
  finds (Makes a) action answer h n = let same : action ≡ a = cc in subst (FindsRoom j past) (sym same) h
  finds Stopped action answer h n = absurd n
  finds Finished action answer h n = absurd n
  finds (Waits why) action answer h n = absurd n
  finds (Reports page why) action answer h n = cc
  finds (Fetches g (WaitsFor target)) action answer h n = absurd n
  finds (Fetches g (Asks target slot None)) action answer h n = absurd n
  finds (Fetches g (Asks target None (Some f))) action answer h n = cc
  finds (Fetches g (Asks target (Some slot) (Some f))) action answer h n =
      let same : actions.EldStart (frame_at f) target slot ≡ action = cc in subst (FindsRoom j past) same tt
  finds (LooksAt page held young) action answer h n = absurd n
  finds (TriesOut g f) action answer h n = tried action n
    where
      tried : (a : Action) → IsTryOf f (Did a answer) → FindsRoom j past a
      tried (actions.EwbStart k slot) m = tt
      tried _ m = absurd m
  finds (KicksAll []) action answer h n = absurd n
  finds (KicksAll (q ∷ qs)) action answer h n = absurd n

-- ---- state save pages

again_within : (n : ℕ) (line : Option PageLine) → IsTcsLine line → IsWithin n line → IsWithin (n - 1 + 1) line
again_within n None ok h = tt
again_within n (Some (lines.Reg first count perm value plain)) ok h = tt
again_within n (Some (lines.Tcs page ossa nssa plain)) ok h = let some = ok.0 in omega (arith, some, h)

-- by whom a count grows
pub saved_step : (ev : Event) (l : Bool) (g : Page) (n : ℕ)
    → (saved_after ev l g n ≤ n) ⊎ ((l ≡ true) × (saved_after ev l g n ≡ n + 1))
saved_step (Did (actions.Aex cause) answer) true g n = inr (refl, refl)
saved_step (Did (actions.Aex cause) answer) false g n = inl (omega arith)
saved_step (Did (actions.Resume e t tf sf) answer) l g n = inl (by_test (same_page (page_at e t) g))
  where
    by_test : (b : Bool) → (if b then n - 1 else n) ≤ n
    by_test true = omega arith
    by_test false = omega arith
saved_step (Did action answer) l g n = inl (omega arith)
saved_step (Refused action refusal) l g n = inl (omega arith)
saved_step (Age page look) l g n = inl (omega arith)
saved_step (Kick cpu) l g n = inl (omega arith)
saved_step (Bus page reason) l g n = inl (omega arith)

abbrev more_if : Bool → ℕ → ℕ
more_if b n = if b then n + 1 else n

more_le : (b : Bool) (m n : ℕ) → m ≤ n → more_if b m ≤ more_if b n
more_le true m n h = omega (arith, h)
more_le false m n h = h

module _ (j : JobView) (past : List Entry) (v : IsValid j) (apart : TcsAreApart j) (own : (p : ℕ) → NamesOwn j past p)
    (room : (p : ℕ) (g : Page) → IsWithin (in_use past p g) (LineOf j g)) where
  few : (g : Page) → IsWithin (saved_frames past g) (LineOf j g)
  few g = saved_within past 0 g (LineOf j g) (room 0 g)

  -- a count that does not grow, of a processor that stays as it is
  still : (p n : ℕ) (g : Page) (s : Option Stay) → s ≡ stay past p → n ≤ saved_frames past g
      → IsWithin (more_if (is_seated_at g s) n) (LineOf j g)
  still p n g s same low =
      within_le (more_if (is_seated_at g s) n) (in_use past p g) (LineOf j g)
      (subst (λ o. more_if (is_seated_at g o) n ≤ in_use past p g) (sym same)
      (more_le (is_seated_at g (stay past p)) n (saved_frames past g) low)) (room p g)

  seated : (p : ℕ) (g : Page) (s : Option Stay) → stay past p ≡ s → is_seated_at g s ≡ true → names_tcs j p g ≡ true
  seated p g None is h = cc
  seated p g (Some s) is h =
      subst (λ x. names_tcs j p x ≡ true) (same_pages (page_at s.seat.enclave s.seat.tcs) g h) ((own p).seat s is)

  -- no two processors are inside by one TCS page
  alone : (c p : ℕ) (g : Page) → (c == p) ≡ false → is_seated_at g (stay past c) ≡ true → is_seated_at g (stay past p) ≡ false
  alone c p g other there = by_test (is_seated_at g (stay past p)) refl
    where
      by_test : (b : Bool) → is_seated_at g (stay past p) ≡ b → is_seated_at g (stay past p) ≡ false
      by_test false is = is
      by_test true is =
          absurd (eqb-false c p other
          (apart c p g (seated c g (stay past c) refl there) (seated p g (stay past p) refl is)))

  -- by another actor's entry
  room_other : (a : Actor) (ev : Event) (p : ℕ) (g : Page) → is_by p a ≡ false
      → ((l : Bool) → leaves_by a past g ≡ l → l ≡ true → is_seated_at g (stay past p) ≡ false)
      → ((l : Bool) → leaves_by a past g ≡ l → l ≡ true → IsWithin (saved_frames past g + 1) (LineOf j g))
      → IsWithin (in_use (entry_of a ev ∷ past) p g) (LineOf j g)
  room_other a ev p g other free leaves =
      ⊎_elim (λ low. still p (saved_frames (entry_of a ev ∷ past) g) g (stay (entry_of a ev ∷ past) p) stays low) grows
      (saved_step ev (leaves_by a past g) g (saved_frames past g))
    where
      stays : stay (entry_of a ev ∷ past) p ≡ stay past p
      stays = ap (λ b. stay_after (move_by ev) b past (stay past p)) other ∙ other_stay (move_by ev) past (stay past p)

      grows : (leaves_by a past g ≡ true) × (saved_frames (entry_of a ev ∷ past) g ≡ saved_frames past g + 1)
          → IsWithin (in_use (entry_of a ev ∷ past) p g) (LineOf j g)
      grows k =
          let none : is_seated_at g (stay (entry_of a ev ∷ past) p) ≡ false = ap (is_seated_at g) stays ∙ free true k.0 refl in
          subst (λ n. IsWithin n (LineOf j g))
          (sym (ap (λ b. more_if b (saved_frames (entry_of a ev ∷ past) g)) none ∙ k.1)) (leaves true k.0 refl)

  -- by its own
  room_own : (c : Cpu) (ev : Event) (g : Page)
      → ((action : Action) (answer : Answer) → ev ≡ Did action answer → FindsRoom j past action) → EntersApart ev
      → IsWithin (more_if (is_seated_at g (stay_after (move_by ev) true past (stay past c.0)))
      (saved_after ev (is_seated_at g (stay past c.0)) g (saved_frames past g))) (LineOf j g)
  room_own c (Did (actions.Enter e t tf sf) answer) g finds names = by_test (same_page (page_at e t) g) refl
    where
      by_test : (b : Bool) → same_page (page_at e t) g ≡ b → IsWithin (more_if b (saved_frames past g)) (LineOf j g)
      by_test true is =
          subst (λ x. IsWithin (saved_frames past x + 1) (LineOf j x)) (same_pages (page_at e t) g is)
          (finds (actions.Enter e t tf sf) answer refl names)
      by_test false is = few g
  room_own c (Did (actions.Resume e t tf sf) answer) g finds names = by_test (same_page (page_at e t) g)
    where
      by_test : (b : Bool) → IsWithin (more_if b (if b then saved_frames past g - 1 else saved_frames past g)) (LineOf j g)
      by_test true = again_within (saved_frames past g) (LineOf j g) (tcs_line_is j g.enclave g.number v) (few g)
      by_test false = few g
  room_own c (Did actions.Exit answer) g finds names = few g
  room_own c (Did (actions.Aex cause) answer) g finds names = room c.0 g
  room_own c (Did action answer) g finds names = room c.0 g
  room_own c (Refused action refusal) g finds names = room c.0 g
  room_own c (Age page look) g finds names = room c.0 g
  room_own c (Kick cpu) g finds names = room c.0 g
  room_own c (Bus page reason) g finds names = room c.0 g

  pub room_more : (a : Actor) (ev : Event) → ScriptRule j past (entry_of a ev) → EntersApart ev → (p : ℕ) (g : Page)
      → IsWithin (in_use (entry_of a ev ∷ past) p g) (LineOf j g)
  room_more actors.Builder ev script names p g =
      room_other actors.Builder ev p g refl (λ l is h. absurd (false≢true (is ∙ h))) (λ l is h. absurd (false≢true (is ∙ h)))
  room_more actors.Reclaimer ev script names p g =
      room_other actors.Reclaimer ev p g refl (λ l is h. absurd (false≢true (is ∙ h))) (λ l is h. absurd (false≢true (is ∙ h)))
  room_more (actors.Cpu c) ev script names p g = by_test (c.0 == p) refl
    where
      by_test : (b : Bool) → (c.0 == p) ≡ b → IsWithin (in_use (entry_of (actors.Cpu c) ev ∷ past) p g) (LineOf j g)
      by_test false other =
          room_other (actors.Cpu c) ev p g other (λ l is h. alone c.0 p g other (is ∙ h))
          (λ l is h. subst (λ b. IsWithin (more_if b (saved_frames past g)) (LineOf j g)) (is ∙ h) (room c.0 g))
      by_test true same =
          subst (λ q. IsWithin (in_use (entry_of (actors.Cpu c) ev ∷ past) q g) (LineOf j g)) (eqb-true c.0 p same)
          (subst (λ b. IsWithin (more_if (is_seated_at g (stay_after (move_by ev) b past (stay past c.0)))
          (saved_after ev (is_seated_at g (stay past c.0)) g (saved_frames past g))) (LineOf j g)) (sym (eq-eqb c.0 c.0 refl))
          (room_own c ev g
          (λ action answer is. finds j past few (cpu_due j past c.0) action answer (find_due j past few c.0)
          (subst (IsNext (cpu_due j past c.0)) is script.next.1)) names))

-- ---- all of it

pub orderly_more : (j : JobView) (past : List Entry) (e : Entry) → IsValid j → TcsAreApart j → ((p : ℕ) → NamesOwn j past p)
    → CanMove past e.event → ScriptRule j past e → EntersApart e.event → IsOrderly j past → IsOrderly j (e ∷ past)
orderly_more j past e v apart own can script names o = record {
  frames = frames_more past e.actor e.event can o.frames;
  room = room_more j past v apart own o.room e.actor e.event script names;
}

none_within : (line : Option PageLine) → IsWithin 0 line
none_within None = tt
none_within (Some (lines.Reg first count perm value plain)) = tt
none_within (Some (lines.Tcs page ossa nssa plain)) = omega arith

pub orderly_first : (j : JobView) → IsOrderly j []
orderly_first j = record { frames = λ g own. refl; room = λ p g. none_within (LineOf j g) }

-- who enters names two frames: one of a TCS page, and one of a REG page
pub enters_apart : (cpus : ℕ) (s : State) (a : Actor) (action : Action) (e : Entry) (t : State) → CanApply cpus a action
    → IsStep s a action e t → EntersApart e.event
enters_apart cpus s a action e t can step = by_row (first_of_row (row_of s a action)) refl step
  where
    named : (x : Event) → e.event ≡ x → EntersApart x → EntersApart e.event
    named x is h = subst EntersApart (sym is) h

    entered : (b : Actor) (x : Action) → CanApply cpus b x → first_of_row (row_of s b x) ≡ None → IsDone s b x e t → EntersApart e.event
    entered (actors.Cpu p) (actions.Enter enclave tcs tf sf) k allowed done =
        named (Did (actions.Enter enclave tcs tf sf) (answer_of s (actors.Cpu p) (actions.Enter enclave tcs tf sf)))
        (ap (λ (x : Entry). x.event) done.0) (λ same.
        (let seen = enter_sight s p.0 (seat_of enclave tcs tf.0 sf.0) in
        let facts = enters_by_row enclave tcs seen (when (seen.fields.cssa == seen.fields.nssa) why.NoFrame)
        (seen.fields.ossa + seen.fields.cssa) allowed in
        let tcs_there : is_tcs (s.content tf.0) ≡ true = not_false (is_tcs (s.content tf.0)) facts.tcs_kind in
        let reg_there : is_reg (s.content sf.0) ≡ true = not_false (is_reg (s.content sf.0)) facts.ssa_kind in
        tcs_no_reg (s.content tf.0) tcs_there (subst (λ n. is_reg (s.content n) ≡ true) (sym same) reg_there)))
    entered actors.Builder (actions.Enter enclave tcs tf sf) k allowed done = absurd k
    entered actors.Reclaimer (actions.Enter enclave tcs tf sf) k allowed done = absurd k
    entered b (actions.Init enclave expect) k allowed done =
        ⊎_elim
        (λ yes. named (Did (actions.Init enclave expect) (answers.Hash done.digest)) (ap (λ (x : Entry). x.event) yes.1) tt)
        (λ no. named (Refused (actions.Init enclave expect) (why.BadMeasure done.digest)) (ap (λ (x : Entry). x.event) no.1) tt)
        done.judged
    entered b action k allowed done = subst (λ (x : Entry). EntersApart x.event) (sym done.0) tt

    by_row : (o : Option Refusal) → first_of_row (row_of s a action) ≡ o
        → MatchOption o (IsDone s a action e t) (λ refusal. (e ≡ refused_by a action refusal) × (t ≡ s)) → EntersApart e.event
    by_row None is done = entered a action can is done
    by_row (Some refusal) is done = subst (λ (x : Entry). EntersApart x.event) (sym done.0) tt
