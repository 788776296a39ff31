-- The turns of the reclaimer, as the book shows them.
use Rattle.std.proofs.Common.{◌≡◌, ◌≤◌, arith, ℕ, zero, suc, Bool, true, false, List, Option, Some, None, is_some, Result, Ok}
use Rattle.std.proofs.Common.{Err, IfOk, OnErr, IfSome, reverse, refl, sym, ap, subst, ◌∙◌, inl, inr}
use Rattle.std.specs.Option.{IsSomeAnd}
use Rattle.std.proofs.lemmas.Bool.{false≢true}
use Rattle.sgx_types.specs.declared.names.Actor.TheVariants as actors
use Rattle.sgx_types.specs.declared.names.Memory.{Memory}
use Rattle.sgx_rules.specs.PageBytes.{bytes_at}
use Rattle.sgx_rules.specs.Frames.{content, page_there, vas_made}
use Rattle.driver_laws.proofs.ArrayLaws.{arrays_few}
use Rattle.job_grammar.specs.Jobs.{va_pages}
use Rattle.machine_laws.proofs.StepRecords.{page_bytes}
use Rattle.run_course.proofs.PageLaws.{named_right}
use Rattle.machine_laws.specs.inner.Guarded.{IsNamedRight}
use Rattle.sgx_types.specs.Making.{Making}
use Rattle.sgx_rules.specs.inner.Starts.{BareStart}
use Rattle.io_edges.specs.declared.plans.PlanLine.{PlanLine}
use Rattle.seal_record.specs.declared.seal.SealWork.{SealWork}
use Rattle.backing_store.specs.Calls.{Call}
use Rattle.machine_laws.specs.inner.Steps.{SealsPage}
use Rattle.machine_laws.proofs.ColumnLaws.{content_is}
use Rattle.machine_laws.proofs.SlotLaws.{started_as}
use Rattle.sgx_machine.specs.inner.Parts.{state_of}
use Rattle.script_rules.specs.Machines.{machine_of}
use Rattle.driver_rules.specs.inner.Stops.{frame_started}
use Rattle.driver_rules.specs.Stops.{last_event}
use Rattle.history_rules.specs.Given.{UnforgedRun}
use Rattle.run_laws.specs.inner.Books.{KeepsBytes}
use Rattle.run_records.proofs.PassRecords.{header_held}
use Rattle.driver_pass.specs.declared.stages.Taken.{Taken}
use Rattle.driver_pass.specs.inner.Viewed.{is_kicked, is_sealing, sealing_in}
use Rattle.run_course.specs.declared.course.Course.{Course}
use Rattle.run_course.specs.declared.turn.Turn.{Turn}
use Rattle.run_course.specs.declared.turn.Turn.TheVariants as turns
use Rattle.run_course.specs.inner.Courses.{IsSame, KeepsCourse, past_of}
use Rattle.run_course.specs.inner.Kept.{IsKept, view_of}
use Rattle.run_course.specs.inner.Passing.{EndsNone, IsWaiting}
use Rattle.run_course.specs.inner.Turns.{IsReclaimerTurn, IsSealed, SealsFor}
use Rattle.run_course.specs.inner.Views.{IsOutEnd, IsReclaim, SealsPageOut}
use Rattle.run_course.proofs.StartLaws.{none_started}
use Rattle.run_course.proofs.ViewLaws.{grown_seen, plans_told}

-- ---- works

-- the work is of a page that has started to go out
seals_seen : (c : Course) (told : Option (List Call)) (spare : ℕ) (work : SealWork) (plans : List PlanLine) (out_of_memory : Bool)
    → KeepsCourse c told spare → SealsFor c work → SealsPageOut (view_of c told plans out_of_memory) work
seals_seen c told spare work plans out_of_memory k = by_one (sealing_in c.pass)
  where
    few : vas_made (past_of c) ≤ 4096
    few =
        let low : vas_made (past_of c) ≤ va_pages c.job = arrays_few c.job (past_of c) k.book.agrees.built in
        omega (arith, low, k.book.turns.valid.enough_frames, k.book.turns.valid.few_frames)

    bytes_seen : (o : Option (List Call)) (f : ℕ)
        → (w : SealsPage (state_of c.machine) f work.key work.version work.header work.plain.items)
        → IfSome o (KeepsBytes (machine_of c.job) c.job (past_of c) c.machine)
        → IfSome o (λ calls. UnforgedRun c.job.key (past_of c) calls → work.plain.items ≡ bytes_at (past_of c) w.leaving.page)
    bytes_seen None f w keeps = tt
    bytes_seen (Some calls) f w keeps = λ unforged.
        (let columns = k.book.agrees.follows.shape.columns in
        let its = started_as (state_of c.machine) (past_of c) columns f w.leaving.start w.leaving.opened in
        let right = named_right (past_of c) f its.start w.leaving.page k.book.agrees.sound few its.opened
        (ap page_there (sym (content_is columns f)) ∙ w.leaving.held) in
        w.plain ∙ sym (page_bytes (state_of c.machine) (past_of c) f w.leaving (subst IsNamedRight (sym (content_is columns f)) right)
        (keeps unforged).standing))

    by_one : (o : Option Taken)
        → IsSomeAnd o (λ one. SealsPage (state_of c.machine) one.frame.0 work.key work.version work.header work.plain.items)
        → SealsPageOut (view_of c told plans out_of_memory) work
    by_one None s = absurd s
    by_one (Some one) s =
        let shape = k.book.agrees.follows.shape in
        let page = s.leaving.page in
        let its = started_as (state_of c.machine) (past_of c) shape.columns one.frame.0 s.leaving.start s.leaving.opened in
        let there : page_there (content (past_of c) one.frame.0) ≡ Some page =
        ap page_there (sym (content_is shape.columns one.frame.0)) ∙ s.leaving.held in
        record {
          key = s.key ∙ ap (λ (m : Making). m.key) shape.making;
          frame = one.frame.0;
          start = its.start;
          opened = its.opened;
          version = s.version ∙ sym (ap (λ (y : BareStart). y.version) its.same);
          page = page;
          held = there;
          header = header_held (machine_of c.job) c.job (past_of c) told c.driver c.machine c.turns page s.leaving.header k.book
              s.leaving.headed ∙ ap Some (sym s.header);
          bytes = bytes_seen told one.frame.0 s k.book.bytes;
        }

-- ---- turns

-- a write-out that has started is the one that the pass waits for
pub open_seals : (c : Course) (told : Option (List Call)) (spare : ℕ) → KeepsCourse c told spare
    → is_some (frame_started (last_event (past_of c) actors.Reclaimer)) ≡ true → is_sealing c.pass ≡ true
open_seals c told spare k pending = by (is_sealing c.pass) refl
  where
    by : (b : Bool) → is_sealing c.pass ≡ b → b ≡ true
    by true at = refl
    by false at =
        absurd (false≢true (rw (none_started c.job.start_epoch c.job (past_of c) c.pass k.stands k.book.age at)
        at pending))

module _ (c c' : Course) (told told' : Option (List Call)) (plans plans' : List PlanLine) (spare' : ℕ) (k : KeepsCourse c' told' spare')
    (same_plans : plans' ≡ plans) (tells : is_some told' ≡ is_some told) where
  -- where entries and job are as before, the book is the one that it was
  rest_seen : c'.job ≡ c.job → c'.entries.items ≡ c.entries.items → c'.pass ≡ c.pass → told' ≡ told
      → view_of c' told' plans' false ≡ view_of c told plans false
  rest_seen job items same calm = λ i. record {
    job = job i;
    past = reverse (items i);
    told = calm i;
    plans = same_plans i;
    out_of_memory = false;
    kicked = is_kicked (same i);
  }

  -- a work for it is of a write-out that is open
  open_work : (work : SealWork) → SealsFor c' work → is_sealing c'.pass ≡ true
  open_work work = by_one (sealing_in c'.pass)
    where
      by_one : (o : Option Taken)
          → IsSomeAnd o (λ one. SealsPage (state_of c'.machine) one.frame.0 work.key work.version work.header work.plain.items)
          → is_some o ≡ true
      by_one None s = absurd s
      by_one (Some one) s = refl

  reclaim_seen : (turn : Turn) (spare : ℕ) → KeepsCourse c told spare → (IsWaiting turn → told' ≡ told)
      → (is_sealing c.pass ≡ true → told' ≡ told) → IsReclaimerTurn c turn c' told' spare'
      → IsReclaim (view_of c told plans false) turn (view_of c' told' plans' false)
  reclaim_seen (turns.Did n) spare before calm again (many, kicks, quiet, g) = (
    many,
    kicks,
    quiet,
    grown_seen c c' actors.Reclaimer n told told' told' plans plans' spare' false tells g,
  )
  reclaim_seen (turns.Seal work) spare before calm again (seals, inl g) = (
    seals_seen c' told' spare' work.value plans' false k seals,
    inl (grown_seen c c' actors.Reclaimer 1 told told' told' plans plans' spare' false tells g),
  )
  reclaim_seen (turns.Seal work) spare before calm again (seals, inr s) = (
    seals_seen c' told' spare' work.value plans' false k seals,
    inr (rest_seen s.job s.entries s.pass (again (ap is_sealing (sym s.pass) ∙ open_work work.value seals))),
  )
  reclaim_seen (turns.Again why) spare before calm again (due, s) = (due, rest_seen s.job s.entries s.pass (calm tt))
  reclaim_seen turns.Finished spare before calm again (due, s) = (due, rest_seen s.job s.entries s.pass (calm tt))
  reclaim_seen turns.Stopped spare before calm again (spent, s) = (spent, rest_seen s.job s.entries s.pass (calm tt))
  reclaim_seen (turns.Unseal work) spare before calm again is = absurd is

  pub reclaim_turn_seen : (r : Result Turn Memory) (spare : ℕ) (X : Type 0) → KeepsCourse c told spare → (X → told' ≡ told)
      → IfOk r (λ turn. IsWaiting turn → X) → (is_sealing c.pass ≡ true → X)
      → IfOk r (λ turn. IsReclaimerTurn c turn c' told' spare')
      → IfOk r (λ turn. IsReclaim (view_of c told plans false) turn (view_of c' told' plans' false))
  reclaim_turn_seen (Ok turn) spare X before calm rests again is =
      reclaim_seen turn spare before (λ w. calm (rests w)) (λ sealing. calm (again sealing)) is
  reclaim_turn_seen (Err memory) spare X before calm rests again is = tt

  reclaim_job : (turn : Turn) → IsReclaimerTurn c turn c' told' spare' → c'.job ≡ c.job
  reclaim_job (turns.Did n) (many, kicks, quiet, g) = g.job
  reclaim_job (turns.Seal work) (seals, inl g) = g.job
  reclaim_job (turns.Seal work) (seals, inr s) = s.job
  reclaim_job (turns.Again why) (due, s) = s.job
  reclaim_job turns.Finished (due, s) = s.job
  reclaim_job turns.Stopped (due, s) = s.job
  reclaim_job (turns.Unseal work) is = absurd is

  pub reclaim_turn_kept : (r : Result Turn Memory) (spare : ℕ) (X : Type 0) → IsKept c told plans spare
      → IfOk r (λ turn. IsReclaimerTurn c turn c' told' spare') → OnErr r (IsSame c c' × X) → IsKept c' told' plans' spare'
  reclaim_turn_kept r spare X kept is same =
      record { keeps = k; plans_are = plans_told c c' told told' plans plans' same_plans (job r is same) tells kept.plans_are }
    where
      job : (x : Result Turn Memory) → IfOk x (λ turn. IsReclaimerTurn c turn c' told' spare') → OnErr x (IsSame c c' × X)
          → c'.job ≡ c.job
      job (Ok turn) one two = reclaim_job turn one
      job (Err memory) one two = two.0.job

  -- ---- the end of a write-out

  pub sealed_seen : (turn : Turn) (spare : ℕ) → KeepsCourse c told spare → (EndsNone turn → told' ≡ told)
      → IsSealed c turn c' told' spare' → IsOutEnd (view_of c told plans false) turn (view_of c' told' plans' false)
  sealed_seen (turns.Did zero) spare before calm (idle, s) = (
    none_started c.job.start_epoch c.job (past_of c) c.pass before.stands before.book.age idle,
    rest_seen s.job s.entries s.pass (calm tt),
  )
  sealed_seen (turns.Did (suc n)) spare before calm (one, ends, kicks, g) =
      (one, ends, kicks, grown_seen c c' actors.Reclaimer 1 told told' told' plans plans' spare' false tells g)
  sealed_seen turns.Stopped spare before calm (spent, s) = (spent, rest_seen s.job s.entries s.pass (calm tt))
  sealed_seen (turns.Seal work) spare before calm is = absurd is
  sealed_seen (turns.Unseal work) spare before calm is = absurd is
  sealed_seen (turns.Again why) spare before calm is = absurd is
  sealed_seen turns.Finished spare before calm is = absurd is

  pub sealed_kept : (turn : Turn) (spare : ℕ) → IsKept c told plans spare
      → IsSealed c turn c' told' spare' → IsKept c' told' plans' spare'
  sealed_kept turn spare kept is =
      record { keeps = k; plans_are = plans_told c c' told told' plans plans' same_plans (job turn is) tells kept.plans_are }
    where
      job : (x : Turn) → IsSealed c x c' told' spare' → c'.job ≡ c.job
      job (turns.Did zero) (idle, s) = s.job
      job (turns.Did (suc n)) (one, ends, kicks, g) = g.job
      job turns.Stopped (spent, s) = s.job
      job (turns.Seal work) y = absurd y
      job (turns.Unseal work) y = absurd y
      job (turns.Again why) y = absurd y
      job turns.Finished y = absurd y
