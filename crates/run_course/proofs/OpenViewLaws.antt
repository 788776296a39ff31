-- The work of a started load, as the book shows it; and the turns of a processor.
use Rattle.std.proofs.Common.{◌≡◌, ℕ, zero, suc, Bool, false, List, Option, Some, None, IfSome, is_some, Result, Ok, Err, IfOk}
use Rattle.std.proofs.Common.{OnErr, reverse, refl, sym, ap, subst, ◌∙◌, inl, inr}
use Rattle.std.specs.Option.{IsSomeAnd}
use Rattle.sgx_types.specs.declared.names.Actor.TheVariants as actors
use Rattle.sgx_types.specs.declared.names.Cpu.{Cpu}
use Rattle.sgx_types.specs.declared.names.Memory.{Memory}
use Rattle.sgx_types.specs.declared.names.Page.{Page}
use Rattle.sgx_types.specs.declared.names.VaSlot.{VaSlot}
use Rattle.sgx_types.specs.Making.{Making}
use Rattle.sgx_rules.specs.Starts.{Start, open_start}
use Rattle.sgx_rules.specs.inner.Starts.{BareStart, bare_start}
use Rattle.io_edges.specs.declared.plans.PlanLine.{PlanLine}
use Rattle.std.specs.Global.{Box}
use Rattle.seal_record.specs.declared.unseal.UnsealWork.{UnsealWork}
use Rattle.driver_list.specs.inner.Keeping.{Kept, kept_at, page_kept, record_kept}
use Rattle.backing_store.specs.Calls.{Call}
use Rattle.machine_laws.proofs.ColumnLaws.{start_is}
use Rattle.driver_rules.specs.Places.{Loading}
use Rattle.driver_rules.specs.Turns.{Loads, cpu_due, last_of}
use Rattle.driver_laws.specs.inner.Sound.{is_absent}
use Rattle.driver_laws.proofs.LoadLaws.{loading_place}
use Rattle.driver_tables.specs.inner.Tables.{place_in}
use Rattle.driver_faults.specs.inner.Repeating.{IsWorkFor}
use Rattle.history_rules.specs.Given.{gift}
use Rattle.run_calls.specs.inner.Stores.{TellsStore}
use Rattle.run_course.specs.declared.course.Course.{Course}
use Rattle.run_course.specs.declared.turn.Turn.{Turn}
use Rattle.run_course.specs.declared.turn.Turn.TheVariants as turns
use Rattle.run_course.specs.inner.Courses.{IsSame, KeepsCourse, past_of}
use Rattle.run_course.specs.inner.Kept.{IsKept, view_of}
use Rattle.run_course.specs.inner.Turns.{IsCpuTurn, IsNotLost, IsOpened, OpensFor}
use Rattle.run_course.specs.inner.Views.{IsLoadEnd, IsRun, OpensLoad}
use Rattle.run_course.proofs.LoadCourse.{is_open}
use Rattle.run_course.proofs.SameLaws.{same_keeps, same_view}
use Rattle.run_course.proofs.ReportLaws.{cpu_stopped}
use Rattle.run_course.proofs.ViewLaws.{grown_seen, kept_on, plans_told}

-- the version of a start is that of it without its place and its actor
bare_version : (o : Option Start) (version : ℕ) → IsSomeAnd (bare_start o) (λ start. version ≡ start.version)
    → IsSomeAnd o (λ start. version ≡ start.version)
bare_version None version h = h
bare_version (Some x) version h = h

-- ---- works

module _ (c : Course) (told : Option (List Call)) (spare : ℕ) (cpu : Cpu) (work : Box UnsealWork) (k : KeepsCourse c told spare) where
  into : (a b : ℕ) (x y : VaSlot) → Loading a x ≡ Loading b y → a ≡ b
  into a b x y h = cc

  given : (o : Option (List Call)) (n : ℕ) (page : Page) (kept : Kept) → IfSome o (λ calls. TellsStore c.job.key (past_of c) calls c.driver)
      → last_of (past_of c) cpu.0 ≡ Loads n page → kept_at c.driver.kept cpu.0 ≡ Some kept → work.value.rec ≡ kept.sealed
      → IfSome o (λ calls. gift (past_of c) calls n ≡ Some work.value.rec)
  given None n page kept tells last at brought = tt
  given (Some calls) n page kept tells last at brought =
      sym (tells.gifts cpu.0 n page last) ∙ ap record_kept at ∙ ap Some (sym brought)

  pub opens_seen : (plans : List PlanLine) (out_of_memory : Bool) → OpensFor c cpu work
      → OpensLoad (view_of c told plans out_of_memory) cpu work.value
  opens_seen plans out_of_memory opens = by_kept (kept_at c.driver.kept cpu.0) refl opens
    where
      by_kept : (o : Option Kept) → kept_at c.driver.kept cpu.0 ≡ o → IsWorkFor c.driver c.machine o (Some work)
          → OpensLoad (view_of c told plans out_of_memory) cpu work.value
      by_kept None at w = absurd w
      by_kept (Some kept) at w =
          let r = k.book.agrees in
          let past = past_of c in
          let loads = is_open past cpu.0 kept.page (sym (r.shows.copies cpu.0) ∙ ap page_kept at) in
          let there = loading_place past loads.0 kept.page r.sound (r.theirs.started cpu.0 loads.0 kept.page loads.1) in
          let same : w.frame.0 ≡ loads.0 =
          into w.frame.0 loads.0 w.slot there.0
          (sym (ap place_in w.loading) ∙ r.shows.states kept.page (r.shows.placed kept.page (ap is_absent there.1)) ∙ there.1) in
          record {
            key = w.opens.key ∙ ap (λ (m : Making). m.key) r.follows.shape.making;
            frame = loads.0;
            page = kept.page;
            loads = loads.1;
            version = bare_version (open_start past loads.0) work.value.version
                (subst (λ o. IsSomeAnd o (λ (start : BareStart). work.value.version ≡ start.version))
                (sym w.opens.opened ∙ start_is r.follows.shape.columns w.frame.0 ∙ ap (λ n. bare_start (open_start past n)) same)
                w.opens.version);
            given = given told loads.0 kept.page kept k.book.store loads.1 at w.opens.brought;
          }

-- where nothing has changed, course and store, the book is the one that it was
pub again_seen : (c c' : Course) (told told' : Option (List Call)) (plans plans' : List PlanLine) (out_of_memory : Bool) → IsSame c c'
    → told' ≡ told → plans' ≡ plans → view_of c' told' plans' out_of_memory ≡ view_of c told plans out_of_memory
again_seen c c' told told' plans plans' out_of_memory s calm lines =
    same_view c c' told' plans' out_of_memory s ∙ (λ i. view_of c (calm i) (lines i) out_of_memory)

-- ---- turns

-- a turn of a book to which no refused memory was told, behind which the store tells these calls
module _ (c c' : Course) (told told' : Option (List Call)) (plans plans' : List PlanLine) (spare' : ℕ) (cpu : Cpu)
    (k : KeepsCourse c' told' spare') (same_plans : plans' ≡ plans) (tells : is_some told' ≡ is_some told) where
  -- where nothing has changed, the book is the one that it was
  same_seen : IsSame c c' → told' ≡ told → view_of c' told' plans' false ≡ view_of c told plans false
  same_seen s calm = same_view c c' told' plans' false s ∙ (λ i. view_of c (calm i) (same_plans i) false)

  run_seen : (turn : Turn) → (past_of c' ≡ past_of c → told' ≡ told) → IsCpuTurn c cpu turn c' told' spare'
      → IsRun (view_of c told plans false) cpu turn (view_of c' told' plans' false)
  run_seen (turns.Did n) calm (many, quiet, g) =
      (many, quiet, grown_seen c c' (actors.Cpu cpu) n told told' told' plans plans' spare' false tells g)
  run_seen (turns.Unseal work) calm (opens, inl g) = (
    opens_seen c' told' spare' cpu work k plans' false opens,
    inl (grown_seen c c' (actors.Cpu cpu) 1 told told' told' plans plans' spare' false tells g),
  )
  run_seen (turns.Unseal work) calm (opens, inr s) = (
    opens_seen c' told' spare' cpu work k plans' false opens,
    inr (same_seen s (calm (ap reverse s.entries))),
  )
  run_seen (turns.Again why) calm (due, there, s) =
      let same = calm (ap reverse s.entries) in
      (due, subst (λ o. IsNotLost o (cpu_due c.job (past_of c) cpu.0)) same there, same_seen s same)
  run_seen turns.Finished calm (due, s) = (due, same_seen s (calm (ap reverse s.entries)))
  run_seen turns.Stopped calm (due, s) =
      (cpu_stopped c.job (past_of c) cpu.0 due, same_seen s (calm (ap reverse s.entries)))
  run_seen (turns.Seal work) calm is = absurd is

  pub run_turn_seen : (r : Result Turn Memory) → IfOk r (λ turn. past_of c' ≡ past_of c → told' ≡ told)
      → IfOk r (λ turn. IsCpuTurn c cpu turn c' told' spare')
      → IfOk r (λ turn. IsRun (view_of c told plans false) cpu turn (view_of c' told' plans' false))
  run_turn_seen (Ok turn) calm is = run_seen turn calm is
  run_turn_seen (Err memory) calm is = tt

  run_job : (turn : Turn) → IsCpuTurn c cpu turn c' told' spare' → c'.job ≡ c.job
  run_job (turns.Did n) (many, quiet, g) = g.job
  run_job (turns.Unseal work) (opens, inl g) = g.job
  run_job (turns.Unseal work) (opens, inr s) = s.job
  run_job (turns.Again why) (due, there, s) = s.job
  run_job turns.Finished (due, s) = s.job
  run_job turns.Stopped (due, s) = s.job
  run_job (turns.Seal work) is = absurd is

  pub run_turn_kept : (r : Result Turn Memory) (spare : ℕ) (X : Type 0) → IsKept c told plans spare
      → IfOk r (λ turn. IsCpuTurn c cpu turn c' told' spare') → OnErr r (IsSame c c' × X) → IsKept c' told' plans' spare'
  run_turn_kept r spare X kept is same =
      record { keeps = k; plans_are = plans_told c c' told told' plans plans' same_plans (job r is same) tells kept.plans_are }
    where
      job : (x : Result Turn Memory) → IfOk x (λ turn. IsCpuTurn c cpu turn c' told' spare') → OnErr x (IsSame c c' × X) → c'.job ≡ c.job
      job (Ok turn) one two = run_job turn one
      job (Err memory) one two = two.0.job

-- ---- the end of a load

module _ (c c' : Course) (told : Option (List Call)) (plans : List PlanLine) (spare : ℕ) (cpu : Cpu) where
  pub opened_seen : (turn : Turn) → IsOpened c cpu turn c' told spare
      → IsLoadEnd (view_of c told plans false) cpu turn (view_of c' told plans false)
  opened_seen (turns.Did zero) (none, s) = (none, same_view c c' told plans false s)
  opened_seen (turns.Did (suc n)) (ends, g) =
      (ends, grown_seen c c' (actors.Cpu cpu) (suc n) told told told plans plans spare false refl g)
  opened_seen turns.Stopped (spent, s) = (spent, same_view c c' told plans false s)
  opened_seen (turns.Seal work) is = absurd is
  opened_seen (turns.Unseal work) is = absurd is
  opened_seen (turns.Again why) is = absurd is
  opened_seen turns.Finished is = absurd is

  pub opened_kept : (turn : Turn) → IsKept c told plans spare → IsOpened c cpu turn c' told spare → IsKept c' told plans spare
  opened_kept (turns.Did zero) k (none, s) = kept_on c c' told plans spare k (same_keeps c c' told spare s k.keeps, s.job)
  opened_kept (turns.Did (suc n)) k (ends, g) = kept_on c c' told plans spare k (g.keeps, g.job)
  opened_kept turns.Stopped k (spent, s) = kept_on c c' told plans spare k (same_keeps c c' told spare s k.keeps, s.job)
  opened_kept (turns.Seal work) k is = absurd is
  opened_kept (turns.Unseal work) k is = absurd is
  opened_kept (turns.Again why) k is = absurd is
  opened_kept turns.Finished k is = absurd is
