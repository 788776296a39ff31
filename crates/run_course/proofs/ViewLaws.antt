-- What a turn of a course is in the book.
use Rattle.std.proofs.Common.{◌≡◌, ℕ, Bool, false, List, Option, Some, None, Result, Ok, Err, IfOk, IfSome, OnSome, is_some}
use Rattle.std.proofs.Common.{OnErr}
use Rattle.std.proofs.Common.{refl, sym, ap, subst, ◌∙◌}
use Rattle.std.proofs.lemmas.Bool.{false≢true}
use Rattle.sgx_types.specs.declared.names.Actor.{Actor}
use Rattle.sgx_types.specs.declared.names.Actor.TheVariants as actors
use Rattle.sgx_types.specs.declared.names.Memory.{Memory}
use Rattle.io_edges.specs.declared.plans.PlanLine.{PlanLine}
use Rattle.job_grammar.specs.Jobs.{JobView}
use Rattle.backing_store.specs.Calls.{Call}
use Rattle.run_course.specs.declared.course.Course.{Course}
use Rattle.run_course.specs.declared.turn.Turn.{Turn}
use Rattle.run_course.specs.declared.turn.Turn.TheVariants as turns
use Rattle.run_course.specs.inner.Courses.{Grows, IsSame, KeepsCourse, past_of}
use Rattle.run_course.specs.inner.Kept.{IsKept, view_of}
use Rattle.run_course.specs.inner.Turns.{CanTurn, IsBuilderTurn}
use Rattle.run_course.specs.inner.Views.{HasGrown, IsBuild}
use Rattle.run_course.proofs.SameLaws.{same_keeps, same_view}
use Rattle.run_course.proofs.ReportLaws.{builder_stopped}

-- entries more
pub grown_seen : (c c' : Course) (by : Actor) (n : ℕ) (told told' longer : Option (List Call)) (plans plans' : List PlanLine) (spare : ℕ)
    (out_of_memory : Bool) → is_some told' ≡ is_some told → Grows c by n c' longer spare
    → HasGrown (view_of c told plans out_of_memory) by n (view_of c' told' plans' out_of_memory)
grown_seen c c' by n told told' longer plans plans' spare out_of_memory tells g = record {
  entries = g.entries;
  count = g.count;
  actors = g.actors;
  past = g.past;
  job = g.job;
  out_of_memory = refl;
  tells = tells;
  kicks = g.kicks;
}

-- a course of the same job that keeps what it has to
abbrev pub GoesOn : Course → Course → Option (List Call) → ℕ → Type 0
GoesOn c c' told spare = KeepsCourse c' told spare × (c'.job ≡ c.job)

pub kept_on : (c c' : Course) (told : Option (List Call)) (plans : List PlanLine) (spare : ℕ) → IsKept c told plans spare
    → GoesOn c c' told spare → IsKept c' told plans spare
kept_on c c' told plans spare k on =
    record {
      keeps = on.0;
      plans_are = subst (λ (j : JobView). IfSome told (λ calls. plans ≡ j.plans)) (sym on.1) k.plans_are;
    }

-- a store that tells its calls goes on to, and keeps the job's plan lines
pub plans_told : (c c' : Course) (told told' : Option (List Call)) (plans plans' : List PlanLine) → plans' ≡ plans → c'.job ≡ c.job
    → is_some told' ≡ is_some told → IfSome told (λ calls. plans ≡ c.job.plans) → IfSome told' (λ calls. plans' ≡ c'.job.plans)
plans_told c c' None None plans plans' same job tells h = tt
plans_told c c' None (Some longer) plans plans' same job tells h = absurd (false≢true (sym tells))
plans_told c c' (Some calls) None plans plans' same job tells h = tt
plans_told c c' (Some calls) (Some longer) plans plans' same job tells h = same ∙ h ∙ ap (λ (j : JobView). j.plans) (sym job)

-- a store that was handed the job's plan lines before its first call
pub plans_begin : (told : Option (List Call)) (plans lines wanted : List PlanLine) → OnSome told (plans ≡ lines) → lines ≡ wanted
    → IfSome told (λ calls. plans ≡ wanted)
plans_begin None plans lines wanted h same = tt
plans_begin (Some calls) plans lines wanted h same = h ∙ same

-- ---- the builder

module _ (c : Course) (told : Option (List Call)) (plans : List PlanLine) (spare : ℕ) where
  -- a turn of a book to which no refused memory was told
  build_seen : (c' : Course) (turn : Turn) → IsBuilderTurn c turn c' told spare
      → IsBuild (view_of c told plans false) turn (view_of c' told plans false)
  build_seen c' (turns.Did n) (one, g) = (one, grown_seen c c' actors.Builder 1 told told told plans plans spare false refl g)
  build_seen c' (turns.Again why) (due, same) = (due, same_view c c' told plans false same)
  build_seen c' turns.Finished (due, same) = (due, same_view c c' told plans false same)
  build_seen c' turns.Stopped (due, same) = (builder_stopped c.job (past_of c) due, same_view c c' told plans false same)
  build_seen c' (turns.Seal work) is = absurd is
  build_seen c' (turns.Unseal work) is = absurd is

  pub build_turn_seen : (c' : Course) (r : Result Turn Memory) → KeepsCourse c told spare
      → IfOk r (λ turn. (can : CanTurn c) → IsBuilderTurn c turn c' can.told can.spare)
      → IfOk r (λ turn. IsBuild (view_of c told plans false) turn (view_of c' told plans false))
  build_turn_seen c' (Ok turn) k is = build_seen c' turn (is (record { told = told; spare = spare; keeps = k }))
  build_turn_seen c' (Err memory) k is = tt

  build_kept : (c' : Course) (turn : Turn) → KeepsCourse c told spare → IsBuilderTurn c turn c' told spare → GoesOn c c' told spare
  build_kept c' (turns.Did n) k (one, g) = (g.keeps, g.job)
  build_kept c' (turns.Again why) k (due, same) = (same_keeps c c' told spare same k, same.job)
  build_kept c' turns.Finished k (due, same) = (same_keeps c c' told spare same k, same.job)
  build_kept c' turns.Stopped k (due, same) = (same_keeps c c' told spare same k, same.job)
  build_kept c' (turns.Seal work) k is = absurd is
  build_kept c' (turns.Unseal work) k is = absurd is

  pub build_turn_kept : (c' : Course) (r : Result Turn Memory) → IsKept c told plans spare
      → IfOk r (λ turn. (can : CanTurn c) → IsBuilderTurn c turn c' can.told can.spare) → OnErr r (IsSame c c') → IsKept c' told plans spare
  build_turn_kept c' (Ok turn) k is same =
      kept_on c c' told plans spare k (build_kept c' turn k.keeps (is (record { told = told; spare = spare; keeps = k.keeps })))
  build_turn_kept c' (Err memory) k is same = kept_on c c' told plans spare k (same_keeps c c' told spare same k.keeps, same.job)
