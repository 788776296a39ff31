-- What the type of a book keeps.
use Rattle.std.specs.Prelude.{◌≡◌, ℕ, Bool, List, Option, IfSome}
use Rattle.io_edges.specs.declared.plans.PlanLine.{PlanLine}
use Rattle.backing_store.specs.Calls.{Call}
use Rattle.driver_pass.specs.inner.Viewed.{is_kicked}
use Rattle.run_course.specs.declared.course.Course.{Course}
use Rattle.run_course.specs.inner.Courses.{KeepsCourse, past_of}
use Rattle.run_course.specs.inner.Views.{BookView}

-- a course over a store that tells these calls, was handed these plan lines and has so many places
abbrev pub view_of : Course → Option (List Call) → List PlanLine → Bool → BookView
view_of c told plans out_of_memory = record {
  job = c.job;
  past = past_of c;
  told = told;
  plans = plans;
  out_of_memory = out_of_memory;
  kicked = is_kicked c.pass;
}

pub record IsKept (c : Course) (told : Option (List Call)) (plans : List PlanLine) (spare : ℕ) : Type 0 where
  pub keeps : KeepsCourse c told spare
  -- a store that tells its calls was handed the job's plan lines
  pub plans_are : IfSome told (λ calls. plans ≡ c.job.plans)
