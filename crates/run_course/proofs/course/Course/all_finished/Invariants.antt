use Rattle.std.proofs.Common.{◌≡◌, true}
use Rattle.driver_rules.specs.inner.Reclaims.{are_finished}
use Rattle.run_course.specs.inner.Courses.{past_of}
use Rattle.run_course.proofs.course.Course.all_finished.Given as goal

-- the processors so far have nothing left
abbrev pub invariant-loop-number : goal.invariant-loop-number
invariant-loop-number l = are_finished l.self.job (past_of l.self) l.number ≡ true
