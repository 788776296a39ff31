use Rattle.std.proofs.Common.{refl}
use Rattle.run_course.proofs.course.Course.kick_if.Goals as goal

pub returns-then-keeps_back-clause-one : goal.returns-then-keeps_back-clause-one
returns-then-keeps_back-clause-one c set can = (c.kick_one.ensures can, refl)
