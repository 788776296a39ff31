use Rattle.run_course.specs.inner.Courses.{past_of}
use Rattle.run_course.proofs.LoadCourse.{kept_room, open_waits}
use Rattle.run_course.proofs.course.Course.open_again.Goals as goal

pub again-requires-clause-waits : goal.again-requires-clause-waits
again-requires-clause-waits g c =
    let s = c.args.self.now in
    open_waits s.job (past_of s) s.driver s.machine c.args.cpu c.requires.keeps.book.agrees
    (kept_room s.job s.driver (past_of s) c.args.cpu.0 c.requires.keeps.book.agrees.shows c.requires.cpu)
