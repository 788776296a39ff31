use Rattle.run_course.proofs.EndTurnLaws.{course_open}
use Rattle.run_course.proofs.course.Course.sealing_with.Goals as goal

pub fill_in-requires : goal.fill_in-requires
fill_in-requires c =
    (course_open c.args.self.now c.requires.can.told c.requires.can.spare c.requires.can.keeps c.requires.sealing).0
