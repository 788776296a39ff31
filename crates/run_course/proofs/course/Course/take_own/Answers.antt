use Rattle.std.proofs.Common.{ap}
use Rattle.run_course.specs.declared.course.Course.{Course}
use Rattle.run_course.proofs.OwnLaws.{own_grows}
use Rattle.run_course.proofs.RecordLaws.{newest}
use Rattle.run_course.proofs.course.Course.take_own.Goals as goal

pub returns-clause-grows : goal.returns-clause-grows
returns-clause-grows c can =
    let e = c.take_in.ensures in
    own_grows c.args.self.now c.take_in.new.self c.args.entry can.longer can.spare can.is (e.book can.is.take) (e.stands can.is.take) e.kept
    e.room e.noted e.driver e.places e.sealing (ap (λ (x : Course). x.job) e.others)

pub returns-clause-past : goal.returns-clause-past
returns-clause-past c = newest c.args.self.now.entries.items c.take_in.new.self.entries.items c.args.entry c.take_in.ensures.kept
