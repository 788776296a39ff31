use Rattle.run_course.proofs.KickTurnLaws.{kick_goes, kick_records, kicked_one}
use Rattle.run_course.proofs.course.Course.kick_one.Goals as goal

pub record_entry-requires : goal.record_entry-requires
record_entry-requires c =
    kick_records c.args.self.now c.args.number c.requires
    (kick_goes c.args.self.now c.args.number c.requires c.note.ensures.shape c.note.ensures.fits) c.note.ensures.history

pub returns : goal.returns
returns c can =
    let e = c.record_entry.ensures in
    kicked_one c.args.self.now c.record_entry.new.self c.args.number can
    (kick_goes c.args.self.now c.args.number can c.note.ensures.shape c.note.ensures.fits)
    c.note.ensures.history e.book e.kept e.room e.driver
    e.others
