use Rattle.std.proofs.Common.{◌∷◌, sym, subst, arith}
use Rattle.std.proofs.lemmas.List.{length-reverse}
use Rattle.script_rules.specs.Machines.{machine_of}
use Rattle.driver_list.specs.inner.Active.{ActiveList}
use Rattle.due_tables.specs.inner.Holding.{KeepsHolds}
use Rattle.due_tables.proofs.FirstLaws.{counts_few}
use Rattle.due_tables.proofs.NoteLaws.{noted_shown}
use Rattle.run_laws.specs.inner.Books.{KeepsBook}
use Rattle.run_laws.proofs.BookLaws.{book_more}
use Rattle.run_laws.proofs.EntryLaws.{can_hold, can_note}
use Rattle.run_course.specs.inner.Courses.{past_of}
use Rattle.run_course.proofs.course.Course.record_entry.Goals as goal

pub hold-requires : goal.hold-requires
hold-requires c =
    let s = c.args.self.now in
    let r = c.requires in
    (can_hold (machine_of s.job) s.job (past_of s) r.told r.longer r.d s.driver r.m s.machine s.turns c.args.entry.now c.args.before r.book
    r.made r.stood r.tcs).can

pub note-requires-clause-few : goal.note-requires-clause-few
note-requires-clause-few c =
    let s = c.args.self.now in
    let same = length-reverse s.entries.items in
    let small = s.entries.ok.0 in
    counts_few s.job (past_of s) s.turns c.requires.book.turns (omega (arith, same, small))

pub returns-clause-book : goal.returns-clause-book
returns-clause-book c = λ can.
    (let s = c.args.self.now in
    let hold = can_hold (machine_of s.job) s.job (past_of s) can.told can.longer can.d s.driver can.m s.machine s.turns c.args.entry.now
    c.args.before can.book can.made can.stood can.tcs in
    let note = can_note (machine_of s.job) s.job (past_of s) can.told can.longer can.d s.driver can.m s.machine s.turns c.args.entry.now
    c.args.before can.book can.made can.stood in
    subst (λ (list : ActiveList). KeepsBook (machine_of s.job) s.job (c.args.entry.now ∷ past_of s) can.longer
    (record s.driver { active = list }) s.machine c.note.new.self) (sym c.hold.ensures.others)
    (book_more (machine_of s.job) s.job (past_of s) can.told can.longer can.d s.driver can.m s.machine s.turns c.note.new.self
    c.args.entry.now c.hold.new.active.own can.tcs can.book can.made
    (noted_shown s.job (past_of s) s.turns c.note.new.self c.args.before c.args.entry.now c.note.ensures can.book.turns note)
    (subst (λ past. KeepsHolds s.job c.hold.new.active.own (c.args.entry.now ∷ past)) hold.same (c.hold.ensures.holds hold.can))))
