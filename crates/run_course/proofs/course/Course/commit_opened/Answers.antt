use Rattle.std.proofs.Common.{sym, ◌∙◌}
use Rattle.run_course.proofs.KeepLaws.{same_self}
use Rattle.run_course.proofs.course.Course.commit_opened.Goals as goal

pub returns-then-self : goal.returns-then-self
returns-then-self c = λ can. (sym can.keeps.book.turns.spent ∙ c.if-self.true, same_self c.args.self.now)

pub returns-in_default : goal.returns-in_default
returns-in_default c = λ can.
    (sym (can.keeps.book.agrees.shows.copies c.args.cpu.0) ∙ sym c.kept_page.ensures ∙ c.in_default.is, same_self c.args.self.now)
