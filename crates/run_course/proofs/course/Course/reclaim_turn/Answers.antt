use Rattle.std.proofs.Common.{sym, ◌∙◌}
use Rattle.driver_pass.specs.inner.Viewed.{is_kicked}
use Rattle.run_course.specs.inner.Courses.{past_of}
use Rattle.run_course.proofs.KeepLaws.{same_self}
use Rattle.run_course.proofs.StartLaws.{finished_due}
use Rattle.run_course.proofs.course.Course.reclaim_turn.Goals as goal

pub returns-then-all_finished-clause-turn : goal.returns-then-all_finished-clause-turn
returns-then-all_finished-clause-turn g c =
    let self = c.args.self.now in (
      finished_due self.job.start_epoch self.job (past_of self) self.pass (is_kicked self.pass)
          c.requires.stands c.requires.book.age (sym c.is_sealing.ensures ∙ c.if-is_sealing.false)
          (sym c.requires.book.turns.spent ∙ c.if-self.false) (sym c.all_finished.ensures ∙ c.if-all_finished.true),
      same_self self,
    )
