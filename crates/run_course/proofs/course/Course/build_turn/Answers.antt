use Rattle.std.proofs.Common.{refl, sym, ap, subst, ◌∙◌}
use Rattle.script_rules.specs.Machines.{machine_of}
use Rattle.driver_laws.specs.inner.Agrees.{drivers}
use Rattle.due_tables.proofs.FirstLaws.{agrees_shown}
use Rattle.due_tables.specs.inner.Due.{building_in}
use Rattle.run_course.specs.inner.Courses.{past_of}
use Rattle.run_course.specs.inner.Turns.{IsWaitBy}
use Rattle.run_course.proofs.BuilderLaws.{builder_made}
use Rattle.run_course.proofs.KeepLaws.{same_self}
use Rattle.run_course.proofs.course.Course.build_turn.Goals as goal

pub instruct-requires : goal.instruct-requires
instruct-requires c =
    let s = c.args.self.now in
    let k = c.requires.keeps.book in
    record {
      told = c.requires.told;
      spare = c.requires.spare;
      keeps = c.requires.keeps;
      due = sym (c.builder_due-due.ensures (drivers s.job) (past_of s)
          (agrees_shown (machine_of s.job) s.job (past_of s) s.driver s.machine k.agrees) k.orderly k.turns)
          ∙ ap building_in c.in-Makes.is;
    }

pub returns-in-Stopped-clause-turn : goal.returns-in-Stopped-clause-turn
returns-in-Stopped-clause-turn c = λ can.
    (let s = c.args.self.now in
    let k = can.keeps.book in (
      sym (c.builder_due-due.ensures (drivers s.job) (past_of s)
          (agrees_shown (machine_of s.job) s.job (past_of s) s.driver s.machine k.agrees) k.orderly k.turns)
          ∙ ap building_in c.in-Stopped.is,
      same_self s,
    ))

pub returns-in-Finished-clause-turn : goal.returns-in-Finished-clause-turn
returns-in-Finished-clause-turn c = λ can.
    (let s = c.args.self.now in
    let k = can.keeps.book in (
      sym (c.builder_due-due.ensures (drivers s.job) (past_of s)
          (agrees_shown (machine_of s.job) s.job (past_of s) s.driver s.machine k.agrees) k.orderly k.turns)
          ∙ ap building_in c.in-Finished.is,
      same_self s,
    ))

pub returns-in-Waits-clause-turn : goal.returns-in-Waits-clause-turn
returns-in-Waits-clause-turn c = λ can.
    (let s = c.args.self.now in
    let k = can.keeps.book in (
      subst (λ due. IsWaitBy due c.in-Waits.why)
          (sym (ap building_in c.in-Waits.is)
          ∙ c.builder_due-due.ensures (drivers s.job) (past_of s)
          (agrees_shown (machine_of s.job) s.job (past_of s) s.driver s.machine k.agrees) k.orderly k.turns)
          refl,
      same_self s,
    ))

pub returns-in-Makes-clause-turn : goal.returns-in-Makes-clause-turn
returns-in-Makes-clause-turn c =
    let s = c.args.self.now in
    builder_made s c.instruct.new.self c.in-Makes.action c.instruct.result
    (λ can. sym (c.builder_due-due.ensures (drivers s.job) (past_of s)
    (agrees_shown (machine_of s.job) s.job (past_of s) s.driver s.machine can.keeps.book.agrees) can.keeps.book.orderly
    can.keeps.book.turns)
    ∙ ap building_in c.in-Makes.is) c.instruct.ensures.turn c.instruct.ensures.more
