use Rattle.std.proofs.Common.{refl, sym, ap, subst, ◌∙◌}
use Rattle.script_rules.specs.Machines.{machine_of}
use Rattle.driver_rules.specs.Dues.{Makes}
use Rattle.driver_laws.specs.inner.Agrees.{drivers}
use Rattle.driver_rules.specs.Places.{place}
use Rattle.due_tables.specs.inner.Due.{due_in}
use Rattle.due_tables.proofs.FirstLaws.{agrees_shown}
use Rattle.run_course.specs.declared.course.Course.{Course}
use Rattle.run_course.specs.inner.Courses.{IsSame, past_of}
use Rattle.run_course.specs.inner.Turns.{IsNotLost, IsWaitBy}
use Rattle.run_course.proofs.ReportLaws.{none_reports}
use Rattle.run_course.proofs.IdleLaws.{fetches_none, makes_none}
use Rattle.run_course.proofs.KeepLaws.{same_self}
use Rattle.run_course.proofs.LoadCourse.{ends_loads}
use Rattle.run_course.proofs.LoadTurn.{made_keeps, made_turn}
use Rattle.run_course.proofs.course.Course.turn.Goals as goal

pub cpu_due-due-requires-clause-ready : goal.cpu_due-due-requires-clause-ready
cpu_due-due-requires-clause-ready g c =
    let s = c.args.self.now in
    let k = c.requires.keeps.book in
    record {
      keeping = drivers s.job;
      past = past_of s;
      shown = agrees_shown (machine_of s.job) s.job (past_of s) s.driver s.machine k.agrees;
      shows = k.turns;
    }

pub open_again-requires-clause-loads : goal.open_again-requires-clause-loads
open_again-requires-clause-loads g c =
    let s = c.args.self.now in
    let k = c.requires.keeps.book in
    ends_loads s.job (past_of s) c.args.cpu c.in-Ends.field-0 c.requires.cpu
    (sym (c.cpu_due-due.ensures (drivers s.job) (past_of s)
    (agrees_shown (machine_of s.job) s.job (past_of s) s.driver s.machine k.agrees) k.orderly k.turns)
    ∙ ap (due_in s.job (past_of s)) c.in-Ends.is)

pub instruct-requires : goal.instruct-requires
instruct-requires g c =
    let s = c.args.self.now in
    let k = c.requires.keeps.book in
    record {
      told = g.S.Backing.told c.args.store.now;
      spare = g.S.Backing.spare c.args.store.now;
      keeps = c.requires.keeps;
      due = (
        c.requires.cpu,
        sym (c.cpu_due-due.ensures (drivers s.job) (past_of s)
            (agrees_shown (machine_of s.job) s.job (past_of s) s.driver s.machine k.agrees) k.orderly k.turns)
            ∙ ap (due_in s.job (past_of s)) c.in-Makes.is ∙ ap Makes (sym c.action.ensures),
      );
    }

pub unreachable-requires : goal.unreachable-requires
unreachable-requires g c =
    let s = c.args.self.now in
    let k = c.requires.keeps.book in
    none_reports s.job (past_of s) c.args.cpu.0 c.in-Reports.page c.in-Reports.why c.requires.keeps.clear.none
    (sym (c.cpu_due-due.ensures (drivers s.job) (past_of s)
    (agrees_shown (machine_of s.job) s.job (past_of s) s.driver s.machine k.agrees) k.orderly k.turns)
    ∙ ap (due_in s.job (past_of s)) c.in-Reports.is)

pub fetch-requires-clause-due : goal.fetch-requires-clause-due
fetch-requires-clause-due g c =
    let s = c.args.self.now in
    let k = c.requires.keeps.book in
    sym (c.cpu_due-due.ensures (drivers s.job) (past_of s)
    (agrees_shown (machine_of s.job) s.job (past_of s) s.driver s.machine k.agrees) k.orderly k.turns)
    ∙ ap (due_in s.job (past_of s)) c.in-Needs.is

pub returns-in-Stopped-clause-turn : goal.returns-in-Stopped-clause-turn
returns-in-Stopped-clause-turn g c =
    let s = c.args.self.now in
    let k = c.requires.keeps.book in (
      sym (c.cpu_due-due.ensures (drivers s.job) (past_of s)
          (agrees_shown (machine_of s.job) s.job (past_of s) s.driver s.machine k.agrees) k.orderly k.turns)
          ∙ ap (due_in s.job (past_of s)) c.in-Stopped.is,
      same_self s,
    )

pub returns-in-Finished-clause-turn : goal.returns-in-Finished-clause-turn
returns-in-Finished-clause-turn g c =
    let s = c.args.self.now in
    let k = c.requires.keeps.book in (
      sym (c.cpu_due-due.ensures (drivers s.job) (past_of s)
          (agrees_shown (machine_of s.job) s.job (past_of s) s.driver s.machine k.agrees) k.orderly k.turns)
          ∙ ap (due_in s.job (past_of s)) c.in-Finished.is,
      same_self s,
    )

pub returns-in-Waits-clause-turn : goal.returns-in-Waits-clause-turn
returns-in-Waits-clause-turn g c =
    let s = c.args.self.now in
    let k = c.requires.keeps.book in (
      subst (λ due. IsWaitBy due c.in-Waits.why)
          (sym (ap (due_in s.job (past_of s)) c.in-Waits.is)
          ∙ c.cpu_due-due.ensures (drivers s.job) (past_of s)
          (agrees_shown (machine_of s.job) s.job (past_of s) s.driver s.machine k.agrees) k.orderly k.turns) refl,
      subst (IsNotLost (g.S.Backing.told c.args.store.now))
          (sym (ap (due_in s.job (past_of s)) c.in-Waits.is)
          ∙ c.cpu_due-due.ensures (drivers s.job) (past_of s)
          (agrees_shown (machine_of s.job) s.job (past_of s) s.driver s.machine k.agrees) k.orderly k.turns) tt,
      same_self s,
    )

pub returns-in-Makes-clause-turn : goal.returns-in-Makes-clause-turn
returns-in-Makes-clause-turn g c =
    let s = c.args.self.now in
    let k = c.requires.keeps.book in
    made_turn s c.instruct.new.self c.args.cpu c.action.result c.instruct.result
    (record {
      told = g.S.Backing.told c.args.store.now;
      spare = g.S.Backing.spare c.args.store.now;
      keeps = c.requires.keeps;
      due = (
        c.requires.cpu,
        sym (c.cpu_due-due.ensures (drivers s.job) (past_of s)
            (agrees_shown (machine_of s.job) s.job (past_of s) s.driver s.machine k.agrees) k.orderly k.turns)
            ∙ ap (due_in s.job (past_of s)) c.in-Makes.is ∙ ap Makes (sym c.action.ensures),
      );
    }) c.instruct.ensures.turn c.instruct.ensures.more c.instruct.ensures.quiet

pub returns-in-Makes-clause-keeps : goal.returns-in-Makes-clause-keeps
returns-in-Makes-clause-keeps g c =
    let s = c.args.self.now in
    let k = c.requires.keeps.book in
    made_keeps s c.instruct.new.self c.args.cpu c.action.result c.instruct.result
    (record {
      told = g.S.Backing.told c.args.store.now;
      spare = g.S.Backing.spare c.args.store.now;
      keeps = c.requires.keeps;
      due = (
        c.requires.cpu,
        sym (c.cpu_due-due.ensures (drivers s.job) (past_of s)
            (agrees_shown (machine_of s.job) s.job (past_of s) s.driver s.machine k.agrees) k.orderly k.turns)
            ∙ ap (due_in s.job (past_of s)) c.in-Makes.is ∙ ap Makes (sym c.action.ensures),
      );
    }) c.instruct.ensures.more c.instruct.ensures.memory

pub returns-in-Stopped-clause-again : goal.returns-in-Stopped-clause-again
returns-in-Stopped-clause-again g c = λ pending. (same_self c.args.self.now, refl)

pub returns-in-Finished-clause-again : goal.returns-in-Finished-clause-again
returns-in-Finished-clause-again g c = λ pending. (same_self c.args.self.now, refl)

pub returns-in-Waits-clause-again : goal.returns-in-Waits-clause-again
returns-in-Waits-clause-again g c = λ pending. (same_self c.args.self.now, refl)

pub returns-in-Ends-clause-again : goal.returns-in-Ends-clause-again
returns-in-Ends-clause-again g c = λ pending. (
  subst (λ (x : Course). IsSame c.args.self.now x) (sym c.open_again.ensures.same) (same_self c.args.self.now),
  c.open_again.ensures.store,
)

pub returns-in-Makes-clause-again : goal.returns-in-Makes-clause-again
returns-in-Makes-clause-again g c = λ pending.
    (let s = c.args.self.now in
    let k = c.requires.keeps.book in
    absurd (makes_none s.job (past_of s) c.args.cpu.0 c.action.result
    (sym (c.cpu_due-due.ensures (drivers s.job) (past_of s)
    (agrees_shown (machine_of s.job) s.job (past_of s) s.driver s.machine k.agrees) k.orderly k.turns)
    ∙ ap (due_in s.job (past_of s)) c.in-Makes.is ∙ ap Makes (sym c.action.ensures)) pending))

pub returns-in-Needs-clause-again : goal.returns-in-Needs-clause-again
returns-in-Needs-clause-again g c = λ pending.
    (let s = c.args.self.now in
    let k = c.requires.keeps.book in
    absurd (fetches_none s.job (past_of s) c.args.cpu.0 s.job.epc c.in-Needs.page (place (past_of s) c.in-Needs.page)
    (sym (c.cpu_due-due.ensures (drivers s.job) (past_of s)
    (agrees_shown (machine_of s.job) s.job (past_of s) s.driver s.machine k.agrees) k.orderly k.turns)
    ∙ ap (due_in s.job (past_of s)) c.in-Needs.is)
    pending))
