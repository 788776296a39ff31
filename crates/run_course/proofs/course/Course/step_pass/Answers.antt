use Rattle.std.proofs.Common.{subst, sym}
use Rattle.script_rules.specs.Machines.{machine_of}
use Rattle.driver_reclaim.proofs.ReadyLaws.{can_step}
use Rattle.run_course.specs.inner.Courses.{KeepsCourse, past_of}
use Rattle.run_course.proofs.KeepLaws.{course_ready}
use Rattle.run_course.proofs.CallLaws.{followed_waits, turn_tells}
use Rattle.run_course.proofs.AnswerLaws.{turn_answers, turn_keeps}
use Rattle.run_course.proofs.FollowLaws.{follows_by, stepped_by}
use Rattle.run_course.proofs.course.Course.step_pass.Goals as goal

pub step-requires : goal.step-requires
step-requires g c =
    let s = c.args.self.now in
    record {
      can = can_step (machine_of s.job) s.job (past_of s) s.pass s.driver s.machine
          (course_ready s (g.S.Backing.told c.args.store.now) (g.S.Backing.spare c.args.store.now) c.requires.keeps) c.requires.idle;
    }

pub follow-requires : goal.follow-requires
follow-requires g c =
    let k = c.requires.keeps in
    let e = c.in_ok-turn.ensures in
    let self = c.args.self.now in
    let told = g.S.Backing.told c.args.store.now in
    let longer = g.S.Backing.told c.step.new.store in
    let before = g.S.Backing.spare c.args.store.now in
    let spare = g.S.Backing.spare c.step.new.store in
    let stepped = stepped_by self told longer before spare c.step.new.pass c.step.new.driver c.step.new.machine c.in_ok-turn.turn k
    e.says e.told e.places e.waits e.goes in
    record {
      longer = longer;
      spare = spare;
      by = follows_by self told longer before spare c.step.new.pass c.step.new.driver c.step.new.machine k c.requires.going
          c.requires.idle c.requires.entries c.requires.room c.in_ok-turn.turn stepped;
    }

pub returns-clause-turn : goal.returns-clause-turn
returns-clause-turn g c =
    let k = c.requires.keeps in
    let e = c.in_ok-turn.ensures in
    let self = c.args.self.now in
    let told = g.S.Backing.told c.args.store.now in
    let longer = g.S.Backing.told c.step.new.store in
    let before = g.S.Backing.spare c.args.store.now in
    let spare = g.S.Backing.spare c.step.new.store in
    let stepped = stepped_by self told longer before spare c.step.new.pass c.step.new.driver c.step.new.machine c.in_ok-turn.turn k
    e.says e.told e.places e.waits e.goes in
    turn_answers self told longer before spare c.step.new.pass c.step.new.driver c.step.new.machine c.follow.new.self k c.requires.going
    c.requires.entries c.requires.idle c.requires.some c.in_ok-turn.turn c.follow.result stepped e.waits
    (c.follow.ensures (record {
      longer = longer;
      spare = spare;
      by = follows_by self told longer before spare c.step.new.pass c.step.new.driver c.step.new.machine k c.requires.going
          c.requires.idle c.requires.entries c.requires.room c.in_ok-turn.turn stepped;
    }))

pub returns-clause-keeps : goal.returns-clause-keeps
returns-clause-keeps g c =
    let k = c.requires.keeps in
    let e = c.in_ok-turn.ensures in
    let self = c.args.self.now in
    let told = g.S.Backing.told c.args.store.now in
    let longer = g.S.Backing.told c.step.new.store in
    let before = g.S.Backing.spare c.args.store.now in
    let spare = g.S.Backing.spare c.step.new.store in
    let stepped = stepped_by self told longer before spare c.step.new.pass c.step.new.driver c.step.new.machine c.in_ok-turn.turn k
    e.says e.told e.places e.waits e.goes in
    turn_keeps self told longer before spare c.step.new.pass c.step.new.driver c.step.new.machine c.follow.new.self k c.requires.going
    c.requires.entries c.requires.idle c.requires.some c.in_ok-turn.turn c.follow.result stepped e.waits
    (λ w. subst (λ store. KeepsCourse self (g.S.Backing.told store) (g.S.Backing.spare store)) (sym (e.rests w)) k)
    (c.follow.ensures (record {
      longer = longer;
      spare = spare;
      by = follows_by self told longer before spare c.step.new.pass c.step.new.driver c.step.new.machine k c.requires.going
          c.requires.idle c.requires.entries c.requires.room c.in_ok-turn.turn stepped;
    }))

pub returns-clause-tells : goal.returns-clause-tells
returns-clause-tells g c =
    turn_tells c.in_ok-turn.turn (g.S.Backing.told c.args.store.now) (g.S.Backing.told c.step.new.store)
    c.in_ok-turn.ensures.told

pub returns-clause-rests : goal.returns-clause-rests
returns-clause-rests g c = λ waits.
    (let k = c.requires.keeps in
    let e = c.in_ok-turn.ensures in
    let self = c.args.self.now in
    let told = g.S.Backing.told c.args.store.now in
    let longer = g.S.Backing.told c.step.new.store in
    let before = g.S.Backing.spare c.args.store.now in
    let spare = g.S.Backing.spare c.step.new.store in
    let stepped = stepped_by self told longer before spare c.step.new.pass c.step.new.driver c.step.new.machine c.in_ok-turn.turn k
    e.says e.told e.places e.waits e.goes in
    e.rests (followed_waits (record self { driver = c.step.new.driver; machine = c.step.new.machine; pass = c.step.new.pass })
    c.follow.new.self c.in_ok-turn.turn c.follow.result longer spare (c.follow.ensures (record {
      longer = longer;
      spare = spare;
      by = follows_by self told longer before spare c.step.new.pass c.step.new.driver c.step.new.machine k c.requires.going
          c.requires.idle c.requires.entries c.requires.room c.in_ok-turn.turn stepped;
    })) waits))
