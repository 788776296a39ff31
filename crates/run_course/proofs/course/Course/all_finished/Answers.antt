use Rattle.std.proofs.Common.{◌≡◌, ◌<◌, true, false, length, arith, sym, subst, ◌∙◌}
use Rattle.script_rules.specs.Machines.{machine_of}
use Rattle.driver_laws.specs.inner.Agrees.{drivers}
use Rattle.due_tables.proofs.FirstLaws.{agrees_shown}
use Rattle.driver_rules.specs.inner.Reclaims.{are_finished}
use Rattle.run_course.specs.inner.Courses.{past_of}
use Rattle.run_course.proofs.FinishLaws.{all_done, built_is, cpu_is, more_finished, not_built, not_done, one_unfinished}
use Rattle.run_course.proofs.course.Course.all_finished.Goals as goal

pub returns-then-is_building : goal.returns-then-is_building
returns-then-is_building c =
    let s = c.args.self.now in
    let j = c.args.self.now.job in
    let past = past_of c.args.self.now in
    let k = c.requires.can.keeps.book in
    sym (not_built j past (built_is j past c.builder_due-due.result true c.requires.going
    (c.builder_due-due.ensures (drivers j) past (agrees_shown (machine_of j) j past s.driver s.machine k.agrees) k.orderly
    k.turns) (sym c.is_building.ensures ∙ c.if-is_building.true)))

pub returns-then-is_left : goal.returns-then-is_left
returns-then-is_left c =
    let s = c.args.self.now in
    let j = c.args.self.now.job in
    let past = past_of c.args.self.now in
    let k = c.requires.can.keeps.book in
    let low : c.loop-number.number < length j.scripts = subst (λ n. c.loop-number.number < n) k.agrees.shows.cpus c.loop-number-test.true in
    sym (not_done j past (one_unfinished j past c.loop-number.number (length j.scripts) low
    (cpu_is j past c.loop-number.number c.cpu_due-due.result true
    (c.cpu_due-due.ensures (drivers j) past (agrees_shown (machine_of j) j past s.driver s.machine k.agrees) k.orderly k.turns)
    (sym c.is_left.ensures ∙ c.if-is_left.true))))

pub loop-number-preserved : goal.loop-number-preserved
loop-number-preserved c =
    let s = c.args.self.now in
    let j = c.args.self.now.job in
    let past = past_of c.args.self.now in
    let k = c.requires.can.keeps.book in
    more_finished j past c.loop-number.number
    (cpu_is j past c.loop-number.number c.cpu_due-due.result false
    (c.cpu_due-due.ensures (drivers j) past (agrees_shown (machine_of j) j past s.driver s.machine k.agrees) k.orderly k.turns)
    (sym c.is_left.ensures ∙ c.if-is_left.false)) c.loop-number.invariant

pub returns : goal.returns
returns c =
    let s = c.args.self.now in
    let j = c.args.self.now.job in
    let past = past_of c.args.self.now in
    let k = c.requires.can.keeps.book in
    let whole : c.loop-number.number ≡ length j.scripts =
    let all = k.agrees.shows.cpus in omega (arith, c.loop-number.auto.number-end, c.loop-number-test.false, all) in
    sym (all_done j past
    (built_is j past c.builder_due-due.result false c.requires.going
    (c.builder_due-due.ensures (drivers j) past (agrees_shown (machine_of j) j past s.driver s.machine k.agrees) k.orderly
    k.turns) (sym c.is_building.ensures ∙ c.if-is_building.false))
    (subst (λ n. are_finished j past n ≡ true) whole c.loop-number.invariant))
