use Rattle.std.proofs.Common.{◌<◌, ◌≤◌, length, sym, ap, ◌∙◌, arith}
use Rattle.std.proofs.lemmas.List.{length-map}
use Rattle.driver_rules.specs.Turns.{cpu_due}
use Rattle.due_tables.specs.inner.Due.{building_in, due_in}
use Rattle.audit_dues.proofs.NextLaws.{builder_keeps, built_is, can_fetch, cpu_keeps, next_is, none_keeps}
use Rattle.audit_dues.proofs.script.keeps_script.Goals as goal

pub returns-in-Builder : goal.returns-in-Builder
returns-in-Builder c = λ k past a o s.
    let j = c.args.job.now in
    let due = c.builder_due-due.result in
    c.is_build_step.ensures ∙ built_is due c.args.entry.now.event
    ∙ builder_keeps j past c.args.entry.now (building_in due) (sym s.spent ∙ c.if-turns.false) c.in-Builder.is
    (c.builder_due-due.ensures k past a o s)

pub returns-then-from-scripts : goal.returns-then-from-scripts
returns-then-from-scripts c = λ k past a o s.
    let j = c.args.job.now in
    let scripts = simp length-map at (ap length c.scripts.ensures) in
    let high : length j.scripts ≤ c.in-Cpu.cpu.0 = omega (arith, scripts, c.from.ensures, c.if-from-scripts.true) in
    none_keeps j past c.args.entry.now (cpu_due j past c.in-Cpu.cpu.0) (sym s.spent ∙ c.if-turns.false) c.in-Cpu.cpu c.in-Cpu.is high

pub returns-else-from-scripts : goal.returns-else-from-scripts
returns-else-from-scripts c = λ k past a o s.
    let j = c.args.job.now in
    let due = c.cpu_due-due.result in
    let scripts = simp length-map at (ap length c.scripts.ensures) in
    let low : c.in-Cpu.cpu.0 < length j.scripts = omega (arith, scripts, c.from.ensures, c.if-from-scripts.false) in
    c.is_next.ensures ∙ next_is k j past c.args.driver.now c.args.machine.now c.args.turns.now a s due c.args.entry.now.event
    ∙ cpu_keeps j past c.args.entry.now (due_in j past due) (sym s.spent ∙ c.if-turns.false) c.in-Cpu.cpu c.in-Cpu.is low
    (c.cpu_due-due.ensures k past a o s)

pub is_next-requires : goal.is_next-requires
is_next-requires c =
    let r = c.requires.ready in
    can_fetch r.keeping c.args.job.now r.past c.args.driver.now c.args.machine.now c.args.turns.now r.shown r.shows
