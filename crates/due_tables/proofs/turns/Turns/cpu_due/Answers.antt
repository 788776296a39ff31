use Rattle.std.proofs.Common.{ap, ◌∙◌}
use Rattle.due_tables.specs.inner.Due.{due_in}
use Rattle.due_tables.proofs.DueLaws.{cpu_is}
use Rattle.due_tables.proofs.LookLaws.{can_ask}
use Rattle.due_tables.proofs.turns.Turns.cpu_due.Goals as goal

pub cpu_due_by-requires-clause-cursor : goal.cpu_due_by-requires-clause-cursor
cpu_due_by-requires-clause-cursor c = c.requires.ready.shows.within

pub cpu_due_by-requires-clause-can : goal.cpu_due_by-requires-clause-can
cpu_due_by-requires-clause-can c =
    let r = c.requires.ready in
    can_ask r.keeping c.args.job.now r.past c.args.driver.now c.args.machine.now c.args.self.now r.shown r.shows c.args.cpu.0 c.requires.cpu

pub returns : goal.returns
returns c = λ k past a o s.
    ap (due_in c.args.job.now past) c.cpu_due_by.ensures
    ∙ cpu_is k c.args.job.now past c.args.driver.now c.args.machine.now c.args.self.now c.args.cpu.0 c.requires.cpu a o s
