use Rattle.std.proofs.Common.{ap, ◌∙◌}
use Rattle.due_tables.specs.inner.Due.{building_in}
use Rattle.due_tables.proofs.DueLaws.{builder_is}
use Rattle.due_tables.proofs.LookLaws.{places_same}
use Rattle.due_tables.proofs.turns.Turns.builder_due.Goals as goal

pub builder_due_by-requires-clause-cursor : goal.builder_due_by-requires-clause-cursor
builder_due_by-requires-clause-cursor c = c.requires.shows.within

pub builder_due_by-requires-clause-places : goal.builder_due_by-requires-clause-places
builder_due_by-requires-clause-places c =
    let r = c.requires in places_same r.keeping c.args.job.now r.past c.args.driver.now c.args.machine.now c.args.self.now r.shown r.shows

pub returns : goal.returns
returns c = λ k past a o s.
    ap building_in c.builder_due_by.ensures.answer
    ∙ builder_is k c.args.job.now past c.args.driver.now c.args.machine.now c.args.self.now c.builder_due_by.ensures.free
    c.builder_due_by.ensures.least a o s
