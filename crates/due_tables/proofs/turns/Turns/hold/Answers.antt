use Rattle.std.proofs.Common.{◌≡◌, ◌∷◌, subst, sym}
use Rattle.driver_list.specs.inner.Active.{ActiveList}
use Rattle.due_tables.specs.inner.Holding.{KeepsHolds, held_after}
use Rattle.due_tables.proofs.HoldLaws.{but_own, entry_fits, entry_keeps, entry_others}
use Rattle.due_tables.proofs.turns.Turns.hold.Goals as goal

pub hold_by-requires : goal.hold_by-requires
hold_by-requires c = entry_fits c.args.job.now c.args.states.now c.args.active.now c.args.before c.args.self.now c.args.entry.now c.requires

pub returns-clause-holds : goal.returns-clause-holds
returns-clause-holds c = λ can.
    (subst (λ list. KeepsHolds c.args.job.now list.own (c.args.entry.now ∷ can.past)) (sym c.hold_by.ensures)
    (entry_keeps c.args.job.now c.args.states.now c.args.active.now c.args.before c.args.self.now c.args.entry.now can))

pub returns-clause-others : goal.returns-clause-others
returns-clause-others c =
    let e = c.args.entry.now in
    subst (λ (list : ActiveList). list ≡ record c.args.active.now { own = list.own }) (sym c.hold_by.ensures)
    (but_own c.args.active.now (held_after c.args.job.now c.args.states.now c.args.self.now c.args.before e.actor e.event c.args.active.now)
    (entry_others c.args.job.now c.args.states.now c.args.self.now c.args.before e.actor e.event c.args.active.now))
