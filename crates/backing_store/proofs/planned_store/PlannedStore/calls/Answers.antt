use Rattle.std.proofs.Common.{◌≡◌, ap, sym, ◌∙◌, subst}
use Rattle.backing_store.specs.inner.Store.{IsStore}
use Rattle.backing_store.specs.inner.Kept.{state_of, store_of, IsKeptIn, IsKeptByRule}
use Rattle.backing_store.proofs.GoodLaws.{good_puts}
use Rattle.backing_store.proofs.planned_store.PlannedStore.calls.Goals as goal

pub returns-in-Some-clause-good : goal.returns-in-Some-clause-good
returns-in-Some-clause-good c =
    let kept : IsKeptByRule c.in-Some.ledger = subst IsKeptIn c.in-Some.is c.self.invariant in
    let same : state_of c.in-Some.ledger ≡ c.args.self.now = sym (ap store_of c.in-Some.is) ∙ c.self.view_is in
    good_puts c.args.self.now.plans c.args.self.now.calls (subst IsStore same kept.by_rule)
