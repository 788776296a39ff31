use Rattle.std.proofs.Common.{◌≡◌, [], ap, sym, ◌∙◌, subst}
use Rattle.backing_store.specs.inner.Store.{StoreState}
use Rattle.backing_store.specs.inner.Told.{told_of}
use Rattle.backing_store.specs.inner.Kept.{state_of, store_of, IsKeptIn}
use Rattle.backing_store.proofs.RuleLaws.{with_plans-kept}
use Rattle.backing_store.proofs.planned_store.PlannedStoreBacking.plan.Goals as goal

pub invariant_of-self : goal.invariant_of-self
invariant_of-self c =
    let P : StoreState → Type 0 = λ s. told_of s.calls s.puts ≡ [] in
    let same : c.args.self.now ≡ state_of c.in-Some.ledger = sym c.self.view_is ∙ ap store_of c.in-Some.is in
    with_plans-kept c.in-Some.ledger c.in_ok-plans.plans (subst IsKeptIn c.in-Some.is c.self.invariant) (subst P same c.requires)
