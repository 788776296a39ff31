use Rattle.std.proofs.Common.{◌≡◌, ap, sym, ◌∙◌, subst}
use Rattle.backing_store.specs.inner.Store.{StoreState, after_get}
use Rattle.backing_store.specs.inner.Told.{get_answer_of, WhereMade}
use Rattle.backing_store.specs.inner.Kept.{state_of, store_of}
use Rattle.backing_store.proofs.planned_store.PlannedStoreBacking.get.Goals as goal

pub returns-in-Some-clause-answer : goal.returns-in-Some-clause-answer
returns-in-Some-clause-answer c =
    let r = c.get.result in
    let P : StoreState → Type 0 = λ s. WhereMade r (r ≡ get_answer_of s c.args.page) in
    let same : state_of c.in-Some.ledger ≡ c.args.self.now = sym (ap store_of c.in-Some.is) ∙ c.self.view_is in
    subst P same c.get.ensures.answer

pub returns-in-Some-clause-store : goal.returns-in-Some-clause-store
returns-in-Some-clause-store c =
    let P : StoreState → Type 0 = λ s. WhereMade c.get.result (state_of c.get.new.self ≡ after_get s c.args.page) in
    let same : state_of c.in-Some.ledger ≡ c.args.self.now = sym (ap store_of c.in-Some.is) ∙ c.self.view_is in
    subst P same c.get.ensures.made
