use Rattle.std.proofs.Common.{◌≡◌, subst}
use Rattle.backing_store.specs.inner.Store.{StoreState, after_get}
use Rattle.backing_store.specs.inner.Told.{get_answer_of, WhereMade}
use Rattle.backing_store.specs.inner.Kept.{state_of}
use Rattle.backing_store.proofs.ledger.Ledger.get.Goals as goal

pub returns-clause-answer : goal.returns-clause-answer
returns-clause-answer c =
    let r = c.get_with_room.result in
    let P : StoreState → Type 0 = λ s. WhereMade r (r ≡ get_answer_of s c.args.page) in
    subst P c.reserve.ensures.state c.get_with_room.ensures.answer

pub returns-clause-made : goal.returns-clause-made
returns-clause-made c =
    let P : StoreState → Type 0 = λ s. WhereMade c.get_with_room.result (state_of c.get_with_room.new.self ≡ after_get s c.args.page) in
    subst P c.reserve.ensures.state c.get_with_room.ensures.made
