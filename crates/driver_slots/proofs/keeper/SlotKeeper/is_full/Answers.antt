use Rattle.std.proofs.Common.{◌≡◌, ◌∙◌, ◌<◌, ◌==◌, ℕ, ap, subst, sym, List, length, get_or, Some}
use Rattle.std.specs.List.{find}
use Rattle.std.proofs.lemmas.List.Elements.{All-get_or}
use Rattle.driver_slots.specs.inner.Keeper.{ArrayView, free_of, is_full, is_of, IsArray}
use Rattle.driver_slots.specs.inner.KeeperKept.{keeper_of}
use Rattle.driver_slots.proofs.FullLaws.{full_is}
use Rattle.driver_slots.proofs.keeper.SlotKeeper.is_full.Goals as goal

pub returns : goal.returns
returns c =
    let xs : List ArrayView = c.self.inside.arrays.items in
    let k : ℕ = c.place_of.result in
    let a : ArrayView = c.index.result.now in
    let low : k < length xs = subst (λ (ys : List ArrayView). k < length ys) c.deref.ensures.value c.place_of.ensures.within in
    let there : find (is_of c.args.va) xs ≡ Some (get_or xs k a) =
    subst (λ (ys : List ArrayView). find (is_of c.args.va) ys ≡ Some (get_or ys k a)) c.deref.ensures.value (c.place_of.ensures.there a) in
    let is : IsArray (get_or xs k a) = All-get_or IsArray xs k a low c.self.invariant.arrays in
    let same : a ≡ get_or xs k a = c.index.ensures in
    c.is_full.ensures ∙ ap (λ (y : ArrayView). free_of y == 0) same ∙ full_is (keeper_of c.self.inside) c.args.va (get_or xs k a) is there
    ∙ ap (λ x. is_full x c.args.va) c.self.view_is
