use Rattle.std.proofs.Common.{◌≡◌, ◌∙◌, refl, sym, subst}
use Rattle.driver_list.specs.inner.Places.{IsPlaced}
use Rattle.driver_list.specs.inner.Listing.{Listing}
use Rattle.driver_list.specs.inner.KeptList.{key_of}
use Rattle.driver_list.proofs.TableLaws.{young_is, not_young, not_listed, key_read, key_there}
use Rattle.driver_list.proofs.page_list.PageList.young.Goals as goal

pub index-requires-in-Some : goal.index-requires-in-Some
index-requires-in-Some c =
    let placed : IsPlaced c.self.inside.places c.args.page =
    subst (λ (a : Listing). IsPlaced a.counts c.args.page) (sym c.self.view_is) c.requires in
    let read : key_of c.self.inside.keys.items c.self.inside.places c.args.page ≡ c.index.result.now =
    key_read c.self.inside.keys.items c.self.inside.places c.args.page c.place.result c.index.result.now c.self.invariant.table.sized
    placed c.place.ensures.value c.index.ensures in
    let there = key_there c.self.inside.nodes c.self.inside.keys.items c.self.inside.places _ c.args.page c.in-Some.key
    c.self.invariant.table placed (read ∙ c.in-Some.is) in
    rw there.at refl

pub returns-in-Some : goal.returns-in-Some
returns-in-Some c =
    let placed : IsPlaced c.self.inside.places c.args.page =
    subst (λ (a : Listing). IsPlaced a.counts c.args.page) (sym c.self.view_is) c.requires in
    let read : key_of c.self.inside.keys.items c.self.inside.places c.args.page ≡ c.index.result.now =
    key_read c.self.inside.keys.items c.self.inside.places c.args.page c.place.result c.index.result.now c.self.invariant.table.sized
    placed c.place.ensures.value c.index.ensures in
    rw (← c.self.view_is)
    (young_is _ _ _ _ _ c.args.page c.in-Some.key c.index-in-Some.result.now c.self.invariant placed
    (read ∙ c.in-Some.is) c.index-in-Some.ensures)

pub returns-in-None : goal.returns-in-None
returns-in-None c =
    let placed : IsPlaced c.self.inside.places c.args.page =
    subst (λ (a : Listing). IsPlaced a.counts c.args.page) (sym c.self.view_is) c.requires in
    let read : key_of c.self.inside.keys.items c.self.inside.places c.args.page ≡ c.index.result.now =
    key_read c.self.inside.keys.items c.self.inside.places c.args.page c.place.result c.index.result.now c.self.invariant.table.sized
    placed c.place.ensures.value c.index.ensures in
    rw (← c.self.view_is) (not_young _ c.args.page (not_listed _ _ _ _ _ c.args.page c.self.invariant placed (read ∙ c.in-None.is)))
