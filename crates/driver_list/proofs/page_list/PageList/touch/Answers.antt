use Rattle.std.proofs.Common.{◌≡◌, ◌∙◌, refl, sym, ap, subst, List}
use Rattle.driver_list.specs.declared.ring.Listed.{Listed}
use Rattle.driver_list.specs.inner.Places.{IsPlaced}
use Rattle.driver_list.specs.inner.Listing.{Listing}
use Rattle.driver_list.specs.inner.KeptList.{key_of}
use Rattle.driver_list.proofs.TableLaws.{touched_whole, kept, kept_list, untouched_whole, key_read, key_there}
use Rattle.driver_list.proofs.page_list.PageList.touch.Goals as goal

pub set_young-requires : goal.set_young-requires
set_young-requires c =
    let placed : IsPlaced c.self.inside.places c.args.page =
    subst (λ (a : Listing). IsPlaced a.counts c.args.page) (sym c.self.view_is) c.requires in
    let read : key_of c.self.inside.keys.items c.self.inside.places c.args.page ≡ c.index.result.now =
    key_read c.self.inside.keys.items c.self.inside.places c.args.page c.place-place.result c.index.result.now
    c.self.invariant.table.sized placed c.place-place.ensures.value c.index.ensures in
    let there = key_there c.self.inside.nodes c.self.inside.keys.items c.self.inside.places _ c.args.page c.in-Some.key
    c.self.invariant.table placed (read ∙ c.in-Some.is) in
    rw there.at refl

pub invariant_of-self : goal.invariant_of-self
invariant_of-self c =
    let placed : IsPlaced c.self.inside.places c.args.page =
    subst (λ (a : Listing). IsPlaced a.counts c.args.page) (sym c.self.view_is) c.requires in
    let read : key_of c.self.inside.keys.items c.self.inside.places c.args.page ≡ c.index.result.now =
    key_read c.self.inside.keys.items c.self.inside.places c.args.page c.place-place.result c.index.result.now
    c.self.invariant.table.sized placed c.place-place.ensures.value c.index.ensures in
    let there = key_there c.self.inside.nodes c.self.inside.keys.items c.self.inside.places _ c.args.page c.in-Some.key
    c.self.invariant.table placed (read ∙ c.in-Some.is) in
    let whole = touched_whole c.self.inside.nodes c.set_young.new.nodes c.self.inside.last there.node c.self.inside.keys.items
    c.self.inside.places _ c.args.page c.in-Some.key c.self.invariant placed (read ∙ c.in-Some.is) there.at c.set_young.ensures in
    kept _ _ _ _ _ whole

pub returns-in-Some : goal.returns-in-Some
returns-in-Some c =
    let placed : IsPlaced c.self.inside.places c.args.page =
    subst (λ (a : Listing). IsPlaced a.counts c.args.page) (sym c.self.view_is) c.requires in
    let read : key_of c.self.inside.keys.items c.self.inside.places c.args.page ≡ c.index.result.now =
    key_read c.self.inside.keys.items c.self.inside.places c.args.page c.place-place.result c.index.result.now
    c.self.invariant.table.sized placed c.place-place.ensures.value c.index.ensures in
    let there = key_there c.self.inside.nodes c.self.inside.keys.items c.self.inside.places _ c.args.page c.in-Some.key
    c.self.invariant.table placed (read ∙ c.in-Some.is) in
    let whole = touched_whole c.self.inside.nodes c.set_young.new.nodes c.self.inside.last there.node c.self.inside.keys.items
    c.self.inside.places _ c.args.page c.in-Some.key c.self.invariant placed (read ∙ c.in-Some.is) there.at c.set_young.ensures in
    rw (← c.self.view_is) (ap (λ (l : List Listed). record { pages = l; counts = c.self.inside.places }) (kept_list _ _ _ _ _ whole))

pub returns-in_default : goal.returns-in_default
returns-in_default c =
    let placed : IsPlaced c.self.inside.places c.args.page =
    subst (λ (a : Listing). IsPlaced a.counts c.args.page) (sym c.self.view_is) c.requires in
    let read : key_of c.self.inside.keys.items c.self.inside.places c.args.page ≡ c.index.result.now =
    key_read c.self.inside.keys.items c.self.inside.places c.args.page c.place-place.result c.index.result.now
    c.self.invariant.table.sized placed c.place-place.ensures.value c.index.ensures in
    rw (← c.self.view_is)
    (ap (λ (l : List Listed). record { pages = l; counts = c.self.inside.places })
    (sym (untouched_whole _ _ _ _ _ c.args.page c.self.invariant placed (read ∙ c.in_default.is))))
