use Rattle.std.proofs.Common.{◌≡◌, ◌∙◌, sym, ap, subst, List, false, ◌<◌, ◌^◌}
use Rattle.driver_list.specs.declared.ring.Listed.{Listed}
use Rattle.driver_list.specs.inner.Places.{IsPlaced}
use Rattle.driver_list.specs.inner.Ring.{is_listed, around}
use Rattle.driver_list.specs.inner.Listing.{Listing}
use Rattle.driver_list.proofs.TableLaws.{pushed, kept, kept_list, room_for, few_listed}
use Rattle.driver_list.proofs.page_list.PageList.push_back.Goals as goal

pub append-key-requires-clause-room : goal.append-key-requires-clause-room
append-key-requires-clause-room c =
    let placed : IsPlaced c.self.inside.places c.args.page =
    subst (λ (a : Listing). IsPlaced a.counts c.args.page) (sym c.self.view_is) c.requires.placed in
    let absent : is_listed (around c.self.inside.nodes c.self.inside.last) c.args.page ≡ false =
    ap (λ (a : Listing). is_listed a.pages c.args.page) c.self.view_is ∙ c.requires.absent in
    room_for c.self.inside.nodes c.self.inside.keys.items c.self.inside.places _ c.args.page c.self.invariant.table placed absent

pub invariant_of-self : goal.invariant_of-self
invariant_of-self c =
    let placed : IsPlaced c.self.inside.places c.args.page =
    subst (λ (a : Listing). IsPlaced a.counts c.args.page) (sym c.self.view_is) c.requires.placed in
    let absent : is_listed (around c.self.inside.nodes c.self.inside.last) c.args.page ≡ false =
    ap (λ (a : Listing). is_listed a.pages c.args.page) c.self.view_is ∙ c.requires.absent in
    rw c.place-place.ensures.value
    (kept _ _ _ _ _
    (pushed c.self.inside.nodes c.append-key.new.nodes c.self.inside.last c.self.inside.keys.items c.self.inside.places _ c.args.page
    c.append-key.result c.self.invariant placed absent c.append-key.ensures))

pub returns-clause-new : goal.returns-clause-new
returns-clause-new c =
    let placed : IsPlaced c.self.inside.places c.args.page =
    subst (λ (a : Listing). IsPlaced a.counts c.args.page) (sym c.self.view_is) c.requires.placed in
    let absent : is_listed (around c.self.inside.nodes c.self.inside.last) c.args.page ≡ false =
    ap (λ (a : Listing). is_listed a.pages c.args.page) c.self.view_is ∙ c.requires.absent in
    rw (← c.self.view_is)
    (ap (λ (l : List Listed). record { pages = l; counts = c.self.inside.places })
    (kept_list _ _ _ _ _
    (pushed c.self.inside.nodes c.append-key.new.nodes c.self.inside.last c.self.inside.keys.items c.self.inside.places _ c.args.page
    c.append-key.result c.self.invariant placed absent c.append-key.ensures)))

pub returns-clause-few : goal.returns-clause-few
returns-clause-few c =
    let placed : IsPlaced c.self.inside.places c.args.page =
    subst (λ (a : Listing). IsPlaced a.counts c.args.page) (sym c.self.view_is) c.requires.placed in
    let absent : is_listed (around c.self.inside.nodes c.self.inside.last) c.args.page ≡ false =
    ap (λ (a : Listing). is_listed a.pages c.args.page) c.self.view_is ∙ c.requires.absent in
    let is = kept _ _ _ _ _
    (pushed c.self.inside.nodes c.append-key.new.nodes c.self.inside.last c.self.inside.keys.items c.self.inside.places _ c.args.page
    c.append-key.result c.self.invariant placed absent c.append-key.ensures) in
    subst (λ n. n < 2 ^ 32) (sym is.table.counted) (few_listed _ _ _ _ is.table)
