use Rattle.std.proofs.Common.{◌≡◌, ◌∙◌, sym, ap, subst, is_some}
use Rattle.driver_list.specs.inner.Places.{IsPlaced}
use Rattle.driver_list.specs.inner.Listing.{Listing}
use Rattle.driver_list.specs.inner.KeptList.{key_of}
use Rattle.driver_list.proofs.TableLaws.{sound, listed_is, key_read}
use Rattle.driver_list.proofs.page_list.PageList.is_listed.Goals as goal

pub returns-clause-value : goal.returns-clause-value
returns-clause-value c =
    let placed : IsPlaced c.self.inside.places c.args.page =
    subst (λ (a : Listing). IsPlaced a.counts c.args.page) (sym c.self.view_is) c.requires in
    let read : key_of c.self.inside.keys.items c.self.inside.places c.args.page ≡ c.index.result.now =
    key_read c.self.inside.keys.items c.self.inside.places c.args.page c.place.result c.index.result.now c.self.invariant.table.sized
    placed c.place.ensures.value c.index.ensures in
    rw (← c.self.view_is)
    (c.is_some.ensures ∙ ap is_some (sym read) ∙ listed_is _ _ _ _ _ c.args.page c.self.invariant placed)

pub returns-clause-sound : goal.returns-clause-sound
returns-clause-sound c = rw (← c.self.view_is) (sound _ _ _ _ _ c.self.invariant)
