use Rattle.std.proofs.Common.{Some, ◌∙◌, sym, ap, refl, arith}
use Rattle.cached_translations.proofs.RingLaws.{translation_of-around_from}
use Rattle.cached_translations.proofs.IndexLaws.{found_at, found_nowhere}
use Rattle.cached_translations.proofs.cache.Cache.find.Goals as goal

-- the table leads nowhere
pub returns-in_err-place : goal.returns-in_err-place
returns-in_err-place c =
    let ring = c.self.inside in
    let none = found_nowhere ring.table.slots ring.places.items c.self.invariant.index c.args.number (c.in_err-place.ensures.none refl) in
    rw (← c.self.view_is) (c.from_residual.ensures ∙ sym none
    ∙ translation_of-around_from ring.places.items ring.oldest c.args.number c.self.invariant.fits)

-- the table leads to a place of the ring
pub index-requires : goal.index-requires
index-requires c =
    let only = c.self.invariant.index.only c.args.number c.in_ok-place.place c.in_ok-place.ensures.found in
    omega (arith, only.1, c.self.inside.places.ok.0)

pub returns : goal.returns
returns c =
    let ring = c.self.inside in
    let found =
    found_at ring.table.slots ring.places.items c.self.invariant.index ring.table.probed c.args.number c.in_ok-place.place
    c.index.result.now c.in_ok-place.ensures.found in
    rw (← c.self.view_is) (ap Some c.index.ensures ∙ sym found
    ∙ translation_of-around_from ring.places.items ring.oldest c.args.number c.self.invariant.fits)
