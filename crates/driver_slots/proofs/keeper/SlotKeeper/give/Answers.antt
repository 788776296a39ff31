use Rattle.std.proofs.Common.{◌≡◌, ◌∙◌, ◌<◌, ◌+◌, ℕ, subst, sym, refl, List, length, set, false, true, arith, get_or, Some}
use Rattle.std.specs.List.{All, find}
use Rattle.std.proofs.lemmas.List.{length-set}
use Rattle.driver_slots.specs.inner.Keeper.{ArrayView, Gives, is_free_at, is_in, is_of, is_out, IsArray, va_slot}
use Rattle.driver_slots.specs.inner.KeeperKept.{ArraysAreApart, keeper_of}
use Rattle.driver_slots.proofs.ArrayLaws.{gives_array}
use Rattle.driver_slots.proofs.KeeperLaws.{gives}
use Rattle.driver_slots.proofs.WriteLaws.{apart_still, arrays_still, fits_there, found_is, in_from, in_low, IsFound, IsPlace}
use Rattle.driver_slots.proofs.WriteLaws.{mark_out, out_parts, out_there, with_arrays, written_is}
use Rattle.driver_slots.proofs.keeper.SlotKeeper.give.Goals as goal

found : (c : goal.After-self-1) → IsFound c.index_mut.result.now c.args.at.va c.args.at.index
found c =
    let out : is_out (keeper_of c.self.inside) c.args.at ≡ true = rw (← c.self.view_is) at c.requires in
    let parts = out_parts (find (is_of c.args.at.va) c.self.inside.arrays.items) c.args.at.index out in
    found_is c.self.inside.arrays.items c.args.at.va c.args.at.index c.place_of-place.result c.index_mut.result.now
    (subst (λ xs. (d : ArrayView) → find (is_of c.args.at.va) xs ≡ Some (get_or xs c.place_of-place.result d)) c.deref.ensures.value
    c.place_of-place.ensures.there) c.index_mut.ensures.value parts

mark : (c : goal.After-self-1) → is_free_at c.index_mut.result.now c.args.at.index ≡ false
mark c =
    let out : is_out (keeper_of c.self.inside) c.args.at ≡ true = rw (← c.self.view_is) at c.requires in
    mark_out (is_in c.index_mut.result.now c.args.at.index) (is_free_at c.index_mut.result.now c.args.at.index)
    (sym (out_there c.self.inside.arrays.items c.args.at.va c.args.at.index c.place_of-place.result c.index_mut.result.now
    (subst (λ xs. (d : ArrayView) → find (is_of c.args.at.va) xs ≡ Some (get_or xs c.place_of-place.result d)) c.deref.ensures.value
    c.place_of-place.ensures.there) c.index_mut.ensures.value) ∙ out)

-- the page of the slot
there : (c : goal.After-self-1) → IsPlace c.self.inside.arrays.items c.place_of-place.result c.index_mut.result.now
there c = record {
  apart = c.self.invariant.apart;
  arrays = c.self.invariant.arrays;
  low = subst (λ xs. c.place_of-place.result < length xs) c.deref.ensures.value c.place_of-place.ensures.within;
  is = c.index_mut.ensures.value;
}

abbrev page : (c : goal.After-self-1) → ArrayView
page c = c.index_mut.result.now

abbrev behind : (c : goal.After-self-1) → ArrayView
behind c = record (page c) { free = set (page c).free c.args.at.index true }

fits : (c : goal.After-self-1) → IsArray (behind c)
fits c = gives_array (page c) c.args.at.index (fits_there c.self.inside.arrays.items c.place_of-place.result (page c) (there c))
    (in_low (page c) c.args.at.index (found c).within) (in_from (page c) c.args.at.index (found c).within)

pub invariant_of-self : goal.invariant_of-self
invariant_of-self c = record {
  apart = subst (λ y. ArraysAreApart (set c.self.inside.arrays.items c.place_of-place.result y)) (sym c.give.ensures)
      (apart_still c.self.inside.arrays.items c.place_of-place.result (page c) (behind c) (there c) refl);
  arrays = subst (λ y. All IsArray (set c.self.inside.arrays.items c.place_of-place.result y)) (sym c.give.ensures)
      (arrays_still c.self.inside.arrays.items c.place_of-place.result (page c) (behind c) (there c) refl refl (fits c));
  maps = c.self.invariant.maps;
  fits = omega (arith, length-set c.self.inside.arrays.items c.place_of-place.result c.give.new.self, c.self.invariant.fits);
}

pub returns : goal.returns
returns c =
    let xs : List ArrayView = c.self.inside.arrays.items in
    let k : ℕ = c.place_of-place.result in
    let maps : ℕ = length c.self.inside.maps.items in
    let written = gives (with_arrays xs (length xs + maps)) (with_arrays (set xs k (behind c)) (length (set xs k (behind c)) + maps)) k
    c.args.at.index (page c)
    (fits_there xs k (page c) (there c)) (found c).within (mark c)
    (written_is xs maps k (page c) (behind c) (there c) refl refl (fits c)) in
    rw (← c.self.view_is)
    (subst (λ (y : ArrayView). Gives (keeper_of c.self.inside) c.args.at
    (with_arrays (set xs k y) (length (set xs k y) + maps))) (sym c.give.ensures)
    (subst (λ n. Gives (keeper_of c.self.inside) (va_slot n c.args.at.index)
    (with_arrays (set xs k (behind c)) (length (set xs k (behind c)) + maps))) (found c).number written))
