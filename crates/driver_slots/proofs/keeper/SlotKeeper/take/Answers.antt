use Rattle.std.proofs.Common.{◌≡◌, ◌∙◌, ◌<◌, ℕ, ap, subst, sym, refl, List, length, get_or, set, false, true, arith, Some, position, ◌+◌}
use Rattle.std.specs.List.{All}
use Rattle.std.proofs.lemmas.List.{length-set}
use Rattle.driver_slots.specs.inner.Keeper.{AllOut, ArrayView, IsArray, IsLeast, Takes, va_slot}
use Rattle.driver_slots.specs.inner.KeeperKept.{ArraysAreApart, keeper_of}
use Rattle.driver_slots.specs.inner.Least.{is_full_at, IsLeastAt}
use Rattle.driver_slots.proofs.ArrayLaws.{least_passes, takes_array}
use Rattle.driver_slots.proofs.KeeperLaws.{all_out, is_least, no_array, takes}
use Rattle.driver_slots.proofs.WriteLaws.{apart_still, arrays_still, fits_there, IsPlace, with_arrays, written_is}
use Rattle.driver_slots.proofs.keeper.SlotKeeper.take.Goals as goal

none_left : (c : goal.After-from_residual) → AllOut (keeper_of c.self.inside)
none_left c =
    all_out (keeper_of c.self.inside) no_array
    (subst (λ xs. (k : ℕ) → k < length xs → is_full_at xs k no_array ≡ true) c.deref.ensures.value
    (λ k low. c.in_err-place.ensures no_array k low))

pub returns-in_err-place-clause-answer : goal.returns-in_err-place-clause-answer
returns-in_err-place-clause-answer c =
    rw (← c.self.view_is, c.from_residual.ensures) (let all = (none_left c).counted in grind arith)

pub returns-in_err-place-clause-none : goal.returns-in_err-place-clause-none
returns-in_err-place-clause-none c = rw (← c.self.view_is, c.from_residual.ensures) (none_left c)

-- the page from which it takes
there : (c : goal.After-self-1) → IsPlace c.self.inside.arrays.items c.in_ok-place.place c.index_mut-array.result.now
there c = record {
  apart = c.self.invariant.apart;
  arrays = c.self.invariant.arrays;
  low = subst (λ xs. c.in_ok-place.place < length xs) c.deref.ensures.value c.in_ok-place.ensures.within;
  is = c.index_mut-array.ensures.value;
}

abbrev page : (c : goal.After-self-1) → ArrayView
page c = c.index_mut-array.result.now

abbrev behind : (c : goal.After-self-1) → ArrayView
behind c = record (page c) { free = set (page c).free c.take_least-index.result false }

fits : (c : goal.After-self-1) → IsArray (behind c)
fits c = takes_array (page c) c.take_least-index.result (fits_there c.self.inside.arrays.items c.in_ok-place.place (page c) (there c))
    (least_passes (page c).free c.take_least-index.result c.take_least-index.ensures.least)

pub invariant_of-self : goal.invariant_of-self
invariant_of-self c = record {
  apart = subst (λ y. ArraysAreApart (set c.self.inside.arrays.items c.in_ok-place.place y)) (sym c.take_least-index.ensures.new)
      (apart_still c.self.inside.arrays.items c.in_ok-place.place (page c) (behind c) (there c) refl);
  arrays = subst (λ y. All IsArray (set c.self.inside.arrays.items c.in_ok-place.place y)) (sym c.take_least-index.ensures.new)
      (arrays_still c.self.inside.arrays.items c.in_ok-place.place (page c) (behind c) (there c) refl refl (fits c));
  maps = c.self.invariant.maps;
  fits = omega (arith, length-set c.self.inside.arrays.items c.in_ok-place.place c.take_least-index.new.self, c.self.invariant.fits);
}

pub returns-clause-taken : goal.returns-clause-taken
returns-clause-taken c =
    let xs : List ArrayView = c.self.inside.arrays.items in
    let k : ℕ = c.in_ok-place.place in
    let maps : ℕ = length c.self.inside.maps.items in
    let written = takes (with_arrays xs (length xs + maps)) (with_arrays (set xs k (behind c)) (length (set xs k (behind c)) + maps)) k
    c.take_least-index.result (page c)
    (fits_there xs k (page c) (there c)) (least_passes (page c).free c.take_least-index.result c.take_least-index.ensures.least)
    (written_is xs maps k (page c) (behind c) (there c) refl refl (fits c)) in
    rw (← c.self.view_is)
    (subst (λ (y : ArrayView). Takes (keeper_of c.self.inside) (record { va = c.va-va.result; index = c.take_least-index.result })
    (with_arrays (set xs k y) (length (set xs k y) + maps))) (sym c.take_least-index.ensures.new)
    (subst (λ n. Takes (keeper_of c.self.inside) (record { va = n; index = c.take_least-index.result })
    (with_arrays (set xs k (behind c)) (length (set xs k (behind c)) + maps))) (sym c.va-va.ensures) written))

pub returns-clause-least : goal.returns-clause-least
returns-clause-least c =
    let xs : List ArrayView = c.self.inside.arrays.items in
    let k : ℕ = c.in_ok-place.place in
    let x : ArrayView = page c in
    let found : IsLeastAt xs k (length xs) = subst (λ ys. IsLeastAt ys k (length ys)) c.deref.ensures.value c.in_ok-place.ensures in
    let least : IsLeast (keeper_of c.self.inside) (va_slot (get_or xs k x).va c.take_least-index.result) =
    is_least (keeper_of c.self.inside) k c.take_least-index.result x found.within c.self.invariant.apart (found.least_of x)
    (subst (λ (a : ArrayView). position (λ b. b) a.free ≡ Some c.take_least-index.result) c.index_mut-array.ensures.value
    c.take_least-index.ensures.least) in
    rw (← c.self.view_is)
    (subst (λ n. IsLeast (keeper_of c.self.inside) (record { va = n; index = c.take_least-index.result }))
    (ap (λ (a : ArrayView). a.va) (sym c.index_mut-array.ensures.value) ∙ sym c.va-va.ensures) least)
