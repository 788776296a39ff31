-- A write at one page of a keeper, as the calls make it.
use Rattle.std.proofs.Common.{◌≡◌, ℕ, ◌+◌, ◌<◌, ◌≤◌, true, false, List, [], ◌∷◌, ◌++◌, length, get_or, set, sym, ap, subst, ◌∙◌, refl}
use Rattle.std.proofs.Common.{Bool, ◌&&◌, not, Option, Some, None, arith, ◌≢◌, ◌⊎◌, inl, inr, is_some}
use Rattle.std.specs.List.{All, find}
use Rattle.std.proofs.lemmas.Bool.{cases_eq, false≢true}
use Rattle.std.proofs.lemmas.List.{get_or_default, get_or_push, get_or_append_left, length-set, length_push}
use Rattle.driver_slots.specs.inner.Keeper.{ArrayView, is_added, is_free_at, is_in, is_of, is_ours_by, is_out_by, IsArray, Keeper}
use Rattle.driver_slots.specs.inner.KeeperKept.{ArraysAreApart, IsAllFree}
use Rattle.driver_slots.proofs.KeeperLaws.{all_written, apart_written, find_there, found_place, IsWritten}

abbrev pub with_arrays : List ArrayView → ℕ → Keeper
with_arrays xs room = record { arrays = xs; room = room }

pub record IsPlace (xs : List ArrayView) (k : ℕ) (x : ArrayView) : Type 0 where
  pub apart : ArraysAreApart xs
  pub arrays : All IsArray xs
  pub low : k < length xs
  pub is : x ≡ get_or xs k x

pub written_is : (xs : List ArrayView) (maps k : ℕ) (x y : ArrayView) → IsPlace xs k x → y.va ≡ x.va → y.first ≡ x.first → IsArray y
    → IsWritten (with_arrays xs (length xs + maps)) (with_arrays (set xs k y) (length (set xs k y) + maps)) k x y
written_is xs maps k x y at va first fits = record {
  apart = at.apart;
  arrays = at.arrays;
  low = at.low;
  is = λ d. get_or_default xs k d x at.low ∙ sym at.is;
  written = refl;
  room = ap (λ n. n + maps) (length-set xs k y);
  va = va;
  first = first;
  fits = fits;
}

pub fits_there : (xs : List ArrayView) (k : ℕ) (x : ArrayView) → IsPlace xs k x → IsArray x
fits_there xs k x at = subst IsArray (sym at.is) (at.arrays k x at.low)

pub apart_still : (xs : List ArrayView) (k : ℕ) (x y : ArrayView) → IsPlace xs k x → y.va ≡ x.va → ArraysAreApart (set xs k y)
apart_still xs k x y at va = apart_written xs k y x at.apart at.low (va ∙ ap (λ (a : ArrayView). a.va) at.is)

pub arrays_still : (xs : List ArrayView) (k : ℕ) (x y : ArrayView) → IsPlace xs k x → y.va ≡ x.va → y.first ≡ x.first → IsArray y
    → All IsArray (set xs k y)
arrays_still xs k x y at va first fits =
    all_written (with_arrays xs (length xs + 0)) (with_arrays (set xs k y) (length (set xs k y) + 0)) k x y
    (written_is xs 0 k x y at va first fits)

-- ---- the slot that a call names

-- the page that was found has the slot, which is out
pub record IsFound (x : ArrayView) (va i : ℕ) : Type 0 where
  pub number : x.va ≡ va
  pub within : is_in x i ≡ true

pub found_is : (xs : List ArrayView) (va i k : ℕ) (x : ArrayView) → ((d : ArrayView) → find (is_of va) xs ≡ Some (get_or xs k d))
    → x ≡ get_or xs k x → is_ours_by (find (is_of va) xs) i ≡ true → IsFound x va i
found_is xs va i k x there is ours =
    let found : find (is_of va) xs ≡ Some x = there x ∙ ap Some (sym is) in
    record { number = number_of xs found; within = sym (ap (λ o. is_ours_by o i) found) ∙ ours }
  where
    number_of : (ys : List ArrayView) → find (is_of va) ys ≡ Some x → x.va ≡ va
    number_of ys h = (found_place ys va x x h).number

pub out_there : (xs : List ArrayView) (va i k : ℕ) (x : ArrayView) → ((d : ArrayView) → find (is_of va) xs ≡ Some (get_or xs k d))
    → x ≡ get_or xs k x → is_out_by (find (is_of va) xs) i ≡ is_out_by (Some x) i
out_there xs va i k x there is = ap (λ o. is_out_by o i) (there x ∙ ap Some (sym is))

-- a slot that is out is one of the page's, and not free
pub out_parts : (o : Option ArrayView) (i : ℕ) → is_out_by o i ≡ true → is_ours_by o i ≡ true
out_parts None i h = h
out_parts (Some a) i h = by_within (is_in a i) (not (is_free_at a i)) h
  where
    by_within : (b c : Bool) → (b && c) ≡ true → b ≡ true
    by_within true c k = refl
    by_within false c k = k

pub mark_out : (within free : Bool) → (within && not free) ≡ true → free ≡ false
mark_out true true h = sym h
mark_out true false h = refl
mark_out false free h = absurd (false≢true h)

pub mark_free : (within free : Bool) → within ≡ true → (within && not free) ≡ false → free ≡ true
mark_free true true is h = refl
mark_free true false is h = sym h
mark_free false free is h = absurd (false≢true is)

pub in_low : (a : ArrayView) (i : ℕ) → is_in a i ≡ true → i < 512
in_low a i h = grind arith

pub in_from : (a : ArrayView) (i : ℕ) → is_in a i ≡ true → a.first ≤ i
in_from a i h = grind arith

-- ---- a page more

pub apart_more : (xs : List ArrayView) (va : ℕ) (y : ArrayView) → ArraysAreApart xs → y.va ≡ va → is_added (with_arrays xs 0) va ≡ false
    → ArraysAreApart (xs ++ y ∷ [])
apart_more xs va y apart number fresh i k d li lk same =
    by_places (cases_eq i (length xs)) (cases_eq k (length xs))
  where
    at_low : (n : ℕ) → n < length xs → get_or (xs ++ y ∷ []) n d ≡ get_or xs n d
    at_low n low = get_or_append_left xs (y ∷ []) d n low

    new_there : get_or (xs ++ y ∷ []) (length xs) d ≡ y
    new_there = get_or_push xs y d (length xs) refl

    -- a page of the list is added
    none : (n : ℕ) → n < length xs → (get_or xs n d).va ≡ va → ⊥
    none n low is =
        let found : find (is_of va) xs ≡ Some (get_or xs n d) =
        subst (λ m. find (is_of m) xs ≡ Some (get_or xs n d)) is (find_there xs n d apart low) in
        false≢true (sym fresh ∙ ap is_some found)

    number_at : (n : ℕ) → n < length xs → (get_or (xs ++ y ∷ []) n d).va ≡ (get_or xs n d).va
    number_at n low = ap (λ (a : ArrayView). a.va) (at_low n low)

    number_new : (n : ℕ) → n ≡ length xs → (get_or (xs ++ y ∷ []) n d).va ≡ va
    number_new n last = ap (λ m. (get_or (xs ++ y ∷ []) m d).va) last ∙ ap (λ (a : ArrayView). a.va) new_there ∙ number

    by_places : (i ≡ length xs) ⊎ (i ≢ length xs) → (k ≡ length xs) ⊎ (k ≢ length xs) → i ≡ k
    by_places (inl a) (inl b) = a ∙ sym b
    by_places (inl a) (inr b) =
        let low : k < length xs = omega (arith, length_push xs y) in
        absurd (none k low (sym (number_at k low) ∙ sym same ∙ number_new i a))
    by_places (inr a) (inl b) =
        let low : i < length xs = omega (arith, length_push xs y) in
        absurd (none i low (sym (number_at i low) ∙ same ∙ number_new k b))
    by_places (inr a) (inr b) =
        let low_i : i < length xs = omega (arith, length_push xs y) in
        let low_k : k < length xs = omega (arith, length_push xs y) in
        apart i k d low_i low_k (sym (number_at i low_i) ∙ same ∙ number_at k low_k)

-- where each map has all slots, so has each but the last
pub all_but_last : (maps rest : List (List Bool)) (last : List Bool) → maps ≡ rest ++ last ∷ [] → All IsAllFree maps → All IsAllFree rest
all_but_last maps rest last is all k d low =
    sym (get_or_append_left rest (last ∷ []) d k low) ∙ ap (λ xs. get_or xs k d) (sym is)
    ∙ all k d (omega (arith, ap length is, length_push rest last))
