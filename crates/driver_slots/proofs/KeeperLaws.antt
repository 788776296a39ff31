-- What a page that is added, a slot that is taken and one that is given back make of a keeper.
use Rattle.std.proofs.Common.{◌≡◌, ◌≢◌, ℕ, suc, ◌+◌, ◌-◌, ◌<◌, ◌≤◌, ◌==◌, nat_le, nat_lt, Bool, true, false, not, ◌&&◌, ◌||◌}
use Rattle.std.proofs.Common.{List, [], ◌∷◌, ◌++◌, length, get_or, set, sum_by, refl, sym, ap, subst, ◌∙◌, arith, ⊎_elim}
use Rattle.std.proofs.Common.{Option, Some, None, is_some, if◌then◌else◌, slice_get, position}
use Rattle.std.specs.Option.{option_or}
use Rattle.std.proofs.lemmas.Option.{slice_get-get_or}
use Rattle.std.specs.List.{All, find, position_or_len}
use Rattle.std.proofs.lemmas.Bool.{cases_eq, cases_lt, lt-ltb, false≢true, eq-eqb, eqb-true, false_from_ne_true}
use Rattle.std.proofs.lemmas.List.{get_or-set_same, get_or-set_other, length-set, get_or_default, length_push}
use Rattle.std.proofs.lemmas.List.Elements.{All-get_or, All-from_get_or}
use Rattle.std.proofs.lemmas.List.Folds.{find_at, find-set, find_past, find-append}
use Rattle.std.proofs.lemmas.List.Sums.{position_or_len_is, sum_by-cons, sum_by-set, sum_by_push}
use Rattle.sgx_types.specs.declared.names.VaSlot.{VaSlot}
use Rattle.sgx_types.specs.Pages.{same_slot}
use Rattle.driver_slots.specs.inner.Keeper.{Adds, AllOut, array_at, ArrayView, count_all, count_free, free_of, Gives, HasSame}
use Rattle.driver_slots.specs.inner.Keeper.{is_added, is_at_most, is_free_at, is_in, is_of, is_ours, is_ours_by, is_out, is_out_by}
use Rattle.driver_slots.specs.inner.Keeper.{IsArray, IsLeast, Keeper, slots_of, Takes, va_slot}
use Rattle.driver_slots.specs.inner.KeeperKept.{ArraysAreApart}
use Rattle.driver_slots.proofs.ArrayLaws.{free_within, least_first}
use Rattle.free_map.proofs.Marks.{count_by-set_false, count_by-set_true}

-- a page that is none
pub no_array : ArrayView
no_array = record { va = 0; first = 0; free = [] }

-- ---- pages by their numbers

-- the place of a page is the first with its number
pub place_is : (xs : List ArrayView) (k : ℕ) (d : ArrayView) → ArraysAreApart xs → k < length xs
    → position_or_len (is_of (get_or xs k d).va) xs ≡ k
place_is xs k d apart low =
    position_or_len_is (is_of (get_or xs k d).va) xs k d (omega arith)
    (λ i below. false_from_ne_true ((get_or xs i d).va == (get_or xs k d).va)
    (λ same. absurd (omega (arith, apart i k d (omega arith) low (eqb-true (get_or xs i d).va (get_or xs k d).va same)))))
    (λ low. eq-eqb (get_or xs k d).va (get_or xs k d).va refl)

-- behind a write at a place of one with the same number
pub find_written : (xs : List ArrayView) (k : ℕ) (y d : ArrayView) (va : ℕ) → ArraysAreApart xs → k < length xs → y.va ≡ (get_or xs k d).va
    → find (is_of va) (set xs k y) ≡ (if y.va == va then Some y else find (is_of va) xs)
find_written xs k y d va apart low same = by_test (y.va == va) refl
  where
    by_test : (b : Bool) → (y.va == va) ≡ b → find (is_of va) (set xs k y) ≡ (if b then Some y else find (is_of va) xs)
    by_test true is =
        let at : (get_or xs k d).va ≡ va = sym same ∙ eqb-true y.va va is in
        find-set (is_of va) xs k y (sym (subst (λ n. position_or_len (is_of n) xs ≡ k) at (place_is xs k d apart low))) low is
    by_test false is = find_past (is_of va) xs k y d (ap (λ n. n == va) (sym same) ∙ is) is

-- the page at a place
pub find_there : (xs : List ArrayView) (k : ℕ) (d : ArrayView) → ArraysAreApart xs → k < length xs
    → find (is_of (get_or xs k d).va) xs ≡ Some (get_or xs k d)
find_there xs k d apart low =
    find_at (is_of (get_or xs k d).va) xs ∙ ap (slice_get xs) (place_is xs k d apart low) ∙ slice_get-get_or xs k d low

pub apart_written : (xs : List ArrayView) (k : ℕ) (y d : ArrayView) → ArraysAreApart xs → k < length xs → y.va ≡ (get_or xs k d).va
    → ArraysAreApart (set xs k y)
apart_written xs k y d apart low same i j e li lj at =
    apart i j e (omega (arith, length-set xs k y)) (omega (arith, length-set xs k y)) (sym (va_at i li) ∙ at ∙ va_at j lj)
  where
    va_at : (n : ℕ) → n < length (set xs k y) → (get_or (set xs k y) n e).va ≡ (get_or xs n e).va
    va_at n ln = ⊎_elim
        (λ here. ap (λ (m : ℕ). (get_or (set xs k y) m e).va) here ∙ ap (λ (x : ArrayView). x.va) (get_or-set_same xs k y e low) ∙ same
        ∙ ap (λ (x : ArrayView). x.va) (get_or_default xs k d e low) ∙ ap (λ (m : ℕ). (get_or xs m e).va) (sym here))
        (λ other. ap (λ (x : ArrayView). x.va) (get_or-set_other xs k n y e other)) (cases_eq n k)

-- ---- counts

pub free_at_most : (xs : List ArrayView) → All IsArray xs → sum_by free_of xs ≤ sum_by slots_of xs
free_at_most [] all = omega arith
free_at_most (x ∷ xs) all =
    let head : IsArray x = All-get_or IsArray (x ∷ xs) 0 x (omega arith) all in
    let tail : All IsArray xs = All-from_get_or IsArray xs x (λ i low. All-get_or IsArray (x ∷ xs) (suc i) x (omega arith) all) in
    omega (arith, sum_by-cons free_of x xs, sum_by-cons slots_of x xs, head.few, free_at_most xs tail)

-- ---- one slot

same_slot_at : (va index : ℕ) (s : VaSlot) → (va == s.va) ≡ false → same_slot (va_slot va index) s ≡ false
same_slot_at va index s other = ap (λ b. b && (index == s.index)) other

-- what is so of the slots of a page where one of them has another mark
taken_at : (x : ArrayView) (i n : ℕ) → i < length x.free → is_in x i ≡ true
    → (is_in x n && not (get_or (set x.free i false) n false)) ≡ ((i == n) || (is_in x n && not (get_or x.free n false)))
taken_at x i n low within = ⊎_elim
    (λ same. subst (λ m. (is_in x m && not (get_or (set x.free i false) m false))
    ≡ ((i == m) || (is_in x m && not (get_or x.free m false))))
    (sym same)
    (rw (get_or-set_same x.free i false false low, within, eq-eqb i i refl) refl))
    (λ other. rw (get_or-set_other x.free i n false false other, apart i n other) refl)
    (cases_eq n i)
  where
    apart : (a b : ℕ) → b ≢ a → (a == b) ≡ false
    apart a b differ = false_from_ne_true (a == b) (λ same. differ (sym (eqb-true a b same)))

given_at : (x : ArrayView) (i n : ℕ) → i < length x.free
    → (is_in x n && not (get_or (set x.free i true) n false)) ≡ (not (i == n) && (is_in x n && not (get_or x.free n false)))
given_at x i n low = ⊎_elim
    (λ same. subst (λ m. (is_in x m && not (get_or (set x.free i true) m false)) ≡
    (not (i == m) && (is_in x m && not (get_or x.free m false)))) (sym same)
    (rw (get_or-set_same x.free i true false low, eq-eqb i i refl) (none (is_in x i))))
    (λ other. rw (get_or-set_other x.free i n true false other, apart i n other) refl)
    (cases_eq n i)
  where
    apart : (a b : ℕ) → b ≢ a → (a == b) ≡ false
    apart a b differ = false_from_ne_true (a == b) (λ same. differ (sym (eqb-true a b same)))

    none : (b : Bool) → (b && false) ≡ false
    none true = refl
    none false = refl

-- ---- a write at a place

-- the pages are those of another keeper, but that the one at a place has other marks
pub record IsWritten (old new : Keeper) (k : ℕ) (x y : ArrayView) : Type 0 where
  pub apart : ArraysAreApart old.arrays
  pub arrays : All IsArray old.arrays
  pub low : k < length old.arrays
  pub is : (d : ArrayView) → get_or old.arrays k d ≡ x
  pub written : new.arrays ≡ set old.arrays k y
  pub room : new.room ≡ old.room
  pub va : y.va ≡ x.va
  pub first : y.first ≡ x.first
  pub fits : IsArray y

pub array_written : (old new : Keeper) (k : ℕ) (x y : ArrayView) → IsWritten old new k x y → (va : ℕ)
    → array_at new va ≡ (if x.va == va then Some y else array_at old va)
array_written old new k x y w va =
    ap (find (is_of va)) w.written
    ∙ find_written old.arrays k y x va w.apart w.low (w.va ∙ ap (λ (a : ArrayView). a.va) (sym (w.is x)))
    ∙ ap (λ n. if n == va then Some y else find (is_of va) old.arrays) w.va

pub array_there : (old new : Keeper) (k : ℕ) (x y : ArrayView) → IsWritten old new k x y → array_at old x.va ≡ Some x
array_there old new k x y w =
    subst (λ (a : ArrayView). array_at old a.va ≡ Some a) (w.is x) (find_there old.arrays k x w.apart w.low)

-- a fact of a page by its number, where it is so of the one that was written and of all others
by_number : (old new : Keeper) (k : ℕ) (x y : ArrayView) → IsWritten old new k x y → (va : ℕ)
    → (Says : Option ArrayView → Option ArrayView → Type 0)
    → (x.va ≡ va → Says (Some y) (Some x)) → ((x.va == va) ≡ false → Says (array_at old va) (array_at old va))
    → Says (array_at new va) (array_at old va)
by_number old new k x y w va Says here there = by_test (x.va == va) refl
  where
    by_test : (b : Bool) → (x.va == va) ≡ b → Says (array_at new va) (array_at old va)
    by_test true is =
        let same = eqb-true x.va va is in
        let now : array_at new va ≡ Some y = array_written old new k x y w va ∙ ap (λ b. if b then Some y else array_at old va) is in
        let was : array_at old va ≡ Some x = subst (λ n. array_at old n ≡ Some x) same (array_there old new k x y w) in
        subst (λ o. Says o (array_at old va)) (sym now) (subst (Says (Some y)) (sym was) (here same))
    by_test false is =
        let now : array_at new va ≡ array_at old va = array_written old new k x y w va ∙ ap
        (λ b. if b then Some y else array_at old va) is in
        subst (λ o. Says o (array_at old va)) (sym now) (there is)

pub has_same : (old new : Keeper) (k : ℕ) (x y : ArrayView) → IsWritten old new k x y → HasSame old new
has_same old new k x y w = record {
  added = λ va. by_number old new k x y w va (λ o p. is_some o ≡ is_some p) (λ same. refl) (λ other. refl);
  ours = λ s. by_number old new k x y w s.va (λ o p. is_ours_by o s.index ≡ is_ours_by p s.index)
      (λ same. ap (λ n. nat_le n s.index && nat_lt s.index 512) w.first) (λ other. refl);
  pages = ap length w.written ∙ length-set old.arrays k y;
  all = all_same;
  room = w.room;
}
  where
    all_same : count_all new ≡ count_all old
    all_same =
        let law = sum_by-set slots_of old.arrays k y x w.low in
        let here : slots_of (get_or old.arrays k x) ≡ slots_of y = ap slots_of (w.is x) ∙ ap (λ n. 512 - n) (sym w.first) in
        let now : count_all new ≡ sum_by slots_of (set old.arrays k y) = ap (sum_by slots_of) w.written in
        omega (arith, law, here, now)

-- how many are free behind the write
free_written : (old new : Keeper) (k : ℕ) (x y : ArrayView) → IsWritten old new k x y
    → count_free new + free_of x ≡ count_free old + free_of y
free_written old new k x y w =
    let law = sum_by-set free_of old.arrays k y x w.low in
    let here : free_of (get_or old.arrays k x) ≡ free_of x = ap free_of (w.is x) in
    let now : count_free new ≡ sum_by free_of (set old.arrays k y) = ap (sum_by free_of) w.written in
    omega (arith, law, here, now)

pub all_written : (old new : Keeper) (k : ℕ) (x y : ArrayView) → IsWritten old new k x y → All IsArray new.arrays
all_written old new k x y w =
    All-from_get_or IsArray new.arrays x (λ i low. by_place i (omega (arith, ap length w.written, length-set old.arrays k y)))
  where
    by_place : (i : ℕ) → i < length old.arrays → IsArray (get_or new.arrays i x)
    by_place i low = ⊎_elim
        (λ here. subst IsArray (sym (ap (λ xs. get_or xs i x) w.written ∙ ap (λ n. get_or (set old.arrays k y) n x) here
        ∙ get_or-set_same old.arrays k y x w.low)) w.fits)
        (λ other. subst IsArray (sym (ap (λ xs. get_or xs i x) w.written ∙ get_or-set_other old.arrays k i y x other))
        (All-get_or IsArray old.arrays i x low w.arrays))
        (cases_eq i k)

-- ---- a slot is taken, and given back

pub takes : (old new : Keeper) (k i : ℕ) (x : ArrayView) → IsArray x → is_free_at x i ≡ true
    → IsWritten old new k x (record x { free = set x.free i false }) → Takes old (va_slot x.va i) new
takes old new k i x fits free w =
    let low : i < length x.free = free_within x.free i free in
    let from : x.first ≤ i = ⊎_elim (λ before. absurd (false≢true (sym (fits.below i before) ∙ free))) (λ above. above)
    (cases_lt i x.first) in
    let within : is_in x i ≡ true = grind (arith, fits.sized) in
    record {
      ours = ap (λ o. is_ours_by o i) (array_there old new k x (record x { free = set x.free i false }) w) ∙ within;
      was_in = ap (λ o. is_out_by o i) (array_there old new k x (record x { free = set x.free i false }) w) ∙ rw (within, free) refl;
      pages = has_same old new k x (record x { free = set x.free i false }) w;
      out = λ s. by_number old new k x (record x { free = set x.free i false }) w s.va
          (λ o p. is_out_by o s.index ≡ (same_slot (va_slot x.va i) s || is_out_by p s.index))
          (λ same. taken_at x i s.index low within
          ∙ ap (λ b. (b && (i == s.index)) || (is_in x s.index && not (get_or x.free s.index false)))
          (sym (eq-eqb x.va s.va same)))
          (λ other. ap (λ b. b || is_out old s) (sym (same_slot_at x.va i s other)));
      counted = omega (
        arith,
        free_written old new k x (record x { free = set x.free i false }) w,
        count_by-set_false x.free i low free,
        (has_same old new k x (record x { free = set x.free i false }) w).all,
        free_at_most old.arrays w.arrays,
        free_at_most new.arrays (all_written old new k x (record x { free = set x.free i false }) w),
      );
    }

pub gives : (old new : Keeper) (k i : ℕ) (x : ArrayView) → IsArray x → is_in x i ≡ true → is_free_at x i ≡ false
    → IsWritten old new k x (record x { free = set x.free i true }) → Gives old (va_slot x.va i) new
gives old new k i x fits within out w =
    let low : i < length x.free = grind (arith, fits.sized, within) in
    record {
      pages = has_same old new k x (record x { free = set x.free i true }) w;
      out = λ s. by_number old new k x (record x { free = set x.free i true }) w s.va
          (λ o p. is_out_by o s.index ≡ (not (same_slot (va_slot x.va i) s) && is_out_by p s.index))
          (λ same. given_at x i s.index low ∙ ap (λ b. not (b && (i == s.index)) && (is_in x s.index && not (get_or x.free s.index false)))
          (sym (eq-eqb x.va s.va same)))
          (λ other. ap (λ b. not b && is_out old s) (sym (same_slot_at x.va i s other)));
      counted = omega (
        arith,
        free_written old new k x (record x { free = set x.free i true }) w,
        count_by-set_true x.free i low out,
        (has_same old new k x (record x { free = set x.free i true }) w).all,
        free_at_most old.arrays w.arrays,
        free_at_most new.arrays (all_written old new k x (record x { free = set x.free i true }) w),
      );
    }

-- ---- a page is added

pub record IsAdded (old new : Keeper) (va first : ℕ) (y : ArrayView) : Type 0 where
  pub arrays : All IsArray old.arrays
  pub fresh : is_added old va ≡ false
  pub written : new.arrays ≡ old.arrays ++ y ∷ []
  pub room : new.room ≡ old.room
  pub va_is : y.va ≡ va
  pub first_is : y.first ≡ first
  pub fits : IsArray y
  pub free : (i : ℕ) → i < 512 → is_free_at y i ≡ nat_le first i
  pub counted : free_of y + first ≡ 512

pub array_added : (old new : Keeper) (va first : ℕ) (y : ArrayView) → IsAdded old new va first y → (other : ℕ)
    → array_at new other ≡ (if va == other then Some y else array_at old other)
array_added old new va first y a other =
    ap (find (is_of other)) a.written ∙ find-append (is_of other) old.arrays (y ∷ []) ∙ by_test (va == other) refl
  where
    by_test : (b : Bool) → (va == other) ≡ b
        → option_or (find (is_of other) old.arrays) (find (is_of other) (y ∷ [])) ≡ (if b then Some y else array_at old other)
    by_test true is =
        let same = eqb-true va other is in
        let none : find (is_of other) old.arrays ≡ None = subst (λ n. find (is_of n) old.arrays ≡ None) same
        (is_none (find (is_of va) old.arrays) a.fresh) in
        let here : (y.va == other) ≡ true = ap (λ n. n == other) a.va_is ∙ is in
        rw (none, here) refl
      where
        is_none : (o : Option ArrayView) → is_some o ≡ false → o ≡ None
        is_none None h = refl
        is_none (Some x) h = cc
    by_test false is =
        let not_here : (y.va == other) ≡ false = ap (λ n. n == other) a.va_is ∙ is in
        rw not_here (alone (find (is_of other) old.arrays))
      where
        alone : (o : Option ArrayView) → option_or o None ≡ o
        alone None = refl
        alone (Some x) = refl

pub adds : (old new : Keeper) (va first : ℕ) (y : ArrayView) → IsAdded old new va first y → Adds old va first new
adds old new va first y a = record {
  added = λ other. by_va other (λ o p b. is_some o ≡ (b || is_some p)) (λ same none. refl) (λ other. refl);
  ours = λ s. by_va s.va (λ o p b. is_ours_by o s.index ≡ (is_ours_by p s.index || (b && (nat_le first s.index && nat_lt s.index 512))))
      (λ same none. rw none (ap (λ n. nat_le n s.index && nat_lt s.index 512) a.first_is))
      (λ other. no_more (is_ours old s));
  pages = ap length a.written ∙ length_push old.arrays y;
  all = ap (sum_by slots_of) a.written ∙ sum_by_push slots_of old.arrays y ∙ ap (λ n. count_all old + (512 - n)) a.first_is;
  room = a.room;
  out = λ s. by_va s.va (λ o p b. is_out_by o s.index ≡ is_out_by p s.index) (λ same none. rw none (none_out s.index)) (λ other. refl);
  counted = omega (
    arith,
    ap (sum_by slots_of) a.written,
    sum_by_push slots_of old.arrays y,
    ap (sum_by free_of) a.written,
    sum_by_push free_of old.arrays y,
    a.first_is,
    a.counted,
    a.fits.begins,
    free_at_most old.arrays a.arrays,
  );
}
  where
    by_va : (other : ℕ) (Says : Option ArrayView → Option ArrayView → Bool → Type 0)
        → (va ≡ other → array_at old other ≡ None → Says (Some y) (array_at old other) true)
        → ((va == other) ≡ false → Says (array_at old other) (array_at old other) false)
        → Says (array_at new other) (array_at old other) (va == other)
    by_va other Says here there = subst (λ o. Says o (array_at old other) (va == other)) (sym (array_added old new va first y a other))
        (by_test (va == other) refl)
      where
        is_none : (o : Option ArrayView) → is_some o ≡ false → o ≡ None
        is_none None h = refl
        is_none (Some x) h = cc

        by_test : (b : Bool) → (va == other) ≡ b → Says (if b then Some y else array_at old other) (array_at old other) b
        by_test true is =
            let same = eqb-true va other is in
            here same (subst (λ n. array_at old n ≡ None) same (is_none (array_at old va) a.fresh))
        by_test false is = there is

    no_more : (b : Bool) → b ≡ (b || false)
    no_more true = refl
    no_more false = refl

    none_out : (i : ℕ) → (is_in y i && not (is_free_at y i)) ≡ false
    none_out i = ⊎_elim (λ low. rw (a.free i low, a.first_is) (both (nat_le first i) (nat_lt i 512)))
        (λ high. ap (λ b. (nat_le y.first i && b) && not (is_free_at y i)) (beyond high) ∙ none (nat_le y.first i) (not (is_free_at y i)))
        (cases_lt i 512)
      where
        both : (b c : Bool) → ((b && c) && not b) ≡ false
        both true true = refl
        both true false = refl
        both false c = refl

        none : (b c : Bool) → ((b && false) && c) ≡ false
        none true c = refl
        none false c = refl

        beyond : 512 ≤ i → nat_lt i 512 ≡ false
        beyond high = grind arith

-- ---- the least, and none

-- a page that is found stands at a place
pub record IsAtPlace (xs : List ArrayView) (va : ℕ) (a d : ArrayView) : Type 0 where
  pub place : ℕ
  pub low : place < length xs
  pub there : get_or xs place d ≡ a
  pub number : a.va ≡ va

pub found_place : (xs : List ArrayView) (va : ℕ) (a d : ArrayView) → find (is_of va) xs ≡ Some a → IsAtPlace xs va a d
found_place [] va a d is = cc
found_place (x ∷ xs) va a d is = by_test (found_place xs va a d) (x.va == va) refl is
  where
    by_test : (find (is_of va) xs ≡ Some a → IsAtPlace xs va a d) → (b : Bool) → (x.va == va) ≡ b
        → (if b then Some x else find (is_of va) xs) ≡ Some a → IsAtPlace (x ∷ xs) va a d
    by_test further true same h =
        let there : x ≡ a = cc in
        record { place = 0; low = omega arith; there = there; number = ap (λ (y : ArrayView). y.va) (sym there) ∙ eqb-true x.va va same }
    by_test further false other h =
        let rest = further h in
        record { place = suc rest.place; low = let low = rest.low in omega arith; there = rest.there; number = rest.number }

pub some_free : (a : ArrayView) (i : ℕ) → is_free_at a i ≡ true → (free_of a == 0) ≡ false
some_free a i free =
    let law = count_by-set_false a.free i (free_within a.free i free) free in
    false_from_ne_true (free_of a == 0) (λ zero. absurd (omega (arith, law, eqb-true (free_of a) 0 zero)))

-- a slot that is not out is one that is free
pub not_out : (o : Option ArrayView) (i : ℕ) → is_ours_by o i ≡ true → is_out_by o i ≡ false
    → (a : ArrayView) × (o ≡ Some a) × (is_free_at a i ≡ true)
not_out None i ours free = absurd (false≢true ours)
not_out (Some a) i ours free = (a, refl, by_mark (is_free_at a i) (sym (ap (λ b. b && not (is_free_at a i)) ours) ∙ free))
  where
    by_mark : (b : Bool) → (true && not b) ≡ false → b ≡ true
    by_mark true h = refl
    by_mark false h = absurd (false≢true (sym h))

le_is : (m n : ℕ) → m ≤ n → nat_le m n ≡ true
le_is m n low = grind arith

pub is_least : (keeper : Keeper) (k i : ℕ) (d : ArrayView) → k < length keeper.arrays → ArraysAreApart keeper.arrays
    → ((j : ℕ) → j < length keeper.arrays → (free_of (get_or keeper.arrays j d) == 0) ≡ false
    → (get_or keeper.arrays k d).va ≤ (get_or keeper.arrays j d).va)
    → position (λ b. b) (get_or keeper.arrays k d).free ≡ Some i → IsLeast keeper (va_slot (get_or keeper.arrays k d).va i)
is_least keeper k i d low apart least first s ours free =
    let found = not_out (array_at keeper s.va) s.index ours free in
    let at = found_place keeper.arrays s.va found.0 d found.1 in
    let free_there : is_free_at (get_or keeper.arrays at.place d) s.index ≡ true =
    subst (λ (a : ArrayView). is_free_at a s.index ≡ true) (sym at.there) found.2 in
    let below = least at.place at.low (some_free (get_or keeper.arrays at.place d) s.index free_there) in
    let number : (get_or keeper.arrays at.place d).va ≡ s.va = ap (λ (a : ArrayView). a.va) at.there ∙ at.number in
    by_test ((get_or keeper.arrays k d).va == s.va) refl number below free_there at.low
  where
    by_test : (b : Bool) → ((get_or keeper.arrays k d).va == s.va) ≡ b → {j : ℕ} → (get_or keeper.arrays j d).va ≡ s.va
        → (get_or keeper.arrays k d).va ≤ (get_or keeper.arrays j d).va → is_free_at (get_or keeper.arrays j d) s.index ≡ true
        → j < length keeper.arrays → is_at_most (va_slot (get_or keeper.arrays k d).va i) s ≡ true
    by_test true is {j = j} number below free_there within =
        let same : k ≡ j = apart k j d low within (eqb-true (get_or keeper.arrays k d).va s.va is ∙ sym number) in
        let here : is_free_at (get_or keeper.arrays k d) s.index ≡ true =
        subst (λ n. is_free_at (get_or keeper.arrays n d) s.index ≡ true) (sym same) free_there in
        let above = least_first (get_or keeper.arrays k d).free i s.index first here in
        rw (is, le_is i s.index above) (last (nat_lt (get_or keeper.arrays k d).va s.va))
      where
        last : (b : Bool) → (b || true) ≡ true
        last true = refl
        last false = refl
    by_test false is {j = j} number below free_there within =
        let apart_from : (get_or keeper.arrays k d).va ≢ s.va =
        λ same. false≢true (sym is ∙ eq-eqb (get_or keeper.arrays k d).va s.va same) in
        rw (lt-ltb (get_or keeper.arrays k d).va s.va (omega arith)) refl

none_free : (xs : List ArrayView) (d : ArrayView) → ((k : ℕ) → k < length xs → (free_of (get_or xs k d) == 0) ≡ true)
    → sum_by free_of xs ≡ 0
none_free [] d all = refl
none_free (x ∷ xs) d all =
    let head : free_of x ≡ 0 = eqb-true (free_of x) 0 (all 0 (omega arith)) in
    omega (arith, sum_by-cons free_of x xs, head, none_free xs d (λ k low. all (suc k) (omega arith)))

pub all_out : (keeper : Keeper) (d : ArrayView)
    → ((k : ℕ) → k < length keeper.arrays → (free_of (get_or keeper.arrays k d) == 0) ≡ true) → AllOut keeper
all_out keeper d all = record {
  out = λ s. by_found s.va (array_at keeper s.va) refl s.index;
  counted = omega (arith, none_free keeper.arrays d all);
}
  where
    by_found : (va : ℕ) (o : Option ArrayView) → array_at keeper va ≡ o → (i : ℕ) → is_out_by o i ≡ is_ours_by o i
    by_found va None is i = refl
    by_found va (Some a) is i = by_mark (is_free_at a i) refl
      where
        at : IsAtPlace keeper.arrays va a d
        at = found_place keeper.arrays va a d is

        by_mark : (b : Bool) → is_free_at a i ≡ b → (is_in a i && not b) ≡ is_in a i
        by_mark true free =
            let more = some_free a i free in
            let zero : (free_of a == 0) ≡ true = subst (λ (x : ArrayView). (free_of x == 0) ≡ true) at.there (all at.place at.low) in
            absurd (false≢true (sym more ∙ zero))
        by_mark false free = whole (is_in a i)
          where
            whole : (b : Bool) → (b && true) ≡ b
            whole true = refl
            whole false = refl

-- ---- a search for a page by its number

pub first_found : (xs : List ArrayView) (va k : ℕ) (d : ArrayView) → k < length xs
    → ((i : ℕ) → i < k → ((get_or xs i d).va == va) ≡ false) → (get_or xs k d).va ≡ va → find (is_of va) xs ≡ Some (get_or xs k d)
first_found xs va k d low before here =
    let at : position_or_len (is_of va) xs ≡ k =
    position_or_len_is (is_of va) xs k d (omega arith) before (λ within. eq-eqb (get_or xs k d).va va here) in
    find_at (is_of va) xs ∙ ap (slice_get xs) at ∙ slice_get-get_or xs k d low

pub none_found : (xs : List ArrayView) (va : ℕ) (d : ArrayView) → is_some (find (is_of va) xs) ≡ true
    → ((i : ℕ) → i < length xs → ((get_or xs i d).va == va) ≡ false) → ⊥
none_found xs va d some none = by_found (find (is_of va) xs) refl some
  where
    by_found : (o : Option ArrayView) → find (is_of va) xs ≡ o → is_some o ≡ true → ⊥
    by_found None is h = false≢true h
    by_found (Some a) is h =
        let at = found_place xs va a d is in
        false≢true (sym (none at.place at.low) ∙ eq-eqb (get_or xs at.place d).va va
        (ap (λ (x : ArrayView). x.va) at.there ∙ at.number))
