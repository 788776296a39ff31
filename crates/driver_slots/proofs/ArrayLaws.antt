-- The slots of one page: all of them free, one taken and one given back.
use Rattle.std.proofs.Common.{◌≡◌, ℕ, zero, suc, ◌+◌, ◌<◌, ◌≤◌, ◌==◌, nat_le, nat_lt, Bool, true, false, cond}
use Rattle.std.proofs.Common.{List, [], ◌∷◌, length, get_or, set, count_by, replicate, refl}
use Rattle.std.proofs.Common.{sym, ap, subst, ◌∙◌, arith, ⊎_elim, position, Some, None}
use Rattle.std.proofs.Common.{add-zero}
use Rattle.std.specs.List.{position_or_len}
use Rattle.std.proofs.lemmas.Bool.{cases_eq, cases_lt, false≢true, eq-eqb}
use Rattle.std.proofs.lemmas.List.{get_or-set_same, get_or-set_other, length-set, length-replicate, get_or-replicate}
use Rattle.std.proofs.lemmas.List.Sums.{sum_by-set, count_by-le-length, fails_before_first, passes_at_first}
use Rattle.std.proofs.lemmas.List.Folds.{sum_by-replicate}
use Rattle.driver_slots.specs.inner.Keeper.{all_free, ArrayView, free_of, is_free_at, IsArray}
use Rattle.free_map.proofs.Marks.{count_by-set_false, count_by-set_true, position_some}

-- ---- all slots

pub all_is : replicate 512 true ≡ all_free
unfolding all_free
all_is = refl

pub all_length : length all_free ≡ 512
unfolding all_free
all_length = length-replicate 512 true

pub all_at : (i : ℕ) → i < 512 → get_or all_free i false ≡ true
unfolding all_free
all_at i low = get_or-replicate 512 i true false low

pub all_count : count_by (λ b. b) all_free ≡ 512
unfolding all_free
all_count = sum_by-replicate (λ b. cond b 1 0) 512 true

-- ---- how many are free

-- where the first so many are not free, the others are so many at most
pub few_free : (xs : List Bool) (n : ℕ) → n ≤ length xs → ((i : ℕ) → i < n → get_or xs i false ≡ false)
    → count_by (λ b. b) xs + n ≤ length xs
few_free xs zero low none = omega (arith, count_by-le-length (λ b. b) xs)
few_free [] (suc n) low none = absurd (omega arith)
few_free (x ∷ xs) (suc n) low none =
    let rest = few_free xs n (omega arith) (λ i below. none (suc i) (omega arith)) in
    let head : x ≡ false = none 0 (omega arith) in
    let at : count_by (λ b. b) (x ∷ xs) ≡ count_by (λ b. b) xs = ap (λ b. count_by (λ c. c) (b ∷ xs)) head in
    omega (arith, at, rest)

-- a list with an element that is free has it within
pub free_within : (xs : List Bool) (i : ℕ) → get_or xs i false ≡ true → i < length xs
free_within [] i is = absurd (false≢true is)
free_within (x ∷ xs) zero is = omega arith
free_within (x ∷ xs) (suc i) is = let h = free_within xs i is in omega arith

-- ---- the least

ends_at : (xs : List Bool) → position (λ b. b) xs ≡ None → length xs ≤ position_or_len (λ b. b) xs
ends_at xs none = by_test (nat_lt (position_or_len (λ b. b) xs) (length xs)) refl none
  where
    by_test : (b : Bool) → nat_lt (position_or_len (λ b. b) xs) (length xs) ≡ b
        → cond b (Some (position_or_len (λ b. b) xs)) None ≡ None → length xs ≤ position_or_len (λ b. b) xs
    by_test true is h = cc
    by_test false is h = grind arith

-- where some are free, there is a least
pub some_least : (xs : List Bool) → (count_by (λ b. b) xs == 0) ≡ false → position (λ b. b) xs ≡ None → ⊥
some_least xs some none =
    let end = ends_at xs none in
    let few = few_free xs (length xs) (omega arith) (λ i low. fails_before_first (λ b. b) xs i false (omega arith)) in
    let zero : count_by (λ b. b) xs ≡ 0 = omega arith in
    false≢true (sym some ∙ eq-eqb (count_by (λ b. b) xs) 0 zero)

pub least_passes : (xs : List Bool) (i : ℕ) → position (λ b. b) xs ≡ Some i → get_or xs i false ≡ true
least_passes xs i is =
    let at = position_some (λ b. b) xs i is in
    subst (λ k. get_or xs k false ≡ true) at.0 (passes_at_first (λ b. b) xs false (omega (arith, at.0, at.1)))

pub least_first : (xs : List Bool) (i k : ℕ) → position (λ b. b) xs ≡ Some i → get_or xs k false ≡ true → i ≤ k
least_first xs i k is free =
    let at = position_some (λ b. b) xs i is in
    ⊎_elim (λ below. absurd (false≢true (sym (fails_before_first (λ b. b) xs k false (omega (arith, at.0))) ∙ free))) (λ above. above)
    (cases_lt k i)

-- ---- one slot

pub with_mark : ArrayView → ℕ → Bool → ArrayView
with_mark a i b = record a { free = set a.free i b }

-- a taken slot of a page, and one that is given back
pub takes_array : (a : ArrayView) (i : ℕ) → IsArray a → is_free_at a i ≡ true → IsArray (record a { free = set a.free i false })
takes_array a i is free =
    let low = free_within a.free i free in
    let less = count_by-set_false a.free i low free in
    record {
      sized = length-set a.free i false ∙ is.sized;
      begins = is.begins;
      below = λ k before. ⊎_elim (λ same. subst (λ n. get_or (set a.free i false) n false ≡ false) (sym same)
          (get_or-set_same a.free i false false low)) (λ other. get_or-set_other a.free i k false false other ∙ is.below k before)
          (cases_eq k i);
      few = omega (arith, less, is.few);
    }

pub gives_array : (a : ArrayView) (i : ℕ) → IsArray a → i < 512 → a.first ≤ i → IsArray (record a { free = set a.free i true })
gives_array a i is low from =
    let sized : length (set a.free i true) ≡ 512 = length-set a.free i true ∙ is.sized in
    let below : (k : ℕ) → k < a.first → get_or (set a.free i true) k false ≡ false = λ k before.
    get_or-set_other a.free i k true false (λ same. absurd (omega (arith, same))) ∙ is.below k before in
    record {
      sized = sized;
      begins = is.begins;
      below = below;
      few = omega (arith, few_free (set a.free i true) a.first (omega (arith, sized, is.begins)) below, sized, is.begins);
    }

-- ---- the slots from one on

-- the slots before this one are not handed out
pub record IsFrom (free : List Bool) (first : ℕ) : Type 0 where
  pub sized : length free ≡ 512
  pub marks : (i : ℕ) → i < 512 → get_or free i false ≡ nat_le first i
  pub counted : count_by (λ b. b) free + first ≡ 512

pub from_all : (free : List Bool) → free ≡ all_free → IsFrom free 0
from_all free is = record {
  sized = ap length is ∙ all_length;
  marks = λ i low. ap (λ (xs : List Bool). get_or xs i false) is ∙ all_at i low ∙ grind arith;
  counted = let law = ap (count_by (λ b. b)) is ∙ all_count in omega (arith, law);
}

pub from_more : (free : List Bool) (n : ℕ) → n < 512 → IsFrom free n → IsFrom (set free n false) (n + 1)
from_more free n low is =
    let here : get_or free n false ≡ true = is.marks n low ∙ grind arith in
    record {
      sized = length-set free n false ∙ is.sized;
      marks = λ i below. ⊎_elim
          (λ same. subst (λ k. get_or (set free n false) k false ≡ nat_le (n + 1) k) (sym same)
          (get_or-set_same free n false false (omega (arith, is.sized)) ∙ grind arith))
          (λ other. get_or-set_other free n i false false other ∙ is.marks i below ∙ grind arith)
          (cases_eq i n);
      counted = omega (arith, count_by-set_false free n (omega (arith, is.sized)) here, is.counted);
    }

pub from_array : (va first : ℕ) (free : List Bool) → first ≤ 512 → IsFrom free first
    → IsArray (record { va = va; first = first; free = free })
from_array va first free low is = record {
  sized = is.sized;
  begins = low;
  below = λ i before. is.marks i (omega arith) ∙ grind arith;
  few = omega (arith, is.counted);
}

pub array_from : (a : ArrayView) (first : ℕ) → first ≤ 512 → a.first ≡ first → ((i : ℕ) → i < 512 → is_free_at a i ≡ nat_le first i)
    → free_of a + first ≡ 512 → length a.free ≡ 512 → IsArray a
array_from a first low is marks counted sized = record {
  sized = sized;
  begins = omega arith;
  below = λ i before. marks i (omega arith) ∙ grind arith;
  few = omega (arith, counted, is);
}
