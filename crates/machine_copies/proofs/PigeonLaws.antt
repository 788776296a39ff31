-- Frames that hold version array pages are no more than the pages that were made.
use Rattle.std.proofs.Common.{◌≡◌, ℕ, zero, suc, ◌+◌, ◌-◌, ◌<◌, ◌≤◌, ◌==◌, Bool, true, false, cond, refl, sym, ap, ◌∙◌, subst}
use Rattle.std.proofs.Common.{Option, Some, None, is_some, option_map, nat_lt, arith}
use Rattle.std.proofs.lemmas.Bool.{eqb-true, eqb-false, eq-eqb, ltb-true, ltb-false}
use Rattle.sgx_types.specs.Counts.{count_below}
use Rattle.sgx_rules.specs.Frames.{Content, Free, Holds, IsLoading, IsVa, SecsOf}
use Rattle.sgx_rules.specs.Table.{is_va}
use Rattle.machine_copies.specs.inner.Away.{ArraysApart, array_in}

-- below a number of places, each number is below another one, and stands at one place
record Apart (n made : ℕ) (at : ℕ → Option ℕ) : Type 0 where
  pub below : (i k : ℕ) → i < n → at i ≡ Some k → k < made
  pub once : (i j k : ℕ) → i < n → j < n → at i ≡ Some k → at j ≡ Some k → i ≡ j

-- the numbers above one move down by one
abbrev lower : ℕ → ℕ → ℕ
lower k j = cond (nat_lt k j) (j - 1) j

lower_apart : (k i j : ℕ) → (i ≡ k → ⊥) → (j ≡ k → ⊥) → lower k i ≡ lower k j → i ≡ j
lower_apart k i j not_i not_j same = by_tests (nat_lt k i) refl (nat_lt k j) refl same
  where
    by_tests : (a : Bool) → nat_lt k i ≡ a → (b : Bool) → nat_lt k j ≡ b → cond a (i - 1) i ≡ cond b (j - 1) j → i ≡ j
    by_tests true e true d is = omega (arith, ltb-true k i e, ltb-true k j d, is)
    by_tests false e false d is = is
    by_tests true e false d is =
        absurd (not_j (let low = ltb-true k i e in let high = ltb-false k j d in omega (arith, low, high, is)))
    by_tests false e true d is =
        absurd (not_i (let low = ltb-true k j d in let high = ltb-false k i e in omega (arith, low, high, is)))

lower_below : (k j made : ℕ) → j < made → k < made → (j ≡ k → ⊥) → lower k j < made - 1
lower_below k j made low here other = by_tests (nat_lt k j) refl (j == k) refl
  where
    by_tests : (a : Bool) → nat_lt k j ≡ a → (b : Bool) → (j == k) ≡ b → cond a (j - 1) j < made - 1
    by_tests true e b d = let more = ltb-true k j e in omega (arith, low, more)
    by_tests false e true d = absurd (other (eqb-true j k d))
    by_tests false e false d = let less = ltb-false k j e in let ne = eqb-false j k d in omega (arith, low, here, less, ne)

same_count : (p q : ℕ → Bool) (n : ℕ) → ((i : ℕ) → i < n → p i ≡ q i) → count_below p n ≡ count_below q n
unfolding count_below
same_count p q zero h = refl
same_count p q (suc n) h = rw (h n (omega arith)) (ap (λ m. cond (q n) 1 0 + m) (same_count p q n (λ i low. h i (omega (arith, low)))))

is_some-map : (f : ℕ → ℕ) (o : Option ℕ) → is_some (option_map f o) ≡ is_some o
is_some-map f None = refl
is_some-map f (Some k) = refl

from_map : (f : ℕ → ℕ) (o : Option ℕ) (k : ℕ) → option_map f o ≡ Some k → (j : ℕ) × (o ≡ Some j) × (f j ≡ k)
from_map f None k is = cc is
from_map f (Some j) k is = (j, refl, cc is)

-- as many places at most as there are numbers
few_places : (n made : ℕ) (at : ℕ → Option ℕ) → Apart n made at → count_below (λ i. is_some (at i)) n ≤ made
unfolding count_below
few_places zero made at h = omega arith
few_places (suc n) made at h = by_last (at n) refl (λ less at'. few_places n less at')
  where
    inner : Apart n made at
    inner = record {
      below = λ i k low. h.below i k (omega (arith, low));
      once = λ i j k low less. h.once i j k (omega (arith, low)) (omega (arith, less));
    }

    by_last : (o : Option ℕ) → at n ≡ o
        → ((less : ℕ) (at' : ℕ → Option ℕ) → Apart n less at' → count_below (λ i. is_some (at' i)) n ≤ less)
        → cond (is_some (at n)) 1 0 + count_below (λ i. is_some (at i)) n ≤ made
    by_last None is more = let few = more made at inner in rw is (omega (arith, few))
    by_last (Some k) is more =
        let here : k < made = h.below n k (omega arith) is in
        let few = more (made - 1) (λ i. option_map (lower k) (at i)) moved in
        let same = same_count (λ i. is_some (option_map (lower k) (at i))) (λ i. is_some (at i)) n
        (λ i low. is_some-map (lower k) (at i)) in
        rw is (omega (arith, here, few, same))
      where
        other : (i j : ℕ) → i < n → at i ≡ Some j → j ≡ k → ⊥
        other i j low there same =
            let one : i ≡ n = h.once i n j (omega (arith, low)) (omega arith) there (is ∙ ap Some (sym same)) in omega (arith, low, one)

        moved : Apart n (made - 1) (λ i. option_map (lower k) (at i))
        moved = record {
          below = λ i j low there.
              let from = from_map (lower k) (at i) j there in
              subst (λ v. v < made - 1) from.2 (lower_below k from.0 made (inner.below i from.0 low from.1) (h.below n k (omega arith) is)
              (other i from.0 low from.1));
          once = λ i j v low less there too.
              let from = from_map (lower k) (at i) v there in
              let also = from_map (lower k) (at j) v too in
              let same : from.0 ≡ also.0 = lower_apart k from.0 also.0 (other i from.0 low from.1) (other j also.0 less also.1)
              (from.2 ∙ sym also.2) in
              inner.once i j from.0 low less from.1 (also.1 ∙ ap Some (sym same));
        }

-- the version array page that a frame holds
abbrev array_of : Content → Option ℕ
array_of (IsVa number) = Some number
array_of _ = None

array_there : (c : Content) (k : ℕ) → array_of c ≡ Some k → c ≡ IsVa k
array_there (IsVa number) k is = let same : number ≡ k = cc is in ap IsVa same
array_there Free k is = cc is
array_there (SecsOf enclave) k is = cc is
array_there (Holds page kind perm) k is = cc is
array_there (IsLoading page) k is = cc is

is_some-array : (c : Content) → is_some (array_of c) ≡ is_va c
is_some-array (IsVa number) = refl
is_some-array Free = refl
is_some-array (SecsOf enclave) = refl
is_some-array (Holds page kind perm) = refl
is_some-array (IsLoading page) = refl

-- so where a version array page that was made is in no frame, fewer frames hold one than were made
pub fewer_arrays : (frames made k : ℕ) (held : ℕ → Content) → ArraysApart made held → k < made → ((n : ℕ) → held n ≡ IsVa k → ⊥)
    → count_below (λ n. is_va (held n)) frames < made
unfolding count_below
fewer_arrays frames made k held h low away =
    let few = few_places (suc frames) made at apart in
    let same = same_count (λ n. is_some (at n)) (λ n. is_va (held n)) frames
    (λ i less. ap is_some (elsewhere i less) ∙ is_some-array (held i)) in
    omega (arith, rw (eq-eqb frames frames refl) at few, same)
  where
    at : ℕ → Option ℕ
    at n = cond (frames == n) (Some k) (array_of (held n))

    elsewhere : (i : ℕ) → i < frames → at i ≡ array_of (held i)
    elsewhere i less = by_test (frames == i) refl
      where
        by_test : (b : Bool) → (frames == i) ≡ b → cond b (Some k) (array_of (held i)) ≡ array_of (held i)
        by_test true e = let same = eqb-true frames i e in absurd (omega (arith, same, less))
        by_test false e = refl

    apart : Apart (suc frames) made at
    apart = record {
      below = λ i j less. by_below i j (frames == i) refl;
      once = λ i j v less more. by_once i j v (frames == i) refl (frames == j) refl;
    }
      where
        by_below : (i j : ℕ) (b : Bool) → (frames == i) ≡ b → cond b (Some k) (array_of (held i)) ≡ Some j → j < made
        by_below i j true e is = subst (λ v. v < made) (let same : k ≡ j = cc is in same) low
        by_below i j false e is = h.below i j (ap array_in (array_there (held i) j is))

        by_once : (i j v : ℕ) (b : Bool) → (frames == i) ≡ b → (d : Bool) → (frames == j) ≡ d
            → cond b (Some k) (array_of (held i)) ≡ Some v → cond d (Some k) (array_of (held j)) ≡ Some v → i ≡ j
        by_once i j v true e true d there too = sym (eqb-true frames i e) ∙ eqb-true frames j d
        by_once i j v false e false d there too = h.once i j v (array_there (held i) v there) (array_there (held j) v too)
        by_once i j v true e false d there too =
            absurd (away j (array_there (held j) k (too ∙ ap Some (let same : v ≡ k = cc there in same))))
        by_once i j v false e true d there too =
            absurd (away i (array_there (held i) k (there ∙ ap Some (let same : v ≡ k = cc too in same))))
