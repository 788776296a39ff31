-- The processors that keep a page back, as bits and by their number.
use Rattle.std.proofs.Common.{◌≡◌, ℕ, zero, suc, ◌+◌, ◌-◌, ◌<◌, ◌≤◌, ◌==◌, Bool, true, false, if◌then◌else◌, refl, sym, ◌∙◌, ap}
use Rattle.std.proofs.Common.{List, [], ◌∷◌, ◌++◌, length, arith}
use Rattle.std.proofs.lemmas.Bool.{eqb-true}
use Rattle.std.specs.List.{list_any}
use Rattle.driver_pass.specs.inner.Keeping.{passing_from}
use Rattle.driver_reclaim.specs.inner.Answers.{bits_from, bits_of}

-- how many of so many processors from a number on pass
abbrev pub count_from : (ℕ → Bool) → ℕ → ℕ → ℕ
count_from test p zero = 0
count_from test p (suc count) = (if test p then 1 else 0) + count_from test (p + 1) count

abbrev member : ℕ → List ℕ → Bool
member p ps = list_any (λ q. q == p) ps

bits_same : (a b : ℕ → Bool) (from count : ℕ) → ((p : ℕ) → from ≤ p → p < from + count → a p ≡ b p)
    → bits_from a from count ≡ bits_from b from count
bits_same a b from zero h = refl
bits_same a b from (suc count) h =
    rw (h from (omega arith) (omega arith), bits_same a b (from + 1) count (λ p low high. h p (omega (arith, low)) (omega (arith, high))))
    refl

bits_none : (test : ℕ → Bool) (from count : ℕ) → ((p : ℕ) → from ≤ p → test p ≡ false) → bits_from test from count ≡ 0
bits_none test from zero h = refl
bits_none test from (suc count) h = rw (h from (omega arith), bits_none test (from + 1) count (λ p low. h p (omega (arith, low))))
    (omega arith)

bits_more : (test : ℕ → Bool) (from few more : ℕ) → ((p : ℕ) → from + few ≤ p → test p ≡ false)
    → bits_from test from (few + more) ≡ bits_from test from few
bits_more test from zero more h = let e : zero + more ≡ more = omega arith in rw e
    (bits_none test from more (λ p low. h p (omega (arith, low))))
bits_more test from (suc few) more h = let e : suc few + more ≡ suc (few + more) =
    omega arith in rw e (rw (bits_more test (from + 1) few more (λ p low. h p (omega (arith, low)))) refl)

module _ (test : ℕ → Bool) where
  not_before : (from count p : ℕ) → p < from → member p (passing_from test from count) ≡ false
  not_before from zero p low = refl
  not_before from (suc count) p low = by_test (not_before (from + 1) count p (omega (arith, low))) (test from)
    where
      other : (from == p) ≡ false
      other = grind arith

      by_test : member p (passing_from test (from + 1) count) ≡ false → (t : Bool)
          → member p ((if t then from ∷ [] else []) ++ passing_from test (from + 1) count) ≡ false
      by_test rest true = rw (other, rest) refl
      by_test rest false = rest

  not_behind : (from count p : ℕ) → from + count ≤ p → member p (passing_from test from count) ≡ false
  not_behind from zero p low = refl
  not_behind from (suc count) p low = by_test (not_behind (from + 1) count p (omega (arith, low))) (test from)
    where
      other : (from == p) ≡ false
      other = grind arith

      by_test : member p (passing_from test (from + 1) count) ≡ false → (t : Bool)
          → member p ((if t then from ∷ [] else []) ++ passing_from test (from + 1) count) ≡ false
      by_test rest true = rw (other, rest) refl
      by_test rest false = rest

  members : (from count p : ℕ) → from ≤ p → p < from + count → member p (passing_from test from count) ≡ test p
  members from zero p low high = absurd (omega (arith, low, high))
  members from (suc count) p low high = by_place (λ l h. members (from + 1) count p l h) (from == p) refl
    where
      here : (t : Bool) → (from == p) ≡ true → member p ((if t then from ∷ [] else []) ++ passing_from test (from + 1) count) ≡ t
      here true is = rw is refl
      here false is = not_before (from + 1) count p (let same = eqb-true from p is in omega (arith, same))

      later : (t : Bool) → (from == p) ≡ false → member p ((if t then from ∷ [] else []) ++ passing_from test (from + 1) count) ≡
          member p (passing_from test (from + 1) count)
      later true is = rw is refl
      later false is = refl

      by_place : (from + 1 ≤ p → p < (from + 1) + count → member p (passing_from test (from + 1) count) ≡ test p) → (t : Bool)
          → (from == p) ≡ t → member p (passing_from test from (suc count)) ≡ test p
      by_place rest true is = here (test from) is ∙ ap test (eqb-true from p is)
      by_place rest false is = later (test from) is ∙ rest (grind arith) (omega (arith, high))

  pub bits_are : (n : ℕ) → n ≤ 16 → bits_from test 0 n ≡ bits_of (passing_from test 0 n)
  bits_are n few =
      bits_same test (λ p. member p (passing_from test 0 n)) 0 n (λ p low high. sym (members 0 n p low high))
      ∙ sym (bits_more (λ p. member p (passing_from test 0 n)) 0 n (16 - n) (λ p low. not_behind 0 n p low))
      ∙ ap (bits_from (λ p. member p (passing_from test 0 n)) 0) sixteen
    where
      sixteen : n + (16 - n) ≡ 16
      sixteen = omega (arith, few)

  pub count_is : (from count : ℕ) → count_from test from count ≡ length (passing_from test from count)
  count_is from zero = refl
  count_is from (suc count) = by_test (count_is (from + 1) count) (test from)
    where
      by_test : count_from test (from + 1) count ≡ length (passing_from test (from + 1) count) → (t : Bool)
          → (if t then 1 else 0) + count_from test (from + 1) count
          ≡ length ((if t then from ∷ [] else []) ++ passing_from test (from + 1) count)
      by_test rest true = rw rest (omega arith)
      by_test rest false = rw rest (omega arith)
