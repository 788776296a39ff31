-- The least of some numbers that passes.
use Rattle.std.proofs.Common.{◌≡◌, ℕ, zero, suc, ◌+◌, ◌-◌, ◌<◌, ◌≤◌, Bool, false, if◌then◌else◌, refl, ◌∙◌, ap, Some, None, arith}
use Rattle.driver_rules.specs.Spares.{least_from}

-- by tests that agree on them
pub least_same : (p q : ℕ → Bool) (n count : ℕ) → ((i : ℕ) → n ≤ i → i < n + count → p i ≡ q i)
    → least_from p n count ≡ least_from q n count
least_same p q n zero h = refl
least_same p q n (suc count) h =
    rw (h n (omega arith) (omega arith), least_same p q (n + 1) count (λ i from low. h i (omega (arith, from)) (omega (arith, low)))) refl

-- where none passes
pub least_none : (p : ℕ → Bool) (n count : ℕ) → ((i : ℕ) → n ≤ i → p i ≡ false) → least_from p n count ≡ None
least_none p n zero h = refl
least_none p n (suc count) h = rw (h n (omega arith)) (least_none p (n + 1) count (λ i from. h i (omega (arith, from))))

-- none of those behind passes
pub least_more : (p : ℕ → Bool) (n few more : ℕ) → ((i : ℕ) → n + few ≤ i → p i ≡ false)
    → least_from p n (few + more) ≡ least_from p n few
least_more p n zero more h =
    let e : zero + more ≡ more = omega arith in rw e (least_none p n more (λ i from. h i (omega (arith, from))))
least_more p n (suc few) more h =
    let e : suc few + more ≡ suc (few + more) = omega arith in
    rw e (ap (λ o. if p n then Some n else o) (least_more p (n + 1) few more (λ i from. h i (omega (arith, from)))))

-- ---- one number at a time

-- the first of some that are left
next : (p : ℕ → Bool) (n len : ℕ) → n < len → least_from p n (len - n) ≡ least_from p n (suc (len - (n + 1)))
next p n len low = let e : len - n ≡ suc (len - (n + 1)) = omega (arith, low) in ap (least_from p n) e

pub next_fails : (p : ℕ → Bool) (n len : ℕ) → n < len → p n ≡ false → least_from p n (len - n) ≡ least_from p (n + 1) (len - (n + 1))
next_fails p n len low is = next p n len low ∙ rw is refl
