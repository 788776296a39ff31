-- The least number that passes a test.
use Rattle.std.proofs.Common.{◌≡◌, ℕ, zero, suc, ◌<◌, ◌==◌, Bool, true, false, refl, sym, ap, ◌∙◌, subst, Option, Some, None}
use Rattle.std.proofs.Common.{nat_lt, arith}
use Rattle.std.proofs.lemmas.Bool.{eqb-true, eqb-false, false≢true, ltb-true, ltb-false}
use Rattle.sgx_types.specs.Counts.{earlier_or, least_below}

-- a number passes, is below another, and none before it passes
pub record IsLeast (test : ℕ → Bool) (n k : ℕ) : Type 0 where
  pub below : k < n
  pub passes : test k ≡ true
  pub least : (j : ℕ) → j < k → test j ≡ false

abbrev pub IsLeastOr : (ℕ → Bool) → ℕ → Option ℕ → Type 0
IsLeastOr test n None = (k : ℕ) → k < n → test k ≡ false
IsLeastOr test n (Some k) = IsLeast test n k

-- what is found is the least, and where none is found none passes
pub least_found : (test : ℕ → Bool) (n : ℕ) → IsLeastOr test n (least_below test n)
unfolding least_below
least_found test zero = λ k low. absurd (omega (arith, low))
least_found test (suc n) = by_found (least_below test n) (test n) refl (least_found test n)
  where
    by_found : (o : Option ℕ) (b : Bool) → test n ≡ b → IsLeastOr test n o → IsLeastOr test (suc n) (earlier_or o b n)
    by_found (Some k) b here was = record { below = omega (arith, was.below); passes = was.passes; least = was.least }
    by_found None true here none = record { below = omega arith; passes = here; least = none }
    by_found None false here none = λ k low. last_or_before k low (k == n) refl
      where
        last_or_before : (k : ℕ) → k < suc n → (b : Bool) → (k == n) ≡ b → test k ≡ false
        last_or_before k low true e = ap test (eqb-true k n e) ∙ here
        last_or_before k low false e = none k (omega (arith, low, eqb-false k n e))

-- so the least is what is found
pub least_is : (test : ℕ → Bool) (n k : ℕ) → IsLeast test n k → least_below test n ≡ Some k
least_is test n k h = by_found (least_below test n) refl (least_found test n)
  where
    by_order : (j : ℕ) → IsLeast test n j → (a : Bool) → nat_lt j k ≡ a → (b : Bool) → nat_lt k j ≡ b → j ≡ k
    by_order j was true low b e = absurd (false≢true (sym (h.least j (ltb-true j k low)) ∙ was.passes))
    by_order j was false le true low = absurd (false≢true (sym (was.least k (ltb-true k j low)) ∙ h.passes))
    by_order j was false le false ge = omega (arith, ltb-false j k le, ltb-false k j ge)

    by_found : (o : Option ℕ) → least_below test n ≡ o → IsLeastOr test n o → least_below test n ≡ Some k
    by_found None is none = absurd (false≢true (sym (none k h.below) ∙ h.passes))
    by_found (Some j) is was = is ∙ ap Some (by_order j was (nat_lt j k) refl (nat_lt k j) refl)

-- .. and what is found is the least
pub is_least : (test : ℕ → Bool) (n k : ℕ) → least_below test n ≡ Some k → IsLeast test n k
is_least test n k is = subst (IsLeastOr test n) is (least_found test n)

-- where none passes none is found
pub none_least : (test : ℕ → Bool) (n : ℕ) → ((k : ℕ) → k < n → test k ≡ false) → least_below test n ≡ None
none_least test n none = by_found (least_below test n) refl
  where
    by_found : (o : Option ℕ) → least_below test n ≡ o → o ≡ None
    by_found None is = refl
    by_found (Some k) is = let h = is_least test n k is in absurd (false≢true (sym (none k h.below) ∙ h.passes))

-- tests that agree find the same
pub least_agrees : (p q : ℕ → Bool) (n : ℕ) → ((k : ℕ) → k < n → p k ≡ q k) → least_below p n ≡ least_below q n
least_agrees p q n same = by_found (least_below q n) refl (least_found q n)
  where
    by_found : (o : Option ℕ) → least_below q n ≡ o → IsLeastOr q n o → least_below p n ≡ least_below q n
    by_found None is none = none_least p n (λ k low. same k low ∙ none k low) ∙ sym is
    by_found (Some k) is h = least_is p n k (record {
      below = h.below;
      passes = same k h.below ∙ h.passes;
      least = λ j less. same j (omega (arith, less, h.below)) ∙ h.least j less;
    }) ∙ sym is
