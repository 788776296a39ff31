-- When nothing is left to the processors.
use Rattle.std.proofs.Common.{◌≡◌, ℕ, ◌+◌, ◌<◌, ◌==◌, Bool, true, false, arith, refl, sym, subst, ◌∙◌}
use Rattle.run_book.specs.inner.Views.{BookView}
use Rattle.run_rounds.specs.inner.Rests.{CpuRests, CpusRest}

-- one processor more
rest_more : (b : BookView) (n : ℕ) → CpusRest b n → CpuRests b n → CpusRest b (n + 1)
rest_more b n rest one p low = by_place (p == n) refl
  where
    by_place : (is_it : Bool) → (p == n) ≡ is_it → CpuRests b p
    by_place true is =
        let same : p ≡ n = grind (arith, is) in
        subst (CpuRests b) (sym same) one
    by_place false is =
        let less : p < n = grind (arith, is, low) in
        rest p less

-- .. whose turn left the book as the turns before it did
pub rested_more : (old b new : BookView) (n : ℕ) → (b ≡ old) × CpusRest b n → (new ≡ b) × CpuRests new n
    → (new ≡ old) × CpusRest new (n + 1)
rested_more old b new n (before, rest) (same, one) = (
  same ∙ before,
  rest_more new n (subst (λ x. CpusRest x n) (sym same) rest) one,
)
