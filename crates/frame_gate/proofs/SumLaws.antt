-- Lists of views, and their sums.
use Rattle.std.proofs.Common.{◌≡◌, ◌≢◌, ℕ, zero, suc, ◌+◌, ◌*◌, ◌<◌, ◌≤◌, List, []}
use Rattle.std.proofs.Common.{◌∷◌, ◌++◌, length, set, refl, sym, ap, subst, ⊎_elim, arith}
use mathlib.Core.Option.{some, some-injective, some-ne-none}
use lib.ListN.{get_elem?}
use Rattle.frame_gate.specs.inner.Rule.{total}
use Rattle.atomic_table.proofs.Lists.{at_set}

module _ {A : Type 0} where
  pub inside : (l : List A) (i : ℕ) (a : A) → get_elem? l i ≡ some a → i < length l
  inside [] i a e = absurd (some-ne-none a (sym e))
  inside (x ∷ xs) zero a e = omega arith
  inside (x ∷ xs) (suc i) a e = let r = inside xs i a e in omega arith

  pub each_set : (P : ℕ → A → Type 0) (views : List A) (id : ℕ) (w : A) → P id w →
      ((j : ℕ) (v : A) → j ≢ id → get_elem? views j ≡ some v → P j v) → (j : ℕ) (v : A) → get_elem? (set views id w) j ≡ some v → P j v
  each_set P views id w mine others j v e =
      ⊎_elim
      (λ (t : (j ≡ id) × (w ≡ v)). subst (λ (y : ℕ × A). P y.0 y.1) (λ i. (sym t.0 i, t.1 i)) mine)
      (λ (t : (j ≢ id) × (get_elem? views j ≡ some v)). others j v t.0 t.1)
      (at_set views id j w v e)

  pub sum_set : (f : A → ℕ) (vs : List A) (i : ℕ) (v w : A) → get_elem? vs i ≡ some v → total f (set vs i w) + f v ≡ total f vs + f w
  sum_set f [] i v w e = absurd (some-ne-none v (sym e))
  sum_set f (x ∷ xs) zero v w e = let is : f x ≡ f v = ap f (some-injective x v e) in omega arith
  sum_set f (x ∷ xs) (suc i) v w e = let r = sum_set f xs i v w e in omega arith

  pub sum_snoc : (f : A → ℕ) (vs : List A) (w : A) → total f (vs ++ w ∷ []) ≡ total f vs + f w
  sum_snoc f [] w = omega arith
  sum_snoc f (x ∷ xs) w = let r = sum_snoc f xs w in omega arith

  pub sum_below : (f g : A → ℕ) (vs : List A) → ((i : ℕ) (v : A) → get_elem? vs i ≡ some v → f v ≤ 134217728 * g v)
      → total f vs ≤ 134217728 * total g vs
  sum_below f g [] h = omega arith
  sum_below f g (x ∷ xs) h = let a = h 0 x refl in let r = sum_below f g xs (λ i v e. h (suc i) v e) in omega arith

  pub sum_none : (f : A → ℕ) (vs : List A) → ((i : ℕ) (v : A) → get_elem? vs i ≡ some v → f v ≡ 0) → total f vs ≡ 0
  sum_none f [] h = refl
  sum_none f (x ∷ xs) h = let a = h 0 x refl in let r = sum_none f xs (λ i v e. h (suc i) v e) in omega arith

  pub none_each : (f : A → ℕ) (vs : List A) (i : ℕ) (v : A) → total f vs ≡ 0 → get_elem? vs i ≡ some v → f v ≡ 0
  none_each f [] i v z e = absurd (some-ne-none v (sym e))
  none_each f (x ∷ xs) zero v z e = let is : f x ≡ f v = ap f (some-injective x v e) in omega arith
  none_each f (x ∷ xs) (suc i) v z e = none_each f xs i v (omega arith) e

  pub one_of : (f : A → ℕ) (vs : List A) (i : ℕ) (v : A) → get_elem? vs i ≡ some v → f v ≤ total f vs
  one_of f [] i v e = absurd (some-ne-none v (sym e))
  one_of f (x ∷ xs) zero v e = let is : f x ≡ f v = ap f (some-injective x v e) in omega arith
  one_of f (x ∷ xs) (suc i) v e = let r = one_of f xs i v e in omega arith
