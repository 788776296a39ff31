-- Facts on truth values, and on tests of numbers.
use Rattle.std.proofs.Common.{◌≡◌, ℕ, ◌+◌, ◌==◌, ◌&&◌, ◌||◌, not, Bool, true, false, refl, sym, ◌∙◌, ◌⊎◌, inl}
use Rattle.std.proofs.Common.{inr, arith, nat_lt}
use Rattle.std.proofs.lemmas.Bool.{eqb-true, eq-eqb, false≢true}

-- where both of two are true, each is
pub both_true : (a b : Bool) → (a && b) ≡ true → (a ≡ true) × (b ≡ true)
both_true true b h = (refl, h)
both_true false b h = cc

-- where one of two or the other is false, each is
pub neither : (a b : Bool) → (a || b) ≡ false → (a ≡ false) × (b ≡ false)
neither true b h = cc
neither false b h = (refl, h)

-- where one of two or the other is true, one is
pub either : (a b : Bool) → (a || b) ≡ true → (a ≡ true) ⊎ (b ≡ true)
either true b h = inl refl
either false b h = inr h

-- .. and it is so where the first is
pub left_true : (a b : Bool) → a ≡ true → (a || b) ≡ true
left_true true b h = refl
left_true false b h = cc

-- of three the first two in the other order
pub or_swap : (a b c : Bool) → (a || (b || c)) ≡ (b || (a || c))
or_swap true true c = refl
or_swap true false c = refl
or_swap false b c = refl

-- what is not untrue is true
pub not_false : (b : Bool) → not b ≡ false → b ≡ true
not_false true h = refl
not_false false h = cc

-- the two outcomes of a test
pub tested : (b : Bool) → (b ≡ true) ⊎ (b ≡ false)
tested true = inl refl
tested false = inr refl

-- numbers that are not equal are told apart
pub apart : (f n : ℕ) → (f ≡ n → ⊥) → (f == n) ≡ false
apart f n h = by_test (f == n) refl
  where
    by_test : (b : Bool) → (f == n) ≡ b → b ≡ false
    by_test true e = absurd (h (eqb-true f n e))
    by_test false e = refl

-- a number is equal to itself
pub eqb-refl : (n : ℕ) → (n == n) ≡ true
eqb-refl n = eq-eqb n n refl

-- a test of two numbers goes either way round
pub eqb-swap : (a b : ℕ) → (a == b) ≡ (b == a)
eqb-swap a b = by_test (a == b) refl
  where
    by_test : (x : Bool) → (a == b) ≡ x → x ≡ (b == a)
    by_test true e = sym (eq-eqb b a (sym (eqb-true a b e)))
    by_test false e = sym (apart b a (λ same. false≢true (sym e ∙ eq-eqb a b (sym same))))

-- ---- a limit that grows by one

pub lt_more : (a m : ℕ) → nat_lt a m ≡ true → nat_lt a (m + 1) ≡ true
lt_more a m low = grind (arith, low)

pub lt_one : (a m : ℕ) → m ≡ a → nat_lt a (m + 1) ≡ true
lt_one a m one = grind (arith, one)

pub lt_self : (a m : ℕ) → m ≡ a → nat_lt a m ≡ false
lt_self a m one = grind (arith, one)

pub lt_other : (a m : ℕ) → (m == a) ≡ false → nat_lt a (m + 1) ≡ nat_lt a m
lt_other a m other = grind (arith, other)

pub lt_last : (a m : ℕ) → nat_lt a m ≡ false → nat_lt a (m + 1) ≡ true → (m == a) ≡ true
lt_last a m high low = grind (arith, high, low)
