-- The place in a list up to which something is done.
use Rattle.std.proofs.Common.{◌≡◌, ℕ, zero, suc, ◌+◌, ◌<◌, ◌≤◌, nat_lt, true, false, refl, ap, List, [], ◌∷◌}
use Rattle.std.proofs.Common.{Option, Some, None, drop, length, slice_get, arith}
use Rattle.driver_pass.specs.inner.Noted.{behind}

abbrev pub head : {A : Type 0} → List A → Option A
head [] = None
head (x ∷ xs) = Some x

pub get_drop : {A : Type 0} (xs : List A) (n : ℕ) → slice_get xs n ≡ head (drop n xs)
get_drop [] zero = refl
get_drop [] (suc n) = refl
get_drop (x ∷ xs) zero = refl
get_drop (x ∷ xs) (suc n) = get_drop xs n

pub drop_next : {A : Type 0} (n : ℕ) (xs : List A) (x : A) (ys : List A) → drop n xs ≡ x ∷ ys → drop (n + 1) xs ≡ ys
drop_next zero [] x ys h = cc
drop_next zero (z ∷ zs) x ys h = ap (drop 1) h
drop_next (suc n) [] x ys h = cc
drop_next (suc n) (z ∷ zs) x ys h = let e : suc n + 1 ≡ suc (n + 1) = omega arith in rw e (drop_next n zs x ys h)

past_end : {A : Type 0} (n : ℕ) (xs : List A) → drop n xs ≡ [] → length xs ≤ n
past_end zero [] h = omega arith
past_end zero (z ∷ zs) h = cc
past_end (suc n) [] h = omega arith
past_end (suc n) (z ∷ zs) h = let low = past_end n zs h in omega (arith, low)

before_end : {A : Type 0} (n : ℕ) (xs : List A) (x : A) (ys : List A) → drop n xs ≡ x ∷ ys → n < length xs
before_end zero [] x ys h = cc
before_end zero (z ∷ zs) x ys h = omega arith
before_end (suc n) [] x ys h = cc
before_end (suc n) (z ∷ zs) x ys h = let low = before_end n zs x ys h in omega (arith, low)

-- behind the last place there is none, and else there is the next
pub behind_last : {A : Type 0} (n : ℕ) (xs : List A) → drop (n + 1) xs ≡ [] → behind n (length xs) ≡ None
behind_last n xs h =
    let low = past_end (n + 1) xs h in
    let last : nat_lt (n + 1) (length xs) ≡ false = grind (arith, low) in
    rw last refl

pub behind_more : {A : Type 0} (n : ℕ) (xs : List A) (x : A) (ys : List A) → drop (n + 1) xs ≡ x ∷ ys
    → behind n (length xs) ≡ Some (n + 1)
behind_more n xs x ys h =
    let low = before_end (n + 1) xs x ys h in
    let more : nat_lt (n + 1) (length xs) ≡ true = grind (arith, low) in
    rw more refl
