-- What the last of items up to a place tells, by how many items there are up to it.
use Rattle.std.proofs.Common.{◌≡◌, ℕ, zero, suc, ◌<◌, ◌≤◌, true, false, nat_le, if◌then◌else◌}
use Rattle.std.proofs.Common.{List, [], ◌∷◌, ◌++◌, length, get_or, refl, arith}
use Rattle.trace_spans.specs.inner.Last.{last_from}

-- where all items are later
pub none_up_to : {A B : Type 0} (place : A → ℕ) (told : A → B) (first : B) (xs : List A) (n : ℕ) (d : A)
    → ((k : ℕ) → k < length xs → nat_le (place (get_or xs k d)) n ≡ false) → last_from place told first xs n ≡ first
none_up_to place told first [] n d later = refl
none_up_to place told first (x ∷ xs) n d later =
    rw (later 0 (omega arith)) (none_up_to place told first xs n d (λ k h. later (suc k) (omega (arith, h))))

-- where so many are up to it, and those behind them are later
pub some_up_to : {A B : Type 0} (place : A → ℕ) (told : A → B) (first : B) (xs : List A) (n i : ℕ) (d : A) → i < length xs
    → ((k : ℕ) → k ≤ i → nat_le (place (get_or xs k d)) n ≡ true)
    → ((k : ℕ) → i < k → k < length xs → nat_le (place (get_or xs k d)) n ≡ false)
    → last_from place told first xs n ≡ told (get_or xs i d)
some_up_to place told first [] n i d within up later = absurd (omega (arith, within))
some_up_to place told first (x ∷ xs) n zero d within up later =
    rw (up 0 (omega arith))
    (none_up_to place told (told x) xs n d (λ k h. later (suc k) (omega arith) (omega (arith, h))))
some_up_to place told first (x ∷ xs) n (suc i) d within up later =
    rw (up 0 (omega arith))
    (some_up_to place told (told x) xs n i d (omega (arith, within)) (λ k h. up (suc k) (omega (arith, h)))
    (λ k h l. later (suc k) (omega (arith, h)) (omega (arith, l))))

pub last_append : {A B : Type 0} (place : A → ℕ) (told : A → B) (first : B) (xs ys : List A) (n : ℕ)
    → last_from place told first (xs ++ ys) n ≡ last_from place told (last_from place told first xs n) ys n
last_append place told first [] ys n = refl
last_append place told first (x ∷ xs) ys n = last_append place told (if nat_le (place x) n then told x else first) xs ys n
