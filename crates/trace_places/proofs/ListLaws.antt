-- A number that is put among rising ones, and one that is taken out.
use Rattle.std.proofs.Common.{◌≡◌, ℕ, zero, suc, ◌<◌, ◌≤◌}
use Rattle.std.proofs.Common.{List, [], ◌∷◌, length, get_or, refl, ap, arith}
use Rattle.std.specs.List.{insert, remove}
use Rattle.std.proofs.lemmas.Bool.{lt-ltb, le-ltb, eq-eqb, ne_eqb}
use Rattle.trace_places.specs.Places.{put_in, take_out}

-- where the first number from n on is n, it is among them
pub put_there : (ms : List ℕ) (n place : ℕ) → ((k : ℕ) → k < place → get_or ms k 0 < n) → place < length ms → get_or ms place 0 ≡ n
    → ms ≡ put_in n ms
put_there [] n place before within is = absurd (omega (arith, within))
put_there (m ∷ ms) n zero before within is =
    rw (le-ltb m n (omega (arith, is)), eq-eqb m n is) refl
put_there (m ∷ ms) n (suc place) before within is =
    rw (lt-ltb m n (before 0 (omega arith)))
    (ap (λ rest. m ∷ rest) (put_there ms n place (λ k h. before (suc k) (omega (arith, h))) (omega (arith, within)) is))

-- else it comes before that one
pub put_before : (ms : List ℕ) (n place : ℕ) → place ≤ length ms → ((k : ℕ) → k < place → get_or ms k 0 < n)
    → (place < length ms → n < get_or ms place 0) → insert ms place n ≡ put_in n ms
put_before [] n zero within before from = refl
put_before [] n (suc place) within before from = absurd (omega (arith, within))
put_before (m ∷ ms) n zero within before from =
    let above : n < m = from (omega arith) in
    rw (le-ltb m n (omega (arith, above)), ne_eqb m n (λ e. omega (arith, above, e))) refl
put_before (m ∷ ms) n (suc place) within before from =
    rw (lt-ltb m n (before 0 (omega arith)))
    (ap (λ rest. m ∷ rest)
    (put_before ms n place (omega (arith, within)) (λ k h. before (suc k) (omega (arith, h))) (λ h. from (omega (arith, h)))))

-- where the first number from n on is n, it is taken out
pub take_there : (ms : List ℕ) (n place : ℕ) → ((k : ℕ) → k < place → get_or ms k 0 < n) → place < length ms → get_or ms place 0 ≡ n
    → remove ms place ≡ take_out n ms
take_there [] n place before within is = absurd (omega (arith, within))
take_there (m ∷ ms) n zero before within is = rw (le-ltb m n (omega (arith, is)), eq-eqb m n is) refl
take_there (m ∷ ms) n (suc place) before within is =
    rw (lt-ltb m n (before 0 (omega arith)))
    (ap (λ rest. m ∷ rest) (take_there ms n place (λ k h. before (suc k) (omega (arith, h))) (omega (arith, within)) is))

-- else it is not among them
pub take_none : (ms : List ℕ) (n place : ℕ) → place ≤ length ms → ((k : ℕ) → k < place → get_or ms k 0 < n)
    → (place < length ms → n < get_or ms place 0) → ms ≡ take_out n ms
take_none [] n place within before from = refl
take_none (m ∷ ms) n zero within before from =
    let above : n < m = from (omega arith) in
    rw (le-ltb m n (omega (arith, above)), ne_eqb m n (λ e. omega (arith, above, e))) refl
take_none (m ∷ ms) n (suc place) within before from =
    rw (lt-ltb m n (before 0 (omega arith)))
    (ap (λ rest. m ∷ rest)
    (take_none ms n place (omega (arith, within)) (λ k h. before (suc k) (omega (arith, h))) (λ h. from (omega (arith, h)))))
