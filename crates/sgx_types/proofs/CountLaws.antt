-- Laws of counts below a number.
use Rattle.std.proofs.Common.{◌≡◌, ℕ, zero, suc, ◌+◌, ◌<◌, ◌≤◌, ◌==◌, ◌||◌, ◌&&◌, not, Bool, true, false, cond, refl, ap, sym}
use Rattle.std.proofs.Common.{subst, ◌∙◌}
use Rattle.std.proofs.Common.{◌⊎◌, inl, inr, ⊎_elim, arith}
use Rattle.std.proofs.lemmas.Bool.{cases_lt, eq-eqb, eqb-true, eqb-false, false≢true}
use Rattle.sgx_types.specs.Counts.{any_below, count_below}
use Rattle.sgx_types.proofs.Truths.{apart, tested}

-- 1 where a test passes, and else 0
abbrev pub one_if : Bool → ℕ
one_if b = cond b 1 0

-- tests that agree below a number have one count
pub count_below-same : (p q : ℕ → Bool) (n : ℕ) → ((k : ℕ) → k < n → p k ≡ q k) → count_below p n ≡ count_below q n
unfolding count_below
count_below-same p q zero same = refl
count_below-same p q (suc n) same = rw (same n (omega arith), count_below-same p q n (λ k low. same k (omega arith))) refl

-- .. so those that agree throughout
pub count_below-agrees : (p q : ℕ → Bool) → ((k : ℕ) → p k ≡ q k) → (n : ℕ) → count_below p n ≡ count_below q n
count_below-agrees p q h n = count_below-same p q n (λ k low. h k)

-- no more pass than there are
pub count_below-le : (test : ℕ → Bool) (n : ℕ) → count_below test n ≤ n
unfolding count_below
count_below-le test zero = omega arith
count_below-le test (suc n) = by_last (test n) (count_below-le test n)
  where
    by_last : (b : Bool) → count_below test n ≤ n → one_if b + count_below test n ≤ suc n
    by_last true h = omega (arith, h)
    by_last false h = omega (arith, h)

-- where one number passes that did not before, and each other one as before, one more passes
pub count_below-more : (less more : ℕ → Bool) (key : ℕ) → less key ≡ false → more key ≡ true
    → ((k : ℕ) → (key == k) ≡ false → less k ≡ more k) → (n : ℕ) → key < n → count_below more n ≡ count_below less n + 1
unfolding count_below
count_below-more less more key off on same zero low = absurd (omega arith)
count_below-more less more key off on same (suc n) low = by_test (count_below-more less more key off on same n) (key == n) refl
  where
    apart_from : (k : ℕ) → k < n → (b : Bool) → (key == k) ≡ b → key ≡ n → less k ≡ more k
    apart_from k below true is here = absurd (let there : key ≡ k = eqb-true key k is in omega arith)
    apart_from k below false is here = same k is

    by_test : (key < n → count_below more n ≡ count_below less n + 1) → (b : Bool) → (key == n) ≡ b
        → one_if (more n) + count_below more n ≡ (one_if (less n) + count_below less n) + 1
    by_test before true is =
        let here : key ≡ n = eqb-true key n is in
        let one : more n ≡ true = subst (λ k. more k ≡ true) here on in
        let none : less n ≡ false = subst (λ k. less k ≡ false) here off in
        let rest : count_below less n ≡ count_below more n = count_below-same less more n
        (λ k below. apart_from k below (key == k) refl here) in
        rw (one, none, rest) (omega arith)
    by_test before false is =
        let below : key < n = below_it (cases_lt key n) in
        let rest : count_below more n ≡ count_below less n + 1 = before below in
        rw (same n is, rest) (omega arith)
      where
        below_it : (key < n) ⊎ (n ≤ key) → key < n
        below_it (inl lt) = lt
        below_it (inr le) = absurd (false≢true (sym is ∙ eq-eqb key n (omega arith)))

-- where none passes the count is 0
pub count_below-zero : (test : ℕ → Bool) (n : ℕ) → ((k : ℕ) → k < n → test k ≡ false) → count_below test n ≡ 0
unfolding count_below
count_below-zero test zero h = refl
count_below-zero test (suc n) h = rw (h n (omega arith), count_below-zero test n (λ k low. h k (omega (arith, low)))) refl

-- .. and only there
pub count_below-none : (test : ℕ → Bool) (n : ℕ) → count_below test n ≡ 0 → (k : ℕ) → k < n → test k ≡ false
unfolding count_below
count_below-none test zero none k low = absurd (omega arith)
count_below-none test (suc n) none k low = by_test (test n) refl none (λ zeroes below. count_below-none test n zeroes k below)
  where
    by_test : (b : Bool) → test n ≡ b → one_if b + count_below test n ≡ 0 → (count_below test n ≡ 0 → k < n → test k ≡ false)
        → test k ≡ false
    by_test true is zeroes before = absurd (omega (arith, zeroes))
    by_test false is zeroes before = by_place (cases_lt k n)
      where
        by_place : (k < n) ⊎ (n ≤ k) → test k ≡ false
        by_place (inl lt) = before (omega (arith, zeroes)) lt
        by_place (inr le) = let here : k ≡ n = omega (arith, le, low) in ap test here ∙ is

-- not all pass where one does not
pub count_below-missing : (test : ℕ → Bool) (n key : ℕ) → test key ≡ false → key < n → count_below test n < n
unfolding count_below
count_below-missing test zero key off low = absurd (omega arith)
count_below-missing test (suc n) key off low = by_test (test n) refl (count_below-missing test n key off)
  where
    by_test : (b : Bool) → test n ≡ b → (key < n → count_below test n < n) → one_if b + count_below test n < suc n
    by_test false is before = let all = count_below-le test n in omega (arith, all)
    by_test true is before = let rest = before (below (cases_lt key n)) in omega (arith, rest)
      where
        below : (key < n) ⊎ (n ≤ key) → key < n
        below (inl lt) = lt
        below (inr le) = let here : key ≡ n = omega (arith, le, low) in absurd (false≢true (sym off ∙ (ap test here ∙ is)))

-- as many pass as there are where each passes
pub count_below-full : (test : ℕ → Bool) (n : ℕ) → ((k : ℕ) → k < n → test k ≡ true) → count_below test n ≡ n
unfolding count_below
count_below-full test zero all = refl
count_below-full test (suc n) all = rw (all n (omega arith), count_below-full test n (λ k low. all k (omega arith))) (omega arith)

-- .. and only there
pub count_below-all : (test : ℕ → Bool) (n : ℕ) → count_below test n ≡ n → (k : ℕ) → k < n → test k ≡ true
count_below-all test n full k low = by_test (test k) refl
  where
    by_test : (b : Bool) → test k ≡ b → b ≡ true
    by_test true is = refl
    by_test false is = let few = count_below-missing test n k is low in absurd (omega (arith, few, full))

-- none of the next ones passes
pub count_below-further : (test : ℕ → Bool) (n more : ℕ) → ((k : ℕ) → n ≤ k → k < n + more → test k ≡ false)
    → count_below test (n + more) ≡ count_below test n
unfolding count_below
count_below-further test n zero none = ap (count_below test) (omega arith)
count_below-further test n (suc more) none =
    let next : n + suc more ≡ suc (n + more) = omega arith in
    let rest : count_below test (n + more) ≡ count_below test n =
    count_below-further test n more (λ k from low. none k from (omega arith)) in
    ap (count_below test) next ∙ rw (none (n + more) (omega arith) (omega arith)) (omega (arith, rest))

-- what passes one test passes another beside it or not
pub one_of_those : (b c : Bool) → one_if (b && c) + one_if (b && not (b && c)) ≡ one_if b
one_of_those true true = refl
one_of_those true false = refl
one_of_those false c = refl

-- what passes one of two tests is counted by one of them
pub count_below-splits : (p q r : ℕ → Bool) → ((k : ℕ) → one_if (p k) + one_if (q k) ≡ one_if (r k)) → (n : ℕ)
    → count_below p n + count_below q n ≡ count_below r n
unfolding count_below
count_below-splits p q r h zero = refl
count_below-splits p q r h (suc n) =
    let now : one_if (p n) + one_if (q n) ≡ one_if (r n) = h n in
    let rest : count_below p n + count_below q n ≡ count_below r n = count_below-splits p q r h n in
    omega arith

-- what passes below a number is there
pub any_below-some : (p : ℕ → Bool) (n k : ℕ) → k < n → p k ≡ true → any_below p n ≡ true
unfolding any_below
any_below-some p zero k low is = absurd (omega arith)
any_below-some p (suc n) k low is =
    ⊎_elim (λ (here : k ≡ n). rw (ap p (sym here) ∙ is) refl)
    (λ (below : k < n). ap (λ b. p n || b) (any_below-some p n k below is) ∙ or_true (p n)) (last_or_below k n low)
  where
    or_true : (b : Bool) → (b || true) ≡ true
    or_true true = refl
    or_true false = refl

    last_or_below : (k n : ℕ) → k < suc n → (k ≡ n) ⊎ (k < n)
    last_or_below k n low = ⊎_elim (λ (same : (k == n) ≡ true). inl (eqb-true k n same))
        (λ (differ : (k == n) ≡ false). inr (omega (arith, eqb-false k n differ))) (tested (k == n))

-- none is there where none passes
pub any_below-none : (p : ℕ → Bool) (n : ℕ) → ((k : ℕ) → k < n → p k ≡ false) → any_below p n ≡ false
unfolding any_below
any_below-none p zero h = refl
any_below-none p (suc n) h = rw (h n (omega arith)) (any_below-none p n (λ k low. h k (omega arith)))

-- what is there passes, below the number
pub any_below-found : (p : ℕ → Bool) (n : ℕ) → any_below p n ≡ true → (k : ℕ) × (k < n) × (p k ≡ true)
unfolding any_below
any_below-found p zero is = cc
any_below-found p (suc n) is = by_test (p n) refl (any_below p n) is (any_below-found p n)
  where
    by_test : (b : Bool) → p n ≡ b → (c : Bool) → (b || c) ≡ true → (c ≡ true → (k : ℕ) × (k < n) × (p k ≡ true))
        → (k : ℕ) × (k < suc n) × (p k ≡ true)
    by_test true here c h below = (n, omega arith, here)
    by_test false here c h below = let k = below h in (k.0, omega (arith, k.1), k.2)

-- tests that agree find the same
pub any_below-agrees : (p q : ℕ → Bool) → ((k : ℕ) → p k ≡ q k) → (n : ℕ) → any_below p n ≡ any_below q n
unfolding any_below
any_below-agrees p q h zero = refl
any_below-agrees p q h (suc n) = rw (h n) (rw (any_below-agrees p q h n))

-- one number's test is changed
pub count_below-put : (test : ℕ → Bool) (n f : ℕ) (b : Bool) → f < n
    → count_below (λ k. cond (f == k) b (test k)) n + one_if (test f) ≡ count_below test n + one_if b
unfolding count_below
count_below-put test zero f b low = absurd (omega (arith, low))
count_below-put test (suc n) f b low = by_place (f == n) refl (count_below-put test n f b)
  where
    by_place : (here : Bool) → (f == n) ≡ here
        → (f < n → count_below (λ k. cond (f == k) b (test k)) n + one_if (test f) ≡ count_below test n + one_if b)
        → (cond (cond (f == n) b (test n)) 1 0 + count_below (λ k. cond (f == k) b (test k)) n) + one_if (test f)
        ≡ (cond (test n) 1 0 + count_below test n) + one_if b
    by_place true here before =
        let place : f ≡ n = eqb-true f n here in
        let rest : count_below (λ k. cond (f == k) b (test k)) n ≡ count_below test n =
        count_below-same (λ k. cond (f == k) b (test k)) test n
        (λ k less. rw (apart f k (λ same. omega (arith, less, place, same))) refl) in
        rw (here, rest, place) (omega arith)
    by_place false other before =
        let less : f < n = omega (arith, low, eqb-false f n other) in
        let more = before less in
        rw other (omega (arith, more))
