-- A loop over the bits of a list of processors goes through the list in its order.
use Rattle.std.proofs.Common.{◌≡◌, ℕ, zero, suc, ◌+◌, ◌*◌, ◌/◌, ◌%◌, ◌^◌, ◌<◌, ◌≤◌, ◌==◌, Bool}
use Rattle.std.proofs.Common.{true, false, if◌then◌else◌, refl, sym, ◌∙◌, ap, List, []}
use Rattle.std.proofs.Common.{◌∷◌, ◌++◌, nat_lt, arith}
use Rattle.std.proofs.lemmas.Bool.{eqb-true, false≢true}
use Rattle.std.proofs.lemmas.Nat.Bits.{bit_at-suc}
use Rattle.driver_reclaim.specs.inner.Answers.{bits_from, bits_of}
use Rattle.run_laws.specs.inner.Bits.{AllBelow, GoesOnBy, RisesFrom, below, has_bit, is_member}

-- ---- lists that rise

-- one that begins later rises from an earlier number too
pub rises_sooner : (p q : ℕ) (ps : List ℕ) → p ≤ q → RisesFrom q ps → RisesFrom p ps
rises_sooner p q [] low h = tt
rises_sooner p q (x ∷ xs) low h = (let first = h.0 in omega (arith, low, first), h.1)

-- nothing of a list is below the number from which it rises
below_none : (p from : ℕ) (ps : List ℕ) → p ≤ from → RisesFrom from ps → below p ps ≡ []
below_none p from [] low h = refl
below_none p from (q ∷ qs) low h =
    let first = h.0 in
    let high : nat_lt q p ≡ false = grind (arith, low, first) in
    rw high (below_none p (q + 1) qs (omega (arith, low, first)) h.1)

member_none : (p from : ℕ) (ps : List ℕ) → p < from → RisesFrom from ps → is_member p ps ≡ false
member_none p from [] low h = refl
member_none p from (q ∷ qs) low h =
    let first = h.0 in
    let other : (q == p) ≡ false = grind (arith, low, first) in
    rw other (member_none p (q + 1) qs (omega (arith, low, first)) h.1)

-- one number more takes in that number, where it is in the list
pub below_more : (p from : ℕ) (ps : List ℕ) → RisesFrom from ps
    → below (p + 1) ps ≡ (if is_member p ps then below p ps ++ (p ∷ []) else below p ps)
below_more p from [] h = refl
below_more p from (q ∷ qs) h = by_order (below_more p (q + 1) qs h.1) (nat_lt q p) refl (q == p) refl
  where
    longer : (b : Bool) → (q ∷ (if b then below p qs ++ (p ∷ []) else below p qs))
        ≡ (if b then (q ∷ below p qs) ++ (p ∷ []) else q ∷ below p qs)
    longer true = refl
    longer false = refl

    by_order : below (p + 1) qs ≡ (if is_member p qs then below p qs ++ (p ∷ []) else below p qs) → (b : Bool) → nat_lt q p ≡ b
        → (c : Bool) → (q == p) ≡ c → below (p + 1) (q ∷ qs)
        ≡ (if is_member p (q ∷ qs) then below p (q ∷ qs) ++ (p ∷ []) else below p (q ∷ qs))
    by_order rest true is true at = absurd (let same = eqb-true q p at in let low : nat_lt q p ≡ false = grind (arith, same) in
        false≢true (sym low ∙ is))
    by_order rest true is false at =
        let more : nat_lt q (p + 1) ≡ true = grind (arith, is) in
        rw (more, is, at) (ap (λ xs. q ∷ xs) rest ∙ longer (is_member p qs))
    by_order rest false is true at =
        let same : q ≡ p = eqb-true q p at in
        let more : nat_lt q (p + 1) ≡ true = grind (arith, same) in
        let none : below (p + 1) qs ≡ [] = below_none (p + 1) (q + 1) qs (omega (arith, same)) h.1 in
        let few : below p qs ≡ [] = below_none p (q + 1) qs (omega (arith, same)) h.1 in
        rw (more, is, at, none, few) (ap (λ x. x ∷ []) same)
    by_order rest false is false at =
        let high : p < q = grind (arith, is, at) in
        let more : nat_lt q (p + 1) ≡ false = grind (arith, high) in
        let none : below (p + 1) qs ≡ [] = below_none (p + 1) (q + 1) qs (omega (arith, high)) h.1 in
        let few : below p qs ≡ [] = below_none p (q + 1) qs (omega (arith, high)) h.1 in
        let out : is_member p qs ≡ false = member_none p (q + 1) qs (omega (arith, high)) h.1 in
        rw (more, is, at, none, few, out) refl

-- none is below 0, and all are below a number that all are below
pub below_zero : (ps : List ℕ) → below 0 ps ≡ []
below_zero [] = refl
below_zero (q ∷ qs) = let none : nat_lt q 0 ≡ false = grind arith in rw none (below_zero qs)

pub below_all : (p : ℕ) (ps : List ℕ) → AllBelow p ps → below p ps ≡ ps
below_all p [] h = refl
below_all p (q ∷ qs) h = let first = h.0 in let low : nat_lt q p ≡ true = grind (arith, first) in rw low
    (ap (λ xs. q ∷ xs) (below_all p qs h.1))

-- behind those below a number of the list stands that number
pub goes_on : (p from : ℕ) (ps : List ℕ) → RisesFrom from ps → is_member p ps ≡ true → GoesOnBy p ps
goes_on p from [] h k = absurd (false≢true k)
goes_on p from (q ∷ qs) h k = by_order (λ more. goes_on p (q + 1) qs h.1 more) (nat_lt q p) refl (q == p) refl
  where
    by_order : (is_member p qs ≡ true → GoesOnBy p qs) → (b : Bool) → nat_lt q p ≡ b → (c : Bool) → (q == p) ≡ c → GoesOnBy p (q ∷ qs)
    by_order rest b is true at =
        let same : q ≡ p = eqb-true q p at in
        let high : nat_lt q p ≡ false = grind (arith, same) in
        let few : below p qs ≡ [] = below_none p (q + 1) qs (omega (arith, same)) h.1 in
        record { rest = qs; splits = rw (high, few) (ap (λ x. x ∷ qs) same) }
    by_order rest true is false at =
        let more = rest (rw at at k) in
        record { rest = more.rest; splits = rw is (ap (λ xs. q ∷ xs) more.splits) }
    by_order rest false is false at =
        let high : p < q = grind (arith, is, at) in
        absurd (false≢true (sym (member_none p (q + 1) qs (omega (arith, high)) h.1) ∙ rw at at k))

-- ---- bits

-- the lowest bit is the first processor's, and the others are those of half the number
low_bit : (b : Bool) (n : ℕ) → ((if b then 1 else 0) + 2 * n) % 2 ≡ (if b then 1 else 0)
low_bit true n = omega arith
low_bit false n = omega arith

half : (b : Bool) (n : ℕ) → ((if b then 1 else 0) + 2 * n) / 2 ≡ n
half true n = omega arith
half false n = omega arith

bit_of : (b : Bool) → ((if b then 1 else 0) == 1) ≡ b
bit_of true = refl
bit_of false = refl

one_bit : (test : ℕ → Bool) (from i count : ℕ) → i < count → bits_from test from count / 2 ^ i % 2 ≡ (if test (from + i) then 1 else 0)
one_bit test from i zero low = absurd (omega (arith, low))
one_bit test from zero (suc count) low =
    let here : from + 0 ≡ from = omega arith in
    let whole : bits_from test from (suc count) / 1 ≡ bits_from test from (suc count) = omega arith in
    rw (here, whole) (low_bit (test from) (bits_from test (from + 1) count))
one_bit test from (suc i) (suc count) low =
    bit_at-suc (bits_from test from (suc count)) i
    ∙ ap (λ n. n / 2 ^ i % 2) (half (test from) (bits_from test (from + 1) count))
    ∙ one_bit test (from + 1) i count (omega (arith, low))
    ∙ ap (λ n. if test n then 1 else 0) (let e : (from + 1) + i ≡ from + suc i = omega arith in e)

-- a processor's bit is set exactly where it is in the list
pub bit_is : (ps : List ℕ) (p : ℕ) → p < 16 → has_bit (bits_of ps) p ≡ is_member p ps
bit_is ps p low =
    ap (λ n. n == 1) (one_bit (λ q. is_member q ps) 0 p 16 low
    ∙ ap (λ n. if is_member n ps then 1 else 0) (let e : 0 + p ≡ p = omega arith in e))
    ∙ bit_of (is_member p ps)
