-- The least lawful size of an enclave that has room for so many bytes.
use Rattle.std.proofs.Common.{◌≡◌, ℕ, zero, suc, ◌+◌, ◌-◌, ◌*◌, ◌/◌, ◌%◌, ◌^◌, ◌<◌, ◌≤◌, true}
use Rattle.std.proofs.Common.{List, [], ◌∷◌, max, find, unwrap_or, nat_le, refl, sym, ap, ◌∙◌, arith, inl, inr}
use Rattle.std.specs.Int.{IsPowerOfTwo}
use Rattle.std.specs.Int.RustNames.{count_ones}
use Rattle.std.proofs.lemmas.Bool.{and_parts, cases_eq, cases_lt, eq-eqb, eqb-true, leb-true, le-leb, lt-leb}
use Rattle.std.proofs.lemmas.Nat.{mod-mul-add, ones_cat, ones_le_self, pow-add, pow_below, pow_pos, zero_from_ones}
use Rattle.sgx_types.specs.Lawful.{is_lawful}
use Rattle.job_make.specs.MadeJob.{least_size, made_bytes}
use Rattle.job_make.specs.inner.MadeJob.{IsLeastLawful}

-- ---- powers of two

pow-more : (k : ℕ) → 2 ^ (k + 1) ≡ 2 * 2 ^ k
pow-more k = omega (arith, pow-add 2 k 1)

pow-up : (i k : ℕ) → i ≤ k → 2 ^ i ≤ 2 ^ k
pow-up i k le =
    elim (cases_eq i k) [ inl same ↦ rw same (omega arith) | inr other ↦ (let less = pow_below i k (omega arith) in omega (arith, less)) ]

ones-split : (n q r : ℕ) → n ≡ q * 2 + r → r < 2 → count_ones n ≡ count_ones q + count_ones r
ones-split n q r is lt = ap (λ (m : ℕ). count_ones m) is ∙ ones_cat 1 q r lt

one-bit : count_ones 1 ≡ 1
unfolding count_ones
one-bit = refl

-- a number with one bit is a power of two
power-of : (fuel n : ℕ) → n ≤ fuel → count_ones n ≡ 1 → IsPowerOfTwo n
power-of zero n le one = absurd (omega (arith, ones_le_self n, one))
power-of (suc fuel) n le one =
    let some : 1 ≤ n = omega (arith, ones_le_self n, one) in
    elim (cases_lt (n % 2) 1) [
      | inl even ↦
          (let bits = ones-split n (n / 2) 0 (omega arith) (omega arith) in
          let half = power-of fuel (n / 2) (omega arith) (omega (arith, bits, one, ones_le_self 0)) in
          (half.0 + 1, omega (arith, half.1, pow-more half.0)))
      | inr odd ↦
          (let bits = ones-split n (n / 2) 1 (omega arith) (omega arith) in
          let none = zero_from_ones (n / 2) (omega (arith, bits, one, one-bit)) in
          (0, omega (arith, none)))
    ]

-- ---- lawful sizes

-- so many powers of two, from an exponent on
abbrev powers : ℕ → ℕ → List ℕ
powers j zero = []
powers j (suc n) = 2 ^ j ∷ powers (j + 1) n

ones-power : (k : ℕ) → count_ones (2 ^ k) ≡ 1
ones-power k =
    let parts : 2 ^ k ≡ 1 * 2 ^ k + 0 = omega arith in
    ap (λ (n : ℕ). count_ones n) parts ∙ omega (arith, ones_cat k 1 0 (pow_pos k), one-bit, ones_le_self 0)

divides : (k : ℕ) → k ≤ 28 → 2 ^ 28 % 2 ^ k ≡ 0
divides k le =
    let whole : 28 - k + k ≡ 28 = omega arith in
    let same = ap (λ (n : ℕ). 2 ^ n) whole in
    let parts : 2 ^ 28 ≡ 2 ^ (28 - k) * 2 ^ k + 0 = omega (arith, same, pow-add 2 (28 - k) k) in
    ap (λ (n : ℕ). n % 2 ^ k) parts ∙ mod-mul-add (2 ^ (28 - k)) (2 ^ k) 0 (pow_pos k)

lawful-at : (k : ℕ) → 13 ≤ k → k ≤ 24 → is_lawful 0x10000000 (2 ^ k) ≡ true
lawful-at k low high =
    rw (
      eq-eqb (count_ones (2 ^ k)) 1 (ones-power k),
      le-leb 8192 (2 ^ k) (pow-up 13 k low),
      le-leb (2 ^ k) (2 ^ 24) (pow-up k 24 high),
      eq-eqb (2 ^ 28 % 2 ^ k) 0 (divides k (omega arith)),
    )
    refl

pub lawful_most : (base size : ℕ) → is_lawful base size ≡ true → size ≤ 2 ^ 24
lawful_most base size e = let range = and_parts _ _ e in let most = and_parts _ _ range.0 in leb-true _ _ most.1

lawful-power : (base size : ℕ) → is_lawful base size ≡ true → IsPowerOfTwo size
lawful-power base size e =
    let range = and_parts _ _ e in
    let most = and_parts _ _ range.0 in
    let least = and_parts _ _ most.0 in
    power-of size size (omega arith) (eqb-true (count_ones size) 1 least.0)

-- ---- the least

-- a power of two is the first that has room
record IsFirst (bytes found k : ℕ) : Type 0 where
  is : found ≡ 2 ^ k
  room : bytes ≤ 2 ^ k
  smaller : (i : ℕ) → i < k → 2 ^ i < bytes

-- an exponent from j on, and at most so many above
abbrev HasFirst : ℕ → ℕ → ℕ → Type 0
HasFirst bytes n j = (k : ℕ) × (j ≤ k) × (k ≤ j + n) × IsFirst bytes (unwrap_or (find (nat_le bytes) (powers j (suc n))) 0) k

fits-here : (bytes n j : ℕ) → bytes ≤ 2 ^ j → ((i : ℕ) → i < j → 2 ^ i < bytes) → HasFirst bytes n j
fits-here bytes n j fits smaller =
    (j, omega arith, omega arith, record { is = rw (le-leb bytes (2 ^ j) fits) refl; room = fits; smaller = smaller })

longer : (bytes j : ℕ) → 2 ^ j < bytes → ((i : ℕ) → i < j → 2 ^ i < bytes) → (i : ℕ) → i < j + 1 → 2 ^ i < bytes
longer bytes j less smaller i lt = elim (cases_eq i j) [ inl same ↦ rw same less | inr other ↦ smaller i (omega arith) ]

first-power : (bytes n j : ℕ) → bytes ≤ 2 ^ (j + n) → ((i : ℕ) → i < j → 2 ^ i < bytes) → HasFirst bytes n j
first-power bytes zero j room smaller =
    let none : j + 0 ≡ j = omega arith in let here = rw none at room in fits-here bytes zero j here smaller
first-power bytes (suc n) j room smaller =
    elim (cases_lt (2 ^ j) bytes) [
      | inr fits ↦ fits-here bytes (suc n) j fits smaller
      | inl less ↦
          (let at : j + suc n ≡ j + 1 + n = omega arith in
          let rest = first-power bytes n (j + 1) (rw at at room) (longer bytes j less smaller) in
          (rest.0, omega (arith, rest.1), omega (arith, rest.2), rw (lt-leb bytes (2 ^ j) less) rest.3))
    ]

module _ (size : ℕ) (least : 4 ≤ size) (most : size ≤ 2000) where
  first : (k : ℕ) × (13 ≤ k) × (k ≤ 24) × IsFirst (made_bytes size) (least_size (made_bytes size)) k
  unfolding least_size
  first = first-power (made_bytes size) 11 13 (omega arith) (λ i lt. let less = pow_below i 13 lt in omega (arith, less))

  -- no lawful size with room is less
  pub least_is_least : IsLeastLawful 0x10000000 (made_bytes size) (least_size (made_bytes size))
  least_is_least =
      let found = first.3 in
      record {
        lawful = rw found.is (lawful-at first.0 first.1 first.2);
        room = omega (arith, found.is, found.room);
        least = λ other lawful room. let power = lawful-power _ other lawful in elim (cases_lt power.0 first.0) [
          | inl less ↦ absurd (let below = found.smaller power.0 less in omega (arith, below, power.1, room))
          | inr past ↦ (let up = pow-up first.0 power.0 past in omega (arith, up, power.1, found.is))
        ];
      }

  -- the next power of two is the least lawful size
  pub next_is_least : (r : ℕ) → IsPowerOfTwo r → made_bytes size ≤ r → r / 2 < max 1 (made_bytes size) → r ≡ least_size (made_bytes size)
  next_is_least r power room next =
      let found = first.3 in
      elim (cases_lt power.0 first.0) [
        | inl less ↦ absurd (let below = found.smaller power.0 less in omega (arith, below, power.1, room))
        | inr past ↦ elim (cases_eq power.0 first.0) [
          | inl same ↦ power.1 ∙ ap (λ (k : ℕ). 2 ^ k) same ∙ sym found.is
          | inr other ↦ absurd
              (let up = pow-up (first.0 + 1) power.0 (omega arith) in omega (arith, up, pow-more first.0, power.1, found.room, next))
        ]
      ]
