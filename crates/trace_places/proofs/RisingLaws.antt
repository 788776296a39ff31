-- Rising numbers go on rising where one is put among them or taken out, and have what they should.
use Rattle.std.proofs.Common.{inl, inr}
use Rattle.std.proofs.Common.{◌≡◌, ℕ, ◌<◌, ◌≤◌, ◌==◌, ◌&&◌, ◌||◌, not, Bool, true, false, nat_lt}
use Rattle.std.proofs.Common.{List, [], ◌∷◌, refl, sym, ap, ◌∙◌, arith}
use Rattle.std.proofs.lemmas.Bool.{cases_order, lt-ltb, le-ltb, eq-eqb, ne_eqb, eqb-true, or_parts, and_right}
use Rattle.sgx_types.proofs.Truths.{tested, or_swap}
use Rattle.trace_places.specs.Places.{put_in, take_out}
use Rattle.trace_places.specs.Laws.{has_number, RiseFrom, IsRising}

-- ---- rising

pub rise_lower : (b m : ℕ) (ms : List ℕ) → b ≤ m → RiseFrom m ms → RiseFrom b ms
rise_lower b m [] le h = tt
rise_lower b m (k ∷ ms) le h = (omega (arith, le, h.0), h.1)

put_rises : (b n : ℕ) (ms : List ℕ) → b < n → RiseFrom b ms → RiseFrom b (put_in n ms)
put_rises b n [] lt h = (lt, tt)
put_rises b n (m ∷ ms) lt h =
    elim (cases_order m n) [
      | inl same ↦ rw (le-ltb m n (omega (arith, same)), eq-eqb m n same) h
      | inr differ ↦ elim differ [
        | inl below ↦ rw (lt-ltb m n below) (h.0, put_rises m n ms below h.1)
        | inr above ↦ rw (le-ltb m n (omega (arith, above)), ne_eqb m n (λ e. omega (arith, above, e))) (lt, (above, h.1))
      ]
    ]

take_rises : (b n : ℕ) (ms : List ℕ) → RiseFrom b ms → RiseFrom b (take_out n ms)
take_rises b n [] h = tt
take_rises b n (m ∷ ms) h =
    elim (cases_order m n) [
      | inl same ↦ rw (le-ltb m n (omega (arith, same)), eq-eqb m n same) (rise_lower b m ms (omega (arith, h.0)) h.1)
      | inr differ ↦ elim differ [
        | inl below ↦ rw (lt-ltb m n below) (h.0, take_rises m n ms h.1)
        | inr above ↦ rw (le-ltb m n (omega (arith, above)), ne_eqb m n (λ e. omega (arith, above, e))) h
      ]
    ]

-- rising numbers rise from one below the first
rise_of : (b : ℕ) (ms : List ℕ) → RiseFrom b ms → IsRising ms
rise_of b [] h = tt
rise_of b (m ∷ ms) h = h.1

pub put_rising : (n : ℕ) (ms : List ℕ) → IsRising ms → IsRising (put_in n ms)
put_rising n [] h = tt
put_rising n (m ∷ ms) h =
    elim (cases_order m n) [
      | inl same ↦ rw (le-ltb m n (omega (arith, same)), eq-eqb m n same) h
      | inr differ ↦ elim differ [
        | inl below ↦ rw (lt-ltb m n below) (put_rises m n ms below h)
        | inr above ↦ rw (le-ltb m n (omega (arith, above)), ne_eqb m n (λ e. omega (arith, above, e))) (above, h)
      ]
    ]

pub take_rising : (n : ℕ) (ms : List ℕ) → IsRising ms → IsRising (take_out n ms)
take_rising n [] h = tt
take_rising n (m ∷ ms) h =
    elim (cases_order m n) [
      | inl same ↦ rw (le-ltb m n (omega (arith, same)), eq-eqb m n same) (rise_of m ms h)
      | inr differ ↦ elim differ [
        | inl below ↦ rw (lt-ltb m n below) (take_rises m n ms h)
        | inr above ↦ rw (le-ltb m n (omega (arith, above)), ne_eqb m n (λ e. omega (arith, above, e))) h
      ]
    ]

-- ---- what is among them

-- what is not above the first is not behind it
pub none_below : (b n : ℕ) (ms : List ℕ) → n ≤ b → RiseFrom b ms → has_number ms n ≡ false
none_below b n [] le h = refl
none_below b n (m ∷ ms) le h =
    rw (ne_eqb m n (λ e. omega (arith, le, h.0, e))) (none_below m n ms (omega (arith, le, h.0)) h.1)

or_twice : (a c : Bool) → (a || c) ≡ (a || (a || c))
or_twice true c = refl
or_twice false c = refl

pub put_among : (n k : ℕ) (ms : List ℕ) → has_number (put_in n ms) k ≡ ((n == k) || has_number ms k)
put_among n k [] = refl
put_among n k (m ∷ ms) =
    elim (cases_order m n) [
      | inl same ↦ rw (le-ltb m n (omega (arith, same)), eq-eqb m n same)
          (ap (λ x. (x == k) || has_number ms k) same ∙ or_twice (n == k) (has_number ms k)
          ∙ ap (λ x. (n == k) || ((x == k) || has_number ms k)) (sym same))
      | inr differ ↦ elim differ [
        | inl below ↦ rw (lt-ltb m n below)
            (ap (λ rest. (m == k) || rest) (put_among n k ms) ∙ or_swap (m == k) (n == k) (has_number ms k))
        | inr above ↦ rw (le-ltb m n (omega (arith, above)), ne_eqb m n (λ e. omega (arith, above, e))) refl
      ]
    ]

-- a number that is not among them is not taken out
pub take_absent : (n : ℕ) (ms : List ℕ) → has_number ms n ≡ false → take_out n ms ≡ ms
take_absent n [] h = refl
take_absent n (m ∷ ms) h =
    let parts = or_parts (m == n) (has_number ms n) h in
    elim (tested (nat_lt m n)) [
      | inl below ↦ rw below (ap (λ rest. m ∷ rest) (take_absent n ms parts.1))
      | inr not_below ↦ rw (not_below, parts.0) refl
    ]

without : (n k : ℕ) (x : Bool) → ((n == k) ≡ true → x ≡ false) → x ≡ (not (n == k) && x)
without n k x h =
    elim (tested (n == k)) [
      | inl same ↦ rw (same, h same) refl
      | inr differ ↦ rw differ refl
    ]

take_first : (n m k : ℕ) (ms : List ℕ) → m ≡ n → RiseFrom m ms
    → has_number ms k ≡ (not (n == k) && ((m == k) || has_number ms k))
take_first n m k ms is h =
    elim (tested (n == k)) [
      | inl same ↦ rw same (none_below m k ms (omega (arith, is, eqb-true n k same)) h)
      | inr differ ↦ rw (differ, ap (λ x. x == k) is ∙ differ) refl
    ]

take_later : (n m k : ℕ) (ms : List ℕ) → m < n → has_number (take_out n ms) k ≡ (not (n == k) && has_number ms k)
    → ((m == k) || has_number (take_out n ms) k) ≡ (not (n == k) && ((m == k) || has_number ms k))
take_later n m k ms below rest =
    elim (tested (n == k)) [
      | inl same ↦ rw (rest, same, ne_eqb m k (λ e. omega (arith, below, eqb-true n k same, e))) refl
      | inr differ ↦ rw (rest, differ) refl
    ]

pub take_among : (n k : ℕ) (ms : List ℕ) → IsRising ms → has_number (take_out n ms) k ≡ (not (n == k) && has_number ms k)
take_among n k [] h = sym (and_right (not (n == k)) false refl)
take_among n k (m ∷ ms) h =
    elim (cases_order m n) [
      | inl same ↦ rw (le-ltb m n (omega (arith, same)), eq-eqb m n same)
          (take_first n m k ms same h)
      | inr differ ↦ elim differ [
        | inl below ↦ rw (lt-ltb m n below)
            (take_later n m k ms below (take_among n k ms (rise_of m ms h)))
        | inr above ↦ rw (le-ltb m n (omega (arith, above)), ne_eqb m n (λ e. omega (arith, above, e)))
            (without n k ((m == k) || has_number ms k)
            (λ same. let is = eqb-true n k same in
            rw (ne_eqb m k (λ e. omega (arith, above, is, e))) (none_below m k ms (omega (arith, above, is)) h)))
      ]
    ]
