-- What is read from hexadecimal digits is a digest.
use Rattle.std.proofs.Common.{◌≡◌, ℕ, ◌+◌, ◌-◌, ◌*◌, ◌/◌, ◌%◌, ◌<◌, ◌==◌, ◌&&◌, nat_le}
use Rattle.std.proofs.Common.{List, [], ◌∷◌, length, Option, Some, None, Result, Ok, Err, All, refl}
use Rattle.std.proofs.Common.{arith, inl, inr}
use Rattle.std.specs.Result.{result_ok}
use Rattle.std.proofs.lemmas.Bool.{cases_Bool, and_parts, leb-true, eqb-true}
use Rattle.std.proofs.lemmas.List.Elements.{All-nil, All-cons}
use Rattle.std.proofs.lemmas.Option.{same_Some}
use Rattle.hex.specs.declared.error.FromHexError.{FromHexError}
use Rattle.hex.specs.Hex.{decode_pairs, decode_sized, digit_or_error, hex_digit_value, pair_value, value_at, ◌>>=◌}
use Rattle.sgx_types.specs.Digests.{IsDigest}
use Rattle.text_words.specs.Reading.{digest_of}

ok-same : {X : Type 0} (x y : X) → ◌≡◌ {A = Result X FromHexError} (Ok x) (Ok y) → x ≡ y
ok-same x y e = cc

digit-small : (c v : ℕ) → hex_digit_value c ≡ Some v → v < 16
digit-small c v e =
    elim (cases_Bool (nat_le 65 c && nat_le c 70)) [
      | inl upper ↦ (let p = and_parts (nat_le 65 c) (nat_le c 70) upper in let is = same_Some (c - 55) v (rw upper at e) in omega
          (arith, leb-true 65 c p.0, leb-true c 70 p.1, is))
      | inr not_upper ↦ elim (cases_Bool (nat_le 97 c && nat_le c 102)) [
        | inl lower ↦ (let p = and_parts (nat_le 97 c) (nat_le c 102) lower in let is = same_Some (c - 87) v
            (rw (not_upper, lower) at e) in omega (arith, leb-true 97 c p.0, leb-true c 102 p.1, is))
        | inr not_lower ↦ elim (cases_Bool (nat_le 48 c && nat_le c 57)) [
          | inl digit ↦ (let p = and_parts (nat_le 48 c) (nat_le c 57) digit in let is = same_Some (c - 48) v
              (rw (not_upper, not_lower, digit) at e) in omega (arith, leb-true 48 c p.0, leb-true c 57 p.1, is))
          | inr none ↦ (let no = rw (not_upper, not_lower, none) at e in absurd cc)
        ]
      ]
    ]

value-small : (c i v : ℕ) → value_at c i ≡ Ok v → v < 16
value-small c i v e = digit-small c v (from (hex_digit_value c) e)
  where
    from : (o : Option ℕ) → digit_or_error c i o ≡ Ok v → o ≡ Some v
    from None h = absurd cc
    from (Some w) h = cc

bind-ok : {A B : Type 0} (r : Result A FromHexError) (f : A → Result B FromHexError) (y : B) → (r >>= f) ≡ Ok y → (x : A) × (r ≡ Ok x)
    × (f x ≡ Ok y)
bind-ok (Ok x) f y e = (x, refl, e)
bind-ok (Err e') f y e = absurd cc

pair-small : (high low i b : ℕ) → pair_value high low i ≡ Ok b → b < 256
pair-small high low i b e =
    let h = bind-ok (value_at high i) _ b e in
    let l = bind-ok (value_at low (i + 1)) _ b h.2 in
    omega (arith, value-small high i h.0 h.1, value-small low (i + 1) l.0 l.1, ok-same _ _ l.2)

pairs-bytes : (i : ℕ) (text bytes : List ℕ) → decode_pairs i text ≡ Ok bytes → All (λ b. b < 256) bytes × (2 * length bytes ≡ length text)
unfolding decode_pairs
pairs-bytes i [] bytes e = rw (← ok-same _ _ e) (All-nil (λ b. b < 256), refl)
pairs-bytes i (digit ∷ []) bytes e = absurd cc
pairs-bytes i (high ∷ low ∷ rest) bytes e =
    let one = bind-ok (pair_value high low i) _ bytes e in
    let more = bind-ok (decode_pairs (i + 2) rest) _ bytes one.2 in
    let others = pairs-bytes (i + 2) rest more.0 more.1 in
    rw (← ok-same _ _ more.2) (All-cons (λ b. b < 256) one.0 more.0 (pair-small high low i one.0 one.1) others.0, omega (arith, others.1))

sized-bytes : (text bytes : List ℕ) → decode_sized text 32 ≡ Ok bytes → All (λ b. b < 256) bytes × (length bytes ≡ 32)
sized-bytes text bytes e =
    elim (cases_Bool (length text % 2 == 1)) [
      | inl odd ↦ (let no = rw odd at e in absurd cc)
      | inr even ↦ elim (cases_Bool (length text / 2 == 32)) [
        | inr other ↦ (let no = rw (even, other) at e in absurd cc)
        | inl size ↦ (let pairs = pairs-bytes 0 text bytes (rw (even, size) at e) in (pairs.0, omega (arith, pairs.1, eqb-true _ _ size)))
      ]
    ]

pub digest_of-digest : (word digest : List ℕ) → digest_of word ≡ Some digest → IsDigest digest
unfolding digest_of
digest_of-digest word digest e =
    let bytes = sized-bytes word digest (from (decode_sized word 32) e) in
    record { sized = bytes.1; bytes = bytes.0 }
  where
    from : (r : Result (List ℕ) FromHexError) → result_ok r ≡ Some digest → r ≡ Ok digest
    from (Ok x) h = cc
    from (Err x) h = absurd cc
