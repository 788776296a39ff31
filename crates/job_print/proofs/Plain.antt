-- The words of a job's lines are plain: bytes of ASCII above the space.
use Rattle.std.proofs.Common.{◌≡◌, ℕ, ◌+◌, ◌/◌, ◌%◌, ◌^◌, ◌<◌, ◌≤◌, ◌&&◌, Bool, true, false, ltb}
use Rattle.std.proofs.Common.{List, [], ◌∷◌, None, slice_index, All, decimal, refl, sym, ◌∙◌, arith, lit≤, inl, inr}
use Rattle.std.specs.Char.{digit_value}
use Rattle.std.specs.Fmt.{digits}
use Rattle.std.specs.List.{AllByRecursion, list_all}
use Rattle.std.specs.Str.Parse.{AllDigits}
use Rattle.std.proofs.lemmas.Bool.{and_from, le-leb, lt-ltb, cases_lt}
use Rattle.std.proofs.lemmas.Bool.Decides.{nat_tests}
use Rattle.std.proofs.lemmas.Fmt.{digits_is_IsNumeral}
use Rattle.std.proofs.lemmas.List.Elements.{All-head, All-tail}
use Rattle.hex.specs.Hex.{encode_with, encode_lower, hex_digit_value, lower_digits}
use Rattle.hex.proofs.HexLemmas.{IsDigits-lower_digits}
use Rattle.sgx_types.specs.declared.names.Perm.{Perm}
use Rattle.text_words.specs.Words.{Words, digest_word, enclave_word, hexadecimal, letter, perm_word}
use Rattle.sgx_types.specs.Digests.{IsDigest}
use Rattle.text_words.specs.inner.Reading.{IsLetter}
use Rattle.text_words.proofs.Splits.{is_word}
use Rattle.text_words.proofs.WordLaws.{decimal-is_word, digest-is_word, hexadecimal-is_word, letter-is_word}

abbrev pub is_ascii_word : List ℕ → Bool
is_ascii_word word = list_all (λ c. ltb c 128) word

abbrev pub is_plain : List ℕ → Bool
is_plain word = is_word word && is_ascii_word word

abbrev pub ArePlain : Words → Type 0
ArePlain words = AllByRecursion (λ word. is_plain word ≡ true) words

-- ---- numbers

digits-low : (radix : ℕ) (ds : List ℕ) → radix ≤ 36 → AllDigits radix ds → is_ascii_word ds ≡ true
digits-low radix [] low all = refl
digits-low radix (c ∷ cs) low all =
    let small : c < 128 = (let d : digit_value c < 36 = omega (arith, all.0) in grind (arith, nat_tests, d)) in
    and_from _ _ (lt-ltb c 128 small) (digits-low radix cs low all.1)

pub decimal-plain : (n : ℕ) → n < 2 ^ 64 → is_plain (decimal n) ≡ true
decimal-plain n lt =
    and_from _ _ (decimal-is_word n lt)
    (digits-low 10 (decimal n) (lit≤ tt) (digits_is_IsNumeral 10 false (lit≤ tt) (lit≤ tt) n (omega arith)).0.1)

pub hexadecimal-plain : (n : ℕ) → n < 2 ^ 64 → is_plain (hexadecimal n) ≡ true
hexadecimal-plain n lt =
    and_from _ _ (hexadecimal-is_word n lt)
    (digits-low 16 (digits 16 false n) (lit≤ tt) (digits_is_IsNumeral 16 false (lit≤ tt) (lit≤ tt) n (omega arith)).0.1)

-- ---- letters, digests and permissions

pub letter-word : (enclave : ℕ) → IsLetter enclave → enclave_word enclave ≡ letter enclave
letter-word enclave is = rw (le-leb 1 enclave is.0, le-leb enclave 8 is.1) refl

pub enclave-plain : (enclave : ℕ) → IsLetter enclave → is_plain (enclave_word enclave) ≡ true
enclave-plain enclave is =
    rw (letter-word enclave is)
    (and_from _ _ (letter-is_word enclave) (and_from _ _ (lt-ltb (64 + enclave) 128 (omega (arith, is.1))) refl))

digit-below : (d : ℕ) → d < 16 → slice_index lower_digits d < 128
digit-below d lt =
    elim (cases_lt (slice_index lower_digits d) 128) [
      | inl low ↦ low
      | inr high ↦ (let none = not_digit (slice_index lower_digits d) high in absurd (let e = sym none ∙ IsDigits-lower_digits d lt in cc))
    ]
  where
    not_digit : (c : ℕ) → 128 ≤ c → hex_digit_value c ≡ None
    not_digit c high = grind (arith, nat_tests)

encoded-low : (bytes : List ℕ) → All (λ b. b < 256) bytes → is_ascii_word (encode_lower bytes) ≡ true
unfolding encode_with
encoded-low [] all = refl
encoded-low (b ∷ bytes) all =
    let small : b < 256 = All-head (λ b. b < 256) b bytes all in
    and_from _ _ (lt-ltb (slice_index lower_digits (b / 16)) 128 (digit-below (b / 16) (omega arith)))
    (and_from _ _ (lt-ltb (slice_index lower_digits (b % 16)) 128 (digit-below (b % 16) (omega arith)))
    (encoded-low bytes (All-tail (λ b. b < 256) b bytes all)))

pub digest-plain : (digest : List ℕ) → IsDigest digest → is_plain (digest_word digest) ≡ true
digest-plain digest is = and_from _ _ (digest-is_word digest is) (encoded-low digest is.bytes)

pub perm-plain : (perm : Perm) → perm.r ≡ true → is_plain (perm_word perm) ≡ true
perm-plain perm is = by_bits perm.r perm.w perm.x is
  where
    by_bits : (r w x : Bool) → r ≡ true → is_plain (perm_word (record { r = r; w = w; x = x })) ≡ true
    by_bits true true true e = refl
    by_bits true true false e = refl
    by_bits true false true e = refl
    by_bits true false false e = refl
    by_bits false w x e = absurd cc
