-- What is written of a number, a letter or a digest is a word, and is read again as that.
use Rattle.std.proofs.Common.{◌≡◌, ℕ, ◌+◌, ◌^◌, ◌<◌, ◌≤◌, ◌/◌, ◌%◌, true, false, ltb, List, [], ◌∷◌}
use Rattle.std.proofs.Common.{Some, None, length, slice_index, All, decimal, refl, sym, ap, ◌∙◌, arith, lit≤, inl, inr}
use Rattle.std.specs.Char.{digit_value}
use Rattle.std.specs.Fmt.{digits}
use Rattle.std.specs.List.{list_all}
use Rattle.std.specs.Str.Parse.{AllDigits, IsNumeral}
use Rattle.std.proofs.lemmas.Bool.{and_from, lt-ltb, le-leb, cases_lt}
use Rattle.std.proofs.lemmas.Bool.Decides.{nat_tests}
use Rattle.std.proofs.lemmas.Fmt.{digits_is_IsNumeral}
use Rattle.std.proofs.lemmas.List.{get_or_past}
use Rattle.std.proofs.lemmas.List.Elements.{All-get_or, All-head, All-tail}
use Rattle.hex.specs.Hex.{IsBytes, encode_with, encode_lower, hex_digit_value, lower_digits}
use Rattle.hex.proofs.HexLemmas.{IsDigits-lower_digits, decode_sized-encode_lower, length-encode_with}
use Rattle.text_words.specs.Words.{hexadecimal, letter}
use Rattle.sgx_types.specs.Digests.{IsDigest}
use Rattle.text_words.specs.Reading.{digest_of, letter_of}
use Rattle.text_words.specs.inner.Reading.{IsLetter, small_of}
use Rattle.text_words.proofs.Numerals.{number_of-decimal}
use Rattle.text_words.proofs.Splits.{is_word}

-- ---- words

digits-above : (radix : ℕ) (ds : List ℕ) → radix ≤ 36 → AllDigits radix ds → list_all (ltb 32) ds ≡ true
digits-above radix [] low all = refl
digits-above radix (c ∷ cs) low all =
    let high : 32 < c = elim (cases_lt c 48) [
      | inl lt ↦ (let d : digit_value c ≡ 36 = rw (lt-ltb c 48 lt) refl in omega (arith, all.0))
      | inr le ↦ omega arith
    ] in
    and_from _ _ (lt-ltb 32 c high) (digits-above radix cs low all.1)

numeral-is_word : (radix : ℕ) (ds : List ℕ) → radix ≤ 36 → IsNumeral radix ds → is_word ds ≡ true
numeral-is_word radix ds low h = and_from _ _ (lt-ltb 0 (length ds) h.0) (digits-above radix ds low h.1)

pub decimal-is_word : (n : ℕ) → n < 2 ^ 64 → is_word (decimal n) ≡ true
decimal-is_word n lt =
    numeral-is_word 10 (decimal n) (lit≤ tt) (digits_is_IsNumeral 10 false (lit≤ tt) (lit≤ tt) n (omega arith)).0

pub hexadecimal-is_word : (n : ℕ) → n < 2 ^ 64 → is_word (hexadecimal n) ≡ true
hexadecimal-is_word n lt =
    let is = (digits_is_IsNumeral 16 false (lit≤ tt) (lit≤ tt) n (omega arith)).0 in
    and_from _ _ (lt-ltb 0 (length (hexadecimal n)) (omega arith)) (digits-above 16 (digits 16 false n) (lit≤ tt) is.1)

pub letter-is_word : (enclave : ℕ) → is_word (letter enclave) ≡ true
letter-is_word enclave = and_from _ _ refl (and_from _ _ (lt-ltb 32 (64 + enclave) (omega arith)) refl)

-- a digit is above the space
digit-above : (d : ℕ) → d < 16 → 32 < slice_index lower_digits d
digit-above d lt =
    elim (cases_lt (slice_index lower_digits d) 48) [
      | inl low ↦ (let none = not_digit (slice_index lower_digits d) low in absurd (let e = sym none ∙ IsDigits-lower_digits d lt in cc))
      | inr high ↦ omega arith
    ]
  where
    not_digit : (c : ℕ) → c < 48 → hex_digit_value c ≡ None
    not_digit c low = grind (arith, nat_tests)

encoded-above : (bytes : List ℕ) → All (λ b. b < 256) bytes → list_all (ltb 32) (encode_lower bytes) ≡ true
unfolding encode_with
encoded-above [] all = refl
encoded-above (b ∷ bytes) all =
    let small : b < 256 = All-head (λ b. b < 256) b bytes all in
    and_from _ _ (lt-ltb 32 (slice_index lower_digits (b / 16)) (digit-above (b / 16) (omega arith)))
    (and_from _ _ (lt-ltb 32 (slice_index lower_digits (b % 16)) (digit-above (b % 16) (omega arith)))
    (encoded-above bytes (All-tail (λ b. b < 256) b bytes all)))

pub digest-is_word : (digest : List ℕ) → IsDigest digest → is_word (encode_lower digest) ≡ true
digest-is_word digest is =
    and_from _ _ (lt-ltb 0 (length (encode_lower digest)) (omega (arith, length-encode_with lower_digits digest, is.sized)))
    (encoded-above digest is.bytes)

-- ---- reading them again

digest-bytes : (digest : List ℕ) → IsDigest digest → IsBytes digest
digest-bytes digest is i =
    elim (cases_lt i (length digest)) [
      | inl lt ↦ All-get_or (λ b. b < 256) digest i 0 lt is.bytes
      | inr past ↦ rw (get_or_past digest i 0 past) (lit≤ tt)
    ]

pub digest_of-encode_lower : (digest : List ℕ) → IsDigest digest → digest_of (encode_lower digest) ≡ Some digest
unfolding digest_of
digest_of-encode_lower digest is = rw (decode_sized-encode_lower digest 32 is.sized (digest-bytes digest is)) refl

pub small_of-decimal : (n : ℕ) → n < 2 ^ 32 → small_of (decimal n) ≡ Some n
unfolding small_of
small_of-decimal n lt = rw (number_of-decimal n (omega arith), lt-ltb n (2 ^ 32) lt) refl

pub letter_of-letter : (enclave : ℕ) → IsLetter enclave → letter_of (letter enclave) ≡ Some enclave
unfolding letter_of
letter_of-letter enclave h =
    rw (le-leb 65 (64 + enclave) (omega arith), le-leb (64 + enclave) 72 (omega arith)) (ap (λ (n : ℕ). Some n) (omega arith))
