-- Numerals: what a digit that is none says of the whole, and that what is written of a number is read again.
use Rattle.std.proofs.Common.{◌≡◌, ℕ, zero, suc, ◌+◌, ◌*◌, ◌^◌, ◌<◌, ◌≤◌, true, false, ltb, List, []}
use Rattle.std.proofs.Common.{◌∷◌, length, get_or, take, Option, Some, None, SomeIff, codes, decimal, bytes_eq, refl, sym, ap}
use Rattle.std.proofs.Common.{◌∙◌, arith, lit≤}
use Rattle.std.specs.Char.{digit_value}
use Rattle.std.specs.Fmt.{digits}
use Rattle.std.specs.List.{list_all}
use Rattle.std.specs.Str.Parse.{AllDigits, IsNumeral, digits_value}
use Rattle.std.proofs.lemmas.Bool.{eqb-true, and_right, lt-ltb, ltb-true, and_parts, and_from, cond-false, false_from_ne_true}
use Rattle.std.proofs.lemmas.Fmt.{digits_is_IsNumeral}
use Rattle.std.proofs.lemmas.Int.Digits.{digits_value_more}
use Rattle.std.proofs.lemmas.Str.Parse.{digits_value-take-le}
use Rattle.text_words.specs.Words.{hexadecimal}
use Rattle.text_words.specs.Reading.{is_numeral, numeral_of, number_of}

pub AllDigits-at : (radix : ℕ) (ds : List ℕ) (i : ℕ) → AllDigits radix ds → i < length ds → digit_value (get_or ds i 0) < radix
AllDigits-at radix [] i all lt = absurd (omega arith)
AllDigits-at radix (c ∷ cs) zero all lt = all.0
AllDigits-at radix (c ∷ cs) (suc i) all lt = AllDigits-at radix cs i all.1 (omega arith)

-- digits whose front is too large are too large
pub front_fits : (radix : ℕ) (ds : List ℕ) (i : ℕ) → 1 ≤ radix → i < length ds → digits_value radix ds < 2 ^ 64
    → digits_value radix (take i ds) * radix + digit_value (get_or ds i 0) < 2 ^ 64
front_fits radix ds i low lt small =
    omega (arith, digits_value_more radix ds i lt, digits_value-take-le radix ds (i + 1) low)

-- ---- what a numeral is read as

list_all-digits : (radix : ℕ) (ds : List ℕ) → AllDigits radix ds → list_all (λ c. ltb (digit_value c) radix) ds ≡ true
list_all-digits radix [] all = refl
list_all-digits radix (c ∷ cs) all = and_from _ _ (lt-ltb _ _ all.0) (list_all-digits radix cs all.1)

AllDigits-list_all : (radix : ℕ) (ds : List ℕ) → list_all (λ c. ltb (digit_value c) radix) ds ≡ true → AllDigits radix ds
AllDigits-list_all radix [] all = tt
AllDigits-list_all radix (c ∷ cs) all = let p = and_parts _ _ all in (ltb-true _ _ p.0, AllDigits-list_all radix cs p.1)

is_numeral-true : (radix : ℕ) (ds : List ℕ) → IsNumeral radix ds → is_numeral radix ds ≡ true
is_numeral-true radix ds h = and_from _ _ (lt-ltb _ _ h.0) (list_all-digits radix ds h.1)

IsNumeral-true : (radix : ℕ) (ds : List ℕ) → is_numeral radix ds ≡ true → IsNumeral radix ds
IsNumeral-true radix ds h = let p = and_parts _ _ h in (ltb-true _ _ p.0, AllDigits-list_all radix ds p.1)

pub numeral_of-some : (radix : ℕ) (ds : List ℕ) → IsNumeral radix ds → digits_value radix ds < 2 ^ 64
    → numeral_of radix ds ≡ Some (digits_value radix ds)
unfolding numeral_of
numeral_of-some radix ds h lt = rw (is_numeral-true radix ds h, lt-ltb (digits_value radix ds) (2 ^ 64) lt) refl

numeral_of-none : (radix : ℕ) (ds : List ℕ) → (IsNumeral radix ds × (digits_value radix ds < 2 ^ 64) → ⊥) → numeral_of radix ds ≡ None
unfolding numeral_of
numeral_of-none radix ds h =
    cond-false _ _ _ (false_from_ne_true _ (λ e. let p = and_parts _ _ e in h (IsNumeral-true radix ds p.0, ltb-true _ _ p.1)))

pub numeral_of-is : (radix : ℕ) (ds : List ℕ) (r : Option ℕ)
    → SomeIff r (IsNumeral radix ds × (digits_value radix ds < 2 ^ 64)) (digits_value radix ds) → r ≡ numeral_of radix ds
numeral_of-is radix ds None h = sym (numeral_of-none radix ds h)
numeral_of-is radix ds (Some v) h = ap (λ (n : ℕ). Some n) h.1 ∙ sym (numeral_of-some radix ds h.0.0 h.0.1)

-- ---- what is written of a number is read again

-- no digits of base 10 begin with `0x`
not_prefixed : (ds : List ℕ) → AllDigits 10 ds → bytes_eq (take 2 ds) (codes "0x") ≡ false
not_prefixed [] all = refl
not_prefixed (a ∷ []) all = and_right _ _ refl
not_prefixed (a ∷ b ∷ ds) all = false_from_ne_true _ (λ e.
    let p = and_parts _ _ e in
    let q = and_parts _ _ p.1 in
    let is_x : b ≡ 120 = eqb-true _ _ q.0 in
    let digit : digit_value 120 < 10 = rw is_x at all.1.0 in
    omega (arith, digit))

pub number_of-decimal : (n : ℕ) → n < 2 ^ 64 → number_of (decimal n) ≡ Some n
unfolding number_of
number_of-decimal n lt =
    let is = digits_is_IsNumeral 10 false (lit≤ tt) (lit≤ tt) n (omega arith) in
    rw (not_prefixed (decimal n) is.0.1) (numeral_of-some 10 (decimal n) is.0 (rw is.1 lt) ∙ ap (λ (v : ℕ). Some v) is.1)

pub number_of-hexadecimal : (n : ℕ) → n < 2 ^ 64 → number_of (hexadecimal n) ≡ Some n
unfolding number_of
number_of-hexadecimal n lt =
    let is = digits_is_IsNumeral 16 false (lit≤ tt) (lit≤ tt) n (omega arith) in
    numeral_of-some 16 (digits 16 false n) is.0 (rw is.1 lt) ∙ ap (λ (v : ℕ). Some v) is.1
