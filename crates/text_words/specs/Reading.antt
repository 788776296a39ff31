-- Reading a word, in any spelling of its number.
use Rattle.std.specs.Prelude.{ℕ, ◌-◌, ◌^◌, ◌&&◌, Bool, if◌then◌else◌, List, [], ◌∷◌}
use Rattle.std.specs.Prelude.{Option, Some, None, option_and_then, length, take, drop, nat_lt, nat_le, codes, bytes_eq}
use Rattle.std.specs.List.{list_all}
use Rattle.std.specs.Result.{result_ok}
use Rattle.std.specs.Char.{digit_value}
use Rattle.std.specs.Str.Parse.{digits_value}
use Rattle.hex.specs.Hex.{decode_sized}

-- what f makes of a value, where there is one
infixl 10 ◌>>=◌
abbrev pub ◌>>=◌ : {A B : Type 0} → Option A → (A → Option B) → Option B
o >>= f = option_and_then f o

-- ---- numbers

-- one digit of the base or more
abbrev pub is_numeral : ℕ → List ℕ → Bool
is_numeral radix digits = nat_lt 0 (length digits) && list_all (λ c. nat_lt (digit_value c) radix) digits

-- the value of digits, where it is below 2 ^ 64
unfoldable pub numeral_of : ℕ → List ℕ → Option ℕ
numeral_of radix digits =
    if is_numeral radix digits && nat_lt (digits_value radix digits) (2 ^ 64) then Some (digits_value radix digits)
    else None

-- decimal digits, or `0x` and hexadecimal digits
unfoldable pub number_of : List ℕ → Option ℕ
number_of word = if bytes_eq (take 2 word) (codes "0x") then numeral_of 16 (drop 2 word) else numeral_of 10 word

-- A is enclave 1, H is enclave 8
unfoldable pub letter_of : List ℕ → Option ℕ
letter_of (c ∷ []) = if nat_le 65 c && nat_le c 72 then Some (c - 64) else None
letter_of _ = None

-- the 32 bytes of 64 hexadecimal digits, in either case
unfoldable pub digest_of : List ℕ → Option (List ℕ)
digest_of word = result_ok (decode_sized word 32)
