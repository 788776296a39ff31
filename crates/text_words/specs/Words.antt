-- The words of a line of text, and a text that grows by words.
use Rattle.std.specs.Prelude.{ℕ, ◌&&◌, Bool, true, false, if◌then◌else◌, List, [], ◌∷◌, ◌+◌, ◌++◌, codes, nat_le}
use Rattle.std.specs.List.{join_with_byte}
use Rattle.std.specs.Fmt.{digits, decimal}
use Rattle.hex.specs.Hex.{encode_lower}
use Rattle.sgx_types.specs.declared.names.Perm.{Perm}

-- the words of a line
abbrev pub Words : Type 0
Words = List (List ℕ)

-- one space between two words, and a line feed at the end
abbrev pub line_text : Words → List ℕ
line_text words = join_with_byte 32 words ++ 10 ∷ []

-- ---- the spelling of a word

-- `0x` and lower-case digits
abbrev pub hexadecimal : ℕ → List ℕ
hexadecimal n = codes "0x" ++ digits 16 false n

-- enclave 1 is A, enclave 8 is H
abbrev pub letter : ℕ → List ℕ
letter enclave = (64 + enclave) ∷ []

-- the letter of an enclave from 1 to 8, and the digits of any other number
abbrev pub enclave_word : ℕ → List ℕ
enclave_word enclave = if nat_le 1 enclave && nat_le enclave 8 then letter enclave else decimal enclave

-- 64 lower-case digits
abbrev pub digest_word : List ℕ → List ℕ
digest_word bytes = encode_lower bytes

abbrev pub perm_word : Perm → List ℕ
perm_word p = r_word p.r ++ w_word p.w ++ x_word p.x
  where
    r_word : Bool → List ℕ
    r_word true = codes "r"
    r_word false = []

    w_word : Bool → List ℕ
    w_word true = codes "w"
    w_word false = []

    x_word : Bool → List ℕ
    x_word true = codes "x"
    x_word false = []
