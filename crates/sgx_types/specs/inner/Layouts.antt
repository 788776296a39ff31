-- Numbers in bytes, and what is read of a SECINFO and of a TCS page.
use Rattle.std.specs.Prelude.{ℕ, ◌==◌, if◌then◌else◌, List, Result, Ok, Err, drop, length, take}
use Rattle.std.specs.Int.{w32, w64, from_le_bytes}
use Rattle.sgx_types.specs.declared.layouts.BadLength.{BadLength}
use Rattle.sgx_types.specs.declared.layouts.TcsFields.{TcsFields}

-- the number that the 8 bytes from an index on make, the low byte first
abbrev pub long_at : List ℕ → ℕ → ℕ
long_at bytes i = from_le_bytes w64 (take 8 (drop i bytes))

-- .. or the 4 bytes
abbrev pub int_at : List ℕ → ℕ → ℕ
int_at bytes i = from_le_bytes w32 (take 4 (drop i bytes))

-- what is read of so many bytes, and of no other number
abbrev pub of_length : {T : Type 0} → ℕ → List ℕ → T → Result T BadLength
of_length n bytes x = if length bytes == n then Ok x else Err (record { got = length bytes })

-- FLAGS stands first in the 64 bytes of SECINFO
abbrev pub secinfo_in : List ℕ → Result ℕ BadLength
secinfo_in bytes = of_length 64 bytes (long_at bytes 0)

-- OSSA, CSSA and NSSA in a TCS page
abbrev pub tcs_in : List ℕ → Result TcsFields BadLength
tcs_in bytes = of_length 4096 bytes (record { ossa = long_at bytes 16; cssa = int_at bytes 24; nssa = int_at bytes 28 })
