-- The bytes of words, of SECINFO and of a TCS page.
use Rattle.std.specs.Prelude.{ℕ, ◌+◌, ◌*◌, if◌then◌else◌, List, replicate}
use Rattle.std.specs.List.{flat_map}
use Rattle.std.specs.Int.{w64, to_le_bytes}
use Rattle.sgx_types.specs.declared.names.Kind.{Kind}
use Rattle.sgx_types.specs.declared.names.Kind.TheVariants as kinds
use Rattle.sgx_types.specs.declared.names.Perm.{Perm}

-- the bytes of words of 64 bits, each with its low byte first
abbrev pub bytes_of : List ℕ → List ℕ
bytes_of words = flat_map (to_le_bytes w64) words

-- so many zero bytes
abbrev pub zeros : ℕ → List ℕ
zeros count = replicate count 0

-- the number of a page type
abbrev pub number_of : Kind → ℕ
number_of kinds.Secs = 0
number_of kinds.Tcs = 1
number_of kinds.Reg = 2
number_of kinds.Va = 3

-- R in bit 0, W in bit 1, X in bit 2, and the page type from bit 8 on
abbrev pub flags_of : Kind → Perm → ℕ
flags_of kind perm = (if perm.r then 1 else 0) + (if perm.w then 2 else 0) + (if perm.x then 4 else 0) + 256 * number_of kind
