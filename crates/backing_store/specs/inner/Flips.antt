-- A record with one bit inverted.
use Rattle.std.specs.Prelude.{ℕ, ◌/◌, ◌%◌, ◌^◌, List, drop, take, slice_index, slice_set, bit_xor, Option, Some, None}
use Rattle.sgx_types.specs.inner.Layouts.{long_at}
use Rattle.sgx_types.specs.Sealed.{Sealed}
use Rattle.sgx_types.specs.inner.Sealed.{record_bytes}

-- the bytes with one bit inverted: of the byte `bit / 8` the bit `bit % 8`, counted from the lowest; a bit past the end is none
abbrev pub invert_bit : ℕ → List ℕ → List ℕ
invert_bit bit bytes = slice_set bytes (bit / 8) (bit_xor (slice_index bytes (bit / 8)) (2 ^ (bit % 8)))

-- the record that stands in so many bytes: three numbers, the cipher and the tag
abbrev pub record_in : List ℕ → Sealed
record_in bytes = record {
  header = record { enclave = long_at bytes 0; address = long_at bytes 8; flags = long_at bytes 16 };
  cipher = take 4096 (drop 24 bytes);
  tag = drop 4120 bytes;
}

-- the record with one bit of its 4152 bytes inverted, or as it is
abbrev pub flipped : Option ℕ → Sealed → Sealed
flipped None rec = rec
flipped (Some bit) rec = record_in (invert_bit bit (record_bytes rec))
