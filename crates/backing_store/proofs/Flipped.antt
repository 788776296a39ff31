-- The record that stands in 4152 bytes.
use Rattle.std.proofs.Common.{◌≡◌, ℕ, ◌^◌, ◌<◌, List, length, get_or, take, drop, arith}
use Rattle.std.proofs.Common.{length-take, length-drop}
use Rattle.std.specs.Int.{w64, from_le_bytes}
use Rattle.sgx_types.specs.inner.Layouts.{long_at}
use Rattle.sgx_types.specs.inner.Sealed.{IsRecord}
use Rattle.sgx_types.proofs.Lists.{piece_below}
use Rattle.backing_store.specs.inner.Flips.{record_in}

-- eight bytes make a number of 64 bits
below : (bytes : List ℕ) → ((k : ℕ) → get_or bytes k 0 < 256) → from_le_bytes w64 bytes < 2 ^ 64
below bytes small = omega (arith, small 0, small 1, small 2, small 3, small 4, small 5, small 6, small 7)

long_below : (i : ℕ) (bytes : List ℕ) → ((k : ℕ) → get_or bytes k 0 < 256) → long_at bytes i < 2 ^ 64
long_below i bytes small = below (take 8 (drop i bytes)) (piece_below 8 i bytes small)

-- its sizes are those of a record
pub record_in-sizes : (bytes : List ℕ) → length bytes ≡ 4152 → ((k : ℕ) → get_or bytes k 0 < 256) → IsRecord (record_in bytes)
record_in-sizes bytes size small = record {
  enclave = long_below 0 bytes small;
  address = long_below 8 bytes small;
  flags = long_below 16 bytes small;
  cipher = simp (length-take, length-drop) (omega arith);
  tag = simp length-drop (omega arith);
}
