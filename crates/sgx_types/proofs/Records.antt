-- A record and its bytes.
use Rattle.std.proofs.Common.{◌≡◌, ℕ, ◌+◌, ◌-◌, ◌^◌, ◌<◌, ◌≤◌, List, ◌++◌, length, get_or, take, drop}
use Rattle.std.proofs.Common.{refl, ap, sym, ◌∙◌, arith}
use Rattle.std.specs.Int.{w64, to_le_bytes, from_le_bytes}
use Rattle.std.proofs.lemmas.List.{take-append-drop, length-take, length-drop}
use Rattle.std.proofs.lemmas.List.{append_assoc}
use Rattle.std.proofs.lemmas.List.{drop-drop, take_at, drop_at, take_rest}
use Rattle.std.proofs.lemmas.Nat.{le_bytes_8, from_le_bytes-to_le_bytes_8}
use Rattle.sgx_types.specs.inner.Layouts.{long_at}
use Rattle.sgx_types.proofs.Chunks.{two_pieces}
use Rattle.sgx_types.specs.Sealed.{Sealed}
use Rattle.sgx_types.specs.inner.Sealed.{IsRecord, record_bytes}
use Rattle.sgx_types.proofs.Lists.{piece_below}

-- a record by its parts
abbrev pub sealed_of : ℕ → ℕ → ℕ → List ℕ → List ℕ → Sealed
sealed_of enclave address flags cipher tag =
    record { header = record { enclave = enclave; address = address; flags = flags }; cipher = cipher; tag = tag }

-- the record that stands in so many bytes
abbrev pub record_in : List ℕ → Sealed
record_in bytes = sealed_of (long_at bytes 0) (long_at bytes 8) (long_at bytes 16) (take 4096 (drop 24 bytes)) (drop 4120 bytes)

-- the number in 8 bytes has these bytes
long_bytes : (i : ℕ) (bytes : List ℕ) → i + 8 ≤ length bytes → ((k : ℕ) → get_or bytes k 0 < 256)
    → to_le_bytes w64 (long_at bytes i) ≡ take 8 (drop i bytes)
long_bytes i bytes fits small =
    le_bytes_8 (take 8 (drop i bytes)) (long_at bytes i) (simp (length-take, length-drop) (omega arith)) (piece_below 8 i bytes small) refl

-- five pieces in a row, of which the first three are written another way
five_pieces : (a b c bytes : List ℕ) → a ≡ take 8 bytes → b ≡ take 8 (drop 8 bytes) → c ≡ take 8 (drop 16 bytes)
    → a ++ b ++ c ++ take 4096 (drop 24 bytes) ++ drop 4120 bytes ≡ bytes
five_pieces a b c bytes is_a is_b is_c =
    let to_16 : take 8 bytes ++ take 8 (drop 8 bytes) ≡ take 16 bytes = two_pieces 8 8 bytes in
    let to_24 : take 16 bytes ++ take 8 (drop 16 bytes) ≡ take 24 bytes = two_pieces 16 8 bytes in
    let to_4120 : take 24 bytes ++ take 4096 (drop 24 bytes) ≡ take 4120 bytes = two_pieces 24 4096 bytes in
    let all : take 4120 bytes ++ drop 4120 bytes ≡ bytes = take-append-drop 4120 bytes in
    cc

-- the record in 4152 bytes has these bytes
pub record_bytes-record_in : (bytes : List ℕ) → length bytes ≡ 4152 → ((k : ℕ) → get_or bytes k 0 < 256)
    → record_bytes (record_in bytes) ≡ bytes
record_bytes-record_in bytes size small =
    five_pieces (to_le_bytes w64 (long_at bytes 0)) (to_le_bytes w64 (long_at bytes 8)) (to_le_bytes w64 (long_at bytes 16)) bytes
    (long_bytes 0 bytes (omega arith) small)
    (long_bytes 8 bytes (omega arith) small) (long_bytes 16 bytes (omega arith) small)

-- the five pieces of bytes that were made of them
record ArePieces (a b c d e bytes : List ℕ) : Type 0 where
  first : take 8 (drop 0 bytes) ≡ a
  second : take 8 (drop 8 bytes) ≡ b
  third : take 8 (drop 16 bytes) ≡ c
  fourth : take 4096 (drop 24 bytes) ≡ d
  fifth : drop 4120 bytes ≡ e

pieces : (a b c d e bytes : List ℕ) → length a ≡ 8 → length b ≡ 8 → length c ≡ 8 → length d ≡ 4096 → bytes ≡ a ++ b ++ c ++ d ++ e
    → ArePieces a b c d e bytes
pieces a b c d e bytes size_a size_b size_c size_d is =
    let behind_a : bytes ≡ a ++ (b ++ (c ++ (d ++ e))) = is ∙ simp append_assoc in
    let from_8 : drop 8 bytes ≡ b ++ (c ++ (d ++ e)) = ap (drop 8) behind_a ∙ drop_at a (b ++ (c ++ (d ++ e))) 8 size_a in
    let from_16 : drop 16 bytes ≡ c ++ (d ++ e) = sym (drop-drop 8 8 bytes) ∙ ap (drop 8) from_8 ∙ drop_at b (c ++ (d ++ e)) 8 size_b in
    let from_24 : drop 24 bytes ≡ d ++ e = sym (drop-drop 8 16 bytes) ∙ ap (drop 8) from_16 ∙ drop_at c (d ++ e) 8 size_c in
    record {
      first = ap (take 8) behind_a ∙ take_at a (b ++ (c ++ (d ++ e))) 8 size_a;
      second = ap (take 8) from_8 ∙ take_at b (c ++ (d ++ e)) 8 size_b;
      third = ap (take 8) from_16 ∙ take_at c (d ++ e) 8 size_c;
      fourth = ap (take 4096) from_24 ∙ take_at d e 4096 size_d;
      fifth = sym (drop-drop 4096 24 bytes) ∙ ap (drop 4096) from_24 ∙ drop_at d e 4096 size_d;
    }

number_back : (n : ℕ) (piece : List ℕ) → n < 2 ^ 64 → piece ≡ to_le_bytes w64 n → from_le_bytes w64 piece ≡ n
number_back n piece fits is = ap (from_le_bytes w64) is ∙ from_le_bytes-to_le_bytes_8 n fits

same_parts : (a b c x y z : ℕ) (cipher tag cipher' tag' : List ℕ) → a ≡ x → b ≡ y → c ≡ z → cipher ≡ cipher' → tag ≡ tag'
    → sealed_of a b c cipher tag ≡ sealed_of x y z cipher' tag'
same_parts a b c x y z cipher tag cipher' tag' is_a is_b is_c is_cipher is_tag = rw (is_a, is_b, is_c, is_cipher, is_tag) refl

-- a record that was read part by part
pub read_parts : (a b c : ℕ) (cipher tag bytes : List ℕ) → a ≡ long_at bytes 0 → b ≡ long_at bytes 8 → c ≡ long_at bytes 16
    → cipher ≡ take 4096 (drop 24 bytes)
    → tag ≡ take (length bytes - 4120) (drop 4120 bytes) → sealed_of a b c cipher tag ≡ record_in bytes
read_parts a b c cipher tag bytes is_a is_b is_c is_cipher is_tag =
    same_parts a b c (long_at bytes 0) (long_at bytes 8) (long_at bytes 16) cipher tag (take 4096 (drop 24 bytes)) (drop 4120 bytes) is_a
    is_b is_c is_cipher (is_tag ∙ take_rest bytes 4120)

-- the record in the bytes of a record is that record
pub record_in-record_bytes : (rec : Sealed) (bytes : List ℕ) → IsRecord rec → bytes ≡ record_bytes rec → record_in bytes ≡ rec
record_in-record_bytes rec bytes sizes is =
    let parts = pieces (to_le_bytes w64 rec.header.enclave) (to_le_bytes w64 rec.header.address) (to_le_bytes w64 rec.header.flags)
    rec.cipher rec.tag bytes refl refl refl sizes.cipher is in
    same_parts (long_at bytes 0) (long_at bytes 8) (long_at bytes 16) rec.header.enclave rec.header.address rec.header.flags _ _ rec.cipher
    rec.tag
    (number_back rec.header.enclave (take 8 (drop 0 bytes)) sizes.enclave parts.first)
    (number_back rec.header.address (take 8 (drop 8 bytes)) sizes.address parts.second)
    (number_back rec.header.flags (take 8 (drop 16 bytes)) sizes.flags parts.third) parts.fourth parts.fifth
