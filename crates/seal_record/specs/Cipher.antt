-- The cipher and the tag of a sealed record, over lists of bytes; numbers have their low byte first.
use Rattle.std.specs.Prelude.{ℕ, List, [], ◌∷◌, ◌++◌, bit_xor}
use Rattle.std.specs.List.{flat_map, range_with_len}
use Rattle.std.specs.Int.{w64, to_le_bytes}
use Rattle.sha2.specs.Sha256.{sha256}
use Rattle.sgx_types.specs.declared.record.Header.{Header}
use Rattle.sgx_types.specs.Sealed.{Sealed, header_bytes}

-- a block of the keystream: the SHA-256 of the key, the version and the block's number
abbrev pub keystream : List ℕ → ℕ → ℕ → List ℕ
keystream key version index = sha256 (key ++ to_le_bytes w64 version ++ to_le_bytes w64 index)

-- so many blocks of the keystream, from block 0 on
abbrev pub keystream_blocks : List ℕ → ℕ → ℕ → List ℕ
keystream_blocks key version count = flat_map (keystream key version) (range_with_len 0 count)

-- the exclusive or of two lists, byte by byte, as far as both go
abbrev pub xor_bytes : List ℕ → List ℕ → List ℕ
xor_bytes [] others = []
xor_bytes (byte ∷ bytes) [] = []
xor_bytes (byte ∷ bytes) (other ∷ others) = bit_xor byte other ∷ xor_bytes bytes others

-- the cipher of a page's 4096 bytes is their exclusive or with 128 blocks of the keystream
unfoldable pub cipher : List ℕ → ℕ → List ℕ → List ℕ
cipher key version plain = xor_bytes plain (keystream_blocks key version 128)

-- the tag is the SHA-256 of the key, the version, the header and the cipher
unfoldable pub tag : List ℕ → ℕ → Header → List ℕ → List ℕ
tag key version header bytes = sha256 (key ++ to_le_bytes w64 version ++ header_bytes header ++ bytes)

-- the sealed record of a page's bytes
abbrev pub sealed : List ℕ → ℕ → Header → List ℕ → Sealed
sealed key version header plain =
    record { header = header; cipher = cipher key version plain; tag = tag key version header (cipher key version plain) }
