-- The blocks that the build of an enclave appends to its measurement log, as bytes; numbers have their low byte first.
use Rattle.std.specs.Prelude.{ℕ, ◌*◌, List, ◌++◌, take, drop, codes}
use Rattle.std.specs.Int.{w32, w64, to_le_bytes}
use Rattle.sgx_types.specs.Layouts.{zeros}

-- ECREATE of an enclave of this size in bytes; an SSA frame is one page
unfoldable pub ecreate_block : ℕ → List ℕ
ecreate_block size = codes "ECREATE" ++ zeros 1 ++ to_le_bytes w32 1 ++ to_le_bytes w64 size ++ zeros 44

-- EADD of the page at an offset in bytes, with the first 48 bytes of its SECINFO
unfoldable pub eadd_block : ℕ → ℕ → List ℕ
eadd_block offset flags = codes "EADD" ++ zeros 4 ++ to_le_bytes w64 offset ++ to_le_bytes w64 flags ++ zeros 40

-- EEXTEND of the 256 bytes at an offset in bytes
unfoldable pub eextend_block : ℕ → List ℕ → List ℕ
eextend_block offset chunk = codes "EEXTEND" ++ zeros 1 ++ to_le_bytes w64 offset ++ zeros 48 ++ chunk

-- chunk `number` of the bytes of a page
abbrev pub chunk_of : List ℕ → ℕ → List ℕ
chunk_of bytes number = take 256 (drop (256 * number) bytes)
