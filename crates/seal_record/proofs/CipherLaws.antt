-- Deciphering is enciphering again.
use Rattle.std.proofs.Common.{◌≡◌, ℕ, ◌*◌, List, length, arith}
use Rattle.seal_record.specs.Cipher.{cipher, keystream_blocks}
use Rattle.seal_record.proofs.Blocks.{length-keystream_blocks}
use Rattle.seal_record.proofs.Xor.{xor_bytes-twice}

-- the cipher of a page's cipher is the page
pub cipher_twice : (key : List ℕ) (version : ℕ) (plain : List ℕ) → length plain ≡ 4096
    → cipher key version (cipher key version plain) ≡ plain
unfolding cipher
cipher_twice key version plain size =
    let fits : length (keystream_blocks key version 128) ≡ 32 * 128 = length-keystream_blocks key version 128 in
    xor_bytes-twice plain (keystream_blocks key version 128) (omega arith)
