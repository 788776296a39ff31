-- The blocks of the keystream, one after another.
use Rattle.std.proofs.Common.{◌≡◌, ℕ, zero, suc, ◌+◌, ◌*◌, List, ◌++◌, length, refl, ap, sym, ◌∙◌, arith}
use Rattle.std.proofs.Common.{add-zero, zero-add}
use Rattle.std.specs.List.{flat_map, range_with_len}
use Rattle.std.proofs.lemmas.List.{append-nil, append_assoc, length-append}
use Rattle.sha2.proofs.Facts256.{length-sha256}
use Rattle.seal_record.specs.Cipher.{keystream, keystream_blocks}

blocks_from_more : (f : ℕ → List ℕ) (a n : ℕ) → flat_map f (range_with_len a (suc n)) ≡ flat_map f (range_with_len a n) ++ f (a + n)
blocks_from_more f a zero = rw (append-nil, add-zero) refl
blocks_from_more f a (suc n) =
    let same : a + 1 + n ≡ a + suc n = omega arith in
    ap (λ rest. f a ++ rest) (blocks_from_more f (a + 1) n)
    ∙ sym (append_assoc (f a) (flat_map f (range_with_len (a + 1) n)) (f (a + 1 + n)))
    ∙ ap (λ m. f a ++ flat_map f (range_with_len (a + 1) n) ++ f m) same

length_from : (f : ℕ → List ℕ) (a n : ℕ) → ((i : ℕ) → length (f i) ≡ 32) → length (flat_map f (range_with_len a n)) ≡ 32 * n
length_from f a zero size = refl
length_from f a (suc n) size =
    omega (arith, length-append (f a) (flat_map f (range_with_len (a + 1) n)), size a, length_from f (a + 1) n size)

pub keystream_blocks-more : (key : List ℕ) (version n : ℕ)
    → keystream_blocks key version (suc n) ≡ keystream_blocks key version n ++ keystream key version n
keystream_blocks-more key version n =
    blocks_from_more (keystream key version) 0 n ∙ ap (λ m. keystream_blocks key version n ++ keystream key version m) (zero-add n)

pub length-keystream : (key : List ℕ) (version index : ℕ) → length (keystream key version index) ≡ 32
length-keystream key version index = length-sha256 _

pub length-keystream_blocks : (key : List ℕ) (version n : ℕ) → length (keystream_blocks key version n) ≡ 32 * n
length-keystream_blocks key version n = length_from (keystream key version) 0 n (length-keystream key version)
