-- The message of a tag, piece by piece.
use Rattle.std.proofs.Common.{◌≡◌, ℕ, List, ◌++◌, append_assoc, refl, ap, ◌∙◌}
use Rattle.std.specs.Int.{w64, to_le_bytes}
use Rattle.sha2.specs.Sha256.{sha256}
use Rattle.sgx_types.specs.declared.record.Header.{Header}
use Rattle.seal_record.specs.Cipher.{tag}

six_pieces : (key version enclave address flags cipher : List ℕ)
    → key ++ version ++ enclave ++ address ++ flags ++ cipher ≡ key ++ version ++ (enclave ++ address ++ flags) ++ cipher
six_pieces key version enclave address flags cipher = simp append_assoc

pub tag_of_pieces : (key cipher v e a f : List ℕ) (version : ℕ) (header : Header) → v ≡ to_le_bytes w64 version
    → e ≡ to_le_bytes w64 header.enclave → a ≡ to_le_bytes w64 header.address
    → f ≡ to_le_bytes w64 header.flags → sha256 (key ++ v ++ e ++ a ++ f ++ cipher) ≡ tag key version header cipher
unfolding tag
tag_of_pieces key cipher v e a f version header is_v is_e is_a is_f =
    ap sha256 (six_pieces key v e a f cipher) ∙ rw (is_v, is_e, is_a, is_f) refl
