-- A page of which the first blocks are enciphered.
use Rattle.std.proofs.Common.{◌≡◌, ℕ, ◌+◌, ◌*◌, ◌≤◌, List, [], ◌++◌, length, take, drop, ap, sym, ◌∙◌}
use Rattle.std.proofs.Common.{add-one, arith}
use Rattle.std.proofs.lemmas.List.{append-nil, take_all, drop_all}
use borrow.Rule.Slice.PartMut.{put_mid}
use Rattle.seal_record.specs.Cipher.{keystream, keystream_blocks, xor_bytes, cipher}
use Rattle.seal_record.proofs.Blocks.{keystream_blocks-more, length-keystream_blocks}
use Rattle.seal_record.proofs.Xor.{block_more}

abbrev pub enciphered : List ℕ → ℕ → ℕ → List ℕ → List ℕ
enciphered key version index plain = xor_bytes (take (32 * index) plain) (keystream_blocks key version index) ++ drop (32 * index) plain

-- one block more
pub enciphered_more : (key : List ℕ) (version index k : ℕ) (plain now block changed : List ℕ) → k ≡ 32 → 32 * index + 32 ≤ length plain
    → block ≡ keystream key version index
    → now ≡ enciphered key version index plain → changed ≡ xor_bytes (take k (drop (32 * index) now)) block
    → put_mid (32 * index) k now changed ≡ enciphered key version (index + 1) plain
enciphered_more key version index k plain now block changed is_k fits is_block is_now is_changed =
    let longer : keystream_blocks key version index ++ block ≡ keystream_blocks key version (index + 1)
    = ap (λ last. keystream_blocks key version index ++ last) is_block ∙ sym (keystream_blocks-more key version index)
    ∙ ap (keystream_blocks key version) (sym (add-one index)) in
    let further : 32 * index + 32 ≡ 32 * (index + 1) = omega arith in
    block_more (32 * index) k plain (keystream_blocks key version index) block now changed is_k (length-keystream_blocks key version index)
    fits is_now is_changed
    ∙ ap (λ at. xor_bytes (take at plain) (keystream_blocks key version index ++ block) ++ drop at plain) further
    ∙ ap (λ stream. xor_bytes (take (32 * (index + 1)) plain) stream ++ drop (32 * (index + 1)) plain) longer

whole_page : (plain stream : List ℕ) → length plain ≡ 4096 → xor_bytes (take 4096 plain) stream ++ drop 4096 plain ≡ xor_bytes plain stream
whole_page plain stream size =
    let front : take 4096 plain ≡ plain = take_all 4096 plain (omega arith) in
    let rest : drop 4096 plain ≡ [] = drop_all 4096 plain (omega arith) in
    ap (λ last. xor_bytes (take 4096 plain) stream ++ last) rest ∙ append-nil (xor_bytes (take 4096 plain) stream)
    ∙ ap (λ bytes. xor_bytes bytes stream) front

-- all 128 blocks
pub enciphered_all : (key : List ℕ) (version index : ℕ) (plain now : List ℕ) → index ≡ 128 → length plain ≡ 4096
    → now ≡ enciphered key version index plain → now ≡ cipher key version plain
unfolding cipher
enciphered_all key version index plain now is_last size is_now =
    is_now ∙ ap (λ i. enciphered key version i plain) is_last ∙ whole_page plain (keystream_blocks key version 128) size
