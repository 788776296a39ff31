-- The exclusive or of two lists.
use Rattle.std.proofs.Common.{◌≡◌, ℕ, zero, suc, ◌+◌, ◌<◌, ◌≤◌, List, [], ◌∷◌, ◌++◌, length, get_or, set}
use Rattle.std.proofs.Common.{take, drop, refl, ap, sym, ◌∙◌, arith}
use Rattle.std.specs.Prelude.{bit_xor}
use Rattle.std.specs.Int.Bits.{xor_assoc, xor_self, xor_zero_r}
use Rattle.std.proofs.lemmas.List.{take_at, drop_at, drop-drop, append_assoc, length-take-le}
use borrow.Rule.Slice.PartMut.{put_mid}
use Rattle.sgx_types.proofs.Chunks.{two_pieces}
use Rattle.seal_record.specs.Cipher.{xor_bytes}

byte_twice : (byte other : ℕ) → bit_xor (bit_xor byte other) other ≡ byte
byte_twice byte other = xor_assoc byte other other ∙ ap (bit_xor byte) (xor_self other) ∙ xor_zero_r byte

-- twice gives the list back, where the other list is long enough
pub xor_bytes-twice : (bytes others : List ℕ) → length bytes ≤ length others → xor_bytes (xor_bytes bytes others) others ≡ bytes
xor_bytes-twice [] others fits = refl
xor_bytes-twice (byte ∷ bytes) [] fits = absurd (omega arith)
xor_bytes-twice (byte ∷ bytes) (other ∷ others) fits =
    let head : bit_xor (bit_xor byte other) other ≡ byte = byte_twice byte other in
    let tail : xor_bytes (xor_bytes bytes others) others ≡ bytes = xor_bytes-twice bytes others (omega arith) in
    cc

pub length-xor_bytes : (bytes others : List ℕ) → length bytes ≤ length others → length (xor_bytes bytes others) ≡ length bytes
length-xor_bytes [] others fits = refl
length-xor_bytes (byte ∷ bytes) [] fits = absurd (omega arith)
length-xor_bytes (byte ∷ bytes) (other ∷ others) fits = ap suc (length-xor_bytes bytes others (omega arith))

pub xor_bytes-append : (front back others more : List ℕ) → length front ≡ length others
    → xor_bytes (front ++ back) (others ++ more) ≡ xor_bytes front others ++ xor_bytes back more
xor_bytes-append [] back [] more fits = refl
xor_bytes-append [] back (other ∷ others) more fits = absurd (omega arith)
xor_bytes-append (byte ∷ front) back [] more fits = absurd (omega arith)
xor_bytes-append (byte ∷ front) back (other ∷ others) more fits =
    ap (λ rest. bit_xor byte other ∷ rest) (xor_bytes-append front back others more (omega arith))

-- a list of which the first bytes have been changed already
abbrev pub changed_to : ℕ → List ℕ → List ℕ → List ℕ
changed_to i bytes others = xor_bytes (take i bytes) (take i others) ++ drop i bytes

-- one byte more
pub changed_more : (i : ℕ) (bytes others : List ℕ) → i < length bytes → i < length others
    → set (changed_to i bytes others) i (bit_xor (get_or (changed_to i bytes others) i 0) (get_or others i 0)) ≡ changed_to (suc i) bytes
    others
changed_more i [] others low fits = absurd (omega arith)
changed_more i (byte ∷ bytes) [] low fits = absurd (omega arith)
changed_more zero (byte ∷ bytes) (other ∷ others) low fits = refl
changed_more (suc i) (byte ∷ bytes) (other ∷ others) low fits =
    ap (λ rest. bit_xor byte other ∷ rest) (changed_more i bytes others (omega arith) (omega arith))

-- a page of which the first bytes are enciphered, and then the block behind them
pub block_more : (at k : ℕ) (plain front block now changed : List ℕ) → k ≡ 32 → length front ≡ at → at + 32 ≤ length plain
    → now ≡ xor_bytes (take at plain) front ++ drop at plain
    → changed ≡ xor_bytes (take k (drop at now)) block
    → put_mid at k now changed ≡ xor_bytes (take (at + 32) plain) (front ++ block) ++ drop (at + 32) plain
block_more at k plain front block now changed is_k is_front fits is_now is_changed =
    let same_size : length (take at plain) ≡ length front = length-take-le at plain (omega arith) ∙ sym is_front in
    let done : length (xor_bytes (take at plain) front) ≡ at = length-xor_bytes (take at plain) front (omega arith) ∙ same_size
    ∙ is_front in
    let before : take at now ≡ xor_bytes (take at plain) front = ap (take at) is_now
    ∙ take_at (xor_bytes (take at plain) front) (drop at plain) at done in
    let behind : drop at now ≡ drop at plain = ap (drop at) is_now ∙ drop_at (xor_bytes (take at plain) front) (drop at plain) at done in
    let left : drop 32 (drop at plain) ≡ drop (at + 32) plain = drop-drop 32 at plain in
    let both : xor_bytes (take at plain ++ take 32 (drop at plain)) (front ++ block) ≡ xor_bytes (take at plain) front
    ++ xor_bytes (take 32 (drop at plain)) block = xor_bytes-append (take at plain) (take 32 (drop at plain)) front block same_size in
    let whole : take at plain ++ take 32 (drop at plain) ≡ take (at + 32) plain = two_pieces at 32 plain in
    let grouped : xor_bytes (take at plain) front ++ xor_bytes (take 32 (drop at plain)) block
    ++ drop (at + 32) plain ≡ xor_bytes (take at plain) front
    ++ (xor_bytes (take 32 (drop at plain)) block ++ drop (at + 32) plain) =
    append_assoc (xor_bytes (take at plain) front) (xor_bytes (take 32 (drop at plain)) block) (drop (at + 32) plain) in
    let parts : put_mid at k now changed ≡ take at now ++ (changed ++ drop k (drop at now)) = refl in
    cc
