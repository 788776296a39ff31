-- Cutting a text into lines and a line into words gives back what was joined.
use Rattle.std.proofs.Common.{◌≡◌, ℕ, suc, ◌<◌, ◌≤◌, Bool, true, false, eqb, ltb, not, ◌&&◌, List, [], ◌∷◌}
use Rattle.std.proofs.Common.{◌++◌, length, map, filter, flat_map, All, refl, ap, ◌∙◌, append_assoc, arith}
use Rattle.std.specs.List.{AllByRecursion, join_with_byte, slice_split, list_all}
use Rattle.std.proofs.lemmas.Bool.{and_parts, ltb-true, ne_eqb, not_from_false}
use Rattle.std.proofs.lemmas.List.Elements.{All-nil, All-cons, All-append}
use Rattle.std.proofs.lemmas.List.Splits.{slice_split_none, slice_split_at}
use Rattle.text_words.specs.Words.{Words, line_text}

-- a word has bytes, each above the space
abbrev pub is_word : List ℕ → Bool
is_word word = ltb 0 (length word) && list_all (ltb 32) word

abbrev pub AreWords : Words → Type 0
AreWords words = AllByRecursion (λ word. is_word word ≡ true) words

abbrev pub IsApart : ℕ → List ℕ → Type 0
IsApart c bytes = All (λ b. eqb b c ≡ false) bytes

above-apart : (c : ℕ) (bytes : List ℕ) → c ≤ 32 → list_all (ltb 32) bytes ≡ true → IsApart c bytes
above-apart c [] small above = All-nil (λ b. eqb b c ≡ false)
above-apart c (b ∷ bytes) small above =
    let p = and_parts _ _ above in
    let high : 32 < b = ltb-true 32 b p.0 in
    All-cons (λ b. eqb b c ≡ false) b bytes (ne_eqb b c (λ e. omega arith)) (above-apart c bytes small p.1)

word-apart : (c : ℕ) (word : List ℕ) → c ≤ 32 → is_word word ≡ true → IsApart c word
word-apart c word small h = let p = and_parts _ _ h in above-apart c word small p.1

word-some : (word : List ℕ) → is_word word ≡ true → not (eqb (length word) 0) ≡ true
word-some [] h = absurd cc
word-some (b ∷ bytes) h = not_from_false _ (ne_eqb (suc (length bytes)) 0 (λ e. omega arith))

-- ---- words of a line

-- joined by spaces, no word has a line feed
pub join-apart : (words : Words) → AreWords words → IsApart 10 (join_with_byte 32 words)
join-apart [] h = All-nil (λ b. eqb b 10 ≡ false)
join-apart (word ∷ []) h = word-apart 10 word (omega arith) h.0
join-apart (word ∷ next ∷ words) h =
    let first = word-apart 10 word (omega arith) h.0 in
    let rest = join-apart (next ∷ words) h.1 in
    All-append (λ b. eqb b 10 ≡ false) word (32 ∷ join_with_byte 32 (next ∷ words)) first
    (All-cons (λ b. eqb b 10 ≡ false) 32 (join_with_byte 32 (next ∷ words)) refl rest)

-- the empty line has one empty part
abbrev pub parts_of : Words → Words
parts_of [] = [] ∷ []
parts_of (word ∷ words) = word ∷ words

pub split-join : (words : Words) → AreWords words → slice_split (λ b. eqb b 32) (join_with_byte 32 words) ≡ parts_of words
split-join [] h = refl
split-join (word ∷ []) h = slice_split_none (λ b. eqb b 32) word (word-apart 32 word (omega arith) h.0)
split-join (word ∷ next ∷ words) h =
    slice_split_at (λ b. eqb b 32) word 32 (join_with_byte 32 (next ∷ words)) (word-apart 32 word (omega arith) h.0) refl
    ∙ ap (λ (parts : Words). word ∷ parts) (split-join (next ∷ words) h.1)

filter-words : (words : Words) → AreWords words → filter (λ word. not (eqb (length word) 0)) words ≡ words
filter-words [] h = refl
filter-words (word ∷ words) h = rw (word-some word h.0, filter-words words h.1) refl

pub filter-parts : (words : Words) → AreWords words → filter (λ word. not (eqb (length word) 0)) (parts_of words) ≡ words
filter-parts [] h = refl
filter-parts (word ∷ words) h = filter-words (word ∷ words) h

-- ---- lines of a text

-- what stands after the last line feed is one part more
pub split-lines : (lines : List Words) → AllByRecursion AreWords lines
    → slice_split (λ b. eqb b 10) (flat_map line_text lines) ≡ map (join_with_byte 32) lines ++ [] ∷ []
split-lines [] h = refl
split-lines (line ∷ lines) h =
    ap (slice_split (λ b. eqb b 10)) (append_assoc (join_with_byte 32 line) (10 ∷ []) (flat_map line_text lines))
    ∙ slice_split_at (λ b. eqb b 10) (join_with_byte 32 line) 10 (flat_map line_text lines) (join-apart line h.0) refl
    ∙ ap (λ (parts : List (List ℕ)). join_with_byte 32 line ∷ parts) (split-lines lines h.1)
