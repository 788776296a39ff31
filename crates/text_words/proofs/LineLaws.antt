-- How a text grows by words and lines.
use Rattle.std.proofs.Common.{◌≡◌, ℕ, ◌+◌, ◌<◌, List, [], ◌∷◌, ◌++◌, length, map, take, drop, get_or, refl, sym}
use Rattle.std.proofs.Common.{ap, ◌∙◌}
use Rattle.std.specs.List.{join_with_byte}
use Rattle.std.proofs.lemmas.List.{append_assoc, map_more}
use Rattle.text_words.specs.declared.words.Word.{Word}
use Rattle.text_words.specs.Words.{Words, line_text}
use Rattle.text_words.specs.inner.Words.{with_words, word_text}

pub with_words_append : (text : List ℕ) (words others : Words)
    → with_words (with_words text words) others ≡ with_words text (words ++ others)
with_words_append text [] others = refl
with_words_append text (word ∷ words) others = with_words_append (text ++ 32 ∷ word) words others

-- one more of a list of words
pub with_words_more : (text : List ℕ) (words : List Word) (i : ℕ) (d : Word) → i < length words
    → (with_words text (map word_text (take i words)) ++ 32 ∷ [])
    ++ word_text (get_or words i d) ≡ with_words text (map word_text (take (i + 1) words))
with_words_more text words i d within =
    append_assoc (with_words text (map word_text (take i words))) (32 ∷ []) (word_text (get_or words i d))
    ∙ with_words_append text (map word_text (take i words)) (word_text (get_or words i d) ∷ [])
    ∙ ap (with_words text) (sym (map_more word_text words i d within))

-- a name, and what stands behind it
pub with_words_named : (text name : List ℕ) (words : Words) → take 1 words ≡ name ∷ []
    → with_words (text ++ 32 ∷ name) (drop 1 words) ≡ with_words text words
with_words_named text name [] named = absurd cc
with_words_named text name (word ∷ words) named = let e : name ≡ word = cc in ap (λ (w : List ℕ). with_words (text ++ 32 ∷ w) words) e

-- a first word, and the others with a space before each
append-join : (text first : List ℕ) (others : Words) → text ++ join_with_byte 32 (first ∷ others) ≡ with_words (text ++ first) others
append-join text first [] = refl
append-join text first (word ∷ others) =
    sym (append_assoc text first (32 ∷ join_with_byte 32 (word ∷ others)))
    ∙ sym (append_assoc (text ++ first) (32 ∷ []) (join_with_byte 32 (word ∷ others)))
    ∙ append-join ((text ++ first) ++ 32 ∷ []) word others
    ∙ ap (λ (t : List ℕ). with_words t others) (append_assoc (text ++ first) (32 ∷ []) word)

-- a line, from its first word to its end
pub line_text_cons : (text first : List ℕ) (others : Words)
    → with_words (text ++ first) others ++ 10 ∷ [] ≡ text ++ line_text (first ∷ others)
line_text_cons text first others =
    ap (λ (t : List ℕ). t ++ 10 ∷ []) (sym (append-join text first others))
    ∙ append_assoc text (join_with_byte 32 (first ∷ others)) (10 ∷ [])

-- a line without its line feed
pub with_words_join : (text first : List ℕ) (others : Words)
    → with_words (text ++ first) others ≡ text ++ join_with_byte 32 (first ∷ others)
with_words_join text first others = sym (append-join text first others)
