-- The room of words, one more at a time.
use Rattle.std.proofs.Common.{◌≡◌, ℕ, zero, suc, ◌+◌, ◌<◌, ◌≤◌, List, [], ◌∷◌, length, take, get_or, arith}
use Rattle.text_words.specs.declared.words.Word.{Word}
use Rattle.text_words.specs.inner.Room.{word_room, words_room}

pub words_room_more : (words : List Word) (i : ℕ) (d : Word) → i < length words
    → words_room (take (i + 1) words) ≡ words_room (take i words) + 1 + word_room (get_or words i d)
words_room_more [] i d within = absurd (omega arith)
words_room_more (word ∷ words) zero d within = omega arith
words_room_more (word ∷ words) (suc i) d within =
    let e : suc i + 1 ≡ suc (i + 1) = omega arith in
    let rest = words_room_more words i d (omega arith) in
    rw e (omega (arith, rest))

-- there is room for the space before a word that is still to come
pub words_room_next : (words : List Word) (i : ℕ) → i < length words → words_room (take i words) + 1 ≤ words_room words
words_room_next [] i within = absurd (omega arith)
words_room_next (word ∷ words) zero within = omega arith
words_room_next (word ∷ words) (suc i) within = let rest = words_room_next words i (omega arith) in omega (arith, rest)

-- .. and for the word
pub words_room_past : (words : List Word) (i : ℕ) (d : Word) → i < length words
    → words_room (take i words) + 1 + word_room (get_or words i d) ≤ words_room words
words_room_past [] i d within = absurd (omega arith)
words_room_past (word ∷ words) zero d within = omega arith
words_room_past (word ∷ words) (suc i) d within = let rest = words_room_past words i d (omega arith) in omega (arith, rest)

pub ruleset room_laws = (words_room_more, words_room_next)
