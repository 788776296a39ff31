-- How much room words need in memory that was taken before. Where there is as much, none is asked for.
use Rattle.std.specs.Prelude.{ℕ, ◌+◌, ◌≤◌, ◌<◌, List, [], ◌∷◌, length, vec_len, vec_capacity}
use Rattle.std.specs.Global.{Vec}
use Rattle.text_words.specs.declared.words.Word.{Word}
use Rattle.text_words.specs.declared.words.Word.TheVariants as words

-- a name as it stands; of the other words none is longer than `0x` with 64 digits
abbrev pub word_room : Word → ℕ
word_room (words.Name name) = length name.now
word_room word = 66

-- words with a space or a line feed each
abbrev pub words_room : List Word → ℕ
words_room [] = 0
words_room (word ∷ others) = 1 + word_room word + words_room others

-- a text has room for n bytes more
abbrev pub HasRoom : ℕ → Vec ℕ → Type 0
HasRoom n text = vec_len text + n ≤ vec_capacity text

-- .. or has not
abbrev pub LacksRoom : ℕ → Vec ℕ → Type 0
LacksRoom n text = vec_capacity text < vec_len text + n

-- a text has at most n bytes more than before, in no less memory
abbrev pub UsesRoom : ℕ → Vec ℕ → Vec ℕ → Type 0
UsesRoom n old new = (vec_len new ≤ vec_len old + n) × (vec_capacity old ≤ vec_capacity new)
