-- The parts that a line is written in, one behind the other, and their room.
use Rattle.std.specs.Prelude.{ℕ, ◌+◌, List, [], ◌∷◌, flat_map}
use Rattle.text_words.specs.declared.words.Word.{Word}
use Rattle.text_words.specs.inner.Room.{word_room}
use Rattle.text_words.specs.inner.Words.{word_text}

abbrev pub parts_text : List Word → List ℕ
parts_text parts = flat_map word_text parts

abbrev pub parts_room : List Word → ℕ
parts_room [] = 0
parts_room (part ∷ others) = word_room part + parts_room others
