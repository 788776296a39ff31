use Rattle.std.proofs.Common.{arith, ℕ, ◌+◌, ◌<◌, ◌≤◌, List, length, get_or, take}
use Rattle.std.specs.Prelude.{vec_capacity, vec_len}
use Rattle.text_words.specs.declared.words.Word.{Word}
use Rattle.text_words.specs.inner.Room.{word_room, words_room}
use Rattle.text_words.proofs.RoomLaws.{words_room_past}
use Rattle.text_words.proofs.words.write_words.Goals as goal

-- where there is room for all, there is room for the next
fits : (words : List Word) (i : ℕ) (d : Word) (first len capacity : ℕ) → i < length words → first + words_room words ≤ capacity
    → len ≤ first + words_room (take i words) + 1 → len + word_room (get_or words i d) ≤ capacity
fits words i d first len capacity within room far = omega (arith, words_room_past words i d within, room, far)

pub write_word-requires : goal.write_word-requires
write_word-requires c =
    fits c.args.words.now c.loop-word.word-index _ (vec_len c.args.onto.now) (vec_len c.push_reserved.new.self)
    (vec_capacity c.push_reserved.new.self) (omega arith)
    (grind (arith, c.requires, c.push_reserved.ensures, c.loop-word.invariant.room))
    (grind (arith, c.push_reserved.ensures, c.loop-word.invariant.room))
