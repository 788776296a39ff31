use Rattle.std.proofs.Common.{arith, ◌+◌, ◌<◌, ℕ, List, length, get_or, take}
use Rattle.text_words.specs.declared.words.Word.{Word}
use Rattle.text_words.specs.inner.Room.{word_room, words_room}
use Rattle.text_words.proofs.RoomLaws.{words_room_past}
use Rattle.text_words.proofs.words.push_words.Goals as goal

-- where no room is left for a word, none is for all
past : (words : List Word) (i : ℕ) (d : Word) (capacity len : ℕ) → i < length words → capacity < len + word_room (get_or words i d)
    → capacity + words_room (take i words) + 1 < len + words_room words
past words i d capacity len within lacks = omega (arith, words_room_past words i d within)

pub returns-in_err-push_word-clause-full : goal.returns-in_err-push_word-clause-full
returns-in_err-push_word-clause-full c =
    let within : c.loop-word.word-index < length c.args.words.now = omega arith in
    let h = past c.args.words.now c.loop-word.word-index _ _ _ within c.in_err-push_word.ensures.full in
    grind (arith, h, c.in_ok-push.ensures, c.loop-word.invariant.room)
