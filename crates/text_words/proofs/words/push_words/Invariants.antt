use Rattle.std.proofs.Common.{◌≡◌, map, take}
use Rattle.text_words.specs.inner.Room.{UsesRoom, words_room}
use Rattle.text_words.specs.inner.Words.{with_words, word_text}
use Rattle.text_words.proofs.words.push_words.Given as goal

abbrev pub invariant-loop-word : goal.invariant-loop-word
invariant-loop-word l = record {
  text : l.onto.items ≡ with_words l.fn.onto.items (map word_text (take l.word-index l.words));
  room : UsesRoom (words_room (take l.word-index l.words)) l.fn.onto l.onto;
}
