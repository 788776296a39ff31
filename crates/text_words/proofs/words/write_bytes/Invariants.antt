use Rattle.std.proofs.Common.{◌≡◌, ◌++◌, take}
use Rattle.text_words.specs.inner.Room.{UsesRoom}
use Rattle.text_words.proofs.words.write_bytes.Given as goal

abbrev pub invariant-loop-byte : goal.invariant-loop-byte
invariant-loop-byte l = record {
  text : l.onto.items ≡ l.fn.onto.items ++ take l.byte-index l.bytes;
  room : UsesRoom l.byte-index l.fn.onto l.onto;
}
