use Rattle.std.proofs.Common.{◌≡◌, ◌++◌, take}
use Rattle.text_words.specs.inner.Room.{UsesRoom}
use Rattle.picture_text.specs.inner.Parts.{parts_room, parts_text}
use Rattle.picture_text.proofs.lines.write_parts.Given as goal

abbrev pub invariant-loop-part : goal.invariant-loop-part
invariant-loop-part l = record {
  text : l.onto.items ≡ l.fn.onto.items ++ parts_text (take l.part-index l.parts);
  room : UsesRoom (parts_room (take l.part-index l.parts)) l.fn.onto l.onto;
}
