use Rattle.std.proofs.Common.{arith, ◌≡◌, ℕ, ◌+◌, ◌<◌, ◌≤◌, List, length, get_or, take, ap, ◌∙◌, ◌++◌}
use Rattle.std.specs.Prelude.{vec_capacity, vec_len}
use Rattle.text_words.specs.declared.words.Word.{Word}
use Rattle.text_words.specs.inner.Room.{word_room}
use Rattle.text_words.specs.inner.Words.{word_text}
use Rattle.picture_text.specs.inner.Parts.{parts_room, parts_text}
use Rattle.picture_text.proofs.PartLaws.{parts_more, parts_room_more, parts_room_past}
use Rattle.picture_text.proofs.lines.write_parts.Goals as goal

-- where there is room for all, there is room for the next
fits : (parts : List Word) (i : ℕ) (d : Word) (first len capacity : ℕ) → i < length parts → first + parts_room parts ≤ capacity
    → len ≤ first + parts_room (take i parts) → len + word_room (get_or parts i d) ≤ capacity
fits parts i d first len capacity within room far = omega (arith, parts_room_past parts i d within, room, far)

pub write_word-requires : goal.write_word-requires
write_word-requires c =
    fits c.args.parts.now c.loop-part.part-index _ (vec_len c.args.onto.now) (vec_len c.loop-part.onto) (vec_capacity c.loop-part.onto)
    (omega arith) (grind (arith, c.requires, c.loop-part.invariant.room)) (grind (arith, c.loop-part.invariant.room))

-- a part more
more : (text was now : List ℕ) (parts : List Word) (i : ℕ) (d : Word) → i < length parts → was ≡ text ++ parts_text (take i parts)
    → now ≡ was ++ word_text (get_or parts i d) → now ≡ text ++ parts_text (take (i + 1) parts)
more text was now parts i d within so_far written =
    written ∙ ap (λ (t : List ℕ). t ++ word_text (get_or parts i d)) so_far ∙ parts_more text parts i d within

used : (parts : List Word) (i : ℕ) (d : Word) (first was now : ℕ) → i < length parts → was ≤ first + parts_room (take i parts)
    → now ≤ was + word_room (get_or parts i d) → now ≤ first + parts_room (take (i + 1) parts)
used parts i d first was now within so_far written = omega (arith, parts_room_more parts i d within, so_far, written)

pub loop-part-preserved : goal.loop-part-preserved
loop-part-preserved c =
    let within : c.loop-part.part-index < length c.args.parts.now = omega arith in
    record {
      text = more c.args.onto.now.items c.loop-part.onto.items c.write_word.new.onto.items c.args.parts.now c.loop-part.part-index _ within
          c.loop-part.invariant.text c.write_word.ensures.text;
      room = (
        used c.args.parts.now c.loop-part.part-index _ (vec_len c.args.onto.now) (vec_len c.loop-part.onto)
            (vec_len c.write_word.new.onto) within c.loop-part.invariant.room.0 c.write_word.ensures.room.0,
        omega (arith, c.write_word.ensures.room.1, c.loop-part.invariant.room.1),
      );
    }
