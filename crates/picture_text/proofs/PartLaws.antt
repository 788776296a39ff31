-- Parts and lines, one more at a time, and the room of parts.
use Rattle.std.proofs.Common.{◌≡◌, ℕ, zero, suc, ◌+◌, ◌<◌, ◌≤◌, List, [], ◌∷◌, ◌++◌, length, take, get_or, arith, sym, ap, ◌∙◌}
use Rattle.std.specs.List.{flat_map}
use Rattle.std.proofs.lemmas.List.{flat_map_more, take_more}
use Rattle.text_words.specs.declared.words.Word.{Word}
use Rattle.text_words.specs.inner.Room.{word_room}
use Rattle.text_words.specs.inner.Words.{word_text}
use Rattle.picture_text.specs.inner.Parts.{parts_room, parts_text}

-- one line more of a list of them
pub lines_more : {A : Type 0} (f : A → List ℕ) (text : List ℕ) (xs : List A) (i : ℕ) (d : A) → i < length xs
    → (text ++ flat_map f (take i xs)) ++ f (get_or xs i d) ≡ text ++ flat_map f (take (i + 1) xs)
lines_more f text xs i d within =
    flat_map_more f text (take i xs) (get_or xs i d) ∙ ap (λ ys. text ++ flat_map f ys) (sym (take_more xs i d within))

pub parts_room_more : (parts : List Word) (i : ℕ) (d : Word) → i < length parts
    → parts_room (take (i + 1) parts) ≡ parts_room (take i parts) + word_room (get_or parts i d)
parts_room_more [] i d within = absurd (omega arith)
parts_room_more (part ∷ parts) zero d within = omega arith
parts_room_more (part ∷ parts) (suc i) d within =
    let e : suc i + 1 ≡ suc (i + 1) = omega arith in
    let rest = parts_room_more parts i d (omega arith) in
    rw e (omega (arith, rest))

-- there is room for a part that is still to come
pub parts_room_past : (parts : List Word) (i : ℕ) (d : Word) → i < length parts
    → parts_room (take i parts) + word_room (get_or parts i d) ≤ parts_room parts
parts_room_past [] i d within = absurd (omega arith)
parts_room_past (part ∷ parts) zero d within = omega arith
parts_room_past (part ∷ parts) (suc i) d within = let rest = parts_room_past parts i d (omega arith) in omega (arith, rest)

-- one part more
pub parts_more : (text : List ℕ) (parts : List Word) (i : ℕ) (d : Word) → i < length parts
    → (text ++ parts_text (take i parts)) ++ word_text (get_or parts i d) ≡ text ++ parts_text (take (i + 1) parts)
parts_more text parts i d within = lines_more word_text text parts i d within
