-- How what was given and what is held go on over the parts of a picture.
use Rattle.std.proofs.Common.{◌≡◌, ℕ, List, [], ◌++◌, length, take, drop, Option, Some}
use Rattle.std.proofs.Common.{None, refl, sym, ap, ◌∙◌}
use Rattle.std.proofs.Common.{append_assoc, reverse}
use Rattle.std.specs.List.{flat_map}
use Rattle.std.proofs.lemmas.List.{append-nil, reverse-reverse, take-append-drop}
use Rattle.std.proofs.lemmas.Grind.{flat_map-append}
use Rattle.io_edges.specs.Sinks.{GivesPart}
use Rattle.sgx_rules.specs.declared.entries.Entry.{Entry}
use Rattle.trace_pieces.specs.inner.Held.{IsHeld}
use Rattle.trace_pieces.proofs.HeldLaws.{broke_off, held_more, held_then}
use Rattle.picture_text.specs.declared.events.Lane.{Lane}
use Rattle.picture_text.specs.declared.events.PictureEvent.{PictureEvent}
use Rattle.picture_text.specs.Events.{events_of}
use Rattle.picture_text.specs.Lanes.{lanes_of}
use Rattle.picture_text.specs.PictureText.{head_text, lane_text, event_text, tail_text, text_of, picture_of}

-- nothing was given, and all is held
pub held_all : (given : Option (List ℕ)) (text : List ℕ) → IsHeld given given text text
held_all None text = record { front = []; given = refl; whole = refl }
held_all (Some bytes) text = record { front = []; given = ap (λ (b : List ℕ). Some b) (sym (append-nil bytes)); whole = refl }

-- a part of a front of a text was given
pub broke_front : (first now : Option (List ℕ)) (text more whole : List ℕ) → GivesPart first now text → text ++ more ≡ whole
    → GivesPart first now whole
broke_front first now text more whole part is = broke_off first first now text text more whole (held_all first text) part is

-- what is held goes on by what was printed behind it and partly given
pub held_on : (first then now : Option (List ℕ)) (before held text more : List ℕ) → IsHeld first then before text
    → IsHeld then now held (before ++ more) → IsHeld first now held (text ++ more)
held_on first then now before held text more old new =
    held_then first then now (before ++ more) held (text ++ more) (held_more first then before more text old) new

-- .. and those that are still to come
pub lines_parted : {A : Type 0} (f : A → List ℕ) (text : List ℕ) (xs : List A) (i : ℕ)
    → (text ++ flat_map f (take i xs)) ++ flat_map f (drop i xs) ≡ text ++ flat_map f xs
lines_parted f text xs i =
    append_assoc text (flat_map f (take i xs)) (flat_map f (drop i xs))
    ∙ ap (λ ys. text ++ ys) (sym (flat_map-append f (take i xs) (drop i xs)) ∙ ap (flat_map f) (take-append-drop i xs))

-- ---- the text of a picture, whose lanes stand newest first

-- up to the names of the lanes
abbrev pub first_text : List Lane → List ℕ
first_text order = head_text ++ flat_map (lane_text order) (reverse order)

-- .. and up to the events
abbrev pub second_text : List Entry → List Lane → List PictureEvent → List ℕ
second_text entries order drawn = first_text order ++ flat_map (event_text entries order) drawn

pub text_ended : (entries : List Entry) (order : List Lane) (drawn : List PictureEvent)
    → second_text entries order drawn ++ tail_text (length entries) ≡ text_of entries order drawn
unfolding text_of
text_ended entries order drawn = refl

-- the events and the end stand behind the names
pub text_parted : (entries : List Entry) (order : List Lane) (drawn : List PictureEvent)
    → first_text order ++ (flat_map (event_text entries order) drawn ++ tail_text (length entries)) ≡ text_of entries order drawn
text_parted entries order drawn =
    sym (append_assoc (first_text order) (flat_map (event_text entries order) drawn) (tail_text (length entries)))
    ∙ text_ended entries order drawn

-- the names were printed behind the head
pub first_is : (head : List ℕ) (order names : List Lane) → head ≡ head_text → names ≡ reverse order
    → head ++ flat_map (lane_text order) names ≡ first_text order
first_is head order names is all = λ i. is i ++ flat_map (lane_text order) (all i)

pub held_as : (first now : Option (List ℕ)) (held text other : List ℕ) → text ≡ other → IsHeld first now held text
    → IsHeld first now held other
held_as first now held text other is old = record { front = old.front; given = old.given; whole = old.whole ∙ is }

-- what was drawn of all entries is their picture
pub given_picture : (entries : List Entry) (one two : List PictureEvent) → one ≡ events_of (reverse entries)
    → two ≡ events_of (reverse entries) → text_of entries (lanes_of one) two ≡ picture_of (reverse entries)
given_picture entries one two is are = λ i. text_of (sym (reverse-reverse entries) i) (lanes_of (is i)) (are i)
