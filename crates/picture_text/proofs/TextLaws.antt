-- The text of a picture, part by part.
use Rattle.std.proofs.Common.{◌≡◌, ℕ, List, ◌++◌, length, reverse, sym, ap, ◌∙◌, append_assoc}
use Rattle.std.specs.List.{flat_map}
use Rattle.std.proofs.lemmas.List.{reverse-reverse}
use Rattle.sgx_rules.specs.declared.entries.Entry.{Entry}
use Rattle.picture_text.specs.declared.events.Lane.{Lane}
use Rattle.picture_text.specs.declared.events.PictureEvent.{PictureEvent}
use Rattle.picture_text.specs.Events.{events_of}
use Rattle.picture_text.specs.Lanes.{lanes_of}
use Rattle.picture_text.specs.PictureText.{head_text, lane_text, event_text, tail_text, text_of, picture_of}

-- the four parts one behind the other
pub whole : (entries : List Entry) (order : List Lane) (drawn : List PictureEvent) (x y z text : List ℕ) → x ≡ head_text
    → y ≡ x ++ flat_map (lane_text order) (reverse order) → z ≡ y ++ flat_map (event_text entries order) drawn
    → text ≡ z ++ tail_text (length entries) → text ≡ text_of entries order drawn
unfolding text_of
whole entries order drawn x y z text hx hy hz ht =
    ht ∙ ap (λ t. t ++ tail_text (length entries)) (hz ∙ ap (λ t. t ++ flat_map (event_text entries order) drawn)
    (hy ∙ ap (λ t. t ++ flat_map (lane_text order) (reverse order)) hx))

-- of the events of all entries, that is the picture
pub pictured : (entries : List Entry) (drawn : List PictureEvent) (text : List ℕ) → drawn ≡ events_of (reverse entries)
    → text ≡ text_of entries (lanes_of drawn) drawn → text ≡ picture_of (reverse entries)
pictured entries drawn text is h = h ∙ (λ i. text_of (sym (reverse-reverse entries) i) (lanes_of (is i)) (is i))

-- the parts of a line, each behind the others
pub line_parts : (a l b d c n k u : List ℕ)
    → ((((a ++ l) ++ (b ++ (d ++ c))) ++ n) ++ k) ++ u ≡ ((((((a ++ l) ++ b) ++ d) ++ c) ++ n) ++ k) ++ u
line_parts a l b d c n k u = simp append_assoc

-- .. of a counter's line
pub count_parts : (a l b d c n g v z : List ℕ)
    → (a ++ l) ++ (b ++ (d ++ (c ++ (n ++ (g ++ (v ++ z)))))) ≡ (((((((a ++ l) ++ b) ++ d) ++ c) ++ n) ++ g) ++ v) ++ z
count_parts a l b d c n g v z = simp append_assoc
