-- The lanes of one event more.
use Rattle.std.proofs.Common.{◌≡◌, ℕ, ◌+◌, ◌<◌, Bool, false, cond, if◌then◌else◌, List, [], ◌∷◌, ◌++◌, length, take}
use Rattle.std.proofs.Common.{get_or, reverse, refl, sym}
use Rattle.std.proofs.Common.{ap, ◌∙◌, subst, Option, Some, is_some, arith, length-append}
use Rattle.std.proofs.lemmas.List.{take_more, reverse-append, length-reverse}
use Rattle.std.specs.HashMap.{get}
use Rattle.picture_text.specs.declared.lanes.LaneKey.{LaneKey}
use Rattle.picture_text.specs.declared.lanes.Lanes.{Lanes}
use Rattle.picture_text.specs.inner.Following.{AreNumbered}
use Rattle.picture_text.specs.declared.events.Lane.{Lane}
use Rattle.picture_text.specs.declared.events.PictureEvent.{PictureEvent}
use Rattle.picture_text.specs.Lanes.{lane_key, same_lane_key, number_in, with_lane, lanes_after, lanes_of}

lanes_append : (known : List Lane) (xs : List PictureEvent) (x : PictureEvent)
    → lanes_after known (xs ++ x ∷ []) ≡ with_lane (lanes_after known xs) x.lane
lanes_append known [] x = refl
lanes_append known (y ∷ ys) x = lanes_append (with_lane known y.lane) ys x

pub lanes_more : (xs : List PictureEvent) (i : ℕ) (d : PictureEvent) → i < length xs
    → lanes_of (take (i + 1) xs) ≡ with_lane (lanes_of (take i xs)) (get_or xs i d).lane
lanes_more xs i d within = ap lanes_of (take_more xs i d within) ∙ lanes_append [] (take i xs) (get_or xs i d)

pub numbered_more : (known : Lanes) (xs : List PictureEvent) (i : ℕ) (d : PictureEvent) → i < length xs
    → AreNumbered known (with_lane (lanes_of (take i xs)) (get_or xs i d).lane) → AreNumbered known (lanes_of (take (i + 1) xs))
numbered_more known xs i d within are =
    let Are : List Lane → Type 0 = λ order. AreNumbered known order in subst Are (sym (lanes_more xs i d within)) are

-- a lane that was not known is noted with its number
pub noted : (old new : Lanes) (order : List Lane) (lane : Lane) (key : LaneKey) (number : ℕ) → key ≡ lane_key lane → AreNumbered old order
    → is_some (get same_lane_key old.numbers key) ≡ false → new.lanes.items ≡ old.lanes.items ++ lane ∷ [] → number ≡ length new.lanes.items
    → ((k : LaneKey) → get same_lane_key new.numbers k ≡ cond (same_lane_key key k) (Some number) (get same_lane_key old.numbers k))
    → AreNumbered new (with_lane order lane)
noted old new order lane key number named are unknown items counted reads =
    let first : is_some (number_in order lane) ≡ false
    = ap (λ (o : Option ℕ). is_some o) (sym (are.numbers lane) ∙ ap (get same_lane_key old.numbers) (sym named)) ∙ unknown in
    let whole : new.lanes.items ≡ reverse order ++ lane ∷ [] = items ∙ ap (λ (ls : List Lane). ls ++ lane ∷ []) are.lanes in
    let count : number ≡ length order + 1
    = omega (arith, counted, ap length whole, length-append (reverse order) (lane ∷ []), length-reverse order) in
    let more : AreNumbered new (lane ∷ order) = record {
      lanes = whole ∙ sym (reverse-append (lane ∷ []) order);
      numbers = λ q. reads (lane_key q)
          ∙ (λ i. cond (same_lane_key (named i) (lane_key q)) (Some (count i)) (are.numbers q i));
    } in
    let Are : Bool → Type 0 = λ b. AreNumbered new (if b then order else lane ∷ order) in subst Are (sym first) more
