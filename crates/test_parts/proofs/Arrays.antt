-- A version array page that is taken out of one frame and put into another.
use Rattle.std.proofs.Common.{◌≡◌, ◌≢◌, ℕ, ◌<◌, ◌≤◌, true, false, List, Option, is_some, length, length-set}
use Rattle.std.proofs.Common.{arith, refl, ap, ◌∙◌}
use Rattle.std.proofs.lemmas.Bool.{eq-eqb, ne_eqb}
use Rattle.version_array.specs.declared.va_page.SlotState.{SlotState}
use Rattle.version_array.specs.inner.Slots.{has_page, pages_made, with_filled, without_page}
use Rattle.version_array.proofs.TableLaws.{made-without, page_at-filled, page_at-without}

-- a frame that had none has none then
pub vacant_then : (pages : List (Option (List SlotState))) (n m : ℕ) → has_page pages n ≡ true → has_page pages m ≡ false → n ≢ m
    → has_page (without_page pages n) m ≡ false
vacant_then pages n m there none apart = ap is_some (page_at-without pages n m there) ∙ rw (ne_eqb n m apart) none

-- fewer are in frames than were made
pub fewer_then : (pages : List (Option (List SlotState))) (n made : ℕ) → has_page pages n ≡ true → pages_made pages ≤ made
    → pages_made (without_page pages n) < made
fewer_then pages n made there few = let one = made-without pages n there in omega (arith, one, few)

-- and then the other frame has it
pub there_then : (pages : List (Option (List SlotState))) (n m : ℕ) (bytes : List ℕ) → m < length pages
    → has_page (with_filled (without_page pages n) m bytes) m ≡ true
there_then pages n m bytes low =
    ap is_some (page_at-filled (without_page pages n) m m bytes (rw length-set low)) ∙ rw (eq-eqb m m refl) refl
