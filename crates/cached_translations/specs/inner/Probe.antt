-- A table that leads from a page to a place, by linear probing: a page stands at the first place that was free from its number mod 128 on.
use Rattle.std.specs.Prelude.{ℕ, ◌≡◌, ◌≢◌, ◌<◌, ◌+◌, ◌%◌, ◌↔◌, ◌⊎◌, true, List, Option, Some, None}
use Rattle.std.specs.Prelude.{is_some, length, get_or, count_by, Contains}
use Rattle.cached_translations.specs.declared.probe_table.Slot.{Slot}
use Rattle.cached_translations.specs.declared.probe_table.TheConstants.{SLOTS}

-- how many places are in use
abbrev pub used : List (Option Slot) → ℕ
used slots = count_by is_some slots

-- what stands at a place, counted around the table's end
abbrev pub slot_at : List (Option Slot) → ℕ → Option Slot
slot_at slots k = get_or slots (k % SLOTS) None

-- a page stands at a place
pub record IsSlotOf (slots : List (Option Slot)) (at number : ℕ) : Type 0 where
  pub slot : Slot
  pub within : at < SLOTS
  pub here : get_or slots at None ≡ Some slot
  pub of_page : slot.number ≡ number

-- the table leads from a page to a place
abbrev pub Leads : List (Option Slot) → ℕ → ℕ → Type 0
Leads slots number place = Contains slots (Some (record { number = number; place = place }))

-- a free place, with no place free from a page's number to it
pub record IsFree (slots : List (Option Slot)) (number at : ℕ) : Type 0 where
  pub steps : ℕ
  pub few : steps < SLOTS
  pub there : (number + steps) % SLOTS ≡ at
  pub free : get_or slots at None ≡ None
  pub taken : (k : ℕ) → k < steps → is_some (slot_at slots (number + k)) ≡ true

-- no page stands at two places
abbrev pub AreOnce : List (Option Slot) → Type 0
AreOnce slots = (i j : ℕ) (a b : Slot) → i < SLOTS → j < SLOTS → get_or slots i None ≡ Some a → get_or slots j None ≡ Some b
    → a.number ≡ b.number → i ≡ j

-- no page stands twice, and from a page's number to its place no place is free
pub record IsProbed (slots : List (Option Slot)) : Type 0 where
  pub whole : length slots ≡ SLOTS
  pub once : AreOnce slots
  pub reached : (step : ℕ) (a : Slot) → step < SLOTS → slot_at slots (a.number + step) ≡ Some a → (k : ℕ) → k < step
      → is_some (slot_at slots (a.number + k)) ≡ true

-- .. but for one place, `filled` places past another; and the pages that stand up to `step` places past that one are reached past no gap
pub record IsGapped (slots : List (Option Slot)) (from filled step : ℕ) : Type 0 where
  pub whole : length slots ≡ SLOTS
  pub gap : slot_at slots (from + filled) ≡ None
  pub once : AreOnce slots
  pub reached : (steps : ℕ) (a : Slot) → steps < SLOTS → slot_at slots (a.number + steps) ≡ Some a → (k : ℕ) → k < steps
      → (is_some (slot_at slots (a.number + k)) ≡ true) ⊎ ((a.number + k) % SLOTS ≡ (from + filled) % SLOTS)
  pub passed : (steps : ℕ) (a : Slot) → steps < SLOTS → (j : ℕ) → filled < j → j < step → (a.number + steps) % SLOTS ≡ (from + j) % SLOTS
      → slot_at slots (a.number + steps) ≡ Some a → steps + filled < j

-- no page stands twice, the first `step` places of a page's run are free, and no other place is free where a run passes
pub record IsSwept (slots : List (Option Slot)) (number step : ℕ) : Type 0 where
  pub whole : length slots ≡ SLOTS
  pub once : AreOnce slots
  pub swept : (k : ℕ) → k < step → slot_at slots (number + k) ≡ None
  pub reached : (steps : ℕ) (a : Slot) → steps < SLOTS → slot_at slots (a.number + steps) ≡ Some a → (k : ℕ) → k < steps
      → (is_some (slot_at slots (a.number + k)) ≡ true) ⊎ ((i : ℕ) × (i < step) × ((a.number + k) % SLOTS ≡ (number + i) % SLOTS))

-- one page more
pub record Adds (old new : List (Option Slot)) (number place : ℕ) : Type 0 where
  pub leads : (n p : ℕ) → Leads new n p ↔ (Leads old n p ⊎ ((n ≡ number) × (p ≡ place)))
  pub count : used new ≡ used old + 1

-- one page less
pub record Drops (old new : List (Option Slot)) (number : ℕ) : Type 0 where
  pub leads : (n p : ℕ) → Leads new n p ↔ (Leads old n p × (n ≢ number))
  pub count : used new + 1 ≡ used old
