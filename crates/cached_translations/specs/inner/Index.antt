-- How a table leads to the places of a cache.
use Rattle.std.specs.Prelude.{ℕ, ◌≡◌, ◌<◌, ◌≤◌, List, Option, length, get_or, map}
use Rattle.cached_translations.specs.declared.cache.Translation.{Translation}
use Rattle.cached_translations.specs.declared.probe_table.Slot.{Slot}
use Rattle.cached_translations.specs.inner.Probe.{Leads, used}

-- the page of the translation in a place
abbrev pub number_at : List Translation → ℕ → ℕ
number_at places i = get_or (map (λ t. t.number) places) i 0

-- the table leads from no other page than those in the places from one on, and to its place
abbrev pub IsIndexOnly : List (Option Slot) → List Translation → ℕ → Type 0
IsIndexOnly slots places first = (n p : ℕ) → Leads slots n p → (first ≤ p) × (p < length places) × (number_at places p ≡ n)

-- the table leads from the page in each place to that place, and from no other
pub record IsIndex (slots : List (Option Slot)) (places : List Translation) : Type 0 where
  pub leads : (i : ℕ) → i < length places → Leads slots (number_at places i) i
  pub only : IsIndexOnly slots places 0
  pub count : used slots ≡ length places
