-- What a keeper is kept as.
use Rattle.std.specs.Prelude.{◌≡◌, ℕ, ◌+◌, ◌<◌, ◌≤◌, Bool, List, length, get_or, vec_capacity}
use Rattle.std.specs.List.{All}
use Rattle.driver_slots.specs.declared.array_slots.ArraySlots.TheInside as one
use Rattle.driver_slots.specs.declared.keeper.SlotKeeper.TheInside.{Inside}
use Rattle.driver_slots.specs.inner.Keeper.{all_free, ArrayView, IsArray, Keeper}

abbrev pub array_of : one.Inside → ArrayView
array_of a = record { va = a.va; first = a.first; free = a.free }

abbrev pub IsArrayKept : one.Inside → Type 0
IsArrayKept a = IsArray (array_of a)

-- no two places have one page
abbrev pub ArraysAreApart : List ArrayView → Type 0
ArraysAreApart arrays = (i k : ℕ) (d : ArrayView) → i < length arrays → k < length arrays
    → (get_or arrays i d).va ≡ (get_or arrays k d).va → i ≡ k

abbrev pub keeper_of : Inside → Keeper
keeper_of k = record { arrays = k.arrays.items; room = length k.arrays.items + length k.maps.items }

abbrev pub IsAllFree : List Bool → Type 0
IsAllFree map = map ≡ all_free

-- each page was added once, and there is a map of all slots for each page that can still be added
pub record IsKeeperKept (k : Inside) : Type 0 where
  pub apart : ArraysAreApart k.arrays.items
  pub arrays : All IsArray k.arrays.items
  pub maps : All IsAllFree k.maps.items
  pub fits : length k.arrays.items + length k.maps.items ≤ vec_capacity k.arrays
