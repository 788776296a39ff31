-- The page with the least number of those that have a slot that is not out, as far as a search has come.
use Rattle.std.specs.Prelude.{◌≡◌, ℕ, ◌<◌, ◌≤◌, ◌==◌, Bool, true, false, List, length, get_or, Option, Some, None}
use Rattle.driver_slots.specs.inner.Keeper.{ArrayView, free_of}

abbrev pub is_full_at : List ArrayView → ℕ → ArrayView → Bool
is_full_at xs k d = free_of (get_or xs k d) == 0

-- of the places below one
pub record IsLeastAt (xs : List ArrayView) (least below : ℕ) : Type 0 where
  pub low : least < below
  pub within : least < length xs
  pub room : (d : ArrayView) → is_full_at xs least d ≡ false
  pub least_of : (d : ArrayView) (k : ℕ) → k < below → is_full_at xs k d ≡ false → (get_or xs least d).va ≤ (get_or xs k d).va

abbrev pub IsLeastBelow : List ArrayView → Option ℕ → ℕ → Type 0
IsLeastBelow xs None below = (d : ArrayView) (k : ℕ) → k < below → is_full_at xs k d ≡ true
IsLeastBelow xs (Some least) below = IsLeastAt xs least below
