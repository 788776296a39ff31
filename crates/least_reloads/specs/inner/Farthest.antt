-- The steps by which the page goes that is used last, and the held pages by their next uses.
use Rattle.std.specs.Prelude.{◌≡◌, ℕ, ◌+◌, ◌<◌, ◌≤◌, min, true, false, if◌then◌else◌}
use Rattle.std.specs.Prelude.{◌⊎◌, List, [], ◌∷◌, ◌++◌, length, take, drop, Option, Some}
use Rattle.std.specs.List.{IsDistinct}
use Rattle.sgx_types.specs.declared.names.Page.{Page}
use Rattle.sgx_types.specs.Pages.{same_page}
use Rattle.least_reloads.specs.Plans.{StepView, has, held_behind}

-- nothing goes and nothing is loaded
abbrev pub stays : StepView
stays = record { out = []; load = [] }

-- a page is loaded
abbrev pub comes : Page → StepView
comes page = record { out = []; load = page ∷ [] }

-- a page goes, and another is loaded
abbrev pub swaps : Page → Page → StepView
swaps old page = record { out = old ∷ []; load = page ∷ [] }

-- however many of the coming accesses are looked at: where the old page is among them, so is every held page
abbrev pub IsUsedLast : List Page → List Page → Page → Type 0
IsUsedLast held coming old =
    (t : ℕ) → has (take t coming) old ≡ true → (page : Page) → has held page ≡ true → has (take t coming) page ≡ true

-- a page that is held stays; another one comes, where there is room for it; else the page that is used last goes for it
pub data IsBest (frames : ℕ) (held : List Page) (page : Page) (coming : List Page) : StepView → Type 0 where
  Hit : has held page ≡ true → IsBest frames held page coming stays
  Fill : has held page ≡ false → length held < frames → IsBest frames held page coming (comes page)
  Swap : (old : Page) → has held page ≡ false → frames ≤ length held → has held old ≡ true → IsUsedLast held coming old
      → IsBest frames held page coming (swaps old page)

-- such a step for each access
abbrev pub IsBestRun : ℕ → List Page → List Page → List StepView → Type 0
IsBestRun frames held [] [] = Unit {0}
IsBestRun frames held (page ∷ coming) (step ∷ steps) =
    IsBest frames held page coming step × IsBestRun frames (held_behind held step) coming steps
IsBestRun frames held _ _ = ⊥

-- pages that are held are distinct, and fit
pub record Holds (frames : ℕ) (held : List Page) : Type 0 where
  pub distinct : IsDistinct same_page held
  pub fits : length held ≤ frames

-- how many of the coming accesses there are before the page's next one: all, where none comes
abbrev pub next_use : List Page → Page → ℕ
next_use [] page = 0
next_use (first ∷ coming) page = if same_page page first then 0 else next_use coming page + 1

-- u is the place of the next access to the page of place i, or where none comes the place i past the end, which is no other's
pub record IsUse (i : ℕ) (page : Page) (coming : List Page) (u : ℕ) : Type 0 where
  pub is : min u (i + 1 + length coming) ≡ i + 1 + next_use coming page
  pub new : (u < i + 1 + length coming) ⊎ (u ≡ i + 1 + length coming + i)

-- .. where the accesses from place i on are these
abbrev pub IsUseAt : ℕ → List Page → ℕ → Type 0
IsUseAt i [] u = Unit {0}
IsUseAt i (page ∷ coming) u = IsUse i page coming u

-- .. for each place from this one on
abbrev pub AreUses : List Page → ℕ → (ℕ → ℕ) → Type 0
AreUses accesses from u = (i : ℕ) → from ≤ i → i < length accesses → IsUseAt i (drop i accesses) (u i)

-- before the access at place i, a map has each held page once, by its next use
pub record Keeps (i : ℕ) (coming held : List Page) (look : ℕ → Option Page) (count : ℕ) : Type 0 where
  pub holds : (j : ℕ) (page : Page) → look j ≡ Some page → has held page ≡ true
  pub used : (j : ℕ) (page : Page) → look j ≡ Some page → min j (i + length coming) ≡ i + next_use coming page
  pub below : (j : ℕ) (page : Page) → look j ≡ Some page → j < i + length coming + i
  pub found : (page : Page) → has held page ≡ true → (j : ℕ) × (look j ≡ Some page)
  pub once : (j k : ℕ) (page : Page) → look j ≡ Some page → look k ≡ Some page → j ≡ k
  pub size : count ≡ length held

-- a best step was chosen, and the map has the other held pages
pub record Chosen (frames i : ℕ) (page : Page) (coming held : List Page) (step : StepView) (look : ℕ
    → Option Page) (count : ℕ) : Type 0 where
  pub best : IsBest frames held page coming step
  pub others : List Page
  pub keeps : Keeps i (page ∷ coming) others look count
  pub absent : has others page ≡ false
  pub same : (g : Page) → has (others ++ page ∷ []) g ≡ has (held_behind held step) g
  pub size : length (held_behind held step) ≡ length others + 1
