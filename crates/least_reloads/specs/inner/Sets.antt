-- Sets of pages, as lists in any order: what becomes of one where pages leave and join.
use Rattle.std.specs.Prelude.{◌≡◌, ℕ, Bool, true, false, not, ◌&&◌, ◌||◌, List}
use Rattle.std.specs.Bool.{MatchBool}
use Rattle.std.specs.List.{IsDistinct}
use Rattle.sgx_types.specs.declared.names.Page.{Page}
use Rattle.sgx_types.specs.Pages.{same_page}
use Rattle.least_reloads.specs.Plans.{StepView, has, held_behind, IsStep}

-- the set has the pages of the list, which names each once
pub record AreOf (set pages : List Page) : Type 0 where
  pub same : (page : Page) → has set page ≡ has pages page
  pub distinct : IsDistinct same_page pages

-- the set has each of these pages, which are named once
pub record CanLeave (set pages : List Page) : Type 0 where
  pub held : (page : Page) → has pages page ≡ true → has set page ≡ true
  pub once : IsDistinct same_page pages

-- the set has none of these pages, which are named once
pub record CanJoin (set pages : List Page) : Type 0 where
  pub absent : (page : Page) → has pages page ≡ true → has set page ≡ false
  pub once : IsDistinct same_page pages

-- the new set has what the old one had, without these pages
abbrev pub Leave : List Page → List Page → List Page → Type 0
Leave old pages new = (page : Page) → has new page ≡ (not (has pages page) && has old page)

-- the new set has what the old one had, and these pages
abbrev pub Join : List Page → List Page → List Page → Type 0
Join old pages new = (page : Page) → has new page ≡ (has old page || has pages page)

-- Whatever held pages the old set has: where the step is served, it could be done from them, and the new set has those that are held
-- after it; where it is not, it could not be done.
abbrev pub Serves : ℕ → List Page → Page → StepView → Bool → List Page → Type 0
Serves frames old accessed step served new = (held : List Page) → AreOf old held
    → MatchBool served (IsStep frames held accessed step × AreOf new (held_behind held step)) (¬ (IsStep frames held accessed step))
