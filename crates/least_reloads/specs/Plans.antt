-- Plans by which pages come into frames: what a plan is, and when it is lawful for a list of accesses.
use Rattle.std.specs.Prelude.{◌≡◌, ℕ, ◌+◌, ◌≤◌, Bool, true, false, not, List, [], ◌∷◌, ◌++◌, length}
use Rattle.std.specs.List.{filter, list_any, IsDistinct}
use Rattle.sgx_types.specs.declared.names.Page.{Page}
use Rattle.sgx_types.specs.Pages.{same_page}

-- a step: the pages that go out of their frames, and then the pages that are loaded
pub record StepView : Type 0 where
  pub out : List Page
  pub load : List Page

-- a plan: its steps, and how many loads it says that they make
pub record PlanView : Type 0 where
  pub steps : List StepView
  pub loads : ℕ

-- the page is among these
abbrev pub has : List Page → Page → Bool
has pages page = list_any (same_page page) pages

-- the held pages that do not go out
abbrev pub kept : List Page → StepView → List Page
kept held step = filter (λ page. not (has step.out page)) held

-- the held pages after a step
abbrev pub held_behind : List Page → StepView → List Page
held_behind held step = kept held step ++ step.load

-- Where these pages are held, the step can be done and serves an access to this page: the pages that go out are held, those that are
-- loaded are not held any more or never were, neither list names a page twice, and afterwards the held pages fit and the accessed one
-- is among them.
pub record IsStep (frames : ℕ) (held : List Page) (accessed : Page) (step : StepView) : Type 0 where
  pub out_held : (page : Page) → has step.out page ≡ true → has held page ≡ true
  pub out_once : IsDistinct same_page step.out
  pub load_absent : (page : Page) → has step.load page ≡ true → has (kept held step) page ≡ false
  pub load_once : IsDistinct same_page step.load
  pub fits : length (held_behind held step) ≤ frames
  pub accessed_held : has (held_behind held step) accessed ≡ true

-- one such step for each access, each from the pages that are held after the one before it
abbrev pub IsRun : ℕ → List Page → List Page → List StepView → Type 0
IsRun frames held [] [] = Unit {0}
IsRun frames held (page ∷ coming) (step ∷ steps) = IsStep frames held page step × IsRun frames (held_behind held step) coming steps
IsRun frames held _ _ = ⊥

-- how many loads the steps make
abbrev pub loads_of : List StepView → ℕ
loads_of [] = 0
loads_of (step ∷ steps) = length step.load + loads_of steps

-- the plan serves these accesses in so many frames, none of which holds a page at first, and says rightly how many loads it makes
pub record IsLawful (accesses : List Page) (frames : ℕ) (plan : PlanView) : Type 0 where
  pub run : IsRun frames [] accesses plan.steps
  pub counted : plan.loads ≡ loads_of plan.steps
