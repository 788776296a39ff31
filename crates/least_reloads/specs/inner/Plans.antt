-- A plan that makes the fewest loads.
use Rattle.std.specs.Prelude.{ℕ, ◌≤◌, List}
use Rattle.sgx_types.specs.declared.names.Page.{Page}
use Rattle.least_reloads.specs.Plans.{PlanView, IsLawful}

-- every lawful plan for these accesses and frames makes at least as many loads
abbrev pub IsLeastPlan : List Page → ℕ → PlanView → Type 0
IsLeastPlan accesses frames plan = (other : PlanView) → IsLawful accesses frames other → plan.loads ≤ other.loads
