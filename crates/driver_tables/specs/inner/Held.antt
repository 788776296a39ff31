-- The holds that are kept are those of the entries.
use Rattle.std.specs.Prelude.{ℕ, ◌≡◌, ◌<◌, ◌≤◌, false, List, length}
use Rattle.sgx_rules.specs.declared.entries.Entry.{Entry}
use Rattle.sgx_types.specs.declared.names.Page.{Page}
use Rattle.job_grammar.specs.Jobs.{JobView}
use Rattle.driver_list.specs.inner.Holds.{holds_page, own_of}
use Rattle.driver_rules.specs.Holds.{builder_holds, holds, is_among}
use Rattle.driver_rules.specs.Needs.{listed}

-- by actor: the processors in order, and then the builder
pub record ShowsHolds (j : JobView) (own : List (List Page)) (past : List Entry) : Type 0 where
  pub holders : length own ≡ 17
  pub cpus : (p : ℕ) (g : Page) → p < length j.scripts → holds_page (own_of own p) g ≡ is_among (holds j past p) g
  pub builder : (g : Page) → holds_page (own_of own 16) g ≡ is_among (listed (builder_holds j past)) g
  -- there are no more processors
  pub none : (p : ℕ) (g : Page) → length j.scripts ≤ p → p < 16 → holds_page (own_of own p) g ≡ false
