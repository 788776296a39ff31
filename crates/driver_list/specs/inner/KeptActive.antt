-- What the list and the holds are kept as.
use Rattle.std.specs.Prelude.{◌≡◌, ℕ, not, List, count_by}
use Rattle.sgx_types.specs.declared.names.Page.{Page}
use Rattle.driver_list.specs.declared.active.Active.TheInside.{Inside}
use Rattle.driver_list.specs.inner.Ring.{pages_of}
use Rattle.driver_list.specs.inner.Active.{ActiveList}
use Rattle.driver_list.specs.inner.Holds.{is_held}

-- the listed pages and the holds
abbrev pub active_of : Inside → ActiveList
active_of a = record { pages = a.list.pages; counts = a.list.counts; own = a.holds.own }

-- how many of these pages nobody holds
abbrev pub unheld_in : List (List Page) → List Page → ℕ
unheld_in own pages = count_by (λ page. not (is_held own page)) pages

-- the holds are of the same job, and the listed pages that nobody holds are counted
pub record IsActiveKept (a : Inside) : Type 0 where
  pub counts : a.holds.counts ≡ a.list.counts
  pub unheld : a.unheld ≡ unheld_in a.holds.own (pages_of a.list.pages)
