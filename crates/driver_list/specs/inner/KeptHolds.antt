-- What the holds of pages are kept as.
use Rattle.std.specs.Prelude.{◌≡◌, ℕ, ◌≤◌, true, List, length, map, slice_index, vec_capacity, count_by}
use Rattle.std.specs.List.{All, list_any, sum_by}
use Rattle.std.specs.Global.{Vec}
use Rattle.sgx_types.specs.declared.names.Page.{Page}
use Rattle.sgx_types.specs.Pages.{same_page}
use Rattle.driver_list.specs.declared.holds.Holds.TheInside.{Inside}
use Rattle.driver_list.specs.inner.Holds.{HoldTable, own_of}
use Rattle.driver_list.specs.inner.Places.{IsPlaced, PageCounts, place_of, total}

-- how many holds a page has
abbrev pub hold_count : List (List Page) → Page → ℕ
hold_count own page = sum_by (λ pages. count_by (same_page page) pages) own

-- each actor holds eleven pages of the job at most, and each page's holds are counted
pub record IsHolds (held : List ℕ) (counts : PageCounts) (own : List (List Page)) : Type 0 where
  pub sized : length held ≡ total counts
  pub holders : length own ≡ 17
  pub few : (holder : ℕ) → length (own_of own holder) ≤ 11
  pub placed : (holder : ℕ) (page : Page) → list_any (same_page page) (own_of own holder) ≡ true → IsPlaced counts page
  pub counted : (page : Page) → IsPlaced counts page → slice_index held (place_of counts page) ≡ hold_count own page

-- the pages in a vector
abbrev pub pages_in : Vec Page → List Page
pages_in v = v.items

-- who holds which pages
abbrev pub holds_of : Inside → HoldTable
holds_of k = record { counts = k.places; own = map pages_in k.own.items }

-- the holds are kept so, and each actor has room for eleven pages
pub record AreHoldsKept (k : Inside) : Type 0 where
  pub holds : IsHolds k.held.items k.places (map pages_in k.own.items)
  pub room : All (λ (v : Vec Page). 11 ≤ vec_capacity v) k.own.items
