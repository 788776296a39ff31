-- How many gets and puts of each page there were, and where its records stand. It is kept as a map from pages to counts, and
-- one from pages and numbers of puts to places.
use Rattle.std.specs.Prelude.{◌≡◌, ℕ, ◌+◌, ◌==◌, ◌&&◌, Bool, if◌then◌else◌, Option, Some, min, unwrap_or}
use Rattle.std.specs.HashMap.{get, spare}
use Rattle.sgx_types.specs.declared.names.Page.{Page}
use Rattle.sgx_types.specs.Pages.{same_page}
use Rattle.backing_store.specs.declared.page_places.PageCounts.{PageCounts}
use Rattle.backing_store.specs.declared.page_places.PutKey.{PutKey}
use Rattle.backing_store.specs.declared.page_places.PagePlaces.{PagePlaces}

-- the keys are those of the same put
abbrev pub same_put : PutKey → PutKey → Bool
same_put a b = same_page a.page b.page && (a.nth == b.nth)

abbrev pub put_key : Page → ℕ → PutKey
put_key page nth = record { page = page; nth = nth }

abbrev pub no_counts : PageCounts
no_counts = record { gets = 0; puts = 0 }

-- how many gets of a page there were, and puts of it that did not fail
abbrev pub counts_of : PagePlaces → Page → PageCounts
counts_of known page = unwrap_or (get same_page known.counts page) no_counts

-- the place of the nth of these puts, counted from 1
abbrev pub place_of : PagePlaces → Page → ℕ → Option ℕ
place_of known page nth = get same_put known.places (put_key page nth)

-- for how many calls more there is room
abbrev pub room_of : PagePlaces → ℕ
room_of known = min (spare known.counts) (spare known.places)

-- the same calls are known
pub record SamePlaces (old new : PagePlaces) : Type 0 where
  pub counts : (page : Page) → counts_of new page ≡ counts_of old page
  pub place : (page : Page) (nth : ℕ) → place_of new page nth ≡ place_of old page nth

-- one get more of a page is known
pub record OneGet (old : PagePlaces) (page : Page) (new : PagePlaces) : Type 0 where
  pub counts : (g : Page) → counts_of new g
      ≡ (if same_page page g then record (counts_of old page) { gets = (counts_of old page).gets + 1 } else counts_of old g)
  pub place : (g : Page) (nth : ℕ) → place_of new g nth ≡ place_of old g nth

-- one put more of a page is known, whose record stands at a place
pub record OnePut (old : PagePlaces) (page : Page) (at : ℕ) (new : PagePlaces) : Type 0 where
  pub counts : (g : Page) → counts_of new g
      ≡ (if same_page page g then record (counts_of old page) { puts = (counts_of old page).puts + 1 } else counts_of old g)
  pub place : (g : Page) (nth : ℕ) → place_of new g nth
      ≡ (if same_page page g && ((counts_of old page).puts + 1 == nth) then Some at else place_of old g nth)
