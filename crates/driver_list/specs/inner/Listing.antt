-- The list of the pages that may be written out, as contracts see it.
use Rattle.std.specs.Prelude.{◌≡◌, ◌&&◌, if◌then◌else◌, Bool, true, false, List, [], ◌∷◌, ◌++◌, map, Option}
use Rattle.std.specs.Prelude.{Some, None, ◌<◌, ◌^◌, length}
use Rattle.std.specs.List.{list_any, IsDistinct}
use Rattle.sgx_types.specs.declared.names.Page.{Page}
use Rattle.sgx_types.specs.Pages.{same_page}
use Rattle.driver_list.specs.declared.ring.Listed.{Listed}
use Rattle.driver_list.specs.inner.Places.{IsPlaced, PageCounts}
use Rattle.driver_list.specs.inner.Ring.{pages_of, is_listed}

-- the listed pages from the head on, and how many pages the job has
pub record Listing : Type 0 where
  pub pages : List Listed
  pub counts : PageCounts

-- an empty list
abbrev pub new_listing : PageCounts → Listing
new_listing counts = record { pages = []; counts = counts }

-- no page is listed twice, each is a page of the job, and their number has 32 bits
pub record IsListing (list : Listing) : Type 0 where
  pub distinct : IsDistinct same_page (pages_of list.pages)
  pub placed : (page : Page) → is_listed list.pages page ≡ true → IsPlaced list.counts page
  pub few : length list.pages < 2 ^ 32

-- the page at the head
abbrev pub head_of : List Listed → Option Page
head_of [] = None
head_of (x ∷ xs) = Some x.page

-- a page that is listed and young
abbrev pub is_young : List Listed → Page → Bool
is_young list page = list_any (λ x. same_page page x.page && x.young) list

-- a page more, at the tail, not young
abbrev pub with_page : Listing → Page → Listing
with_page list page = record list { pages = list.pages ++ record { page = page; young = false } ∷ [] }

-- the head at the tail, not young
abbrev pub turn : List Listed → List Listed
turn [] = []
turn (x ∷ xs) = xs ++ record { page = x.page; young = false } ∷ []

-- the list turned
abbrev pub turned : Listing → Listing
turned list = record list { pages = turn list.pages }

-- a listed page, young where it is this one
abbrev pub touched : Page → Listed → Listed
touched page x = if same_page page x.page then record { page = x.page; young = true } else x

-- the list with a page young, where it is listed
abbrev pub with_touch : Listing → Page → Listing
with_touch list page = record list { pages = map (touched page) list.pages }

-- the head off the list
pub record Removes (old : Listing) (page : Page) (new : Listing) : Type 0 where
  pub young : Bool
  pub pages : old.pages ≡ record { page = page; young = young } ∷ new.pages
  pub counts : new.counts ≡ old.counts
