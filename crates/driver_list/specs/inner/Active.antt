-- The list of the pages that may be written out, and the holds of pages, as contracts see them.
use Rattle.std.specs.Prelude.{◌≡◌, ℕ, Bool, true, false, List, [], ◌∷◌, ◌++◌, map, replicate, slice_set}
use Rattle.std.specs.List.{IsDistinct, list_all}
use Rattle.sgx_types.specs.declared.names.Page.{Page}
use Rattle.sgx_types.specs.Pages.{same_page}
use Rattle.driver_list.specs.declared.ring.Listed.{Listed}
use Rattle.driver_list.specs.inner.Places.{IsPlaced, PageCounts}
use Rattle.driver_list.specs.inner.Ring.{pages_of, is_listed}
use Rattle.driver_list.specs.inner.Listing.{turn, touched}
use Rattle.driver_list.specs.inner.Holds.{own_of, joined, is_held}

-- the listed pages from the head on, how many pages the job has, and the pages that each actor holds: the processors in order, and then
-- the builder
pub record ActiveList : Type 0 where
  pub pages : List Listed
  pub counts : PageCounts
  pub own : List (List Page)

-- an empty list without holds
abbrev pub new_active : PageCounts → ActiveList
new_active counts = record { pages = []; counts = counts; own = replicate 17 [] }

-- no page is listed twice, and each is a page of the job
pub record IsActive (list : ActiveList) : Type 0 where
  pub distinct : IsDistinct same_page (pages_of list.pages)
  pub placed : (page : Page) → is_listed list.pages page ≡ true → IsPlaced list.counts page

-- a page more, at the tail, not young
abbrev pub pushed : ActiveList → Page → ActiveList
pushed list page = record list { pages = list.pages ++ record { page = page; young = false } ∷ [] }

-- the head at the tail, not young
abbrev pub turned : ActiveList → ActiveList
turned list = record list { pages = turn list.pages }

-- a page young, where it is listed
abbrev pub with_touch : ActiveList → Page → ActiveList
with_touch list page = record list { pages = map (touched page) list.pages }

-- the head off the list
pub record RemovesActive (old : ActiveList) (page : Page) (new : ActiveList) : Type 0 where
  pub young : Bool
  pub pages : old.pages ≡ record { page = page; young = young } ∷ new.pages
  pub counts : new.counts ≡ old.counts
  pub own : new.own ≡ old.own

-- a page held by an actor, who may hold it already
abbrev pub with_hold : ActiveList → ℕ → Page → ActiveList
with_hold list holder page = record list { own = slice_set list.own holder (joined (own_of list.own holder) page) }

-- an actor's holds ended
abbrev pub without_holds : ActiveList → ℕ → ActiveList
without_holds list holder = record list { own = slice_set list.own holder [] }

-- each listed page is held
abbrev pub are_held : ActiveList → Bool
are_held list = list_all (is_held list.own) (pages_of list.pages)
