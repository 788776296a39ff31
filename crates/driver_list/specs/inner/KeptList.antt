-- What a list is kept as: nodes that make it, and a table from pages to nodes.
use Rattle.std.specs.Prelude.{◌≡◌, ℕ, ◌<◌, ◌≤◌, ◌^◌, true, List, length, Option, Some, None, is_some, count_by}
use Rattle.std.specs.Prelude.{slice_index_or}
use Rattle.slab.specs.Slab.{Slab, slab_len}
use Rattle.sgx_types.specs.declared.names.Page.{Page}
use Rattle.driver_list.specs.declared.ring.Listed.{Listed}
use Rattle.driver_list.specs.declared.ring.Node.{Node}
use Rattle.driver_list.specs.declared.page_list.PageList.TheInside.{Inside}
use Rattle.driver_list.specs.inner.Places.{IsPlaced, PageCounts, place_of, total}
use Rattle.driver_list.specs.inner.Ring.{is_listed, listed_at, IsRing, around}
use Rattle.driver_list.specs.inner.Listing.{Listing}

-- the key in the table at a page's place
abbrev pub key_of : List (Option ℕ) → PageCounts → Page → Option ℕ
key_of keys counts page = slice_index_or keys (place_of counts page) None

-- a node's page finds the node
pub record IsIndexed (keys : List (Option ℕ)) (counts : PageCounts) (key : ℕ) (page : Page) : Type 0 where
  pub placed : IsPlaced counts page
  pub finds : key_of keys counts page ≡ Some key

-- a key is that of a node with the page, which is listed
pub record IsKeyed (nodes : Slab Node) (pages : List Listed) (key : ℕ) (page : Page) : Type 0 where
  pub listed : Listed
  pub at : listed_at nodes key ≡ Some listed
  pub same : listed.page ≡ page
  pub among : is_listed pages page ≡ true

-- the table has a place for each page of the job, and leads from each listed page to its node, and from no other
pub record IsTable (nodes : Slab Node) (keys : List (Option ℕ)) (counts : PageCounts) (pages : List Listed) : Type 0 where
  pub few : total counts < 2 ^ 32
  pub sized : length keys ≡ total counts
  pub room : total counts ≤ nodes.capacity
  pub filled : count_by is_some keys ≡ slab_len nodes
  pub counted : length pages ≡ slab_len nodes
  pub indexed : (key : ℕ) (x : Listed) → listed_at nodes key ≡ Some x → IsIndexed keys counts key x.page
  pub keyed : (key : ℕ) (page : Page) → IsPlaced counts page → key_of keys counts page ≡ Some key → IsKeyed nodes pages key page

-- the nodes and the table make this list
pub record IsWholeRing (nodes : Slab Node) (last : Option ℕ) (keys : List (Option ℕ)) (counts : PageCounts)
    (pages : List Listed) : Type 0 where
  pub ring : IsRing nodes last pages
  pub table : IsTable nodes keys counts pages

-- the pages round the ring
abbrev pub list_of : Inside → Listing
list_of a = record { pages = around a.nodes a.last; counts = a.places }

-- nodes and table make the list that is round the ring
abbrev pub IsListKept : Inside → Type 0
IsListKept a = IsWholeRing a.nodes a.last a.keys.items a.places (around a.nodes a.last)
