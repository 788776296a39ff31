-- The nodes of a list: each leads to the next, and the last to the first.
use Rattle.std.specs.Prelude.{◌≡◌, ◌≢◌, ℕ, zero, suc, ◌+◌, Bool, false, List, [], ◌∷◌, ◌++◌, map, Option, Some}
use Rattle.std.specs.Prelude.{None, IsSomeAnd}
use Rattle.std.specs.Option.{option_map}
use Rattle.std.specs.List.{list_any, IsDistinct}
use Rattle.slab.specs.Slab.{Slab, get, slab_len, ContainsKey}
use Rattle.sgx_types.specs.declared.names.Page.{Page}
use Rattle.sgx_types.specs.Pages.{same_page}
use Rattle.driver_list.specs.declared.ring.Listed.{Listed}
use Rattle.driver_list.specs.declared.ring.Node.{Node}

-- the pages without their marks
abbrev pub pages_of : List Listed → List Page
pages_of list = map (λ x. x.page) list

-- the page is in the list
abbrev pub is_listed : List Listed → Page → Bool
is_listed list page = list_any (same_page page) (pages_of list)

-- what stands in a node
abbrev pub listed_at : Slab Node → ℕ → Option Listed
listed_at nodes key = option_map (λ node. node.listed) (get nodes key)

-- from one key on, nodes with these pages lead to another key
abbrev pub IsPath : Slab Node → ℕ → List Listed → ℕ → Type 0
IsPath nodes at [] to = at ≡ to
IsPath nodes at (x ∷ xs) to = (next : ℕ) × (get nodes at ≡ Some (record { listed = x; next = next })) × IsPath nodes next xs to

-- the pages come one after another from the node behind the last one on, up to it
pub record IsClosed (nodes : Slab Node) (last : ℕ) (pages : List Listed) : Type 0 where
  pub front : List Listed
  pub end : Listed
  pub first : ℕ
  pub splits : pages ≡ front ++ end ∷ []
  pub path : IsPath nodes first front last
  pub closes : get nodes last ≡ Some (record { listed = end; next = first })

-- no node is the last exactly where there are no pages
abbrev pub IsLastNode : Slab Node → Option ℕ → List Listed → Type 0
IsLastNode nodes None pages = pages ≡ []
IsLastNode nodes (Some last) pages = IsClosed nodes last pages

-- the nodes make this list, which has each page once
pub record IsRing (nodes : Slab Node) (last : Option ℕ) (pages : List Listed) : Type 0 where
  pub ends : IsLastNode nodes last pages
  pub distinct : IsDistinct same_page (pages_of pages)

-- what leads on from a node
abbrev pub after : Option Node → (ℕ → List Listed) → List Listed
after None rest = []
after (Some node) rest = node.listed ∷ rest node.next

-- so many pages from a key on
abbrev pub walk : Slab Node → ℕ → ℕ → List Listed
walk nodes zero at = []
walk nodes (suc n) at = after (get nodes at) (walk nodes n)

-- the pages from the node behind this one on
abbrev pub from_next : Option Node → (ℕ → List Listed) → List Listed
from_next None pages = []
from_next (Some node) pages = pages node.next

-- the pages, from the one behind the last on
abbrev pub around : Slab Node → Option ℕ → List Listed
around nodes None = []
around nodes (Some last) = from_next (get nodes last) (walk nodes (slab_len nodes))

-- a node more at the end
pub record Appends (old : Slab Node) (last : Option ℕ) (listed : Listed) (key : ℕ) (new : Slab Node) : Type 0 where
  pub was_vacant : get old key ≡ None
  pub added : listed_at new key ≡ Some listed
  pub others : (k : ℕ) → k ≢ key → listed_at new k ≡ listed_at old k
  pub ring : (pages : List Listed) → IsRing old last pages → is_listed pages listed.page ≡ false
      → IsRing new (Some key) (pages ++ listed ∷ [])
  pub len : slab_len new ≡ slab_len old + 1
  pub capacity : new.capacity ≡ old.capacity

-- the last node leads to a node
abbrev pub CanDetach : Slab Node → ℕ → Type 0
CanDetach nodes last = IsSomeAnd (get nodes last) (λ node. ContainsKey nodes node.next)

-- the first node out
pub record Detaches (old : Slab Node) (last : ℕ) (page : Page) (rest : Option ℕ) (new : Slab Node) : Type 0 where
  pub first : ℕ
  pub listed : Listed
  pub was_at : listed_at old first ≡ Some listed
  pub same : listed.page ≡ page
  pub gone : get new first ≡ None
  pub others : (k : ℕ) → k ≢ first → listed_at new k ≡ listed_at old k
  pub ring : (x : Listed) (xs : List Listed) → IsRing old (Some last) (x ∷ xs) → (listed ≡ x) × IsRing new rest xs
  pub len : slab_len new + 1 ≡ slab_len old
  pub capacity : new.capacity ≡ old.capacity

-- what stands in a node, with another mark
abbrev pub marked : Bool → Option Node → Option Node
marked young None = None
marked young (Some node) = Some (record { listed = record { page = node.listed.page; young = young }; next = node.next })

-- one node with another mark, and the others as they were
pub record Marks (old : Slab Node) (key : ℕ) (young : Bool) (new : Slab Node) : Type 0 where
  pub changed : get new key ≡ marked young (get old key)
  pub others : (k : ℕ) → k ≢ key → get new k ≡ get old k
  pub len : slab_len new ≡ slab_len old
  pub capacity : new.capacity ≡ old.capacity
