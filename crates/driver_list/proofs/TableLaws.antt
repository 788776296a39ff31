-- What a page more, a page less, a turn and a touch make of a list with its table.
use Rattle.std.proofs.Common.{◌≡◌, ◌≢◌, ℕ, zero, suc, ◌+◌, ◌<◌, ◌≤◌, ◌^◌, Bool, true, false, ◌&&◌}
use Rattle.std.proofs.Common.{◌||◌, List, [], ◌∷◌, ◌++◌, length, map, get_or, set, replicate, is_some, count_by, Option}
use Rattle.std.proofs.Common.{Some, None, cond, refl, sym, ap, subst, ◌∙◌, ⊎_elim, arith}
use Rattle.std.specs.Option.{option_map}
use Rattle.std.specs.List.{list_any}
use Rattle.std.proofs.lemmas.Bool.{cases_eq, cases_lt, false≢true}
use Rattle.std.proofs.lemmas.List.{length-append, length-map, length-set, get_or-set_same, get_or-set_other, get_or_past}
use Rattle.std.proofs.lemmas.List.{get_or-replicate}
use Rattle.std.proofs.lemmas.List.{length-replicate, get_or_read}
use Rattle.std.proofs.lemmas.List.Sums.{sum_by-set, sum_by-cons, count_by-le-length}
use Rattle.std.proofs.lemmas.Option.{same_Some, none-some}
use Rattle.slab.specs.Slab.{Slab, get, slab_len}
use Rattle.sgx_types.specs.declared.names.Page.{Page}
use Rattle.sgx_types.specs.Pages.{same_page}
use Rattle.sgx_types.proofs.Pages.{same_pages}
use Rattle.driver_list.specs.declared.ring.Listed.{Listed}
use Rattle.driver_list.specs.declared.ring.Node.{Node}
use Rattle.driver_list.specs.inner.Places.{IsPlaced, PageCounts, place_of, total}
use Rattle.driver_list.specs.inner.Ring.{is_listed, listed_at, IsRing, around, Appends, Detaches, marked, Marks}
use Rattle.driver_list.specs.inner.Listing.{IsListing, is_young, turn, touched}
use Rattle.driver_list.specs.inner.KeptList.{key_of, IsIndexed, IsTable, IsWholeRing}
use Rattle.driver_list.proofs.PlaceLaws.{same_place, place_within}
use Rattle.driver_list.proofs.PageLaws.{listed_last, listed_before, listed_behind, head_apart, none_distinct}
use Rattle.driver_list.proofs.PageLaws.{touched_pages}
use Rattle.driver_list.proofs.PageLaws.{untouched, pages_cases}
use Rattle.driver_list.proofs.RingLaws.{node_of, listed_from, closed_path, around_is, turned_ring, IsOnly, touched_ring}
use Rattle.driver_list.proofs.RingLaws.{young_on_path}
use Rattle.driver_list.proofs.RingLaws.{each_listed}

-- what is kept of a list is that list
pub kept_list : (nodes : Slab Node) (last : Option ℕ) (keys : List (Option ℕ)) (counts : PageCounts) (pages : List Listed)
    → IsWholeRing nodes last keys counts pages → around nodes last ≡ pages
kept_list nodes last keys counts pages is = around_is nodes last pages is.ring is.table.counted

pub kept : (nodes : Slab Node) (last : Option ℕ) (keys : List (Option ℕ)) (counts : PageCounts) (pages : List Listed)
    → IsWholeRing nodes last keys counts pages → IsWholeRing nodes last keys counts (around nodes last)
kept nodes last keys counts pages is =
    subst (λ (l : List Listed). IsWholeRing nodes last keys counts l) (sym (kept_list nodes last keys counts pages is)) is

-- a page that is not listed has no key
pub no_key : (nodes : Slab Node) (keys : List (Option ℕ)) (counts : PageCounts) (pages : List Listed) (page : Page)
    → IsTable nodes keys counts pages → IsPlaced counts page → is_listed pages page ≡ false → key_of keys counts page ≡ None
no_key nodes keys counts pages page is placed absent = by_key (key_of keys counts page) refl
  where
    by_key : (key : Option ℕ) → key_of keys counts page ≡ key → key ≡ None
    by_key None at = refl
    by_key (Some key) at = absurd (false≢true (sym absent ∙ (is.keyed key page placed at).among))

abbrev share : Option ℕ → ℕ
share o = cond (is_some o) 1 0

key_set : (keys : List (Option ℕ)) (place : ℕ) (key : Option ℕ) → place < length keys
    → count_by is_some (set keys place key) + cond (is_some (get_or keys place None)) 1 0 ≡ count_by is_some keys + cond (is_some key) 1 0
key_set keys place key low = sum_by-set (λ (o : Option ℕ). cond (is_some o) 1 0) keys place key None low

-- there is room for it
pub room_for : (nodes : Slab Node) (keys : List (Option ℕ)) (counts : PageCounts) (pages : List Listed) (page : Page)
    → IsTable nodes keys counts pages → IsPlaced counts page → is_listed pages page ≡ false → slab_len nodes + 1 ≤ nodes.capacity
room_for nodes keys counts pages page is placed absent =
    let low : place_of counts page < length keys = rw is.sized (place_within counts page placed) in
    let none : share (key_of keys counts page) ≡ 0 = ap share (no_key nodes keys counts pages page is placed absent) in
    let fits : count_by is_some (set keys (place_of counts page) (Some 0)) ≤ length keys =
    rw (length-set keys (place_of counts page) (Some 0)) at (count_by-le-length is_some (set keys (place_of counts page) (Some 0))) in
    omega (arith, key_set keys (place_of counts page) (Some 0) low, none, fits, is.sized, is.room, is.filled)

-- a page's key where the one of a page is written
key_written : (keys : List (Option ℕ)) (counts : PageCounts) (page q : Page) (key : Option ℕ) → length keys ≡ total counts
    → IsPlaced counts page → IsPlaced counts q → q ≢ page → key_of (set keys (place_of counts page) key) counts q ≡ key_of keys counts q
key_written keys counts page q key sized placed other apart =
    get_or-set_other keys (place_of counts page) (place_of counts q) key None (λ same. apart (same_place counts q page other placed same))

key_here : (keys : List (Option ℕ)) (counts : PageCounts) (page : Page) (key : Option ℕ) → length keys ≡ total counts → IsPlaced counts page
    → key_of (set keys (place_of counts page) key) counts page ≡ key
key_here keys counts page key sized placed =
    get_or-set_same keys (place_of counts page) key None (rw sized (place_within counts page placed))

-- a page more
pub pushed : (old new : Slab Node) (last : Option ℕ) (keys : List (Option ℕ)) (counts : PageCounts) (pages : List Listed) (page : Page)
    (key : ℕ)
    → IsWholeRing old last keys counts pages → IsPlaced counts page → is_listed pages page ≡ false
    → Appends old last (record { page = page; young = false }) key new
    → IsWholeRing new (Some key) (set keys (place_of counts page) (Some key)) counts (pages ++ record { page = page; young = false } ∷ [])
pushed old new last keys counts pages page key is placed absent adds =
    let y : Listed = record { page = page; young = false } in
    let low : place_of counts page < length keys = rw is.table.sized (place_within counts page placed) in
    let none : key_of keys counts page ≡ None = no_key old keys counts pages page is.table placed absent in
    let none_share : share (key_of keys counts page) ≡ 0 = ap share none in
    let no_node : listed_at old key ≡ None = ap (option_map (λ (n : Node). n.listed)) adds.was_vacant in
    record {
      ring = adds.ring pages is.ring absent;
      table = record {
        few = is.table.few;
        sized = length-set keys (place_of counts page) (Some key) ∙ is.table.sized;
        room = rw adds.capacity is.table.room;
        filled = omega (arith, key_set keys (place_of counts page) (Some key) low, none_share, adds.len, is.table.filled);
        counted = omega (arith, length-append pages (y ∷ []), adds.len, is.table.counted);
        indexed = λ k x at. ⊎_elim
            (λ same.
            let is_y : page ≡ x.page = ap (λ (l : Listed). l.page) (same_Some y x (sym adds.added ∙ ap (listed_at new) (sym same) ∙ at)) in
            subst (IsIndexed (set keys (place_of counts page) (Some key)) counts k) is_y
            (record { placed = placed; finds = key_here keys counts page (Some key) is.table.sized placed ∙ ap Some (sym same) }))
            (λ other.
            let before = is.table.indexed k x (sym (adds.others k other) ∙ at) in
            record {
              placed = before.placed;
              finds =
                  key_written keys counts page x.page (Some key) is.table.sized placed before.placed
                  (λ same. none-some k (sym none ∙ ap (key_of keys counts) (sym same) ∙ before.finds))
                  ∙ before.finds;
            })
            (cases_eq k key);
        keyed = λ k q here at. ⊎_elim
            (λ same.
            let is_key : key ≡ k =
            same_Some key k
            (sym (key_here keys counts page (Some key) is.table.sized placed)
            ∙ ap (key_of (set keys (place_of counts page) (Some key)) counts) (sym same) ∙ at) in
            record {
              listed = y;
              at = ap (listed_at new) (sym is_key) ∙ adds.added;
              same = sym same;
              among = ap (is_listed (pages ++ y ∷ [])) same ∙ listed_last pages y;
            })
            (λ apart.
            let before = is.table.keyed k q here (sym (key_written keys counts page q (Some key) is.table.sized placed here apart) ∙ at) in
            record {
              listed = before.listed;
              at = adds.others k (λ same. none-some before.listed (sym no_node ∙ ap (listed_at old) (sym same) ∙ before.at)) ∙ before.at;
              same = before.same;
              among = listed_before pages y q before.among;
            })
            (pages_cases q page);
      };
    }

-- the head out
pub removed : (old new : Slab Node) (last : ℕ) (rest : Option ℕ) (keys : List (Option ℕ)) (counts : PageCounts) (x : Listed)
    (xs : List Listed) (page : Page)
    → IsWholeRing old (Some last) keys counts (x ∷ xs) → Detaches old last page rest new
    → IsWholeRing new rest (set keys (place_of counts page) None) counts xs
removed old new last rest keys counts x xs page is out =
    let head : out.listed ≡ x = (out.ring x xs is.ring).0 in
    let is_x : page ≡ x.page = sym out.same ∙ ap (λ (l : Listed). l.page) head in
    let apart : is_listed xs x.page ≡ false = head_apart x xs is.ring.distinct in
    let index : IsIndexed keys counts out.first page =
    subst (IsIndexed keys counts out.first) out.same (is.table.indexed out.first out.listed out.was_at) in
    let low : place_of counts page < length keys = rw is.table.sized (place_within counts page index.placed) in
    let some_share : share (key_of keys counts page) ≡ 1 = ap share index.finds in
    let no_node : listed_at new out.first ≡ None = ap (option_map (λ (n : Node). n.listed)) out.gone in
    record {
      ring = (out.ring x xs is.ring).1;
      table = record {
        few = is.table.few;
        sized = length-set keys (place_of counts page) None ∙ is.table.sized;
        room = rw out.capacity is.table.room;
        filled = omega (arith, key_set keys (place_of counts page) None low, some_share, out.len, is.table.filled);
        counted = omega (arith, out.len, is.table.counted);
        indexed = λ k y at.
            let other : k ≢ out.first = λ same. none-some y (sym no_node ∙ ap (listed_at new) (sym same) ∙ at) in
            let before = is.table.indexed k y (sym (out.others k other) ∙ at) in
            record {
              placed = before.placed;
              finds =
                  key_written keys counts page y.page None is.table.sized index.placed before.placed
                  (λ same. other (same_Some k out.first (sym before.finds ∙ ap (key_of keys counts) same ∙ index.finds)))
                  ∙ before.finds;
            };
        keyed = λ k q here at.
            let other : q ≢ page =
            λ same. none-some k
            (sym (key_here keys counts page None is.table.sized index.placed)
            ∙ ap (key_of (set keys (place_of counts page) None) counts) (sym same) ∙ at) in
            let before = is.table.keyed k q here (sym (key_written keys counts page q None is.table.sized index.placed here other) ∙ at) in
            let not_first : k ≢ out.first = λ same.
            other (sym before.same ∙ ap (λ (l : Listed). l.page)
            (same_Some before.listed out.listed (sym before.at ∙ ap (listed_at old) same ∙ out.was_at)) ∙ out.same) in
            record {
              listed = before.listed;
              at = out.others k not_first ∙ before.at;
              same = before.same;
              among = listed_behind x xs q before.among (λ same. other (same ∙ sym is_x));
            };
      };
    }

-- another mark in one node, and the same pages
remarked : (old new : Slab Node) (key : ℕ) (young : Bool) (node : Node) (keys : List (Option ℕ)) (counts : PageCounts)
    (before after : List Listed)
    → IsTable old keys counts before → get old key ≡ Some node → Marks old key young new → length after ≡ length before
    → ((q : Page) → is_listed before q ≡ true → is_listed after q ≡ true) → IsTable new keys counts after
remarked old new key young node keys counts before after is here marks sized same_pages = record {
  few = is.few;
  sized = is.sized;
  room = rw marks.capacity is.room;
  filled = is.filled ∙ sym marks.len;
  counted = sized ∙ is.counted ∙ sym marks.len;
  indexed = λ k x at. ⊎_elim
      (λ same.
      let is_x : node.listed.page ≡ x.page =
      ap (λ (l : Listed). l.page)
      (same_Some (record { page = node.listed.page; young = young }) x (sym now ∙ ap (listed_at new) (sym same) ∙ at)) in
      subst (IsIndexed keys counts k) is_x (is.indexed k node.listed (ap (listed_at old) same ∙ listed_from old key node here)))
      (λ other. is.indexed k x (sym (elsewhere k other) ∙ at))
      (cases_eq k key);
  keyed = λ k q placed at.
      let found = is.keyed k q placed at in
      ⊎_elim
      (λ same.
      let is_node : found.listed ≡ node.listed =
      same_Some found.listed node.listed (sym found.at ∙ ap (listed_at old) same ∙ listed_from old key node here) in
      record {
        listed = record { page = node.listed.page; young = young };
        at = ap (listed_at new) same ∙ now;
        same = sym (ap (λ (l : Listed). l.page) is_node) ∙ found.same;
        among = same_pages q found.among;
      })
      (λ other. record { listed = found.listed; at = elsewhere k other ∙ found.at; same = found.same; among = same_pages q found.among })
      (cases_eq k key);
}
  where
    now : listed_at new key ≡ Some (record { page = node.listed.page; young = young })
    now = ap (option_map (λ (n : Node). n.listed)) (marks.changed ∙ ap (marked young) here)

    elsewhere : (k : ℕ) → k ≢ key → listed_at new k ≡ listed_at old k
    elsewhere k other = ap (option_map (λ (n : Node). n.listed)) (marks.others k other)

-- the head at the tail
pub turned_whole : (old new : Slab Node) (last : ℕ) (node first : Node) (keys : List (Option ℕ)) (counts : PageCounts) (x : Listed)
    (xs : List Listed)
    → IsWholeRing old (Some last) keys counts (x ∷ xs) → get old last ≡ Some node → get old node.next ≡ Some first
    → Marks old node.next false new
    → IsWholeRing new (Some node.next) keys counts (turn (x ∷ xs))
turned_whole old new last node first keys counts x xs is here there marks = record {
  ring = turned_ring old new last node first x xs is.ring here there marks;
  table =
      remarked old new node.next false first keys counts (x ∷ xs) (turn (x ∷ xs)) is.table there marks
      (length-append xs (record { page = x.page; young = false } ∷ []) ∙ omega arith)
      (λ q among. ⊎_elim
      (λ same. ap (is_listed (turn (x ∷ xs))) same ∙ listed_last xs (record { page = x.page; young = false }))
      (λ other. listed_before xs (record { page = x.page; young = false }) q (listed_behind x xs q among other))
      (pages_cases q x.page));
}

-- a page's key is that of its only node
pub only_node : (nodes : Slab Node) (keys : List (Option ℕ)) (counts : PageCounts) (pages : List Listed) (page : Page) (key : ℕ)
    → IsTable nodes keys counts pages → IsPlaced counts page → key_of keys counts page ≡ Some key → IsOnly nodes key page
only_node nodes keys counts pages page key is placed at =
    let found = is.keyed key page placed at in
    record {
      listed = found.listed;
      here = found.at;
      same = found.same;
      only = λ k y there same. same_Some k key (sym (is.indexed k y there).finds ∙ ap (key_of keys counts) same ∙ at);
    }

-- a page young
pub touched_whole : (old new : Slab Node) (last : Option ℕ) (node : Node) (keys : List (Option ℕ)) (counts : PageCounts)
    (pages : List Listed) (page : Page) (key : ℕ)
    → IsWholeRing old last keys counts pages → IsPlaced counts page → key_of keys counts page ≡ Some key → get old key ≡ Some node
    → Marks old key true new
    → IsWholeRing new last keys counts (map (touched page) pages)
touched_whole old new last node keys counts pages page key is placed at here marks = record {
  ring = touched_ring old new last pages key page is.ring (only_node old keys counts pages page key is.table placed at) marks;
  table =
      remarked old new key true node keys counts pages (map (touched page) pages) is.table here marks
      (length-map pages (touched page))
      (λ q among. ap (list_any (same_page q)) (touched_pages page pages) ∙ among);
}

-- a listed page has a key
pub has_place : (nodes : Slab Node) (last : Option ℕ) (P : Page → Type 0) (pages : List Listed) → IsRing nodes last pages
    → ((key : ℕ) (x : Listed) → listed_at nodes key ≡ Some x → P x.page) → (page : Page) → is_listed pages page ≡ true → P page
has_place nodes None P pages is all page among = absurd (false≢true (ap (λ l. is_listed l page) (sym is.ends) ∙ among))
has_place nodes (Some last) P pages is all page among =
    each_listed nodes P all is.ends.first pages is.ends.first (closed_path nodes last pages is.ends) page among

pub not_listed : (nodes : Slab Node) (last : Option ℕ) (keys : List (Option ℕ)) (counts : PageCounts) (pages : List Listed) (page : Page)
    → IsWholeRing nodes last keys counts pages → IsPlaced counts page → key_of keys counts page ≡ None → is_listed pages page ≡ false
not_listed nodes last keys counts pages page is placed none = by_test (is_listed pages page) refl
  where
    by_test : (b : Bool) → is_listed pages page ≡ b → b ≡ false
    by_test false e = refl
    by_test true e =
        absurd (has_place nodes last (λ q. key_of keys counts q ≡ None → ⊥) pages is.ring
        (λ key x at none. none-some key (sym none ∙ (is.table.indexed key x at).finds)) page e none)

-- and where it has none, a touch changes nothing
pub untouched_whole : (nodes : Slab Node) (last : Option ℕ) (keys : List (Option ℕ)) (counts : PageCounts) (pages : List Listed)
    (page : Page)
    → IsWholeRing nodes last keys counts pages → IsPlaced counts page → key_of keys counts page ≡ None → map (touched page) pages ≡ pages
untouched_whole nodes last keys counts pages page is placed none =
    untouched page pages (not_listed nodes last keys counts pages page is placed none)

-- a page is listed exactly where it has a key
pub listed_is : (nodes : Slab Node) (last : Option ℕ) (keys : List (Option ℕ)) (counts : PageCounts) (pages : List Listed) (page : Page)
    → IsWholeRing nodes last keys counts pages → IsPlaced counts page → is_some (key_of keys counts page) ≡ is_listed pages page
listed_is nodes last keys counts pages page is placed = by_key (key_of keys counts page) refl
  where
    by_key : (key : Option ℕ) → key_of keys counts page ≡ key → is_some key ≡ is_listed pages page
    by_key None at = sym (not_listed nodes last keys counts pages page is placed at)
    by_key (Some key) at = sym (is.table.keyed key page placed at).among

-- its mark is that of its node
pub young_is : (nodes : Slab Node) (last : Option ℕ) (keys : List (Option ℕ)) (counts : PageCounts) (pages : List Listed) (page : Page)
    (key : ℕ) (node : Node)
    → IsWholeRing nodes last keys counts pages → IsPlaced counts page → key_of keys counts page ≡ Some key → get nodes key ≡ Some node
    → node.listed.young ≡ is_young pages page
young_is nodes None keys counts pages page key node is placed at here =
    absurd (false≢true (ap (λ l. is_listed l page) (sym is.ring.ends) ∙ (is.table.keyed key page placed at).among))
young_is nodes (Some last) keys counts pages page key node is placed at here =
    let only = only_node nodes keys counts pages page key is.table placed at in
    let closed = is.ring.ends in
    ap (λ (l : Listed). l.young) (same_Some node.listed only.listed (sym (listed_from nodes key node here) ∙ only.here))
    ∙ sym (young_on_path nodes key page only closed.first pages closed.first (closed_path nodes last pages closed)
    ∙ ap (λ b. b && only.listed.young) (is.table.keyed key page placed at).among)

pub not_young : (pages : List Listed) (page : Page) → is_listed pages page ≡ false → false ≡ is_young pages page
not_young [] page absent = refl
not_young (x ∷ xs) page absent =
    both (same_page page x.page) x.young (is_listed xs page) (is_young xs page) absent (λ rest. not_young xs page rest)
  where
    both : (s y l m : Bool) → (s || l) ≡ false → (l ≡ false → false ≡ m) → false ≡ ((s && y) || m)
    both true y l m h k = absurd (false≢true (sym h))
    both false y l m h k = k h

-- what is read at a page's place
pub key_read : (keys : List (Option ℕ)) (counts : PageCounts) (page : Page) (place : ℕ) (key : Option ℕ) → length keys ≡ total counts
    → IsPlaced counts page → place ≡ place_of counts page → key ≡ get_or keys place key → key_of keys counts page ≡ key
key_read keys counts page place key sized placed same read =
    sym (get_or_read keys (place_of counts page) key (rw sized (place_within counts page placed))
    (read ∙ ap (λ n. get_or keys n key) same) None)

-- what stands at the head of a list that is not empty
pub record HasHead (pages : List Listed) : Type 0 where
  pub head : Listed
  pub rest : List Listed
  pub splits : pages ≡ head ∷ rest

pub has_head : (pages : List Listed) → pages ≢ [] → HasHead pages
has_head [] some = absurd (some refl)
has_head (x ∷ xs) some = record { head = x; rest = xs; splits = refl }

-- the first node
pub record HasFirst (nodes : Slab Node) (key : ℕ) : Type 0 where
  pub node : Node
  pub at : get nodes key ≡ Some node

has_first : (nodes : Slab Node) (last : ℕ) (node : Node) (x : Listed) (xs : List Listed) → IsRing nodes (Some last) (x ∷ xs)
    → get nodes last ≡ Some node → HasFirst nodes node.next
has_first nodes last node x xs is here =
    let whole = closed_path nodes last (x ∷ xs) is.ends in
    let next : is.ends.first ≡ node.next =
    ap (λ (n : Node). n.next) (same_Some (node_of is.ends.end is.ends.first) node (sym is.ends.closes ∙ here)) in
    record { node = node_of x whole.0; at = ap (get nodes) (sym next) ∙ whole.1 }

pub record IsRemoved (new : Slab Node) (rest : Option ℕ) (keys : List (Option ℕ)) (counts : PageCounts) (page : Page)
    (pages : List Listed) : Type 0 where
  pub young : Bool
  pub behind : List Listed
  pub splits : pages ≡ record { page = page; young = young } ∷ behind
  pub whole : IsWholeRing new rest (set keys (place_of counts page) None) counts behind

pub head_removed : (old new : Slab Node) (last : Option ℕ) (key : ℕ) (rest : Option ℕ) (keys : List (Option ℕ)) (counts : PageCounts)
    (pages : List Listed) (page : Page)
    → IsWholeRing old last keys counts pages → pages ≢ [] → last ≡ Some key → Detaches old key page rest new
    → IsRemoved new rest keys counts page pages
head_removed old new last key rest keys counts pages page is some at out =
    let parts = has_head pages some in
    let is' : IsWholeRing old (Some key) keys counts (parts.head ∷ parts.rest) = rw (parts.splits, at) at is in
    let head : out.listed ≡ parts.head = (out.ring parts.head parts.rest is'.ring).0 in
    record {
      young = parts.head.young;
      behind = parts.rest;
      splits = parts.splits ∙ ap (λ (p : Page). record { page = p; young = parts.head.young } ∷ parts.rest)
          (sym (ap (λ (l : Listed). l.page) head) ∙ out.same);
      whole = removed old new key rest keys counts parts.head parts.rest page is' out;
    }

pub head_turned : (old new : Slab Node) (last : Option ℕ) (key : ℕ) (node : Node) (keys : List (Option ℕ)) (counts : PageCounts)
    (pages : List Listed)
    → IsWholeRing old last keys counts pages → pages ≢ [] → last ≡ Some key → get old key ≡ Some node → Marks old node.next false new
    → IsWholeRing new (Some node.next) keys counts (turn pages)
head_turned old new last key node keys counts pages is some at here marks =
    let parts = has_head pages some in
    let is' : IsWholeRing old (Some key) keys counts (parts.head ∷ parts.rest) = rw (parts.splits, at) at is in
    let first = has_first old key node parts.head parts.rest is'.ring here in
    rw parts.splits (turned_whole old new key node first.node keys counts parts.head parts.rest is' here first.at marks)

-- a key in the table is that of a node
pub key_there : (nodes : Slab Node) (keys : List (Option ℕ)) (counts : PageCounts) (pages : List Listed) (page : Page) (key : ℕ)
    → IsTable nodes keys counts pages → IsPlaced counts page → key_of keys counts page ≡ Some key → HasFirst nodes key
key_there nodes keys counts pages page key is placed at = let found =
    is.keyed key page placed at in by_node (get nodes key) refl found.listed found.at
  where
    by_node : (node : Option Node) → get nodes key ≡ node → (x : Listed) → option_map (λ (n : Node). n.listed) node ≡ Some x
        → HasFirst nodes key
    by_node None e x at = absurd (none-some x at)
    by_node (Some node) e x at = record { node = node; at = e }

pub few_listed : (nodes : Slab Node) (keys : List (Option ℕ)) (counts : PageCounts) (pages : List Listed) → IsTable nodes keys counts pages
    → slab_len nodes < 2 ^ 32
few_listed nodes keys counts pages is = omega (arith, is.few, is.sized, is.filled, count_by-le-length is_some keys)

-- what a kept list is
pub sound : (nodes : Slab Node) (last : Option ℕ) (keys : List (Option ℕ)) (counts : PageCounts) (pages : List Listed)
    → IsWholeRing nodes last keys counts pages → IsListing (record { pages = pages; counts = counts })
sound nodes last keys counts pages is = record {
  distinct = is.ring.distinct;
  placed = has_place nodes last (IsPlaced counts) pages is.ring (λ key x at. (is.table.indexed key x at).placed);
  few = omega (arith, is.table.counted, few_listed nodes keys counts pages is.table);
}

abbrev no_entry : Option ℕ
no_entry = None

no_keys : (n : ℕ) → count_by is_some (replicate n no_entry) ≡ 0
no_keys zero = refl
no_keys (suc n) = sum_by-cons (λ (o : Option ℕ). cond (is_some o) 1 0) None (replicate n None) ∙ omega (arith, no_keys n)

no_key_at : (n i : ℕ) → get_or (replicate n no_entry) i None ≡ None
no_key_at n i = ⊎_elim (λ low. get_or-replicate n i None None low)
    (λ past. get_or_past (replicate n None) i None (omega (arith, past, length-replicate n no_entry))) (cases_lt i n)

-- an empty list
pub empty_whole : (nodes : Slab Node) (counts : PageCounts) → nodes.slots ≡ [] → total counts < 2 ^ 32 → total counts ≤ nodes.capacity
    → IsWholeRing nodes None (replicate (total counts) None) counts []
empty_whole nodes counts none few room = record {
  ring = record { ends = refl; distinct = none_distinct };
  table = record {
    few = few;
    sized = length-replicate (total counts) None;
    room = room;
    filled = no_keys (total counts) ∙ sym (ap (λ slots. count_by is_some slots) none);
    counted = sym (ap (λ slots. count_by is_some slots) none);
    indexed = λ key x at. absurd
        (none-some x (sym (ap (λ (slots : List (Option Node)). option_map (λ (n : Node). n.listed) (get_or slots key None)) none) ∙ at));
    keyed = λ key page placed at. absurd (none-some key (sym (no_key_at (total counts) (place_of counts page)) ∙ at));
  };
}
