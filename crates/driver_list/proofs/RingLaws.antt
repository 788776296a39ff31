-- What a node more, a node less, a turn and a mark make of a ring.
use Rattle.std.proofs.Common.{◌≡◌, ◌≢◌, ℕ, ◌+◌, Bool, true, false, ◌&&◌, ◌||◌, List, [], ◌∷◌, ◌++◌}
use Rattle.std.proofs.Common.{length, get_or, map, is_some, drop, subst, ◌<◌, Option, Some, None, cond, refl, sym, ap, ◌∙◌}
use Rattle.std.proofs.Common.{⊎_elim, arith}
use Rattle.std.specs.Option.{option_map}
use Rattle.std.specs.List.{IsDistinct}
use Rattle.std.proofs.lemmas.Bool.{or_left, or_right, or_cases, cases_eq, false≢true, cond_both}
use Rattle.std.proofs.lemmas.List.{map-append}
use Rattle.std.proofs.lemmas.Option.{same_Some, none-some}
use Rattle.std.proofs.lemmas.List.Sums.{sum_by-set}
use Rattle.slab.proofs.SlabLemmas.{ContainsKey-within, Updates-with_value}
use Rattle.slab.specs.Slab.{Slab, get, slab_len, Updates, ContainsKey, with_value}
use Rattle.sgx_types.specs.declared.names.Page.{Page}
use Rattle.sgx_types.specs.Pages.{same_page}
use Rattle.sgx_types.proofs.Pages.{same_pages, same_page-refl}
use Rattle.driver_list.specs.declared.ring.Listed.{Listed}
use Rattle.driver_list.specs.declared.ring.Node.{Node}
use Rattle.driver_list.specs.inner.Ring.{pages_of, is_listed, listed_at, IsPath, IsClosed, IsRing, after, walk, from_next}
use Rattle.driver_list.specs.inner.Ring.{around, Appends}
use Rattle.driver_list.specs.inner.Ring.{CanDetach, Detaches, marked, Marks}
use Rattle.driver_list.specs.inner.Listing.{is_young, touched}
use Rattle.driver_list.proofs.PageLaws.{distinct_push, head_apart, others_distinct, last_apart, listed_last}
use Rattle.driver_list.proofs.PageLaws.{listed_before, none_distinct, touched_pages}

abbrev pub node_of : Listed → ℕ → Node
node_of listed next = record { listed = listed; next = next }

pub listed_from : (nodes : Slab Node) (key : ℕ) (node : Node) → get nodes key ≡ Some node → listed_at nodes key ≡ Some node.listed
listed_from nodes key node at = ap (option_map (λ (n : Node). n.listed)) at

-- nodes whose pages are on the path are as they were
pub path_kept : (old new : Slab Node) (at : ℕ) (xs : List Listed) (to : ℕ)
    → ((key : ℕ) (node : Node) → get old key ≡ Some node → is_listed xs node.listed.page ≡ true → get new key ≡ Some node)
    → IsPath old at xs to → IsPath new at xs to
path_kept old new at [] to keeps path = path
path_kept old new at (x ∷ xs) to keeps path = (
  path.0,
  keeps at (node_of x path.0) path.1 (or_left (same_page x.page x.page) (is_listed xs x.page) (same_page-refl x.page)),
  path_kept old new path.0 xs to
      (λ key node at' among. keeps key node at' (or_right (same_page node.listed.page x.page) (is_listed xs node.listed.page) among))
      path.2,
)

pub path_join : (nodes : Slab Node) (at : ℕ) (xs : List Listed) (mid : ℕ) (ys : List Listed) (to : ℕ) → IsPath nodes at xs mid
    → IsPath nodes mid ys to → IsPath nodes at (xs ++ ys) to
path_join nodes at [] mid ys to one two = rw one two
path_join nodes at (x ∷ xs) mid ys to one two = (one.0, one.1, path_join nodes one.0 xs mid ys to one.2 two)

-- all the way round
pub closed_path : (nodes : Slab Node) (last : ℕ) (pages : List Listed) (is : IsClosed nodes last pages)
    → IsPath nodes is.first pages is.first
closed_path nodes last pages is =
    rw is.splits (path_join nodes is.first is.front last (is.end ∷ []) is.first is.path (is.first, is.closes, refl))

pub walk_is : (nodes : Slab Node) (at : ℕ) (xs : List Listed) (to : ℕ) → IsPath nodes at xs to → walk nodes (length xs) at ≡ xs
walk_is nodes at [] to path = refl
walk_is nodes at (x ∷ xs) to path =
    ap (λ n. after n (walk nodes (length xs))) path.1 ∙ ap (λ ys. x ∷ ys) (walk_is nodes path.0 xs to path.2)

pub around_is : (nodes : Slab Node) (last : Option ℕ) (pages : List Listed) → IsRing nodes last pages → length pages ≡ slab_len nodes
    → around nodes last ≡ pages
around_is nodes None pages is size = sym is.ends
around_is nodes (Some last) pages is size =
    ap (λ n. from_next n (walk nodes (slab_len nodes))) is.ends.closes
    ∙ ap (λ n. walk nodes n is.ends.first) (sym size)
    ∙ walk_is nodes is.ends.first pages is.ends.first (closed_path nodes last pages is.ends)

key_apart : (nodes : Slab Node) (a b : ℕ) (node : Node) → get nodes a ≡ Some node → get nodes b ≡ None → a ≢ b
key_apart nodes a b node here none same = none-some node (sym none ∙ ap (get nodes) (sym same) ∙ here)

same_node : (nodes : Slab Node) (key : ℕ) (x y : Node) → get nodes key ≡ Some x → get nodes key ≡ Some y → x ≡ y
same_node nodes key x y a b = same_Some x y (sym a ∙ b)

-- a node written anew
has_key : (nodes : Slab Node) (key : ℕ) (node : Node) → get nodes key ≡ Some node → ContainsKey nodes key
has_key nodes key node here = rw here refl

written : (nodes : Slab Node) (key : ℕ) (node value : Node) → get nodes key ≡ Some node
    → Updates nodes (with_value nodes key value) key (Some value)
written nodes key node value here = Updates-with_value nodes key value (has_key nodes key node here)

written_len : (nodes : Slab Node) (key : ℕ) (node value : Node) → get nodes key ≡ Some node
    → slab_len (with_value nodes key value) ≡ slab_len nodes
written_len nodes key node value here =
    let low : key < length nodes.slots = ContainsKey-within nodes key (has_key nodes key node here) in
    let one : share (get_or nodes.slots key None) ≡ 1 = ap share here in
    omega (arith, sum_by-set share nodes.slots key (Some value) None low, one)
  where
    share : Option Node → ℕ
    share o = cond (is_some o) 1 0

-- the first node of all
pub appended_first : (old new : Slab Node) (key : ℕ) (listed : Listed) → get old key ≡ None
    → Updates old new key (Some (node_of listed key)) → slab_len new ≡ slab_len old + 1 → new.capacity ≡ old.capacity
    → Appends old None listed key new
appended_first old new key listed vacant writes len capacity = record {
  was_vacant = vacant;
  added = listed_from new key (node_of listed key) writes.changed;
  others = λ k apart. ap (option_map (λ (n : Node). n.listed)) (writes.others k apart);
  ring = λ pages is absent. record {
    ends = record {
      front = [];
      end = listed;
      first = key;
      splits = ap (λ xs. xs ++ listed ∷ []) is.ends;
      path = refl;
      closes =
          writes.changed;
    };
    distinct = distinct_push pages listed is.distinct absent;
  };
  len = len;
  capacity = capacity;
}

-- a node more
pub appended : (old mid : Slab Node) (last key : ℕ) (node now : Node) (listed : Listed) → get old last ≡ Some node → get old key ≡ None
    → Updates old mid key (Some (node_of listed node.next)) → get mid last ≡ Some now → slab_len mid ≡ slab_len old + 1
    → mid.capacity ≡ old.capacity
    → Appends old (Some last) listed key (with_value mid last (node_of now.listed key))
appended old mid last key node now listed here vacant adds there len capacity =
    let new : Slab Node = with_value mid last (node_of now.listed key) in
    let apart : last ≢ key = key_apart old last key node here vacant in
    let same_now : now ≡ node = same_Some now node (sym there ∙ adds.others last apart ∙ here) in
    let links : Updates mid new last (Some (node_of node.listed key)) =
    record {
      changed = (written mid last now (node_of now.listed key) there).changed ∙ ap (λ (n : Node). Some (node_of n.listed key)) same_now;
      others = (written mid last now (node_of now.listed key) there).others;
    } in
    let at_key : get new key ≡ Some (node_of listed node.next) = links.others key (λ same. apart (sym same)) ∙ adds.changed in
    let same : (k : ℕ) → k ≢ key → k ≢ last → get new k ≡ get old k = λ k a b. links.others k b ∙ adds.others k a in
    record {
      was_vacant = vacant;
      added = listed_from new key (node_of listed node.next) at_key;
      others = λ k other. ⊎_elim
          (λ is. ap (listed_at new) is ∙ listed_from new last (node_of node.listed key) links.changed
          ∙ sym (ap (listed_at old) is ∙ listed_from old last node here))
          (λ not. ap (option_map (λ (n : Node). n.listed)) (same k other not))
          (cases_eq k last);
      ring = λ pages is absent.
          let closed = is.ends in
          let is_end : node ≡ node_of closed.end closed.first = same_node old last _ _ here closed.closes in
          let gone : is_listed closed.front closed.end.page ≡ false =
          last_apart closed.front closed.end (rw closed.splits at is.distinct) in
          let front : IsPath new closed.first closed.front last =
          path_kept old new closed.first closed.front last
          (λ k n at among.
          same k (key_apart old k key n at vacant)
          (λ is_last. false≢true
          (sym gone ∙ ap (λ (m : Node). is_listed closed.front m.listed.page)
          (same_node old last _ _ closed.closes (ap (get old) (sym is_last) ∙ at)) ∙ among))
          ∙ at)
          closed.path in
          let on : get new last ≡ Some (node_of closed.end key) = links.changed ∙ ap (λ (m : Node). Some (node_of m.listed key)) is_end in
          record {
            ends = record {
              front = pages;
              end = listed;
              first = closed.first;
              splits = refl;
              path = rw closed.splits (path_join new closed.first closed.front last (closed.end ∷ []) key front (key, on, refl));
              closes = at_key ∙ ap (λ (m : Node). Some (node_of listed m.next)) is_end;
            };
            distinct = distinct_push pages listed is.distinct absent;
          };
      len = written_len mid last now (node_of now.listed key) there ∙ len;
      capacity = capacity;
    }

abbrev marked_node : Bool → Node → Node
marked_node young node = record { listed = record { page = node.listed.page; young = young }; next = node.next }

-- the node behind the last is there
pub can_detach : (nodes : Slab Node) (last : ℕ) (pages : List Listed) → IsRing nodes (Some last) pages → CanDetach nodes last
can_detach nodes last pages is =
    let closed = is.ends in
    let first : ContainsKey nodes closed.first = first_there closed.front closed.path closed.closes in
    rw closed.closes first
  where
    first_there : (front : List Listed) {first : ℕ} {end : Listed} → IsPath nodes first front last
        → get nodes last ≡ Some (node_of end first) → ContainsKey nodes first
    first_there [] {first} {end} path closes = rw path (has_key nodes last (node_of end first) closes)
    first_there (x ∷ front) {first} path closes = has_key nodes first (node_of x path.0) path.1

-- what a ring that is not empty begins with
pub record Begins (nodes : Slab Node) (last : ℕ) (node : Node) (first : Node) (x : Listed) (xs : List Listed) : Type 0 where
  pub head : first.listed ≡ x
  pub path : IsPath nodes first.next xs node.next

pub begins : (nodes : Slab Node) (last : ℕ) (node first : Node) (x : Listed) (xs : List Listed) → IsRing nodes (Some last) (x ∷ xs)
    → get nodes last ≡ Some node → get nodes node.next ≡ Some first → Begins nodes last node first x xs
begins nodes last node first x xs is here there =
    let whole : IsPath nodes is.ends.first (x ∷ xs) is.ends.first = closed_path nodes last (x ∷ xs) is.ends in
    let next : is.ends.first ≡ node.next = ap (λ (n : Node). n.next) (same_node nodes last _ _ is.ends.closes here) in
    let path : IsPath nodes node.next (x ∷ xs) node.next = rw next at whole in
    let same : node_of x path.0 ≡ first = same_node nodes node.next _ _ path.1 there in
    record {
      head = sym (ap (λ (n : Node). n.listed) same);
      path = rw (ap (λ (n : Node). n.next) same) at path.2;
    }

-- the only node out
pub detached_only : (old new : Slab Node) (last : ℕ) (node : Node) (gone : Node) → get old last ≡ Some node → node.next ≡ last
    → get old node.next ≡ Some gone → Updates old new node.next None → slab_len new + 1 ≡ slab_len old → new.capacity ≡ old.capacity
    → Detaches old last gone.listed.page None new
detached_only old new last node gone here only there update len capacity = record {
  first = node.next;
  listed = gone.listed;
  was_at = listed_from old node.next gone there;
  same = refl;
  gone = update.changed;
  others = λ k apart. ap (option_map (λ (n : Node). n.listed)) (update.others k apart);
  ring = λ x xs is.
      let alone : xs ≡ [] = rest_none x xs is is.ends.front is.ends.splits is.ends.path in
      ((begins old last node gone x xs is here there).head, record { ends = alone; distinct = rw alone none_distinct });
  len = len;
  capacity = capacity;
}
  where
    rest_none : (x : Listed) (xs : List Listed) (is : IsRing old (Some last) (x ∷ xs)) (front : List Listed)
        → x ∷ xs ≡ front ++ is.ends.end ∷ [] → IsPath old is.ends.first front last → xs ≡ []
    rest_none x xs is [] splits path = ap (drop 1) splits
    rest_none x xs is (y ∷ front) splits path =
        let first : is.ends.first ≡ last = ap (λ (n : Node). n.next) (same_node old last _ _ is.ends.closes here) ∙ only in
        let same : y ≡ is.ends.end =
        ap (λ (n : Node). n.listed) (same_node old is.ends.first _ _ path.1 (ap (get old) first ∙ is.ends.closes)) in
        let apart : is_listed (front ++ is.ends.end ∷ []) y.page ≡ false =
        head_apart y (front ++ is.ends.end ∷ []) (subst (λ (l : List Listed). IsDistinct same_page (pages_of l)) splits is.distinct) in
        absurd (false≢true
        (sym apart ∙ ap (λ (l : Listed). is_listed (front ++ is.ends.end ∷ []) l.page) same ∙ listed_last front is.ends.end))

-- the first of several nodes out
pub detached : (old mid : Slab Node) (last : ℕ) (node gone now : Node) → get old last ≡ Some node → node.next ≢ last
    → get old node.next ≡ Some gone → Updates old mid node.next None → get mid last ≡ Some now → slab_len mid + 1 ≡ slab_len old
    → mid.capacity ≡ old.capacity
    → Detaches old last gone.listed.page (Some last) (with_value mid last (node_of now.listed gone.next))
detached old mid last node gone now here more there update links len capacity =
    let new : Slab Node = with_value mid last (node_of now.listed gone.next) in
    let apart : last ≢ node.next = λ same. more (sym same) in
    let same_now : now ≡ node = same_Some now node (sym links ∙ update.others last apart ∙ here) in
    let write : Updates mid new last (Some (node_of now.listed gone.next)) = written mid last now (node_of now.listed gone.next) links in
    let at_last : get new last ≡ Some (node_of node.listed gone.next) =
    write.changed ∙ ap (λ (n : Node). Some (node_of n.listed gone.next)) same_now in
    let same : (k : ℕ) → k ≢ node.next → k ≢ last → get new k ≡ get old k = λ k a b. write.others k b ∙ update.others k a in
    record {
      first = node.next;
      listed = gone.listed;
      was_at = listed_from old node.next gone there;
      same = refl;
      gone = write.others node.next more ∙ update.changed;
      others = λ k other. ⊎_elim
          (λ is. ap (listed_at new) is ∙ listed_from new last (node_of node.listed gone.next) at_last
          ∙ sym (ap (listed_at old) is ∙ listed_from old last node here))
          (λ not. ap (option_map (λ (n : Node). n.listed)) (same k other not))
          (cases_eq k last);
      ring = λ x xs is. (
        (begins old last node gone x xs is here there).head,
        rest_ring new at_last same x xs is is.ends.front is.ends.splits is.ends.path,
      );
      len = ap (λ n. n + 1) (written_len mid last now (node_of now.listed gone.next) links) ∙ len;
      capacity = capacity;
    }
  where
    rest_ring : (new : Slab Node) → get new last ≡ Some (node_of node.listed gone.next)
        → ((k : ℕ) → k ≢ node.next → k ≢ last → get new k ≡ get old k)
        → (x : Listed) (xs : List Listed) (is : IsRing old (Some last) (x ∷ xs)) (front : List Listed)
        → x ∷ xs ≡ front ++ is.ends.end ∷ [] → IsPath old is.ends.first front last → IsRing new (Some last) xs
    rest_ring new at_last same x xs is [] splits path =
        absurd (more (sym (ap (λ (n : Node). n.next) (same_node old last _ _ is.ends.closes here)) ∙ path))
    rest_ring new at_last same x xs is (y ∷ front) splits path =
        let is_end : node_of is.ends.end is.ends.first ≡ node = same_node old last _ _ is.ends.closes here in
        let first : is.ends.first ≡ node.next = ap (λ (n : Node). n.next) is_end in
        let is_first : node_of y path.0 ≡ gone = same_node old node.next _ _ (ap (get old) (sym first) ∙ path.1) there in
        let rest : xs ≡ front ++ is.ends.end ∷ [] = ap (drop 1) splits in
        let all : IsDistinct same_page (pages_of (y ∷ front ++ is.ends.end ∷ [])) =
        subst (λ (l : List Listed). IsDistinct same_page (pages_of l)) splits is.distinct in
        let behind : IsDistinct same_page (pages_of (front ++ is.ends.end ∷ [])) = others_distinct y (front ++ is.ends.end ∷ []) all in
        let no_y : is_listed (front ++ is.ends.end ∷ []) y.page ≡ false = head_apart y (front ++ is.ends.end ∷ []) all in
        let no_end : is_listed front is.ends.end.page ≡ false = last_apart front is.ends.end behind in
        let kept : IsPath new path.0 front last =
        path_kept old new path.0 front last
        (λ k n at among.
        same k
        (λ is_y. false≢true
        (sym no_y ∙ ap (λ (m : Node). is_listed (front ++ is.ends.end ∷ []) m.listed.page)
        (is_first ∙ same_node old node.next _ _ there (ap (get old) (sym is_y) ∙ at))
        ∙ listed_before front is.ends.end n.listed.page among))
        (λ is_last. false≢true
        (sym no_end ∙ ap (λ (m : Node). is_listed front m.listed.page)
        (same_node old last _ _ is.ends.closes (ap (get old) (sym is_last) ∙ at)) ∙ among))
        ∙ at)
        path.2 in
        record {
          ends = record {
            front = front;
            end = is.ends.end;
            first = path.0;
            splits = rest;
            path = kept;
            closes = at_last ∙ ap (λ (l : Listed). Some (node_of l gone.next)) (sym (ap (λ (n : Node). n.listed) is_end))
                ∙ ap (λ n. Some (node_of is.ends.end n)) (sym (ap (λ (n : Node). n.next) is_first));
          };
          distinct = rw rest behind;
        }

pub marks : (old : Slab Node) (key : ℕ) (young : Bool) (node : Node) → get old key ≡ Some node
    → Marks old key young (with_value old key (marked_node young node))
marks old key young node here =
    let write = written old key node (marked_node young node) here in
    record {
      changed = write.changed ∙ sym (ap (marked young) here);
      others = write.others;
      len = written_len old key node (marked_node young node) here;
      capacity = refl;
    }

-- the head at the tail
pub turned_ring : (old new : Slab Node) (last : ℕ) (node first : Node) (x : Listed) (xs : List Listed) → IsRing old (Some last) (x ∷ xs)
    → get old last ≡ Some node → get old node.next ≡ Some first → Marks old node.next false new
    → IsRing new (Some node.next) (xs ++ record { page = x.page; young = false } ∷ [])
turned_ring old new last node first x xs is here there marks =
    let begin = begins old last node first x xs is here there in
    let apart : is_listed xs x.page ≡ false = head_apart x xs is.distinct in
    record {
      ends = record {
        front = xs;
        end = record { page = x.page; young = false };
        first = first.next;
        splits = refl;
        path = path_kept old new first.next xs node.next
            (λ k n at among.
            marks.others k
            (λ same. false≢true
            (sym apart ∙ ap (λ (l : Listed). is_listed xs l.page)
            (sym begin.head ∙ ap (λ (m : Node). m.listed) (same_node old node.next _ _ there (ap (get old) (sym same) ∙ at))) ∙ among))
            ∙ at)
            begin.path;
        closes = marks.changed ∙ ap (marked false) there ∙ ap
            (λ (l : Listed). Some (node_of (record { page = l.page; young = false }) first.next)) begin.head;
      };
      distinct = distinct_push xs (record { page = x.page; young = false }) (others_distinct x xs is.distinct) apart;
    }

-- the page stands in one node alone
pub record IsOnly (nodes : Slab Node) (key : ℕ) (page : Page) : Type 0 where
  pub listed : Listed
  pub here : listed_at nodes key ≡ Some listed
  pub same : listed.page ≡ page
  pub only : (k : ℕ) (y : Listed) → listed_at nodes k ≡ Some y → y.page ≡ page → k ≡ key

touched_node : (old new : Slab Node) (key : ℕ) (page : Page) → IsOnly old key page → Marks old key true new
    → (k : ℕ) (x : Listed) (next : ℕ) → get old k ≡ Some (node_of x next) → get new k ≡ Some (node_of (touched page x) next)
touched_node old new key page only marks k x next at =
    let here : listed_at old k ≡ Some x = listed_from old k (node_of x next) at in
    cond_both (same_page page x.page) (record { page = x.page; young = true }) x (λ (y : Listed). get new k ≡ Some (node_of y next))
    (λ same.
    let is : k ≡ key = only.only k x here (sym (same_pages page x.page same)) in
    ap (get new) is ∙ marks.changed ∙ ap (marked true) (ap (get old) (sym is) ∙ at))
    (λ other.
    marks.others k (λ is.
    let same : x ≡ only.listed = same_Some x only.listed (sym here ∙ ap (listed_at old) is ∙ only.here) in
    false≢true (sym other ∙ ap (same_page page) (ap (λ (l : Listed). l.page) same ∙ only.same) ∙ same_page-refl page))
    ∙ at)

touched_path : (old new : Slab Node) (key : ℕ) (page : Page) → IsOnly old key page → Marks old key true new
    → (at : ℕ) (xs : List Listed) (to : ℕ) → IsPath old at xs to → IsPath new at (map (touched page) xs) to
touched_path old new key page only marks at [] to path = path
touched_path old new key page only marks at (x ∷ xs) to path =
    (path.0, touched_node old new key page only marks at x path.0 path.1, touched_path old new key page only marks path.0 xs to path.2)

-- a page young
pub touched_ring : (old new : Slab Node) (last : Option ℕ) (pages : List Listed) (key : ℕ) (page : Page) → IsRing old last pages
    → IsOnly old key page → Marks old key true new → IsRing new last (map (touched page) pages)
touched_ring old new None pages key page is only marks =
    record { ends = ap (map (touched page)) is.ends; distinct = rw (touched_pages page pages) is.distinct }
touched_ring old new (Some last) pages key page is only marks = record {
  ends = record {
    front = map (touched page) is.ends.front;
    end = touched page is.ends.end;
    first = is.ends.first;
    splits = ap (map (touched page)) is.ends.splits ∙ map-append (touched page) is.ends.front (is.ends.end ∷ []);
    path = touched_path old new key page only marks is.ends.first is.ends.front last is.ends.path;
    closes = touched_node old new key page only marks last is.ends.end is.ends.first is.ends.closes;
  };
  distinct = rw (touched_pages page pages) is.distinct;
}

either_same : (s y m a : Bool) → (s ≡ true → y ≡ m) → ((s && y) || (a && m)) ≡ ((s || a) && m)
either_same true y m a h = with_a a y m (h refl)
  where
    with_a : (a y m : Bool) → y ≡ m → (y || (a && m)) ≡ m
    with_a true true m e = e
    with_a true false m e = refl
    with_a false true m e = e
    with_a false false m e = e
either_same false y m a h = refl

-- a page's mark is that of its node
pub young_on_path : (nodes : Slab Node) (key : ℕ) (page : Page) (only : IsOnly nodes key page) (at : ℕ) (xs : List Listed) (to : ℕ)
    → IsPath nodes at xs to → is_young xs page ≡ (is_listed xs page && only.listed.young)
young_on_path nodes key page only at [] to path = refl
young_on_path nodes key page only at (x ∷ xs) to path =
    ap (λ b. (same_page page x.page && x.young) || b) (young_on_path nodes key page only path.0 xs to path.2)
    ∙ either_same (same_page page x.page) x.young only.listed.young (is_listed xs page)
    (λ same.
    let here : listed_at nodes at ≡ Some x = listed_from nodes at (node_of x path.0) path.1 in
    ap (λ (l : Listed). l.young)
    (same_Some x only.listed (sym here ∙ ap (listed_at nodes) (only.only at x here (sym (same_pages page x.page same))) ∙ only.here)))

-- what is true of every node is true of the listed pages
pub each_listed : (nodes : Slab Node) (P : Page → Type 0) → ((key : ℕ) (x : Listed) → listed_at nodes key ≡ Some x → P x.page)
    → (at : ℕ) (xs : List Listed) (to : ℕ) → IsPath nodes at xs to → (page : Page) → is_listed xs page ≡ true → P page
each_listed nodes P all at [] to path page among = absurd (false≢true among)
each_listed nodes P all at (x ∷ xs) to path page among =
    ⊎_elim
    (λ same. subst P (sym (same_pages page x.page same)) (all at x (listed_from nodes at (node_of x path.0) path.1)))
    (λ rest. each_listed nodes P all path.0 xs to path.2 page rest)
    (or_cases (same_page page x.page) (is_listed xs page) among)
