-- What a hold more and a hold less make of the holds.
use Rattle.std.proofs.Common.{◌≡◌, ◌⊎◌, inl, inr, ℕ, zero, suc, ◌+◌, ◌-◌, ◌<◌, ◌≤◌, Bool, false, ◌||◌}
use Rattle.std.proofs.Common.{cond, List, [], ◌∷◌, ◌++◌, length, map, get_or, set, replicate, count_by, vec_capacity, refl}
use Rattle.std.proofs.Common.{sym, ap, subst, ◌∙◌, ⊎_elim, arith, nat_lt, true}
use Rattle.std.specs.Global.{Vec}
use Rattle.std.specs.List.{list_any, All}
use Rattle.std.proofs.lemmas.Bool.{cases_lt, cases_eq, or_cases, or_left, or_right, false≢true, false_from_ne_true, lt-ltb}
use Rattle.std.proofs.lemmas.List.{length-map, length-set, length-replicate, length_push, get_or-set_same, get_or-set_other}
use Rattle.std.proofs.lemmas.List.{get_or_default}
use Rattle.std.proofs.lemmas.List.{get_or_read, get_or_append_left, get_or_push, map-set, set-get_or}
use Rattle.std.proofs.lemmas.List.Folds.{list_any-append}
use Rattle.std.proofs.lemmas.List.Sums.{sum_by-cons, sum_by-set, sum_by_push, sum_by-le, count_by-le-length}
use Rattle.sgx_types.specs.declared.names.Page.{Page}
use Rattle.sgx_types.specs.Pages.{same_page}
use Rattle.sgx_types.proofs.CountLaws.{one_if}
use Rattle.sgx_types.proofs.Pages.{same_pages, same_page-refl}
use Rattle.driver_list.specs.inner.Places.{IsPlaced, PageCounts, place_of, total}
use Rattle.driver_list.specs.inner.Holds.{own_of, holds_page, is_held}
use Rattle.driver_list.specs.inner.KeptHolds.{IsHolds, pages_in, hold_count}
use Rattle.driver_list.proofs.PlaceLaws.{same_place, place_within}
use Rattle.driver_list.proofs.PageLaws.{same_back, pages_cases}

-- a test of two pages goes either way round
pub any_swap : (page : Page) (pages : List Page) → list_any (λ q. same_page q page) pages ≡ list_any (same_page page) pages
any_swap page [] = refl
any_swap page (q ∷ pages) =
    ap (λ b. b || list_any (λ r. same_page r page) pages) (same_back q page) ∙ ap (λ b. same_page page q || b) (any_swap page pages)

-- an actor's pages, read
pub own_read : (vs : List (Vec Page)) (holder : ℕ) (v : Vec Page) → holder < length vs → v ≡ get_or vs holder v
    → own_of (map pages_in vs) holder ≡ v.items
own_read [] holder v low read = absurd (omega arith)
own_read (w ∷ vs) zero v low read = ap pages_in (sym read)
own_read (w ∷ vs) (suc holder) v low read = own_read vs holder v (omega arith) read

-- an actor's holds, changed
own_set : (own : List (List Page)) (holder h : ℕ) (pages : List Page) → holder < length own
    → (own_of (set own holder pages) h ≡ own_of own h) ⊎ ((h ≡ holder) × (own_of (set own holder pages) h ≡ pages))
own_set own holder h pages low = ⊎_elim
    (λ same. inr (same, ap (own_of (set own holder pages)) same ∙ get_or-set_same own holder pages [] low))
    (λ other. inl (get_or-set_other own holder h pages [] other))
    (cases_eq h holder)

count_push : (q p : Page) (pages : List Page) → count_by (same_page q) (pages ++ p ∷ []) ≡
    count_by (same_page q) pages + one_if (same_page q p)
count_push q p pages = sum_by_push (λ (r : Page). cond (same_page q r) 1 0) pages p

-- one hold more of a page
pub count_held : (own : List (List Page)) (holder : ℕ) (p q : Page) → holder < length own
    → hold_count (set own holder (own_of own holder ++ p ∷ [])) q ≡ hold_count own q + one_if (same_page q p)
count_held own holder p q low =
    omega (
      arith,
      sum_by-set (λ (pages : List Page). count_by (same_page q) pages) own holder (own_of own holder ++ p ∷ []) [] low,
      count_push q p (own_of own holder),
    )

-- one hold less
pub count_dropped : (own : List (List Page)) (holder : ℕ) (rest : List Page) (p q : Page) → holder < length own
    → own_of own holder ≡ rest ++ p ∷ [] → hold_count (set own holder rest) q + one_if (same_page q p) ≡ hold_count own q
count_dropped own holder rest p q low splits =
    let pages : count_by (same_page q) (own_of own holder) ≡ count_by (same_page q) rest + one_if (same_page q p) =
    ap (count_by (same_page q)) splits ∙ count_push q p rest in
    omega (arith, sum_by-set (λ (pages : List Page). count_by (same_page q) pages) own holder rest [] low, pages)

-- no page has more holds than there can be
pub count_few : (held : List ℕ) (counts : PageCounts) (own : List (List Page)) (q : Page) → IsHolds held counts own → hold_count own q ≤ 187
count_few held counts own q is =
    let each : All (λ (pages : List Page). count_by (same_page q) pages ≤ 11) own = λ k d low.
    omega (arith, count_by-le-length (same_page q) (get_or own k d), is.few k, ap length (get_or_default own k d [] low)) in
    omega (arith, sum_by-le (λ (pages : List Page). count_by (same_page q) pages) 11 own each, is.holders)

any_push : (q p : Page) (pages : List Page) → list_any (same_page q) (pages ++ p ∷ []) ≡
    (list_any (same_page q) pages || (same_page q p || false))
any_push q p pages = list_any-append (same_page q) pages (p ∷ [])

-- a hold more
pub held : (marks : List ℕ) (counts : PageCounts) (own : List (List Page)) (holder : ℕ) (p : Page) (n : ℕ)
    → IsHolds marks counts own → holder < 17 → length (own_of own holder) < 11 → IsPlaced counts p → n ≡ hold_count own p + 1
    → IsHolds (set marks (place_of counts p) n) counts (set own holder (own_of own holder ++ p ∷ []))
held marks counts own holder p n is low room placed now = record {
  sized = length-set marks (place_of counts p) n ∙ is.sized;
  holders = length-set own holder (own_of own holder ++ p ∷ []) ∙ is.holders;
  few = λ h. ⊎_elim
      (λ same. omega (arith, ap length same, is.few h))
      (λ here. omega (arith, ap length here.1, length_push (own_of own holder) p))
      (own_set own holder h (own_of own holder ++ p ∷ []) (omega (arith, is.holders)));
  placed = λ h q any. ⊎_elim
      (λ same. is.placed h q (ap (list_any (same_page q)) (sym same) ∙ any))
      (λ here. ⊎_elim
      (λ old. is.placed holder q old)
      (λ new. ⊎_elim (λ same. subst (IsPlaced counts) (sym (same_pages q p same)) placed) (λ no. absurd (false≢true no))
      (or_cases (same_page q p) false new))
      (or_cases (list_any (same_page q) (own_of own holder)) (same_page q p || false)
      (sym (any_push q p (own_of own holder)) ∙ ap (list_any (same_page q)) (sym here.1) ∙ any)))
      (own_set own holder h (own_of own holder ++ p ∷ []) (omega (arith, is.holders)));
  counted = λ q here.
      let count : hold_count (set own holder (own_of own holder ++ p ∷ [])) q ≡ hold_count own q + one_if (same_page q p) =
      count_held own holder p q (omega (arith, is.holders)) in
      ⊎_elim
      (λ same.
      let one_more : one_if (same_page q p) ≡ 1 = ap (λ r. one_if (same_page r p)) same ∙ ap one_if (same_page-refl p) in
      ap (λ r. get_or (set marks (place_of counts p) n) (place_of counts r) 0) same
      ∙ get_or-set_same marks (place_of counts p) n 0 (rw is.sized (place_within counts p placed))
      ∙ omega (arith, now, count, one_more, ap (hold_count own) same))
      (λ other.
      let no_more : one_if (same_page q p) ≡ 0 = ap one_if (false_from_ne_true (same_page q p) (λ t. other (same_pages q p t))) in
      get_or-set_other marks (place_of counts p) (place_of counts q) n 0 (λ same. other (same_place counts q p here placed same))
      ∙ omega (arith, is.counted q here, count, no_more))
      (pages_cases q p);
}

-- a hold less
pub dropped : (marks : List ℕ) (counts : PageCounts) (own : List (List Page)) (holder : ℕ) (rest : List Page) (p : Page) (n : ℕ)
    → IsHolds marks counts own → holder < 17 → own_of own holder ≡ rest ++ p ∷ [] → n + 1 ≡ hold_count own p
    → IsHolds (set marks (place_of counts p) n) counts (set own holder rest)
dropped marks counts own holder rest p n is low splits now = record {
  sized = length-set marks (place_of counts p) n ∙ is.sized;
  holders = length-set own holder rest ∙ is.holders;
  few = λ h. ⊎_elim
      (λ same. omega (arith, ap length same, is.few h))
      (λ here. omega (arith, ap length here.1, ap length splits, length_push rest p, is.few holder))
      (own_set own holder h rest (omega (arith, is.holders)));
  placed = λ h q any. ⊎_elim
      (λ same. is.placed h q (ap (list_any (same_page q)) (sym same) ∙ any))
      (λ here. is.placed holder q
      (ap (list_any (same_page q)) splits ∙ any_push q p rest
      ∙ or_left (list_any (same_page q) rest) (same_page q p || false) (ap (list_any (same_page q)) (sym here.1) ∙ any)))
      (own_set own holder h rest (omega (arith, is.holders)));
  counted = λ q here.
      let count : hold_count (set own holder rest) q + one_if (same_page q p) ≡ hold_count own q =
      count_dropped own holder rest p q (omega (arith, is.holders)) splits in
      ⊎_elim
      (λ same.
      let one_less : one_if (same_page q p) ≡ 1 = ap (λ r. one_if (same_page r p)) same ∙ ap one_if (same_page-refl p) in
      ap (λ r. get_or (set marks (place_of counts p) n) (place_of counts r) 0) same
      ∙ get_or-set_same marks (place_of counts p) n 0 (rw is.sized (place_within counts p (last_placed p splits)))
      ∙ omega (arith, now, count, one_less, ap (hold_count own) same))
      (λ other.
      let no_less : one_if (same_page q p) ≡ 0 = ap one_if (false_from_ne_true (same_page q p) (λ t. other (same_pages q p t))) in
      get_or-set_other marks (place_of counts p) (place_of counts q) n 0
      (λ same. other (same_place counts q p here (last_placed p splits) same))
      ∙ omega (arith, is.counted q here, count, no_less))
      (pages_cases q p);
}
  where
    last_placed : (p : Page) → own_of own holder ≡ rest ++ p ∷ [] → IsPlaced counts p
    last_placed p splits =
        is.placed holder p
        (ap (list_any (same_page p)) splits ∙ any_push p p rest
        ∙ or_right (list_any (same_page p) rest) (same_page p p || false) (or_left (same_page p p) false (same_page-refl p)))

pub last_placed : (marks : List ℕ) (counts : PageCounts) (own : List (List Page)) (holder : ℕ) (rest : List Page) (p : Page)
    → IsHolds marks counts own → own_of own holder ≡ rest ++ p ∷ [] → IsPlaced counts p
last_placed marks counts own holder rest p is splits =
    is.placed holder p
    (ap (list_any (same_page p)) splits ∙ any_push p p rest ∙ or_right (list_any (same_page p) rest) (same_page p p || false)
    (or_left (same_page p p) false (same_page-refl p)))

-- the last page that an actor holds has a hold
pub last_counts : (marks : List ℕ) (counts : PageCounts) (own : List (List Page)) (holder : ℕ) (rest : List Page) (p : Page)
    → IsHolds marks counts own → holder < 17 → own_of own holder ≡ rest ++ p ∷ [] → 1 ≤ hold_count own p
last_counts marks counts own holder rest p is low splits =
    omega (arith, count_dropped own holder rest p p (omega (arith, is.holders)) splits, ap one_if (same_page-refl p))

none_held : (n : ℕ) (q : Page) → hold_count (replicate n []) q ≡ 0
none_held zero q = refl
none_held (suc n) q = sum_by-cons (λ (pages : List Page). count_by (same_page q) pages) [] (replicate n []) ∙ omega (arith, none_held n q)

none_own : (n h : ℕ) → own_of (replicate n []) h ≡ []
none_own zero h = refl
none_own (suc n) zero = refl
none_own (suc n) (suc h) = none_own n h

abbrev no_mark : ℕ
no_mark = 0

no_marks : (n i : ℕ) → get_or (replicate n no_mark) i 0 ≡ 0
no_marks zero i = refl
no_marks (suc n) zero = refl
no_marks (suc n) (suc i) = no_marks n i

-- no holds
pub none_hold : (counts : PageCounts) → IsHolds (replicate (total counts) 0) counts (replicate 17 [])
none_hold counts = record {
  sized = length-replicate (total counts) no_mark;
  holders = refl;
  few = λ h. omega (arith, ap length (none_own 17 h));
  placed = λ h q any. absurd (false≢true (ap (list_any (same_page q)) (sym (none_own 17 h)) ∙ any));
  counted = λ q here. no_marks (total counts) (place_of counts q) ∙ sym (none_held 17 q);
}

-- a page's mark, read
pub mark_read : (marks : List ℕ) (counts : PageCounts) (own : List (List Page)) (p : Page) (place n : ℕ)
    → IsHolds marks counts own → IsPlaced counts p → place ≡ place_of counts p → n ≡ get_or marks place n → n ≡ hold_count own p
mark_read marks counts own p place n is placed at read =
    get_or_read marks (place_of counts p) n (rw is.sized (place_within counts p placed)) (read ∙ ap (λ k. get_or marks k n) at) 0
    ∙ is.counted p placed

abbrev pub IsRoomy : Vec Page → Type 0
IsRoomy v = 11 ≤ vec_capacity v

roomy_set : (vs : List (Vec Page)) (holder : ℕ) (v : Vec Page) → holder < length vs → IsRoomy v → All IsRoomy vs
    → All IsRoomy (set vs holder v)
roomy_set vs holder v low roomy all = λ k d within. ⊎_elim
    (λ same. subst IsRoomy (sym (ap (λ n. get_or (set vs holder v) n d) same ∙ get_or-set_same vs holder v d low)) roomy)
    (λ other. subst IsRoomy (sym (get_or-set_other vs holder k v d other)) (all k d (omega (arith, within, length-set vs holder v))))
    (cases_eq k holder)

-- the actor's pages written anew
pub record IsWritten (marks : List ℕ) (counts : PageCounts) (vs new : List (Vec Page)) (holder : ℕ) (pages : List Page) : Type 0 where
  pub own : map pages_in new ≡ set (map pages_in vs) holder pages
  pub holds : IsHolds marks counts (map pages_in new)
  pub room : All IsRoomy new

pub held_kept : (marks : List ℕ) (counts : PageCounts) (vs : List (Vec Page)) (holder : ℕ) (v w : Vec Page) (p : Page) (place n : ℕ)
    → IsHolds marks counts (map pages_in vs) → All IsRoomy vs → holder < 17 → own_of (map pages_in vs) holder ≡ v.items → IsRoomy v
    → w.items ≡ v.items ++ p ∷ [] → vec_capacity w ≡ vec_capacity v
    → length v.items < 11 → IsPlaced counts p → place ≡ place_of counts p → n ≡ get_or marks place n
    → IsWritten (set marks place (n + 1)) counts vs (set vs holder w) holder (own_of (map pages_in vs) holder ++ p ∷ [])
held_kept marks counts vs holder v w p place n is room low read roomy items capacity few placed at mark =
    let own : List (List Page) = map pages_in vs in
    let count : n ≡ hold_count own p = mark_read marks counts own p place n is placed at mark in
    let same : map pages_in (set vs holder w) ≡ set own holder (own_of own holder ++ p ∷ []) =
    map-set pages_in vs holder w ∙ ap (set own holder) (items ∙ ap (λ ps. ps ++ p ∷ []) (sym read)) in
    let next : n + 1 ≡ hold_count own p + 1 = ap (λ k. k + 1) count in
    record {
      own = same;
      holds = rw (same, at) (held marks counts own holder p (n + 1) is low (rw read few) placed next);
      room = roomy_set vs holder w (omega (arith, is.holders, length-map vs pages_in)) (rw capacity roomy) room;
    }

pub dropped_kept : (marks : List ℕ) (counts : PageCounts) (vs : List (Vec Page)) (holder : ℕ) (v w : Vec Page) (p : Page) (place n : ℕ)
    → IsHolds marks counts (map pages_in vs) → All IsRoomy vs → holder < 17 → own_of (map pages_in vs) holder ≡ v.items → IsRoomy v
    → v.items ≡ w.items ++ p ∷ [] → vec_capacity w ≡ vec_capacity v
    → place ≡ place_of counts p → n ≡ get_or marks place n
    → (1 ≤ n) × IsWritten (set marks place (n - 1)) counts vs (set vs holder w) holder w.items
dropped_kept marks counts vs holder v w p place n is room low read roomy items capacity at mark =
    let own : List (List Page) = map pages_in vs in
    let splits : own_of own holder ≡ w.items ++ p ∷ [] = read ∙ items in
    let count : n ≡ hold_count own p =
    mark_read marks counts own p place n is (last_placed marks counts own holder w.items p is splits) at mark in
    let some : 1 ≤ n = omega (arith, count, last_counts marks counts own holder w.items p is low splits) in
    let same : map pages_in (set vs holder w) ≡ set own holder w.items = map-set pages_in vs holder w in
    let next : n - 1 + 1 ≡ hold_count own p = omega (arith, count, some) in (
      some,
      record {
        own = same;
        holds = rw (same, at) (dropped marks counts own holder w.items p (n - 1) is low splits next);
        room = roomy_set vs holder w (omega (arith, is.holders, length-map vs pages_in)) (rw capacity roomy) room;
      },
    )

-- the same pages in an actor's room
pub same_kept : (marks : List ℕ) (counts : PageCounts) (vs : List (Vec Page)) (holder : ℕ) (v w : Vec Page)
    → IsHolds marks counts (map pages_in vs) → All IsRoomy vs → holder < 17 → own_of (map pages_in vs) holder ≡ v.items → IsRoomy v
    → v.items ≡ w.items → vec_capacity w ≡ vec_capacity v
    → (map pages_in (set vs holder w) ≡ map pages_in vs) × IsWritten marks counts vs (set vs holder w) holder w.items
same_kept marks counts vs holder v w is room low read roomy items capacity =
    let own : List (List Page) = map pages_in vs in
    let written : map pages_in (set vs holder w) ≡ set own holder w.items = map-set pages_in vs holder w in
    let same : map pages_in (set vs holder w) ≡ own = written ∙ ap (set own holder) (sym (read ∙ items)) ∙ set-get_or own holder [] in (
      same,
      record {
        own = written;
        holds = rw same is;
        room = roomy_set vs holder w (omega (arith, is.holders, length-map vs pages_in)) (rw capacity roomy) room;
      },
    )

pub roomy_push : (vs : List (Vec Page)) (v : Vec Page) → All IsRoomy vs → IsRoomy v → All IsRoomy (vs ++ v ∷ [])
roomy_push vs v all roomy = λ k d low. ⊎_elim
    (λ before. subst IsRoomy (sym (get_or_append_left vs (v ∷ []) d k before)) (all k d before))
    (λ past. subst IsRoomy (sym (get_or_push vs v d k (omega (arith, past, low, length_push vs v)))) roomy)
    (cases_lt k (length vs))

any_sum : (a b : ℕ) → nat_lt 0 (a + b) ≡ (nat_lt 0 a || nat_lt 0 b)
any_sum zero b = ap (nat_lt 0) (omega arith)
any_sum (suc a) b = lt-ltb 0 (suc a + b) (omega arith) ∙ sym (or_left (nat_lt 0 (suc a)) (nat_lt 0 b) (lt-ltb 0 (suc a) (omega arith)))

some_count : (pages : List Page) (q : Page) → nat_lt 0 (count_by (same_page q) pages) ≡ holds_page pages q
some_count [] q = refl
some_count (p ∷ pages) q =
    ap (nat_lt 0) (sum_by-cons (λ (r : Page). one_if (same_page q r)) p pages)
    ∙ any_sum (one_if (same_page q p)) (count_by (same_page q) pages)
    ∙ ap (λ b. nat_lt 0 (one_if (same_page q p)) || b) (some_count pages q)
    ∙ ap (λ b. b || holds_page pages q) (some_one (same_page q p))
  where
    some_one : (b : Bool) → nat_lt 0 (one_if b) ≡ b
    some_one true = refl
    some_one false = refl

-- a page is held where it has a hold
pub held_is : (own : List (List Page)) (q : Page) → nat_lt 0 (hold_count own q) ≡ is_held own q
held_is [] q = refl
held_is (pages ∷ own) q =
    ap (nat_lt 0) (sum_by-cons (λ (ps : List Page). count_by (same_page q) ps) pages own)
    ∙ any_sum (count_by (same_page q) pages) (hold_count own q)
    ∙ ap (λ b. b || nat_lt 0 (hold_count own q)) (some_count pages q)
    ∙ ap (λ b. holds_page pages q || b) (held_is own q)
