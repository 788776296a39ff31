-- The count of listed pages that nobody holds.
use Rattle.std.proofs.Common.{◌≡◌, ◌≢◌, ℕ, ◌+◌, ◌-◌, ◌<◌, ◌≤◌, ◌==◌, nat_lt, Bool, true, false, not}
use Rattle.std.proofs.Common.{◌&&◌, ◌||◌, List, [], ◌∷◌, ◌++◌, length, set, take, count_by, refl, sym, ap, ◌∙◌}
use Rattle.std.proofs.Common.{⊎_elim, arith}
use Rattle.std.specs.Int.{from_bool}
use Rattle.std.specs.List.{list_any, list_all, IsDistinct}
use Rattle.std.proofs.lemmas.Bool.{eqb-true, false≢true, false_from_ne_true, lt-ltb}
use Rattle.std.proofs.lemmas.List.{length-map, length-take-le, append-nil, take_all, get_or-set_same, set-set, take-take}
use Rattle.std.proofs.lemmas.List.{set-get_or}
use Rattle.std.proofs.lemmas.List.Sums.{sum_by-cons, count_by-le-length}
use Rattle.sgx_types.specs.declared.names.Page.{Page}
use Rattle.sgx_types.specs.Pages.{same_page}
use Rattle.sgx_types.proofs.CountLaws.{one_if}
use Rattle.sgx_types.proofs.Pages.{same_pages, same_page-refl}
use Rattle.driver_list.specs.declared.ring.Listed.{Listed}
use Rattle.driver_list.specs.inner.Ring.{pages_of, is_listed}
use Rattle.driver_list.specs.inner.KeptHolds.{hold_count}
use Rattle.driver_list.specs.inner.Holds.{own_of, but_last, is_held}
use Rattle.driver_list.specs.inner.KeptActive.{unheld_in}
use Rattle.driver_list.proofs.PageLaws.{pages_cases, head_apart, others_distinct}
use Rattle.driver_list.proofs.HoldLaws.{held_is, count_held, count_dropped}

-- no page is counted exactly where each is held
pub none_unheld : (own : List (List Page)) (pages : List Page) → (unheld_in own pages == 0) ≡ list_all (is_held own) pages
none_unheld own [] = refl
none_unheld own (p ∷ pages) =
    ap (λ n. n == 0) (sum_by-cons (λ (q : Page). one_if (not (is_held own q))) p pages)
    ∙ by_test (is_held own p) (unheld_in own pages) (list_all (is_held own) pages) (none_unheld own pages)
  where
    by_test : (b : Bool) (n : ℕ) (rest : Bool) → (n == 0) ≡ rest → (one_if (not b) + n == 0) ≡ (b && rest)
    by_test true n rest h = ap (λ m. m == 0) {x = 0 + n} {y = n} (omega arith) ∙ h
    by_test false n rest h = false_from_ne_true (1 + n == 0) (λ e. absurd (omega (arith, eqb-true (1 + n) 0 e)))

-- where one page's test changes
pub count_apart : (pages : List Page) (p : Page) (f g : Page → Bool) → list_any (same_page p) pages ≡ false
    → ((q : Page) → q ≢ p → f q ≡ g q) → count_by f pages ≡ count_by g pages
count_apart [] p f g none same = refl
count_apart (q ∷ pages) p f g none same =
    let apart : q ≢ p =
    λ e. false≢true (sym none ∙ ap (λ b. b || list_any (same_page p) pages) (ap (λ r. same_page p r) e ∙ same_page-refl p)) in
    let rest : list_any (same_page p) pages ≡ false = or_rest (same_page p q) (list_any (same_page p) pages) none in
    sum_by-cons (λ (r : Page). one_if (f r)) q pages
    ∙ omega (arith, ap one_if (same q apart), count_apart pages p f g rest same)
    ∙ sym (sum_by-cons (λ (r : Page). one_if (g r)) q pages)
  where
    or_rest : (a b : Bool) → (a || b) ≡ false → b ≡ false
    or_rest true b h = absurd (false≢true (sym h))
    or_rest false b h = h

pub count_change : (list : List Listed) (p : Page) (f g : Page → Bool) → IsDistinct same_page (pages_of list) → g p ≡ false → f p ≡ true
    → ((q : Page) → q ≢ p → f q ≡ g q)
    → count_by f (pages_of list) ≡ count_by g (pages_of list) + one_if (is_listed list p)
count_change [] p f g is out here same = refl
count_change (x ∷ list) p f g is out here same =
    let f_cons = sum_by-cons (λ (r : Page). one_if (f r)) x.page (pages_of list) in
    let g_cons = sum_by-cons (λ (r : Page). one_if (g r)) x.page (pages_of list) in
    ⊎_elim
    (λ at.
    let absent : list_any (same_page p) (pages_of list) ≡ false =
    ap (λ q. list_any (same_page q) (pages_of list)) (sym at) ∙ head_apart x list is in
    let listed : is_listed (x ∷ list) p ≡ true =
    ap (λ b. b || list_any (same_page p) (pages_of list)) (ap (same_page p) at ∙ same_page-refl p) in
    omega (
      arith,
      f_cons,
      g_cons,
      ap (λ q. one_if (f q)) at,
      ap one_if here,
      ap (λ q. one_if (g q)) at,
      ap one_if out,
      ap one_if listed,
      count_apart (pages_of list) p f g absent same,
    ))
    (λ other.
    let no : same_page p x.page ≡ false = false_from_ne_true (same_page p x.page) (λ e. other (sym (same_pages p x.page e))) in
    let listed : one_if (is_listed (x ∷ list) p) ≡ one_if (is_listed list p) =
    ap (λ b. one_if (b || list_any (same_page p) (pages_of list))) no in
    omega (arith, f_cons, g_cons, ap one_if (same x.page other), listed, count_change list p f g (others_distinct x list is) out here same))
    (pages_cases x.page p)

test_same : (a b : ℕ) → a ≡ b → nat_lt 0 a ≡ nat_lt 0 b
test_same a b e = ap (nat_lt 0) e

not_same : (q p : Page) → q ≢ p → one_if (same_page q p) ≡ 0
not_same q p apart = ap one_if (false_from_ne_true (same_page q p) (λ t. apart (same_pages q p t)))

-- where a page's holds rise or fall by one
pub record OneHold (less more : List (List Page)) (p : Page) : Type 0 where
  pub counts : (q : Page) → hold_count more q ≡ hold_count less q + one_if (same_page q p)

held_others : (less more : List (List Page)) (p q : Page) → OneHold less more p → q ≢ p → not (is_held less q) ≡ not (is_held more q)
held_others less more p q hold apart =
    ap not (sym (held_is less q) ∙ test_same (hold_count less q) (hold_count more q) (omega (arith, hold.counts q, not_same q p apart))
    ∙ held_is more q)

held_more : (less more : List (List Page)) (p : Page) → OneHold less more p → is_held more p ≡ true
held_more less more p hold =
    sym (held_is more p) ∙ lt-ltb 0 (hold_count more p) (omega (arith, hold.counts p, ap one_if (same_page-refl p)))

-- the count where a page is held once more: it falls where the page was not held and is listed
pub unheld_more : (less more : List (List Page)) (list : List Listed) (p : Page) → OneHold less more p
    → IsDistinct same_page (pages_of list)
    → unheld_in less (pages_of list) ≡ unheld_in more (pages_of list) + one_if (not (is_held less p) && is_listed list p)
unheld_more less more list p hold is = by_test (is_held less p) refl
  where
    by_test : (b : Bool) → is_held less p ≡ b → unheld_in less (pages_of list) ≡
        unheld_in more (pages_of list) + one_if (not b && is_listed list p)
    by_test false was = count_change list p (λ q. not (is_held less q)) (λ q. not (is_held more q)) is
        (ap not (held_more less more p hold)) (ap not was) (λ q apart. held_others less more p q hold apart)
    by_test true was = omega (arith, all_same (pages_of list))
      where
        each : (q : Page) → not (is_held less q) ≡ not (is_held more q)
        each q = ⊎_elim
            (λ at. ap (λ r. not (is_held less r)) at ∙ ap not (was ∙ sym (held_more less more p hold))
            ∙ sym (ap (λ r. not (is_held more r)) at)) (λ apart. held_others less more p q hold apart) (pages_cases q p)

        all_same : (pages : List Page) → unheld_in less pages ≡ unheld_in more pages
        all_same [] = refl
        all_same (q ∷ pages) =
            sum_by-cons (λ (r : Page). one_if (not (is_held less r))) q pages
            ∙ omega (arith, ap one_if (each q), all_same pages)
            ∙ sym (sum_by-cons (λ (r : Page). one_if (not (is_held more r))) q pages)

pub byte_is : (b : Bool) → from_bool b ≡ one_if b
byte_is true = refl
byte_is false = refl

-- a hold more, and the count
pub hold_more : (own : List (List Page)) (holder : ℕ) (p : Page) → holder < length own
    → OneHold own (set own holder (own_of own holder ++ p ∷ [])) p
hold_more own holder p low = record { counts = λ q. count_held own holder p q low }

pub hold_less : (own new : List (List Page)) (holder : ℕ) (p : Page) → holder < length own
    → new ≡ set own holder (but_last (own_of own holder)) → own_of own holder ≡ own_of new holder ++ p ∷ [] → OneHold new own p
hold_less own new holder p low same splits =
    let rest : own_of new holder ≡ but_last (own_of own holder) =
    ap (λ (o : List (List Page)). own_of o holder) same ∙ get_or-set_same own holder (but_last (own_of own holder)) [] low in
    let parts : own_of own holder ≡ but_last (own_of own holder) ++ p ∷ [] = splits ∙ ap (λ (ps : List Page). ps ++ p ∷ []) rest in
    record {
      counts =
          λ q. sym (ap (λ (o : List (List Page)). hold_count o q + one_if (same_page q p)) same
          ∙ count_dropped own holder (but_last (own_of own holder)) p q low parts);
    }

-- where nothing was dropped, the holds are as they were
pub none_dropped : (own new : List (List Page)) (holder : ℕ) → holder < length own → new ≡ set own holder (but_last (own_of own holder))
    → own_of own holder ≡ own_of new holder ++ [] → new ≡ own
none_dropped own new holder low same splits =
    let rest : own_of new holder ≡ but_last (own_of own holder) =
    ap (λ (o : List (List Page)). own_of o holder) same ∙ get_or-set_same own holder (but_last (own_of own holder)) [] low in
    let parts : own_of own holder ≡ but_last (own_of own holder) = splits ∙ append-nil (own_of new holder) ∙ rest in
    same ∙ ap (set own holder) (sym parts) ∙ set-get_or own holder []

pub unheld_le : (own : List (List Page)) (list : List Listed) → unheld_in own (pages_of list) ≤ length list
unheld_le own list = omega (arith, count_by-le-length (λ q. not (is_held own q)) (pages_of list), length-map list (λ (x : Listed). x.page))

-- so many of an actor's holds ended, from the last on
abbrev pub left_after : List (List Page) → ℕ → ℕ → List (List Page)
left_after own holder n = set own holder (take (length (own_of own holder) - n) (own_of own holder))

pub none_ended : (own : List (List Page)) (holder : ℕ) → own ≡ left_after own holder 0
none_ended own holder =
    sym (ap (set own holder) (take_all (length (own_of own holder) - 0) (own_of own holder) (omega arith)) ∙ set-get_or own holder [])

pub one_more_ended : (own : List (List Page)) (holder n : ℕ) → holder < length own
    → set (left_after own holder n) holder (but_last (own_of (left_after own holder n) holder)) ≡ left_after own holder (n + 1)
one_more_ended own holder n low =
    let pages : List Page = own_of own holder in
    let now : own_of (left_after own holder n) holder ≡ take (length pages - n) pages =
    get_or-set_same own holder (take (length pages - n) pages) [] low in
    let size : length (take (length pages - n) pages) ≡ length pages - n = length-take-le (length pages - n) pages (omega arith) in
    let fewer : length pages - n - 1 ≤ length pages - n = omega arith in
    let last : length pages - n - 1 ≡ length pages - (n + 1) = omega arith in
    set-set own holder (take (length pages - n) pages) (but_last (own_of (left_after own holder n) holder))
    ∙ ap (set own holder)
    (ap but_last now ∙ ap (λ m. take (m - 1) (take (length pages - n) pages)) size
    ∙ take-take (length pages - n - 1) (length pages - n) pages fewer ∙ ap (λ m. take m pages) last)

pub all_ended : (own : List (List Page)) (holder : ℕ) → length (own_of own holder) ≤ 11 → left_after own holder 11 ≡ set own holder []
all_ended own holder few =
    let none : length (own_of own holder) - 11 ≡ 0 = omega arith in
    ap (λ n. set own holder (take n (own_of own holder))) none
