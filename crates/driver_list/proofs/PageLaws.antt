-- Lists of pages, each of which stands in them once.
use Rattle.std.proofs.Common.{◌≡◌, ◌≢◌, ◌⊎◌, inl, inr, Bool, ◌==◌, true, false, ◌&&◌, ◌||◌, List, []}
use Rattle.std.proofs.Common.{◌∷◌, ◌++◌, map, refl, sym, ap, ◌∙◌, ⊎_elim}
use Rattle.std.specs.Cmp.{IsEquivalence}
use Rattle.std.specs.List.{list_any, IsDistinct, AllByRecursion}
use Rattle.std.proofs.lemmas.Bool.{or_from, or_left, or_right, or_cases, false≢true}
use Rattle.std.proofs.lemmas.Bool.{false_from_ne_true, cond_both, cond-false}
use Rattle.std.proofs.lemmas.Cmp.{nat_eq_equiv}
use Rattle.std.proofs.lemmas.List.{map-append}
use Rattle.std.proofs.lemmas.List.Folds.{list_any-append}
use Rattle.std.proofs.lemmas.Map.Keys.{IsDistinct-push, IsDistinct-head, IsDistinct-tail}
use Rattle.sgx_types.specs.declared.names.Page.{Page}
use Rattle.sgx_types.specs.Pages.{same_page}
use Rattle.sgx_types.proofs.Pages.{same_pages, same_page-refl}
use Rattle.driver_list.specs.declared.ring.Listed.{Listed}
use Rattle.driver_list.specs.inner.Ring.{pages_of, is_listed}
use Rattle.driver_list.specs.inner.Listing.{touched}

pub pages_cases : (p q : Page) → (p ≡ q) ⊎ (p ≢ q)
pages_cases p q = by_test (same_page p q) refl
  where
    by_test : (b : Bool) → same_page p q ≡ b → (p ≡ q) ⊎ (p ≢ q)
    by_test true e = inl (same_pages p q e)
    by_test false e = inr (λ same. false≢true (sym e ∙ ap (same_page p) (sym same) ∙ same_page-refl p))

pub same_back : (a b : Page) → same_page a b ≡ same_page b a
same_back a b =
    ap (λ t. t && (a.number == b.number)) (nat_eq_equiv.symm a.enclave b.enclave)
    ∙ ap (λ t. (b.enclave == a.enclave) && t) (nat_eq_equiv.symm a.number b.number)

pub page_laws : IsEquivalence same_page
page_laws = record {
  refl = same_page-refl;
  symm = same_back;
  congr = λ x y z h. ap (λ w. same_page w z) (same_pages x y h);
}

-- one page more
pub listed_push : (xs : List Listed) (y : Listed) (q : Page)
    → is_listed (xs ++ y ∷ []) q ≡ (is_listed xs q || (same_page q y.page || false))
listed_push xs y q = ap (list_any (same_page q)) (map-append (λ (x : Listed). x.page) xs (y ∷ []))
    ∙ list_any-append (same_page q) (pages_of xs) (y.page ∷ [])

pub listed_last : (xs : List Listed) (y : Listed) → is_listed (xs ++ y ∷ []) y.page ≡ true
listed_last xs y = listed_push xs y y.page ∙ or_right (is_listed xs y.page) (same_page y.page y.page || false)
    (or_left (same_page y.page y.page) false (same_page-refl y.page))

pub listed_before : (xs : List Listed) (y : Listed) (q : Page) → is_listed xs q ≡ true → is_listed (xs ++ y ∷ []) q ≡ true
listed_before xs y q h = listed_push xs y q ∙ or_left (is_listed xs q) (same_page q y.page || false) h

-- a page that is not the head is among the others
pub listed_behind : (x : Listed) (xs : List Listed) (q : Page) → is_listed (x ∷ xs) q ≡ true → q ≢ x.page → is_listed xs q ≡ true
listed_behind x xs q h apart = ⊎_elim (λ same. absurd (apart (same_pages q x.page same))) (λ rest. rest)
    (or_cases (same_page q x.page) (is_listed xs q) h)

pub distinct_push : (xs : List Listed) (y : Listed) → IsDistinct same_page (pages_of xs) → is_listed xs y.page ≡ false
    → IsDistinct same_page (pages_of (xs ++ y ∷ []))
distinct_push xs y is absent = rw (map-append (λ (x : Listed). x.page) xs (y ∷ []))
    (IsDistinct-push page_laws (pages_of xs) y.page is absent)

none_same : (p : Page) (ps : List Page) → AllByRecursion (λ q. same_page p q ≡ false) ps → list_any (same_page p) ps ≡ false
none_same p [] h = refl
none_same p (q ∷ ps) h = or_from (same_page p q) (list_any (same_page p) ps) h.0 (none_same p ps h.1)

all_same : (p : Page) (ps : List Page) → list_any (same_page p) ps ≡ false → AllByRecursion (λ q. same_page p q ≡ false) ps
all_same p [] h = tt
all_same p (q ∷ ps) h = (
  false_from_ne_true (same_page p q) (λ t. false≢true (sym h ∙ or_left (same_page p q) (list_any (same_page p) ps) t)),
  all_same p ps
      (false_from_ne_true (list_any (same_page p) ps) (λ t. false≢true (sym h ∙ or_right (same_page p q) (list_any (same_page p) ps) t))),
)

-- the head is not among the others
pub head_apart : (x : Listed) (xs : List Listed) → IsDistinct same_page (pages_of (x ∷ xs)) → is_listed xs x.page ≡ false
head_apart x xs is = none_same x.page (pages_of xs) (IsDistinct-head same_page x.page (pages_of xs) is)

pub others_distinct : (x : Listed) (xs : List Listed) → IsDistinct same_page (pages_of (x ∷ xs)) → IsDistinct same_page (pages_of xs)
others_distinct x xs is = IsDistinct-tail same_page x.page (pages_of xs) is

-- nor is the last
pub last_apart : (xs : List Listed) (y : Listed) → IsDistinct same_page (pages_of (xs ++ y ∷ [])) → is_listed xs y.page ≡ false
last_apart [] y is = refl
last_apart (x ∷ xs) y is =
    let apart : is_listed (xs ++ y ∷ []) x.page ≡ false = head_apart x (xs ++ y ∷ []) is in
    or_from (same_page y.page x.page) (is_listed xs y.page)
    (false_from_ne_true (same_page y.page x.page)
    (λ same. false≢true (sym apart ∙ ap (is_listed (xs ++ y ∷ [])) (sym (same_pages y.page x.page same)) ∙ listed_last xs y)))
    (last_apart xs y (others_distinct x (xs ++ y ∷ []) is))

pub front_distinct : (xs : List Listed) (y : Listed) → IsDistinct same_page (pages_of (xs ++ y ∷ [])) → IsDistinct same_page (pages_of xs)
unfolding IsDistinct
front_distinct [] y is = tt
front_distinct (x ∷ xs) y is =
    let apart : is_listed (xs ++ y ∷ []) x.page ≡ false = head_apart x (xs ++ y ∷ []) is in (
      all_same x.page (pages_of xs) (false_from_ne_true (is_listed xs x.page) (λ t. false≢true (sym apart ∙ listed_before xs y x.page t))),
      front_distinct xs y (others_distinct x (xs ++ y ∷ []) is),
    )

pub none_distinct : IsDistinct same_page []
unfolding IsDistinct
none_distinct = tt

-- a touch changes no page
pub touched_page : (p : Page) (x : Listed) → (touched p x).page ≡ x.page
touched_page p x = cond_both (same_page p x.page) (record { page = x.page; young = true }) x (λ (v : Listed). v.page ≡ x.page) (λ _. refl)
    (λ _. refl)

pub touched_pages : (p : Page) (xs : List Listed) → pages_of (map (touched p) xs) ≡ pages_of xs
touched_pages p [] = refl
touched_pages p (x ∷ xs) = ap (λ q. q ∷ pages_of (map (touched p) xs)) (touched_page p x) ∙ ap (λ qs. x.page ∷ qs) (touched_pages p xs)

-- and where the page is not listed it changes nothing
pub untouched : (p : Page) (xs : List Listed) → is_listed xs p ≡ false → map (touched p) xs ≡ xs
untouched p [] absent = refl
untouched p (x ∷ xs) absent =
    let other : same_page p x.page ≡ false =
    false_from_ne_true (same_page p x.page) (λ t. false≢true (sym absent ∙ or_left (same_page p x.page) (is_listed xs p) t)) in
    let rest : is_listed xs p ≡ false =
    false_from_ne_true (is_listed xs p) (λ t. false≢true (sym absent ∙ or_right (same_page p x.page) (is_listed xs p) t)) in
    ap (λ y. y ∷ map (touched p) xs) (cond-false (same_page p x.page) (record { page = x.page; young = true }) x other)
    ∙ ap (λ ys. x ∷ ys) (untouched p xs rest)
