-- What is held after a step, page by page.
use Rattle.std.proofs.Common.{◌≡◌, Bool, true, false, not, ◌&&◌, ◌||◌, cond, List, [], ◌∷◌, ◌++◌, sym, ap}
use Rattle.std.proofs.Common.{◌∙◌, ⊎_elim}
use Rattle.std.specs.List.{filter, IsDistinct}
use Rattle.std.proofs.lemmas.Bool.{false≢true, or_cases, or_parts, or_from, or_right, and_right, false_from_ne_true}
use Rattle.std.proofs.lemmas.List.Folds.{list_any-append}
use Rattle.std.proofs.lemmas.Map.Views.{any-filter_same}
use Rattle.sgx_types.specs.declared.names.Page.{Page}
use Rattle.sgx_types.specs.Pages.{same_page}
use Rattle.sgx_types.proofs.Pages.{same_pages, same_page-refl}
use Rattle.least_reloads.specs.Plans.{StepView, has, kept, held_behind}
use Rattle.least_reloads.proofs.Pages.{distinct_parts, distinct_cons, none_distinct}

pub has-filter : (q : Page → Bool) (pages : List Page) (p : Page) → has (filter q pages) p ≡ (q p && has pages p)
has-filter q pages p = any-filter_same (same_page p) q (q p) (λ k h. ap q (sym (same_pages p k h))) pages

pub has-kept : (held : List Page) (step : StepView) (p : Page) → has (kept held step) p ≡ (not (has step.out p) && has held p)
has-kept held step p = has-filter (λ x. not (has step.out x)) held p

pub has-append : (xs ys : List Page) (p : Page) → has (xs ++ ys) p ≡ (has xs p || has ys p)
has-append xs ys p = list_any-append (same_page p) xs ys

pub has-after : (held : List Page) (step : StepView) (p : Page)
    → has (held_behind held step) p ≡ ((not (has step.out p) && has held p) || has step.load p)
has-after held step p = has-append (kept held step) step.load p ∙ ap (λ b. b || has step.load p) (has-kept held step p)

pub distinct-filter : (q : Page → Bool) (pages : List Page) → IsDistinct same_page pages → IsDistinct same_page (filter q pages)
distinct-filter q [] h = none_distinct
distinct-filter q (x ∷ pages) h =
    let parts = distinct_parts x pages h in
    by_test (q x) (has-filter q pages x ∙ and_right (q x) (has pages x) parts.0) (distinct-filter q pages parts.1)
  where
    by_test : (b : Bool) → has (filter q pages) x ≡ false → IsDistinct same_page (filter q pages)
        → IsDistinct same_page (cond b (x ∷ filter q pages) (filter q pages))
    by_test true absent rest = distinct_cons x (filter q pages) absent rest
    by_test false absent rest = rest

pub distinct-append : (xs ys : List Page) → IsDistinct same_page xs → IsDistinct same_page ys
    → ((p : Page) → has ys p ≡ true → has xs p ≡ false) → IsDistinct same_page (xs ++ ys)
distinct-append [] ys first second disjoint = second
distinct-append (x ∷ xs) ys first second disjoint =
    let parts = distinct_parts x xs first in
    let absent : has ys x ≡ false =
    false_from_ne_true (has ys x) (λ h. false≢true (sym (disjoint x h) ∙ ap (λ b. b || has xs x) (same_page-refl x))) in
    distinct_cons x (xs ++ ys)
    (has-append xs ys x ∙ or_from (has xs x) (has ys x) parts.0 absent)
    (distinct-append xs ys parts.1 second (λ p h. (or_parts (same_page p x) (has xs p) (disjoint p h)).1))

-- the pages that are held after a step are distinct, if those that are loaded were not held
pub distinct-after : (held : List Page) (step : StepView) → IsDistinct same_page held → IsDistinct same_page step.load
    → ((p : Page) → has step.load p ≡ true → has (kept held step) p ≡ false) → IsDistinct same_page (held_behind held step)
distinct-after held step distinct once absent =
    distinct-append (kept held step) step.load (distinct-filter (λ x. not (has step.out x)) held distinct) once absent

pub has_one : (page p : Page) → has (page ∷ []) p ≡ true → page ≡ p
has_one page p h = ⊎_elim (λ s. sym (same_pages p page s)) (λ e. absurd (false≢true e)) (or_cases (same_page p page) false h)

-- a page that is loaded is held
pub loaded : (held : List Page) (step : StepView) (p : Page) → has step.load p ≡ true → has (held_behind held step) p ≡ true
loaded held step p h = has-append (kept held step) step.load p ∙ or_right (has (kept held step) p) (has step.load p) h
