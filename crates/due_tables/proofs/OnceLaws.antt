-- Lists of pages that have each page once.
use Rattle.std.proofs.Common.{◌≡◌, ◌+◌, ◌≤◌, ◌||◌, Bool, true, false, if◌then◌else◌, List, []}
use Rattle.std.proofs.Common.{◌∷◌, ◌++◌, Option, Some, None, length, refl, sym, ap, subst, ◌∙◌, arith}
use Rattle.std.proofs.lemmas.Bool.{false≢true, or_right}
use Rattle.std.proofs.lemmas.List.{length_push}
use Rattle.std.proofs.Math.Bool.{or-false}
use Rattle.sgx_types.specs.declared.names.Page.{Page}
use Rattle.sgx_types.specs.Pages.{same_page}
use Rattle.sgx_types.proofs.Pages.{same_page-refl, same_page-swap, same_pages}
use Rattle.driver_list.specs.inner.Holds.{holds_page, joined}
use Rattle.driver_rules.specs.Holds.{is_among}
use Rattle.driver_rules.specs.Needs.{listed}
use Rattle.driver_laws.specs.inner.Sound.{times}
use Rattle.driver_tables.proofs.HeldLaws.{holds_joined}
use Rattle.due_tables.specs.inner.Holding.{pages_of}
use Rattle.due_tables.specs.declared.holding.HeldPages.{HeldPages}

or_apart : (a b c : Bool) → ((a || b) || c) ≡ (a || (b || c))
or_apart true b c = refl
or_apart false b c = refl

-- a list without a page
abbrev without : Page → List Page → List Page
without y [] = []
without y (x ∷ xs) = if same_page x y then without y xs else x ∷ without y xs

len_without : (y : Page) (xs : List Page) → length xs ≤ length (without y xs) + times xs y
len_without y [] = omega arith
len_without y (x ∷ xs) = by_test (same_page x y) (len_without y xs)
  where
    by_test : (b : Bool) → length xs ≤ length (without y xs) + times xs y
        → length (x ∷ xs) ≤ length (if b then without y xs else x ∷ without y xs) + ((if b then 1 else 0) + times xs y)
    by_test true h = omega (arith, h)
    by_test false h = omega (arith, h)

times_without : (y : Page) (xs : List Page) (g : Page) → times (without y xs) g ≤ times xs g
times_without y [] g = omega arith
times_without y (x ∷ xs) g = by_test (same_page x y) (times_without y xs g)
  where
    by_test : (b : Bool) → times (without y xs) g ≤ times xs g
        → times (if b then without y xs else x ∷ without y xs) g ≤ (if same_page x g then 1 else 0) + times xs g
    by_test true h = omega (arith, h)
    by_test false h = omega (arith, h)

among_without : (y : Page) (xs : List Page) (g : Page) → is_among (without y xs) g ≡ true
    → (is_among xs g ≡ true) × (same_page y g ≡ false)
among_without y [] g h = cc
among_without y (x ∷ xs) g h = by_test (same_page x y) refl h (among_without y xs g)
  where
    here : (b : Bool) → same_page x g ≡ b → same_page x y ≡ false → (b || is_among (without y xs) g) ≡ true
        → (is_among (without y xs) g ≡ true → (is_among xs g ≡ true) × (same_page y g ≡ false))
        → ((b || is_among xs g) ≡ true) × (same_page y g ≡ false)
    here true same other k rest = (refl, same_page-swap y g ∙ ap (λ z. same_page z y) (sym (same_pages x g same)) ∙ other)
    here false same other k rest = rest k

    by_test : (b : Bool) → same_page x y ≡ b → is_among (if b then without y xs else x ∷ without y xs) g ≡ true
        → (is_among (without y xs) g ≡ true → (is_among xs g ≡ true) × (same_page y g ≡ false))
        → ((same_page x g || is_among xs g) ≡ true) × (same_page y g ≡ false)
    by_test true is k rest = (or_right (same_page x g) (is_among xs g) (rest k).0, (rest k).1)
    by_test false is k rest = here (same_page x g) refl is k rest

-- pages that differ are no more than those among which they are
pub pigeons : (ys xs : List Page) → ((g : Page) → times xs g ≤ 1) → ((g : Page) → is_among xs g ≡ true → is_among ys g ≡ true)
    → length xs ≤ length ys
pigeons [] [] once within = omega arith
pigeons [] (x ∷ xs) once within = absurd (false≢true (within x (rw (same_page-refl x) refl)))
pigeons (y ∷ ys) xs once within =
    let rest = pigeons ys (without y xs) (λ g. (let few = once g in let fewer = times_without y xs g in omega (arith, few, fewer))) sub in
    let len = len_without y xs in
    let one = once y in omega (arith, rest, len, one)
  where
    sub : (g : Page) → is_among (without y xs) g ≡ true → is_among ys g ≡ true
    sub g h =
        let k = among_without y xs g h in subst (λ b. (b || is_among ys g) ≡ true) k.1 (within g k.0)

-- ---- a page more

none_times : (xs : List Page) (p : Page) → holds_page xs p ≡ false → times xs p ≡ 0
none_times [] p h = refl
none_times (x ∷ xs) p h = by_test (same_page p x) refl h (none_times xs p)
  where
    by_test : (b : Bool) → same_page p x ≡ b → (b || holds_page xs p) ≡ false → (holds_page xs p ≡ false → times xs p ≡ 0)
        → (if same_page x p then 1 else 0) + times xs p ≡ 0
    by_test true is k rest = cc
    by_test false is k rest =
        let other : same_page x p ≡ false = same_page-swap x p ∙ is in
        let none : times xs p ≡ 0 = rest k in
        ap (λ b. (if b then 1 else 0) + times xs p) other ∙ omega (arith, none)

times_push : (xs : List Page) (p g : Page) → times (xs ++ p ∷ []) g ≡ times xs g + (if same_page p g then 1 else 0)
times_push [] p g = omega arith
times_push (x ∷ xs) p g = let rest = times_push xs p g in omega (arith, rest)

pub once_joined : (pages : List Page) (p : Page) → ((g : Page) → times pages g ≤ 1) → (g : Page) → times (joined pages p) g ≤ 1
once_joined pages p once g = by_held (holds_page pages p) refl
  where
    pushed : (b : Bool) → same_page p g ≡ b → holds_page pages p ≡ false → times pages g + (if b then 1 else 0) ≤ 1
    pushed true same none =
        let zero_times : times pages g ≡ 0 = ap (times pages) (sym (same_pages p g same)) ∙ none_times pages p none in
        omega (arith, zero_times)
    pushed false same none = let few = once g in omega (arith, few)

    by_held : (b : Bool) → holds_page pages p ≡ b → times (if b then pages else pages ++ p ∷ []) g ≤ 1
    by_held true is = once g
    by_held false is =
        let count = times_push pages p g in let few = pushed (same_page p g) refl is in omega (arith, count, few)

longer_joined : (pages : List Page) (p : Page) → length pages ≤ length (joined pages p)
longer_joined pages p = by_held (holds_page pages p)
  where
    by_held : (b : Bool) → length pages ≤ length (if b then pages else pages ++ p ∷ [])
    by_held true = omega arith
    by_held false = let more = length_push pages p in omega (arith, more)

-- ---- pages that may be none

abbrev pub join_if : List Page → Option Page → List Page
join_if pages None = pages
join_if pages (Some p) = joined pages p

pub once_if : (pages : List Page) (o : Option Page) → ((g : Page) → times pages g ≤ 1) → (g : Page) → times (join_if pages o) g ≤ 1
once_if pages None once = once
once_if pages (Some p) once = once_joined pages p once

pub longer_if : (pages : List Page) (o : Option Page) → length pages ≤ length (join_if pages o)
longer_if pages None = omega arith
longer_if pages (Some p) = longer_joined pages p

pub holds_if : (pages : List Page) (o : Option Page) (g : Page) → holds_page (join_if pages o) g ≡ (holds_page pages g || is_among
    (listed o) g)
holds_if pages None g = sym (or-false (holds_page pages g))
holds_if pages (Some p) g =
    holds_joined pages p g
    ∙ ap (λ b. holds_page pages g || b) (same_page-swap g p ∙ sym (or-false (same_page p g)))

abbrev pub join_all : List Page → HeldPages → List Page
join_all pages h = join_if (join_if (join_if pages h.first) h.second) h.third

among_listed : (o : Option Page) (xs : List Page) (g : Page) → is_among (listed o ++ xs) g ≡ (is_among (listed o) g || is_among xs g)
among_listed None xs g = refl
among_listed (Some p) xs g = ap (λ b. b || is_among xs g) (sym (or-false (same_page p g)))

pub holds_all : (pages : List Page) (h : HeldPages) (g : Page)
    → holds_page (join_all pages h) g ≡ (holds_page pages g || is_among (pages_of h) g)
holds_all pages h g =
    holds_if (join_if (join_if pages h.first) h.second) h.third g
    ∙ ap (λ b. b || is_among (listed h.third) g) (holds_if (join_if pages h.first) h.second g
    ∙ ap (λ b. b || is_among (listed h.second) g) (holds_if pages h.first g))
    ∙ or_apart (holds_page pages g || is_among (listed h.first) g) (is_among (listed h.second) g) (is_among (listed h.third) g)
    ∙ or_apart (holds_page pages g) (is_among (listed h.first) g) (is_among (listed h.second) g || is_among (listed h.third) g)
    ∙ ap (λ b. holds_page pages g || b) (ap (λ b. is_among (listed h.first) g || b)
    (sym (among_listed h.second (listed h.third) g)) ∙ sym (among_listed h.first (listed h.second ++ listed h.third) g))

pub once_all : (pages : List Page) (h : HeldPages) → ((g : Page) → times pages g ≤ 1) → (g : Page) → times (join_all pages h) g ≤ 1
once_all pages h once =
    once_if (join_if (join_if pages h.first) h.second) h.third (once_if (join_if pages h.first) h.second (once_if pages h.first once))
