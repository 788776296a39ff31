-- New names for pages, given one after another.
use Rattle.std.proofs.Common.{◌≡◌, ℕ, ◌+◌, ◌<◌, Bool, true, false, ◌||◌, cond, ◌⊎◌, inl, inr, ⊎_elim, List, []}
use Rattle.std.proofs.Common.{◌∷◌, ◌++◌, length, take, get_or, map, Option, Some, None, refl, sym, ap, subst, ◌∙◌, arith}
use Rattle.std.proofs.lemmas.Bool.{false≢true, or_right}
use Rattle.std.proofs.lemmas.List.{map-append, take_more}
use Rattle.sgx_types.specs.declared.names.Page.{Page}
use Rattle.sgx_types.specs.Pages.{same_page}
use Rattle.sgx_types.proofs.Pages.{same_pages, same_page-refl}
use Rattle.sgx_types.proofs.Truths.{apart, either}
use Rattle.least_reloads.specs.Plans.{has}
use Rattle.command_least.specs.declared.accesses.Access.{Access}
use Rattle.command_least.specs.inner.Kept.{page_of}
use Rattle.command_least.specs.inner.Naming.{AreNamed, Renaming, name}

-- ---- two pages change their names

abbrev pub swap : Page → Page → Page → Page
swap a b g = cond (same_page g a) b (cond (same_page g b) a g)

swap_first : (a b : Page) → swap a b a ≡ b
swap_first a b = ap (λ t. cond t b (cond (same_page a b) a a)) (same_page-refl a)

swap_other : (a b g : Page) → same_page g a ≡ false → same_page g b ≡ false → swap a b g ≡ g
swap_other a b g e f = ap (λ t. cond t b (cond (same_page g b) a g)) e ∙ ap (λ t. cond t a g) f

swap_second : (a b : Page) → swap a b b ≡ a
swap_second a b = by_test (same_page b a) refl
  where
    by_test : (t : Bool) → same_page b a ≡ t → swap a b b ≡ a
    by_test true e = ap (λ t. cond t b (cond (same_page b b) a b)) e ∙ same_pages b a e
    by_test false e = ap (λ t. cond t b (cond (same_page b b) a b)) e ∙ ap (λ t. cond t a b) (same_page-refl b)

pub swap_twice : (a b g : Page) → swap a b (swap a b g) ≡ g
swap_twice a b g = by_test (same_page g a) (same_page g b) refl refl
  where
    by_test : (s t : Bool) → same_page g a ≡ s → same_page g b ≡ t → swap a b (swap a b g) ≡ g
    by_test true t e f =
        let is : g ≡ a = same_pages g a e in
        ap (λ h. swap a b (swap a b h)) is ∙ ap (swap a b) (swap_first a b) ∙ swap_second a b ∙ sym is
    by_test false true e f =
        let is : g ≡ b = same_pages g b f in
        ap (λ h. swap a b (swap a b h)) is ∙ ap (swap a b) (swap_second a b) ∙ swap_first a b ∙ sym is
    by_test false false e f = ap (swap a b) (swap_other a b g e f) ∙ swap_other a b g e f

abbrev pub swapped : Renaming → Page → Page → Renaming
swapped r a b = record {
  to = λ g. swap a b (r.to g);
  back = λ g. r.back (swap a b g);
  there = λ g. ap r.back (swap_twice a b (r.to g)) ∙ r.there g;
  here = λ g. ap (swap a b) (r.here (swap a b g)) ∙ swap_twice a b g;
}

pub own_names : Renaming
own_names = record { to = λ g. g; back = λ g. g; there = λ g. refl; here = λ g. refl }

-- ---- pages among others

-- a page that is among these and one more is among these, or is that one
has-append : (pages : List Page) (x g : Page) → has (pages ++ x ∷ []) g ≡ true → (has pages g ≡ true) ⊎ (same_page g x ≡ true)
has-append [] x g h = ⊎_elim (λ same. inr same) (λ none. absurd (false≢true none)) (either (same_page g x) false h)
has-append (y ∷ pages) x g h =
    ⊎_elim (λ first. inl (ap (λ b. b || has pages g) first))
    (λ among. ⊎_elim (λ before. inl (or_right (same_page g y) (has pages g) before)) (λ same. inr same) (has-append pages x g among))
    (either (same_page g y) (has (pages ++ x ∷ []) g) h)

map_agree : (f f' : Page → Page) (pages : List Page) → ((g : Page) → has pages g ≡ true → f g ≡ f' g) → map f pages ≡ map f' pages
map_agree f f' [] agree = refl
map_agree f f' (x ∷ pages) agree =
    ap (λ y. y ∷ map f pages) (agree x (ap (λ b. b || has pages x) (same_page-refl x)))
    ∙ ap (λ rest. f' x ∷ rest) (map_agree f f' pages (λ g among. agree g (or_right (same_page g x) (has pages g) among)))

-- ---- names given one after another

-- no page has a name yet
pub none_named : (pages : List Page) (look : Page → Option ℕ) (count : ℕ) → pages ≡ [] → ((g : Page) → look g ≡ None)
    → AreNamed [] pages look count
none_named pages look count empty none = record {
  by = own_names;
  same = empty;
  named = λ g n e. let both : None ≡ Some n = sym (none g) ∙ e in cc;
  below = λ g n e. let both : None ≡ Some n = sym (none g) ∙ e in cc;
  all = λ g h. absurd (false≢true h);
}

-- a page that has a name is accessed
pub found_named : (accesses pages : List Page) (look : Page → Option ℕ) (count : ℕ) (x : Page) (n : ℕ) → AreNamed accesses pages look count
    → look x ≡ Some n
    → AreNamed (accesses ++ x ∷ []) (pages ++ name n ∷ []) look count
found_named accesses pages look count x n was found = record {
  by = was.by;
  same = ap (λ ps. ps ++ name n ∷ []) was.same
      ∙ ap (λ y. map was.by.to accesses ++ y ∷ []) (sym (was.named x n found))
      ∙ sym (map-append was.by.to accesses (x ∷ []));
  named = was.named;
  below = was.below;
  all = λ g among. ⊎_elim (λ before. was.all g before) (λ same. (n, ap look (same_pages g x same) ∙ found)) (has-append accesses x g among);
}

-- a page that has none gets the next
pub new_named : (accesses pages : List Page) (look look' : Page → Option ℕ) (count : ℕ) (x : Page) → AreNamed accesses pages look count
    → look x ≡ None
    → ((g : Page) → look' g ≡ cond (same_page x g) (Some count) (look g))
    → AreNamed (accesses ++ x ∷ []) (pages ++ name count ∷ []) look' (count + 1)
new_named accesses pages look look' count x was none changes = record {
  by = by;
  same = ap (λ ps. ps ++ name count ∷ []) was.same
      ∙ ap (λ ps. ps ++ name count ∷ []) (map_agree was.by.to by.to accesses (λ g among. sym (stays g (was.all g among))))
      ∙ ap (λ y. map by.to accesses ++ y ∷ []) (sym (swap_first (was.by.to x) (name count)))
      ∙ sym (map-append by.to accesses (x ∷ []));
  named = λ g n e. by_new g n (same_page x g) refl e;
  below = λ g n e. below_new g n (same_page x g) refl e;
  all = λ g among. ⊎_elim (λ before. all_old g (same_page x g) refl (was.all g before))
      (λ same. (count, changes g ∙ ap (λ b. cond b (Some count) (look g)) (ap (same_page x) (same_pages g x same) ∙ same_page-refl x)))
      (has-append accesses x g among);
}
  where
    by : Renaming
    by = swapped was.by (was.by.to x) (name count)

    not_x : (g : Page) (n : ℕ) (b : Bool) → look g ≡ Some n → same_page (was.by.to g) (was.by.to x) ≡ b → b ≡ false
    not_x g n false e same = refl
    not_x g n true e same =
        let is : g ≡ x = sym (was.by.there g) ∙ ap was.by.back (same_pages (was.by.to g) (was.by.to x) same) ∙ was.by.there x in
        let both : None ≡ Some n = sym none ∙ ap look (sym is) ∙ e in
        cc

    not_new : (g : Page) (n : ℕ) → look g ≡ Some n → same_page (was.by.to g) (name count) ≡ false
    not_new g n e =
        let low = was.below g n e in
        ap (λ h. same_page h (name count)) (was.named g n e) ∙ apart n count (λ is. let no : ⊥ = omega (arith, low, is) in no)

    -- a page with a name keeps it
    stays : (g : Page) → (n : ℕ) × (look g ≡ Some n) → by.to g ≡ was.by.to g
    stays g one =
        swap_other (was.by.to x) (name count) (was.by.to g)
        (not_x g one.0 (same_page (was.by.to g) (was.by.to x)) one.1 refl) (not_new g one.0 one.1)

    by_new : (g : Page) (n : ℕ) (b : Bool) → same_page x g ≡ b → look' g ≡ Some n → by.to g ≡ name n
    by_new g n true same e =
        let now : Some count ≡ Some n = sym (changes g ∙ ap (λ b. cond b (Some count) (look g)) same) ∙ e in
        let is : count ≡ n = cc in
        ap by.to (sym (same_pages x g same)) ∙ swap_first (was.by.to x) (name count) ∙ ap name is
    by_new g n false other e =
        let before : look g ≡ Some n = sym (changes g ∙ ap (λ b. cond b (Some count) (look g)) other) ∙ e in
        stays g (n, before) ∙ was.named g n before

    below_new : (g : Page) (n : ℕ) (b : Bool) → same_page x g ≡ b → look' g ≡ Some n → n < count + 1
    below_new g n true same e =
        let now : Some count ≡ Some n = sym (changes g ∙ ap (λ b. cond b (Some count) (look g)) same) ∙ e in
        let is : count ≡ n = cc in
        omega (arith, is)
    below_new g n false other e =
        let before : look g ≡ Some n = sym (changes g ∙ ap (λ b. cond b (Some count) (look g)) other) ∙ e in
        omega (arith, was.below g n before)

    all_old : (g : Page) (b : Bool) → same_page x g ≡ b → (n : ℕ) × (look g ≡ Some n) → (n : ℕ) × (look' g ≡ Some n)
    all_old g true same was_one = (count, changes g ∙ ap (λ b. cond b (Some count) (look g)) same)
    all_old g false other was_one = (was_one.0, changes g ∙ ap (λ b. cond b (Some count) (look g)) other ∙ was_one.1)

-- the accesses so far, and one more
pub pages_more : (accesses : List Access) (i : ℕ) (d : Access) → i < length accesses
    → map page_of (take (i + 1) accesses) ≡ map page_of (take i accesses) ++ page_of (get_or accesses i d) ∷ []
pages_more accesses i d within =
    ap (map page_of) (take_more accesses i d within) ∙ map-append page_of (take i accesses) (get_or accesses i d ∷ [])

pub named_along : (accesses accesses' pages pages' : List Page) (look : Page → Option ℕ) (count : ℕ) → accesses' ≡ accesses → pages' ≡ pages
    → AreNamed accesses pages look count
    → AreNamed accesses' pages' look count
named_along accesses accesses' pages pages' look count same same' named =
    let Is : List Page → Type 0 = λ xs. AreNamed xs pages look count in
    let Named : List Page → Type 0 = λ xs. AreNamed accesses' xs look count in
    subst Named (sym same') (subst Is (sym same) named)
