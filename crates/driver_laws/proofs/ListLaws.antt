-- What each kind of entry leaves of the list of pages that are here.
use Rattle.std.proofs.Common.{◌≡◌, ℕ, ◌+◌, Bool, true, false, if◌then◌else◌, refl, sym, ap, ◌∙◌, subst, List, [], ◌∷◌}
use Rattle.std.proofs.Common.{◌++◌, drop, Some, arith}
use Rattle.sgx_types.specs.declared.names.Page.{Page}
use Rattle.sgx_types.proofs.Pages.{same_pages}
use Rattle.sgx_types.specs.Pages.{is_own_page, same_page}
use Rattle.driver_rules.specs.Ages.{head_of}
use Rattle.driver_rules.specs.Places.{Absent, Away, Here, is_here, leaves, Leaving, Loading, Place, to_tail}
use Rattle.driver_laws.specs.inner.Sound.{ListIsHere, once_here, once_listed, times}
use Rattle.driver_laws.proofs.PlaceLaws.{of_same}

pub times-append : (xs ys : List Page) (g : Page) → times (xs ++ ys) g ≡ times xs g + times ys g
times-append [] ys g = omega arith
times-append (x ∷ xs) ys g = rw (times-append xs ys g) omega arith

pub times-to_tail : (xs : List Page) (g : Page) → times (to_tail xs) g ≡ times xs g
times-to_tail [] g = refl
times-to_tail (x ∷ xs) g = rw (times-append xs (x ∷ []) g) omega arith

-- a TCS or REG page comes to its end
pub list_longer : (pages : List Page) (at : Page → Place) (a : Page) (f : ℕ) → ListIsHere pages at → is_own_page a ≡ true
    → is_here (at a) ≡ false
    → ListIsHere (pages ++ a ∷ []) (λ g. if same_page a g then Here f else at g)
list_longer pages at a f h own away g = rw (times-append pages (a ∷ []) g) (by_page (same_page a g) refl)
  where
    by_page : (b : Bool) → same_page a g ≡ b → times pages g + ((if b then 1 else 0) + 0) ≡ once_listed g (if b then Here f else at g)
    by_page true is =
        let its : is_own_page g ≡ true = subst (λ (x : Page). is_own_page x ≡ true) (same_pages a g is) own in
        let was : times pages g ≡ 0 = h g ∙ rw (its, of_same (λ y. at y) (at a) a g refl is, away) refl in
        rw (was, its) refl
    by_page false is = omega (arith, h g)

-- another page changes its place
pub list_beside : (pages : List Page) (at now : Page → Place) (a : Page) → ListIsHere pages at → is_own_page a ≡ false
    → ((g : Page) → same_page a g ≡ false → now g ≡ at g) → ListIsHere pages now
list_beside pages at now a h other same g = by_page (same_page a g) refl
  where
    by_page : (b : Bool) → same_page a g ≡ b → times pages g ≡ once_listed g (now g)
    by_page true is =
        let its : is_own_page g ≡ false = subst (λ (x : Page). is_own_page x ≡ false) (same_pages a g is) other in
        h g ∙ rw its refl
    by_page false is = h g ∙ ap (once_listed g) (sym (same g is))

-- its head goes to its end
pub list_turned : (pages : List Page) (at : Page → Place) → ListIsHere pages at → ListIsHere (to_tail pages) at
list_turned pages at h g = times-to_tail pages g ∙ h g

-- its head is taken
pub list_shorter : (pages : List Page) (at : Page → Place) (a : Page) → ListIsHere pages at → head_of pages ≡ Some a
    → ListIsHere (drop 1 pages) (λ g. if same_page a g then leaves (at g) else at g)
list_shorter [] at a h head g = cc
list_shorter (x ∷ xs) at a h head g =
    by_page (same_page a g) refl (subst (λ y. (if same_page y g then 1 else 0) + times xs g ≡ once_listed g (at g)) same (h g))
  where
    same : x ≡ a
    same = cc

    gone : (own : Bool) (p : Place) → 1 + times xs g ≡ (if own then once_here p else 0)
        → times xs g ≡ (if own then once_here (leaves p) else 0)
    gone true (Here f) k = omega arith
    gone true (Leaving f) k = omega arith
    gone true Absent k = omega arith
    gone true (Loading f slot) k = omega arith
    gone true (Away slot) k = omega arith
    gone false p k = omega arith

    by_page : (b : Bool) → same_page a g ≡ b → (if b then 1 else 0) + times xs g ≡ once_listed g (at g)
        → times xs g ≡ once_listed g (if b then leaves (at g) else at g)
    by_page true is k = gone (is_own_page g) (at g) k
    by_page false is k = omega (arith, k)

-- a page that is not here changes its place
pub list_same : (pages : List Page) (at now : Page → Place) → ListIsHere pages at → ((g : Page) → is_here (now g) ≡ is_here (at g))
    → ListIsHere pages now
list_same pages at now h same g = h g ∙ ap (λ b. if is_own_page g then (if b then 1 else 0) else 0) (sym (same g))
