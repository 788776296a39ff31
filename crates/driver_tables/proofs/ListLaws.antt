-- The tables' list by the list of the rules: its pages with their marks, its head, and which pages it does not have.
use Rattle.std.proofs.Common.{◌≡◌, ◌+◌, ◌||◌, ◌&&◌, Bool, true, false, if◌then◌else◌, suc, refl, sym, ◌∙◌, ap}
use Rattle.std.proofs.Common.{List, [], ◌∷◌, Some, drop, length, map, arith}
use Rattle.std.specs.List.{list_any}
use Rattle.std.proofs.lemmas.Bool.{false≢true}
use Rattle.sgx_types.proofs.Pages.{same_page-refl, same_pages}
use Rattle.sgx_rules.specs.declared.entries.Entry.{Entry}
use Rattle.sgx_types.specs.declared.names.Page.{Page}
use Rattle.sgx_types.specs.Pages.{same_page}
use Rattle.driver_list.specs.declared.ring.Listed as ring
use Rattle.driver_list.specs.inner.Listing as listing
use Rattle.driver_list.specs.inner.Ring.{is_listed, pages_of}
use Rattle.driver_rules.specs.Ages.{head_of}
use Rattle.driver_rules.specs.Places.{is_young}
use Rattle.driver_laws.specs.inner.Agrees.{Listed, marked}
use Rattle.driver_laws.specs.inner.Sound.{times}
use Rattle.driver_tables.specs.inner.Tables.{listed}

-- the tables list these pages, with the marks that the entries give them
abbrev pub AreListed : List Entry → List ring.Listed → List Page → Type 0
AreListed past xs ys = map listed xs ≡ map (marked past) ys

one_page : (past : List Entry) (x : ring.Listed) (g : Page) → listed x ≡ marked past g → (x.page ≡ g) × (x.young ≡ is_young past g)
one_page past x g h = (ap (λ (l : Listed). l.page) h, ap (λ (l : Listed). l.young) h)

abbrev front : Listed → List Listed → Listed
front d [] = d
front d (l ∷ ls) = l

first_of : (past : List Entry) (x : ring.Listed) (xs : List ring.Listed) (g : Page) (gs : List Page) → AreListed past (x ∷ xs) (g ∷ gs)
    → (listed x ≡ marked past g) × AreListed past xs gs
first_of past x xs g gs h = (ap (front (listed x)) h, ap (drop 1) h)

pub lengths : (past : List Entry) (xs : List ring.Listed) (ys : List Page) → AreListed past xs ys → length xs ≡ length ys
lengths past [] [] h = refl
lengths past (x ∷ xs) (y ∷ ys) h = ap suc (lengths past xs ys (first_of past x xs y ys h).1)
lengths past [] (y ∷ ys) h = cc
lengths past (x ∷ xs) [] h = cc

-- both have one head
pub heads : (past : List Entry) (xs : List ring.Listed) (ys : List Page) → AreListed past xs ys → listing.head_of xs ≡ head_of ys
heads past [] [] h = refl
heads past (x ∷ xs) (g ∷ gs) h = ap Some (one_page past x g (first_of past x xs g gs h).0).0
heads past [] (g ∷ gs) h = cc
heads past (x ∷ xs) [] h = cc

pub pages_are : (past : List Entry) (xs : List ring.Listed) (ys : List Page) → AreListed past xs ys → pages_of xs ≡ ys
pages_are past [] [] h = refl
pages_are past (x ∷ xs) (g ∷ gs) h =
    let two = first_of past x xs g gs h in
    let here : x.page ≡ g = (one_page past x g two.0).0 in
    let rest : pages_of xs ≡ gs = pages_are past xs gs two.1 in
    cc
pages_are past [] (g ∷ gs) h = cc
pages_are past (x ∷ xs) [] h = cc

-- the mark of a page is the one in the list
marks : (past : List Entry) (g : Page) (xs : List ring.Listed) (ys : List Page) → AreListed past xs ys
    → listing.is_young xs g ≡ (list_any (same_page g) ys && is_young past g)
marks past g [] [] h = refl
marks past g (x ∷ xs) (y ∷ ys) h =
    let two = first_of past x xs y ys h in
    let one = one_page past x y two.0 in
    rw (one.0, one.1, marks past g xs ys two.1) (by_page (same_page g y) refl)
  where
    joined : (b c : Bool) → (c || (b && c)) ≡ c
    joined true true = refl
    joined true false = refl
    joined false true = refl
    joined false false = refl

    by_page : (b : Bool) → same_page g y ≡ b → ((b && is_young past y) || (list_any (same_page g) ys && is_young past g)) ≡
        ((b || list_any (same_page g) ys) && is_young past g)
    by_page true is = ap (λ z. is_young past z || (list_any (same_page g) ys && is_young past g)) (sym (same_pages g y is))
        ∙ joined (list_any (same_page g) ys) (is_young past g)
    by_page false is = refl
marks past g [] (y ∷ ys) h = cc
marks past g (x ∷ xs) [] h = cc

-- .. and of the head that of the entries
pub head_marks : (past : List Entry) (xs : List ring.Listed) (ys : List Page) (g : Page) → AreListed past xs ys
    → listing.head_of xs ≡ Some g → listing.is_young xs g ≡ is_young past g
head_marks past xs ys g h at_head = marks past g xs ys h
    ∙ ap (λ b. b && is_young past g) (head_listed ys (sym (heads past xs ys h) ∙ at_head))
  where
    head_listed : (zs : List Page) → head_of zs ≡ Some g → list_any (same_page g) zs ≡ true
    head_listed [] k = cc
    head_listed (z ∷ zs) k =
        let same : z ≡ g = cc in ap (λ y. same_page g y || list_any (same_page g) zs) same ∙ rw (same_page-refl g) refl

-- a page that is not here is in no list
pub not_listed : (past : List Entry) (xs : List ring.Listed) (ys : List Page) (g : Page) → AreListed past xs ys → times ys g ≡ 0
    → is_listed xs g ≡ false
not_listed past [] ys g same none = refl
not_listed past (x ∷ xs) [] g same none = cc
not_listed past (x ∷ xs) (y ∷ ys) g same none = by_head (same_page y g) refl none (not_listed past xs ys g two.1)
  where
    two : (listed x ≡ marked past y) × AreListed past xs ys
    two = first_of past x xs y ys same

    page_same : x.page ≡ y
    page_same = (one_page past x y two.0).0

    other : (b : Bool) → same_page g x.page ≡ b → same_page y g ≡ false → b ≡ false
    other true is k =
        absurd (false≢true (sym k ∙ ap (λ p. same_page p g) (sym page_same ∙ sym (same_pages g x.page is)) ∙ same_page-refl g))
    other false is k = refl

    by_head : (b : Bool) → same_page y g ≡ b → (if b then 1 else 0) + times ys g ≡ 0 → (times ys g ≡ 0 → is_listed xs g ≡ false)
        → is_listed (x ∷ xs) g ≡ false
    by_head true is k more = absurd (omega (arith, k))
    by_head false is k more = rw (other (same_page g x.page) refl is)
        (more (let none_left : 0 + times ys g ≡ 0 = k in omega (arith, none_left)))
