-- Places: which pages have one, and each page's is its own.
use Rattle.std.proofs.Common.{◌≡◌, ℕ, zero, suc, ◌+◌, ◌-◌, ◌<◌, ◌≤◌, ◌==◌, ◌^◌, Bool, true, false, List, [], ◌∷◌, length}
use Rattle.std.proofs.Common.{get_or, take, sum, arith, sym, refl, ap, ◌∙◌, ⊎_elim}
use Rattle.std.proofs.lemmas.Bool.{cases_lt, cases_eq, eqb-true, false≢true, false_from_ne_true}
use Rattle.std.proofs.lemmas.List.{take_all, get_or_past, take-take}
use Rattle.std.proofs.lemmas.List.Sums.{sum_by_more, sum_by-take-le}
use Rattle.sgx_types.specs.declared.names.Page.{Page}
use Rattle.sgx_types.specs.declared.names.TheConstants.{SECS_NUMBER}
use Rattle.sgx_types.specs.Pages.{is_own_page, secs_page, va_page}
use Rattle.driver_list.specs.inner.Places.{IsPlaced, PageCounts, place_of, total}

-- ---- enclaves one after another

-- the pages of the enclaves before one, and its own, are no more than those before a later one
range_before : (own : List ℕ) (a b : ℕ) → a < b → sum (take a own) + get_or own a 0 ≤ sum (take b own)
range_before own a b before =
    ⊎_elim
    (λ low.
    let inner : take (a + 1) (take b own) ≡ take (a + 1) own = take-take (a + 1) b own (omega arith) in
    let fits : sum (take (a + 1) own) ≤ sum (take b own) = rw inner at (sum_by-take-le (λ x. x) (take b own) (a + 1)) in
    omega (arith, sum_by_more (λ x. x) own a 0 low, fits))
    (λ past.
    let none : get_or own a 0 ≡ 0 = get_or_past own a 0 past in
    let all : take a own ≡ take b own = take_all a own past ∙ sym (take_all b own (omega arith)) in
    omega (arith, none, ap sum all))
    (cases_lt a (length own))

-- a page of an enclave comes before the end of all
range_within : (own : List ℕ) (a i : ℕ) → i < get_or own a 0 → sum (take a own) + i < sum own
range_within own a i low =
    let before = range_before own a (suc (a + length own)) (omega arith) in
    omega (arith, before, low, sum_by-take-le (λ x. x) own (suc (a + length own)))

-- two enclaves with pages at one place are one enclave
same_range : (own : List ℕ) (a b i j : ℕ) → i < get_or own a 0 → j < get_or own b 0
    → sum (take a own) + i ≡ sum (take b own) + j → a ≡ b
same_range own a b i j hi hj same = ⊎_elim
    (λ e. e)
    (λ apart. ⊎_elim
    (λ before. absurd (omega (arith, range_before own a b before, hi, same)))
    (λ past. absurd (omega (arith, range_before own b a (omega arith), hj, same)))
    (cases_lt a b))
    (cases_eq a b)

-- ---- the number of an enclave, which is none of version array pages

not_zero : (n : ℕ) → (n == 0) ≡ false → 1 ≤ n
not_zero zero h = absurd (false≢true (sym h))
not_zero (suc n) h = omega arith

some_page : (e : ℕ) → 1 ≤ e → (e == 0) ≡ false
some_page e some = false_from_ne_true (e == 0) (λ t. absurd (omega (arith, some, eqb-true e 0 t)))

-- ---- where a page that has a place stands

-- a version array page with a place
record IsArrayAt (counts : PageCounts) (page : Page) : Type 0 where
  none : page.enclave ≡ 0
  low : page.number < counts.arrays
  place : place_of counts page ≡ length counts.own + page.number

-- a SECS with one
record IsSecsAt (counts : PageCounts) (page : Page) : Type 0 where
  some : 1 ≤ page.enclave
  last : page.number ≡ SECS_NUMBER
  low : page.enclave ≤ length counts.own
  place : place_of counts page ≡ page.enclave - 1

-- a TCS or REG page with one
record IsOwnAt (counts : PageCounts) (page : Page) : Type 0 where
  some : 1 ≤ page.enclave
  low : page.number < get_or counts.own (page.enclave - 1) 0
  place : place_of counts page ≡ length counts.own + counts.arrays + sum (take (page.enclave - 1) counts.own) + page.number

-- a page with a place is one of these
data PlacedAs (counts : PageCounts) (page : Page) : Type 0 where
  ArrayAt : IsArrayAt counts page → PlacedAs counts page
  SecsAt : IsSecsAt counts page → PlacedAs counts page
  OwnAt : IsOwnAt counts page → PlacedAs counts page

placed_as : (counts : PageCounts) (page : Page) → IsPlaced counts page → PlacedAs counts page
placed_as counts page is = by_name (page.enclave == 0) (page.number == SECS_NUMBER) refl refl
  where
    by_name : (va last : Bool) → (page.enclave == 0) ≡ va → (page.number == SECS_NUMBER) ≡ last → PlacedAs counts page
    by_name true last v l = ArrayAt (record { none = eqb-true page.enclave 0 v; low = is.array v; place = rw v refl })
    by_name false true v l = SecsAt (record {
      some = not_zero page.enclave v;
      last = eqb-true page.number SECS_NUMBER l;
      low = is.secs (rw (v, l) refl);
      place = rw (v, l) refl;
    })
    by_name false false v l = OwnAt (record { some = not_zero page.enclave v; low = is.own (rw (v, l) refl); place = rw (v, l) refl })

-- two pages with one place are one page
pub same_place : (counts : PageCounts) (p q : Page) → IsPlaced counts p → IsPlaced counts q → place_of counts p ≡ place_of counts q → p ≡ q
same_place counts p q hp hq same = by_place (placed_as counts p hp) (placed_as counts q hq)
  where
    one : p.enclave ≡ q.enclave → p.number ≡ q.number → p ≡ q
    one e n = λ i. record { enclave = e i; number = n i }

    both_own : IsOwnAt counts p → IsOwnAt counts q → p ≡ q
    both_own a b =
        let before : p.enclave - 1 ≡ q.enclave - 1 =
        same_range counts.own (p.enclave - 1) (q.enclave - 1) p.number q.number a.low b.low (omega (arith, a.place, b.place, same)) in
        let sums = ap (λ e. sum (take e counts.own)) before in
        one (omega (arith, a.some, b.some, before)) (omega (arith, a.place, b.place, same, sums))

    by_place : PlacedAs counts p → PlacedAs counts q → p ≡ q
    by_place (ArrayAt a) (ArrayAt b) = one (a.none ∙ sym b.none) (omega (arith, a.place, b.place, same))
    by_place (SecsAt a) (SecsAt b) = one (omega (arith, a.some, b.some, a.place, b.place, same)) (a.last ∙ sym b.last)
    by_place (OwnAt a) (OwnAt b) = both_own a b
    by_place (ArrayAt a) (SecsAt b) = absurd (omega (arith, a.place, b.place, b.some, b.low, same))
    by_place (SecsAt a) (ArrayAt b) = absurd (omega (arith, a.place, b.place, a.some, a.low, same))
    by_place (ArrayAt a) (OwnAt b) = absurd (omega (arith, a.place, b.place, a.low, same))
    by_place (OwnAt a) (ArrayAt b) = absurd (omega (arith, a.place, b.place, b.low, same))
    by_place (SecsAt a) (OwnAt b) = absurd (omega (arith, a.place, b.place, a.some, a.low, same))
    by_place (OwnAt a) (SecsAt b) = absurd (omega (arith, a.place, b.place, b.some, b.low, same))

-- each place is below their number
pub place_within : (counts : PageCounts) (page : Page) → IsPlaced counts page → place_of counts page < total counts
place_within counts page is = by_place (placed_as counts page is)
  where
    by_place : PlacedAs counts page → place_of counts page < total counts
    by_place (ArrayAt a) = omega (arith, a.place, a.low)
    by_place (SecsAt a) = omega (arith, a.place, a.some, a.low)
    by_place (OwnAt a) = omega (arith, a.place, range_within counts.own (page.enclave - 1) page.number a.low)

-- ---- which pages have places

-- each version array page
pub array_placed : (counts : PageCounts) (number : ℕ) → number < counts.arrays → IsPlaced counts (va_page number)
array_placed counts number low = record { array = λ is. low; secs = λ is. absurd (false≢true is); own = λ is. absurd (false≢true is) }

-- the SECS of each enclave
pub secs_placed : (counts : PageCounts) (e : ℕ) → 1 ≤ e → e ≤ length counts.own → IsPlaced counts (secs_page e)
secs_placed counts e some low = record {
  array = λ is. absurd (false≢true (sym (some_page e some) ∙ is));
  secs = λ is. low;
  own = λ is. absurd (false≢true (sym (rw (some_page e some) refl) ∙ is));
}

-- how many pages an enclave has, by its number: there is no enclave 0
by_number : (own : List ℕ) (e : ℕ) → 1 ≤ e → get_or (0 ∷ own) e 0 ≡ get_or own (e - 1) 0
by_number own e some = ap (λ n. get_or (0 ∷ own) n 0) {x = e} {y = suc (e - 1)} (omega arith)

own_some : (page : Page) → is_own_page page ≡ true → 1 ≤ page.enclave
own_some page own = by_test (page.enclave == 0) refl
  where
    by_test : (va : Bool) → (page.enclave == 0) ≡ va → 1 ≤ page.enclave
    by_test true v = absurd (false≢true (sym (rw v refl) ∙ own))
    by_test false v = not_zero page.enclave v

-- each TCS or REG page whose number its enclave has
pub own_placed : (counts : PageCounts) (page : Page) → is_own_page page ≡ true → page.number < get_or (0 ∷ counts.own) page.enclave 0
    → IsPlaced counts page
own_placed counts page own low = by_name (page.enclave == 0) (page.number == SECS_NUMBER) refl refl
  where
    by_name : (va last : Bool) → (page.enclave == 0) ≡ va → (page.number == SECS_NUMBER) ≡ last → IsPlaced counts page
    by_name true last v l = absurd (false≢true (sym (rw v refl) ∙ own))
    by_name false true v l = absurd (false≢true (sym (rw (v, l) refl) ∙ own))
    by_name false false v l = record {
      array = λ is. absurd (false≢true (sym v ∙ is));
      secs = λ is. absurd (false≢true (sym (rw (v, l) refl) ∙ is));
      own = λ is. omega (arith, low, by_number counts.own page.enclave (own_some page own));
    }

-- .. and no other
pub own_low : (counts : PageCounts) (page : Page) → is_own_page page ≡ true → IsPlaced counts page
    → page.number < get_or (0 ∷ counts.own) page.enclave 0
own_low counts page own placed = omega (arith, placed.own own, by_number counts.own page.enclave (own_some page own))

-- where there are so few pages, no number that an enclave has is that of a SECS
pub low_own : (counts : PageCounts) (page : Page) → total counts < 2 ^ 32 → page.number < get_or (0 ∷ counts.own) page.enclave 0
    → is_own_page page ≡ true
low_own counts page few low = rw (some_page page.enclave some, other) refl
  where
    some_enclave : (e n : ℕ) → n < get_or (0 ∷ counts.own) e 0 → 1 ≤ e
    some_enclave zero n h = absurd (omega arith)
    some_enclave (suc e) n h = omega arith

    some : 1 ≤ page.enclave
    some = some_enclave page.enclave page.number low

    some_length : (own : List ℕ) (k n : ℕ) → n < get_or own k 0 → 1 ≤ length own
    some_length [] k n h = absurd (omega arith)
    some_length (x ∷ own) k n h = omega arith

    below : page.number + 1 < 2 ^ 32
    below =
        let within : page.number < get_or counts.own (page.enclave - 1) 0 = omega (arith, low, by_number counts.own page.enclave some) in
        omega (
          arith,
          few,
          range_within counts.own (page.enclave - 1) page.number within,
          some_length counts.own (page.enclave - 1) page.number within,
        )

    other : (page.number == SECS_NUMBER) ≡ false
    other = false_from_ne_true (page.number == SECS_NUMBER) (λ t. absurd (omega (arith, eqb-true page.number SECS_NUMBER t, below)))
