-- What is known by page goes on with the calls.
use Rattle.std.proofs.Common.{◌≡◌, ℕ, zero, suc, ◌+◌, ◌≤◌, ◌==◌, ◌&&◌, Bool, true, false, if◌then◌else◌}
use Rattle.std.proofs.Common.{List, [], ◌∷◌, ◌++◌, length, count_by, Option, Some, None, refl, ap, sym, ◌∙◌, arith, add-one}
use Rattle.std.proofs.Common.{reverse, length-append}
use Rattle.std.proofs.Math.Dec.{eqb-suc-zero, eqb-suc-suc}
use Rattle.std.proofs.lemmas.List.Sums.{sum_by-cons}
use Rattle.sgx_types.proofs.Truths.{eqb-swap}
use Rattle.std.specs.List.{slice_get}
use Rattle.std.proofs.lemmas.List.{append-nil, reverse-append}
use Rattle.sgx_types.specs.declared.names.Page.{Page}
use Rattle.sgx_types.specs.Pages.{same_page}
use Rattle.sgx_types.proofs.Pages.{same_pages}
use Rattle.backing_store.specs.declared.calls.GetAnswer.{GetAnswer}
use Rattle.backing_store.specs.declared.calls.StoreCall.{StoreCall}
use Rattle.backing_store.specs.declared.calls.StoreCall.TheVariants.{Room, Put, Got}
use Rattle.backing_store.specs.declared.page_places.PageCounts.{PageCounts}
use Rattle.backing_store.specs.declared.page_places.PagePlaces.{PagePlaces}
use Rattle.backing_store.specs.inner.Places.{counts_of, place_of, OneGet, OnePut}
use Rattle.backing_store.specs.inner.Store.{is_get, is_get_of, is_put, more_of, nth, records_of}
use Rattle.backing_store.specs.inner.Kept.{Counts, counts_in}
use Rattle.backing_store.proofs.AnswerLaws.{slice_get-push}

pub one_put_more : (page : Page) (failed : Bool) (calls : List StoreCall)
    → count_by is_put (Put page failed ∷ calls) ≡ count_by is_put calls + 1
one_put_more page failed calls = omega (arith, sum_by-cons (λ c. if is_put c then 1 else 0) (Put page failed) calls)

-- a call adds a place to a page's records only where it is a put
more-le : (page : Page) (call : StoreCall) (calls : List StoreCall) (n : ℕ)
    → length (more_of page call n) + count_by is_put calls ≤ count_by is_put (call ∷ calls)
more-le page (Room g failed) calls n = omega arith
more-le page (Got g answer) calls n = omega arith
more-le page (Put g true) calls n = omega (arith, one_put_more g true calls)
more-le page (Put g false) calls n =
    let one : (b : Bool) → length (if b then n ∷ [] else []) ≤ 1 = λ b. elim b as (λ v. length (if v then n ∷ [] else []) ≤ 1)
    [ true ↦ omega arith | false ↦ omega arith ] in
    omega (arith, one (same_page g page), one_put_more g false calls)

-- a page has no more records than were put
pub records-le : (page : Page) (calls : List StoreCall) → length (records_of page calls) ≤ count_by is_put calls
records-le page [] = omega arith
records-le page (call ∷ calls) =
    omega (
      arith,
      records-le page calls,
      more-le page call calls (count_by is_put calls),
      length-append (records_of page calls)
          (more_of page call (count_by is_put calls)),
    )

-- one record more, the last
nth-push : (places : List ℕ) (place n : ℕ) → nth n (places ++ place ∷ []) ≡ (if length places + 1 == n then Some place else nth n places)
nth-push places place zero =
    ap (λ b. if b then Some place else None) (sym (ap (λ k. k == 0) (add-one (length places)) ∙ eqb-suc-zero (length places)))
nth-push places place (suc n) =
    let test : (length places + 1 == suc n) ≡ (n == length places)
    = ap (λ k. k == suc n) (add-one (length places)) ∙ eqb-suc-suc (length places) n ∙ eqb-swap (length places) n in
    slice_get-push places place n ∙ ap (λ b. if b then Some place else slice_get places n) (sym test)

-- the counts of a page after a put of a page
counts-put : (b : Bool) (page g : Page) (calls : List StoreCall) (had now : PageCounts) → same_page page g ≡ b
    → had ≡ counts_in page calls
    → now ≡ (if b then record had { puts = had.puts + 1 } else counts_in g calls)
    → now ≡ counts_in g (Put page false ∷ calls)
counts-put true page g calls had now same is after =
    let xs = records_of g calls in
    let put = count_by is_put calls in
    let one : length (xs ++ (if same_page page g then put ∷ [] else [])) ≡ length xs + 1
    = ap (λ v. length (xs ++ (if v then put ∷ [] else []))) same ∙ length-append xs (put ∷ []) in
    let more : PageCounts → PageCounts = λ k. record k { puts = k.puts + 1 } in
    let of_page : Page → PageCounts = λ p. record { gets = count_by (is_get_of p) calls; puts = length (records_of p calls) + 1 } in
    let with_puts : ℕ → PageCounts = λ n. record { gets = count_by (is_get_of g) calls; puts = n } in
    after ∙ ap more is ∙ ap of_page (same_pages page g same) ∙ ap with_puts (sym one)
counts-put false page g calls had now same is after =
    let xs = records_of g calls in
    let put = count_by is_put calls in
    let none : length (xs ++ (if same_page page g then put ∷ [] else [])) ≡ length xs
    = ap (λ v. length (xs ++ (if v then put ∷ [] else []))) same ∙ ap length (append-nil xs) in
    let with_puts : ℕ → PageCounts = λ n. record { gets = count_by (is_get_of g) calls; puts = n } in
    after ∙ ap with_puts (sym none)

-- .. and the places of its records
places-put : (b : Bool) (page g : Page) (calls : List StoreCall) (had put n : ℕ) (was now : Option ℕ) → same_page page g ≡ b
    → had ≡ length (records_of page calls) → put ≡ count_by is_put calls → was ≡ nth n (records_of g calls)
    → now ≡ (if b && (had + 1 == n) then Some put else was)
    → now ≡ nth n (records_of g (Put page false ∷ calls))
places-put true page g calls had put n was now same is at is_was after =
    let xs = records_of g calls in
    let here = count_by is_put calls in
    let read : ℕ → ℕ → Option ℕ → Option ℕ = λ k a o. if k + 1 == n then Some a else o in
    after ∙ ap (λ k. read k put was) (is ∙ ap (λ p. length (records_of p calls)) (same_pages page g same))
    ∙ ap (λ a. read (length xs) a was) at ∙ ap (read (length xs) here) is_was ∙ sym (nth-push xs here n)
    ∙ ap (λ v. nth n (xs ++ (if v then here ∷ [] else []))) (sym same)
places-put false page g calls had put n was now same is at is_was after =
    let xs = records_of g calls in
    let here = count_by is_put calls in
    after ∙ is_was ∙ ap (nth n) (sym (append-nil xs)) ∙ ap (λ v. nth n (xs ++ (if v then here ∷ [] else []))) (sym same)

-- the numbers go on with a put that did not fail
pub Counts-put : (olds news : List StoreCall) (rooms gets puts blanks puts' blanks' : ℕ) (known known' : PagePlaces) (page : Page)
    (failed : Bool)
    → news ≡ olds ++ Put page failed ∷ [] → failed ≡ false → OnePut known page puts known' → puts' ≡ puts + 1 → blanks' + 1 ≡ blanks
    → Counts (reverse olds) rooms gets puts blanks known → Counts (reverse news) rooms gets puts' blanks' known'
Counts-put olds news rooms gets puts blanks puts' blanks' known known' page failed pushed good put more less counted =
    let calls = reverse olds in
    let last : reverse news ≡ Put page false ∷ calls
    = ap reverse pushed ∙ reverse-append olds (Put page failed ∷ []) ∙ ap (λ b. Put page b ∷ calls) good in
    let is = counted.counts page in
    let after : Counts (Put page false ∷ calls) rooms gets puts' blanks' known' = record {
      are_rooms = counted.are_rooms;
      are_gets = counted.are_gets;
      are_puts = omega (arith, counted.are_puts, more, one_put_more page false calls);
      are_spare = omega (arith, counted.are_spare, less);
      counts = λ g. counts-put (same_page page g) page g calls (counts_of known page) (counts_of known' g) refl is
          (put.counts g ∙ ap (λ k. if same_page page g then record (counts_of known page) { puts = (counts_of known page).puts + 1 }
          else k) (counted.counts g));
      places = λ g n. places-put (same_page page g) page g calls (counts_of known page).puts puts n (place_of known g n)
          (place_of known' g n) refl
          (ap (λ (k : PageCounts). k.puts) is) counted.are_puts (counted.places g n) (put.place g n);
    } in
    rw last after

-- ---- a get more

-- how many gets of a page there are
gets_more : (page g : Page) (answer : GetAnswer) (calls : List StoreCall)
    → count_by (is_get_of g) (Got page answer ∷ calls) ≡ (if same_page page g then 1 else 0) + count_by (is_get_of g) calls
gets_more page g answer calls = sum_by-cons (λ call. if is_get_of g call then 1 else 0) (Got page answer) calls

abbrev counts_with : ℕ → ℕ → PageCounts
counts_with gets puts = record { gets = gets; puts = puts }

-- what is known of a page by its gets and its records, of which a get adds none
same-records : (page g : Page) (answer : GetAnswer) (calls : List StoreCall) (gets : ℕ)
    → gets ≡ count_by (is_get_of g) (Got page answer ∷ calls)
    → counts_with gets (length (records_of g calls)) ≡ counts_in g (Got page answer ∷ calls)
same-records page g answer calls gets is =
    ap (λ n. counts_with n (length (records_of g calls))) is
    ∙ ap (λ xs. counts_with (count_by (is_get_of g) (Got page answer ∷ calls)) (length xs)) (sym (append-nil (records_of g calls)))

counts-get : (b : Bool) (page g : Page) (answer : GetAnswer) (calls : List StoreCall) (had now : PageCounts) → same_page page g ≡ b
    → had ≡ counts_in page calls
    → now ≡ (if b then record had { gets = had.gets + 1 } else counts_in g calls)
    → now ≡ counts_in g (Got page answer ∷ calls)
counts-get true page g answer calls had now same is after =
    let of_page : Page → PageCounts = λ p. counts_with (count_by (is_get_of p) calls + 1) (length (records_of p calls)) in
    let more : PageCounts → PageCounts = λ k. record k { gets = k.gets + 1 } in
    let one : count_by (is_get_of g) calls + 1 ≡ count_by (is_get_of g) (Got page answer ∷ calls)
    = rw (gets_more page g answer calls, same) (omega arith) in
    after ∙ ap more is ∙ ap of_page (same_pages page g same) ∙ same-records page g answer calls (count_by (is_get_of g) calls + 1) one
counts-get false page g answer calls had now same is after =
    let none : count_by (is_get_of g) calls ≡ count_by (is_get_of g) (Got page answer ∷ calls)
    = rw (gets_more page g answer calls, same) (omega arith) in
    after ∙ same-records page g answer calls (count_by (is_get_of g) calls) none

-- the numbers go on with a get
pub Counts-get : (olds news : List StoreCall) (rooms gets puts blanks : ℕ) (known known' : PagePlaces) (page : Page) (answer : GetAnswer)
    → news ≡ olds ++ Got page answer ∷ [] → OneGet known page known'
    → Counts (reverse olds) rooms gets puts blanks known → Counts (reverse news) rooms (gets + 1) puts blanks known'
Counts-get olds news rooms gets puts blanks known known' page answer pushed get counted =
    let calls = reverse olds in
    let last : reverse news ≡ Got page answer ∷ calls = ap reverse pushed ∙ reverse-append olds (Got page answer ∷ []) in
    let after : Counts (Got page answer ∷ calls) rooms (gets + 1) puts blanks known' = record {
      are_rooms = counted.are_rooms;
      are_gets = omega (arith, counted.are_gets, sum_by-cons (λ call. if is_get call then 1 else 0) (Got page answer) calls);
      are_puts = counted.are_puts;
      are_spare = counted.are_spare;
      counts = λ g. counts-get (same_page page g) page g answer calls (counts_of known page) (counts_of known' g) refl
          (counted.counts page)
          (get.counts g ∙ ap (λ k. if same_page page g then record (counts_of known page) { gets = (counts_of known page).gets + 1 }
          else k) (counted.counts g));
      places = λ g n. get.place g n ∙ counted.places g n ∙ ap (nth n) (sym (append-nil (records_of g calls)));
    } in
    rw last after
