-- No get gives the record of a put that failed.
use Rattle.std.proofs.Common.{◌≡◌, ℕ, zero, suc, ◌+◌, ◌<◌, ◌==◌, Bool, true, false, if◌then◌else◌, List, []}
use Rattle.std.proofs.Common.{◌∷◌, ◌++◌, length, count_by, Option, Some, None, ◌⊎◌, ⊎_elim, inl, inr, refl, sym, ap}
use Rattle.std.proofs.Common.{subst, ◌∙◌, arith}
use Rattle.std.specs.List.{slice_get}
use Rattle.std.specs.Option.{option_or, option_and_then}
use Rattle.std.proofs.lemmas.Bool.{eqb-true, eq-eqb, ne_eqb}
use Rattle.std.proofs.lemmas.List.{append-nil}
use Rattle.sgx_types.specs.declared.names.Page.{Page}
use Rattle.sgx_types.specs.Sealed.{Sealed}
use Rattle.sgx_types.specs.Pages.{same_page}
use Rattle.io_edges.specs.declared.plans.PlanLine.{PlanLine}
use Rattle.backing_store.specs.declared.calls.StoreCall.{StoreCall}
use Rattle.backing_store.specs.declared.calls.StoreCall.TheVariants.{Room, Put, Got}
use Rattle.backing_store.specs.declared.calls.GetAnswer.TheVariants.{Failed, Nothing, Given}
use Rattle.backing_store.specs.inner.Store.{is_put, records_of, nth, put_at, given, get_answer, place_given, bit_flipped}
use Rattle.backing_store.specs.inner.Store.{get_fails, is_dropped}
use Rattle.backing_store.specs.inner.Store.{replays, first_of, next_get_of, partner_of, AreByRule, GiveGoodPuts}
use Rattle.backing_store.specs.inner.Told.{record_at}
use Rattle.std.specs.Prelude.{◌≢◌, is_some}
use Rattle.std.proofs.lemmas.Bool.Decides.{eqb_tells}
use Rattle.backing_store.proofs.AnswerLaws.{slice_get-push}
use Rattle.backing_store.proofs.CallLaws.{one_put_more}

-- a put that was made has its place below their number
put_at_step : (b : Bool) (place put : ℕ) (failed was : Bool) (before : Option Bool) → (place == put) ≡ b → (before ≡ Some was → place < put)
    → (if b then Some failed else before) ≡ Some was → place < put + 1
put_at_step true place put failed was before test below is = omega (arith, eqb-true place put test)
put_at_step false place put failed was before test below is = omega (arith, below is)

put_at-below : (place : ℕ) (calls : List StoreCall) (failed : Bool) → put_at place calls ≡ Some failed → place < count_by is_put calls
put_at-below place [] failed is = absurd cc
put_at-below place (Room page made ∷ calls) failed is = put_at-below place calls failed is
put_at-below place (Got page answer ∷ calls) failed is = put_at-below place calls failed is
put_at-below place (Put page made ∷ calls) failed is =
    let below : place < count_by is_put calls + 1
    = put_at_step (place == count_by is_put calls) place (count_by is_put calls) made failed (put_at place calls) refl
    (put_at-below place calls failed) is in
    omega (arith, below, one_put_more page made calls)

-- one put more leaves those before it as they were
put_at-older : (place : ℕ) (page : Page) (made : Bool) (calls : List StoreCall) → put_at place calls ≡ Some false
    → put_at place (Put page made ∷ calls) ≡ Some false
put_at-older place page made calls is =
    let below = put_at-below place calls false is in
    let apart : (place == count_by is_put calls) ≡ false = ne_eqb place (count_by is_put calls) (λ e. omega (arith, e, below)) in
    ap (λ b. if b then Some made else put_at place calls) apart ∙ is

-- the record that was put last is at the place of all puts before
put_at-last : (page : Page) (calls : List StoreCall) → put_at (count_by is_put calls) (Put page false ∷ calls) ≡ Some false
put_at-last page calls =
    ap (λ b. if b then Some false else put_at (count_by is_put calls) calls) (eq-eqb (count_by is_put calls) (count_by is_put calls) refl)

last_read : (b : Bool) (put place : ℕ) (before : Option ℕ) → (if b then Some put else before) ≡ Some place
    → (before ≡ Some place) ⊎ (put ≡ place)
last_read true put place before e = inr cc
last_read false put place before e = inl e

-- of a page's records, with those that one call more adds
last_record : (same : Bool) (xs : List ℕ) (put i place : ℕ) → slice_get (xs ++ (if same then put ∷ [] else [])) i ≡ Some place
    → (slice_get xs i ≡ Some place) ⊎ ((put ≡ place) × (same ≡ true))
last_record false xs put i place is = inl (ap (λ ys. slice_get ys i) (sym (append-nil xs)) ∙ is)
last_record true xs put i place is =
    ⊎_elim (λ old. inl old) (λ (new : put ≡ place). inr (new, refl)) (last_read (i == length xs) put place (slice_get xs i)
    (sym (slice_get-push xs put i) ∙ is))

none_there : (i place : ℕ) → slice_get {X = ℕ} [] i ≡ Some place → ⊥
none_there i place is = cc

-- each record of a page is one of a put that did not fail
good_record : (page : Page) (calls : List StoreCall) (i place : ℕ) → slice_get (records_of page calls) i ≡ Some place
    → put_at place calls ≡ Some false
good_record page [] i place is = absurd (none_there i place is)
good_record page (Room g failed ∷ calls) i place is =
    good_record page calls i place (ap (λ xs. slice_get xs i) (sym (append-nil (records_of page calls))) ∙ is)
good_record page (Got g answer ∷ calls) i place is =
    good_record page calls i place (ap (λ xs. slice_get xs i) (sym (append-nil (records_of page calls))) ∙ is)
good_record page (Put g true ∷ calls) i place is =
    put_at-older place g true calls (good_record page calls i place (ap (λ xs. slice_get xs i)
    (sym (append-nil (records_of page calls))) ∙ is))
good_record page (Put g false ∷ calls) i place is =
    let P : ℕ → Type 0 = λ at. put_at at (Put g false ∷ calls) ≡ Some false in
    ⊎_elim (λ old. put_at-older place g false calls (good_record page calls i place old))
    (λ (new : (count_by is_put calls ≡ place) × (same_page g page ≡ true)). subst P new.0 (put_at-last g calls))
    (last_record (same_page g page) (records_of page calls) (count_by is_put calls) i place is)

good_nth : (page : Page) (calls : List StoreCall) (n place : ℕ) → nth n (records_of page calls) ≡ Some place
    → put_at place calls ≡ Some false
good_nth page calls zero place is = absurd cc
good_nth page calls (suc i) place is = good_record page calls i place is

good_either : (calls : List StoreCall) (page other : Page) (w n place : ℕ) (replayed : Option ℕ) → nth w (records_of page calls) ≡ replayed
    → option_or replayed (nth n (records_of other calls)) ≡ Some place → put_at place calls ≡ Some false
good_either calls page other w n place None found is = good_nth other calls n place is
good_either calls page other w n place (Some at) found is = good_nth page calls w place (found ∙ is)

-- what is given is the replayed record or the newest one
good_choice : (calls : List StoreCall) (which : Option ℕ) (page other : Page) (n place : ℕ)
    → option_or (option_and_then (λ w. nth w (records_of page calls)) which) (nth n (records_of other calls)) ≡ Some place
    → put_at place calls ≡ Some false
good_choice calls None page other n place is = good_nth other calls n place is
good_choice calls (Some w) page other n place is = good_either calls page other w n place (nth w (records_of page calls)) refl is

-- a get that gives a record gives the one at the place that was found
given_place : (fails drops : Bool) (bit found : Option ℕ) (place : ℕ) (flipped : Option ℕ)
    → Given place flipped ≡ (if fails then Failed else if drops then Nothing else given bit found) → found ≡ Some place
given_place true drops bit found place flipped is = absurd cc
given_place false true bit found place flipped is = absurd cc
given_place false false bit None place flipped is = absurd cc
given_place false false bit (Some at) place flipped is = cc

-- a record stands at each place below their number
record_at-below : (place : ℕ) (puts : List Sealed) → place < length puts → is_some (record_at place puts) ≡ true
record_at-below place [] below = absurd (omega (arith, below))
record_at-below place (rec ∷ before) below =
    ⊎_elim (λ (here : (place == length before) ≡ true × (place ≡ length before)). ap
    (λ b. is_some (if b then Some rec else record_at place before)) here.0)
    (λ (older : (place == length before) ≡ false × (place ≢ length before)). ap
    (λ b. is_some (if b then Some rec else record_at place before)) older.0
    ∙ record_at-below place before (omega (arith, below, older.1)))
    (eqb_tells place (length before))

good_place : (plans : List PlanLine) (calls : List StoreCall) (page : Page) (place : ℕ) (flipped : Option ℕ)
    → Given place flipped ≡ get_answer plans calls page → put_at place calls ≡ Some false
good_place plans calls page place flipped is =
    let other = partner_of plans page in
    let found : place_given plans calls page ≡ Some place
    = given_place (get_fails plans calls) (is_dropped plans calls page) (bit_flipped plans calls page) (place_given plans calls page)
    place flipped is in
    good_choice calls (first_of (replays page (next_get_of page calls)) plans) page other (length (records_of other calls)) place found

-- what a get gives has its record
pub given_is_there : (plans : List PlanLine) (calls : List StoreCall) (puts : List Sealed) → length puts ≡ count_by is_put calls
    → (page : Page) (place : ℕ) (bit : Option ℕ) → get_answer plans calls page ≡ Given place bit → is_some (record_at place puts) ≡ true
given_is_there plans calls puts each page place bit is =
    record_at-below place puts (omega (arith, each, put_at-below place calls false (good_place plans calls page place bit (sym is))))

-- so each record that was given is one of a put before that did not fail
pub good_puts : (plans : List PlanLine) (calls : List StoreCall) → AreByRule plans calls → GiveGoodPuts calls
good_puts plans [] rule = tt
good_puts plans (Room page failed ∷ calls) rule = good_puts plans calls rule.1
good_puts plans (Put page failed ∷ calls) rule = good_puts plans calls rule.1
good_puts plans (Got page Failed ∷ calls) rule = good_puts plans calls rule.1
good_puts plans (Got page Nothing ∷ calls) rule = good_puts plans calls rule.1
good_puts plans (Got page (Given place flipped) ∷ calls) rule =
    (good_place plans calls page place flipped rule.0, good_puts plans calls rule.1)
