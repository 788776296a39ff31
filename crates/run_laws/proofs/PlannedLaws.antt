-- Without plan lines the planned store gives each page's last record put.
use Rattle.std.proofs.Common.{◌≡◌, ℕ, ◌≤◌, Bool, true, false, if◌then◌else◌, List, [], ◌∷◌, ◌++◌, length}
use Rattle.std.proofs.Common.{count_by, Option, Some, None, slice_get, refl, sym, ap, subst, ◌∙◌, add-one, arith, length-append}
use Rattle.std.specs.Option.{option_and_then}
use Rattle.std.specs.Prelude.{is_some}
use Rattle.std.proofs.lemmas.Bool.{eq-eqb, ne_eqb}
use Rattle.std.proofs.lemmas.List.{append-nil}
use Rattle.sgx_types.specs.declared.names.Page.{Page}
use Rattle.sgx_types.specs.Pages.{same_page}
use Rattle.sgx_types.specs.Sealed.{Sealed}
use Rattle.backing_store.specs.declared.calls.StoreCall.{StoreCall}
use Rattle.backing_store.specs.declared.calls.StoreCall.TheVariants.{Room, Put, Got}
use Rattle.backing_store.specs.inner.Store.{AreByRule, IsStore, StoreState, given, is_put, newest, nth, records_of}
use Rattle.backing_store.specs.inner.Told.{record_at, told_of}
use Rattle.backing_store.specs.inner.Told as told
use Rattle.backing_store.proofs.AnswerLaws.{slice_get-push}
use Rattle.backing_store.proofs.CallLaws.{one_put_more}
use Rattle.backing_store.proofs.GoodLaws.{given_is_there}
use Rattle.history_rules.specs.Honest.{IsHonest, last_put}
use Rattle.history_rules.specs.Honest as honest

-- the record at a place that was found
abbrev record_of : Option ℕ → List Sealed → Option Sealed
record_of found puts = option_and_then (λ place. record_at place puts) found

-- ---- places

-- past the last record none stands
past_last : (place : ℕ) (puts : List Sealed) → length puts ≤ place → record_at place puts ≡ None
past_last place [] past = refl
past_last place (rec ∷ puts) past =
    ap (λ b. if b then Some rec else record_at place puts) (ne_eqb place (length puts) (λ e. omega (arith, e, past)))
    ∙ past_last place puts (omega (arith, past))

-- the newest of a page's records stands among those that were put
newest_there : (page : Page) (calls : List StoreCall) (puts : List Sealed) (place : ℕ) → length puts ≡ count_by is_put calls
    → newest (records_of page calls) ≡ Some place → record_at place puts ≡ None → ⊥
newest_there page calls puts place each found none =
    let gives = ap (given None) found in
    let there = given_is_there [] calls puts each page place None gives in
    let clash : false ≡ true = sym (ap is_some none) ∙ there in
    absurd cc

-- a record more, put of another page, leaves it where it is
newest_stays : (page : Page) (calls : List StoreCall) (rec : Sealed) (puts : List Sealed) (o : Option ℕ)
    → length puts ≡ count_by is_put calls
    → newest (records_of page calls) ≡ o → record_of o (rec ∷ puts) ≡ record_of o puts
newest_stays page calls rec puts None each found = refl
newest_stays page calls rec puts (Some place) each found =
    ap (λ b. if b then Some rec else record_at place puts) (ne_eqb place (length puts)
    (λ e. newest_there page calls puts place each found (past_last place puts (omega (arith, e)))))

-- the place that came last is the newest
newest_push : (places : List ℕ) (place : ℕ) → newest (places ++ place ∷ []) ≡ Some place
newest_push places place =
    ap (λ n. nth n (places ++ place ∷ [])) (length-append places (place ∷ []) ∙ add-one (length places))
    ∙ slice_get-push places place (length places)
    ∙ ap (λ b. if b then Some place else slice_get places (length places)) (eq-eqb (length places) (length places) refl)

-- ---- records

-- a page's newest record is that of its last put
newest_is_last : (page : Page) (calls : List StoreCall) (puts : List Sealed) → AreByRule [] calls → length puts ≡ count_by is_put calls
    → record_of (newest (records_of page calls)) puts ≡ last_put (told_of calls puts) page
newest_is_last page [] puts rule each = refl
newest_is_last page (Room g failed ∷ calls) puts rule each =
    ap (λ places. record_of (newest places) puts) (append-nil (records_of page calls)) ∙ newest_is_last page calls puts rule.1 each
newest_is_last page (Got g answer ∷ calls) puts rule each =
    ap (λ places. record_of (newest places) puts) (append-nil (records_of page calls)) ∙ newest_is_last page calls puts rule.1 each
newest_is_last page (Put g failed ∷ calls) [] rule each = absurd (omega (arith, each, one_put_more g failed calls))
newest_is_last page (Put g true ∷ calls) (rec ∷ puts) rule each = absurd cc
newest_is_last page (Put g false ∷ calls) (rec ∷ puts) rule each =
    by_page (same_page g page) (newest_is_last page calls puts rule.1 before)
  where
    before : length puts ≡ count_by is_put calls
    before = omega (arith, each, one_put_more g false calls)

    by_page : (b : Bool) → record_of (newest (records_of page calls)) puts ≡ last_put (told_of calls puts) page
        → record_of (newest (records_of page calls ++ (if b then count_by is_put calls ∷ [] else []))) (rec ∷ puts)
        ≡ (if b then Some rec else last_put (told_of calls puts) page)
    by_page true last =
        ap (λ found. record_of found (rec ∷ puts)) (newest_push (records_of page calls) (count_by is_put calls))
        ∙ ap (λ b. if b then Some rec else record_at (count_by is_put calls) puts)
        (eq-eqb (count_by is_put calls) (length puts) (sym before))
    by_page false last =
        ap (λ places. record_of (newest places) (rec ∷ puts)) (append-nil (records_of page calls))
        ∙ newest_stays page calls rec puts (newest (records_of page calls)) before refl ∙ last

-- a copy of it is given as it is
given_as_is : (found : Option ℕ) (puts : List Sealed) → told.gift_of (given None found) puts ≡ honest.gift_of (record_of found puts)
given_as_is None puts = refl
given_as_is (Some place) puts = by_record (record_at place puts)
  where
    by_record : (o : Option Sealed) → told.copy_of None o ≡ honest.gift_of o
    by_record None = refl
    by_record (Some rec) = refl

-- ---- the store

calls_are_honest : (calls : List StoreCall) (puts : List Sealed) → AreByRule [] calls → length puts ≡ count_by is_put calls
    → IsHonest (told_of calls puts)
calls_are_honest [] puts rule each = tt
calls_are_honest (Room page failed ∷ calls) puts rule each = (rule.0, calls_are_honest calls puts rule.1 each)
calls_are_honest (Put page failed ∷ calls) [] rule each = absurd (omega (arith, each, one_put_more page failed calls))
calls_are_honest (Put page failed ∷ calls) (rec ∷ puts) rule each =
    (rule.0, calls_are_honest calls puts rule.1 (omega (arith, each, one_put_more page failed calls)))
calls_are_honest (Got page answer ∷ calls) puts rule each = (
  ap (λ a. told.gift_of a puts) rule.0 ∙ given_as_is (newest (records_of page calls)) puts
      ∙ ap honest.gift_of (newest_is_last page calls puts rule.1 each),
  calls_are_honest calls puts rule.1 each,
)

pub honest_without_lines : (store : StoreState) → IsStore store → length store.puts ≡ count_by is_put store.calls → store.plans ≡ []
    → IsHonest (told_of store.calls store.puts)
honest_without_lines store rule each none =
    calls_are_honest store.calls store.puts (subst (λ plans. AreByRule plans store.calls) none rule) each
