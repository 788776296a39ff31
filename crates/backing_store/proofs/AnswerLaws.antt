-- What a get of a page gives, case by case; and the record at a place, in a list that has its oldest first.
use Rattle.std.proofs.Common.{◌≡◌, ℕ, zero, suc, ◌==◌, Bool, true, false, if◌then◌else◌, List, [], ◌∷◌, ◌++◌}
use Rattle.std.proofs.Common.{length, reverse, Option, Some, None, refl, ap, sym, ◌∙◌, Bor}
use Rattle.std.specs.List.{slice_get}
use Rattle.std.specs.Option.{option_copied}
use Rattle.std.specs.Slice.{IsGetResult}
use Rattle.std.proofs.lemmas.Option.{slice_get_past, slice_get_read}
use Rattle.std.proofs.lemmas.List.{reverse-reverse, reverse-append, length-reverse}
use Rattle.std.proofs.Math.Dec.{eqb-suc-zero, eqb-zero-suc, eqb-suc-suc}
use Rattle.io_edges.specs.declared.plans.PlanLine.{PlanLine}
use Rattle.std.specs.List.{list_any}
use Rattle.sgx_types.specs.declared.names.Page.{Page}
use Rattle.sgx_types.specs.Sealed.{Sealed}
use Rattle.backing_store.specs.declared.calls.StoreCall.{StoreCall}
use Rattle.backing_store.specs.declared.calls.GetAnswer.TheVariants.{Nothing, Given}
use Rattle.backing_store.specs.inner.Store.{first_of, get_fails, is_dropped, place_given, bit_flipped, get_answer}
use Rattle.backing_store.specs.inner.Told.{record_at}

pub answer_dropped : (plans : List PlanLine) (calls : List StoreCall) (page : Page) → get_fails plans calls ≡ false
    → is_dropped plans calls page ≡ true
    → Nothing ≡ get_answer plans calls page
answer_dropped plans calls page goes dropped = rw (goes, dropped) refl

pub answer_given : (plans : List PlanLine) (calls : List StoreCall) (page : Page) (place : ℕ) (bit : Option ℕ)
    → get_fails plans calls ≡ false
    → is_dropped plans calls page ≡ false
    → place_given plans calls page ≡ Some place → bit_flipped plans calls page ≡ bit → Given place bit ≡ get_answer plans calls page
answer_given plans calls page place bit goes kept found flipped = rw (goes, kept, found, flipped) refl

pub slice_get-push : {X : Type 0} (xs : List X) (x : X) (n : ℕ)
    → slice_get (xs ++ x ∷ []) n ≡ (if n == length xs then Some x else slice_get xs n)
slice_get-push [] x zero = refl
slice_get-push [] x (suc n) = ap (λ b. if b then Some x else None) (sym (eqb-suc-zero n))
slice_get-push (y ∷ ys) x zero = ap (λ b. if b then Some x else Some y) (sym (eqb-zero-suc (length ys)))
slice_get-push (y ∷ ys) x (suc n) =
    slice_get-push ys x n ∙ ap (λ b. if b then Some x else slice_get ys n) (sym (eqb-suc-suc n (length ys)))

record_at-newest : (place : ℕ) (puts : List Sealed) → record_at place puts ≡ slice_get (reverse puts) place
record_at-newest place [] = refl
record_at-newest place (rec ∷ puts) =
    let here : slice_get (reverse puts ++ rec ∷ []) place ≡ (if place == length puts then Some rec else slice_get (reverse puts) place)
    = slice_get-push (reverse puts) rec place ∙ ap (λ n. if place == n then Some rec else slice_get (reverse puts) place)
    (length-reverse puts) in
    ap (λ o. if place == length puts then Some rec else o) (record_at-newest place puts) ∙ sym here
    ∙ ap (λ xs. slice_get xs place) (sym (reverse-append (rec ∷ []) puts))

pub record_at-reverse : (place : ℕ) (puts : List Sealed) → record_at place (reverse puts) ≡ slice_get puts place
record_at-reverse place puts = record_at-newest place (reverse puts) ∙ ap (λ xs. slice_get xs place) (reverse-reverse puts)

-- what a read of a list found
pub read_at : {X : Type 0} (xs : List X) (i : ℕ) (found : Option (Bor X)) → IsGetResult xs i i found → option_copied found ≡ slice_get xs i
read_at xs i None read = sym (slice_get_past xs i read.3)
read_at xs i (Some x) read = sym (slice_get_read xs (length xs) i x.now refl read.3.0 read.1)

-- what was asked of lines that are the plan's, with a number that is the call's
pub any_line : (test : ℕ → PlanLine → Bool) (n m : ℕ) (xs ys : List PlanLine) (r b : Bool) → r ≡ list_any (test n) xs → xs ≡ ys → n ≡ m
    → r ≡ b
    → list_any (test m) ys ≡ b
any_line test n m xs ys r b asked lines number is =
    ap (λ k. list_any (test k) ys) (sym number) ∙ ap (λ l. list_any (test n) l) (sym lines) ∙ sym asked ∙ is

pub first_line : (says : ℕ → PlanLine → Option ℕ) (n m : ℕ) (xs ys : List PlanLine) (r : Option ℕ) → r ≡ first_of (says n) xs → xs ≡ ys
    → n ≡ m
    → first_of (says m) ys ≡ r
first_line says n m xs ys r asked lines number =
    ap (λ k. first_of (says k) ys) (sym number) ∙ ap (λ l. first_of (says n) l) (sym lines) ∙ sym asked
