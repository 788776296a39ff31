-- No two scripts of a valid job name one TCS page.
use Rattle.std.proofs.Common.{◌≡◌, ℕ, zero, suc, ◌+◌, ◌≤◌, ◌||◌, Bool, true, false, cond, List, [], ◌∷◌}
use Rattle.std.proofs.Common.{slice_get, unwrap_or, count_by, refl, sym, ap, ◌∙◌, arith}
use Rattle.std.specs.List.{list_any}
use Rattle.std.proofs.lemmas.Bool.{false≢true}
use Rattle.std.proofs.lemmas.List.Sums.{sum_by-cons}
use Rattle.sgx_types.specs.declared.names.Page.{Page}
use Rattle.job_grammar.specs.declared.jobs.Op.{Op}
use Rattle.job_grammar.specs.declared.jobs.Op.TheVariants as ops
use Rattle.job_grammar.specs.Jobs as jobs
use Rattle.job_grammar.specs.Jobs.{JobView, script_names}
use Rattle.job_grammar.specs.inner.Valid.{IsValid}
use Rattle.script_rules.specs.Script.{script_of}
use Rattle.driver_laws.specs.inner.Three.{TcsAreApart, is_tcs_of}

-- an operation names a TCS page by its enclave and its number
same_name : (g : Page) (op : Op) → is_tcs_of op g ≡ jobs.names_tcs g.enclave g.number op
same_name g (ops.Enter enclave tcs) = refl
same_name g (ops.Resume enclave tcs) = refl
same_name g op = refl

-- .. and so does a script
same_names : (g : Page) (script : List Op) → list_any (λ op. is_tcs_of op g) script ≡ script_names g.enclave g.number script
same_names g [] = refl
same_names g (op ∷ script) =
    ap (λ b. b || list_any (λ x. is_tcs_of x g) script) (same_name g op)
    ∙ ap (λ b. jobs.names_tcs g.enclave g.number op || b) (same_names g script)

-- one script more counts once where it passes a test
one_more : (test : List Op → Bool) (x : List Op) (xs : List (List Op)) → count_by test (x ∷ xs) ≡ cond (test x) 1 0 + count_by test xs
one_more test x xs = sum_by-cons (λ y. cond (test y) 1 0) x xs

passes_once : (test : List Op → Bool) (x : List Op) (xs : List (List Op)) → test x ≡ true → count_by test (x ∷ xs) ≡ 1 + count_by test xs
passes_once test x xs is = one_more test x xs ∙ ap (λ b. cond b 1 0 + count_by test xs) is

-- where one passes a test that no empty script passes, one at least does
counted_once : (test : List Op → Bool) (scripts : List (List Op)) (p : ℕ) → test [] ≡ false
    → test (unwrap_or (slice_get scripts p) []) ≡ true → 1 ≤ count_by test scripts
counted_once test [] p none is = absurd (false≢true (sym none ∙ is))
counted_once test (x ∷ xs) zero none is =
    let count = passes_once test x xs is in omega (arith, count)
counted_once test (x ∷ xs) (suc p) none is =
    let count = one_more test x xs in
    let more = counted_once test xs p none is in
    omega (arith, count, more)

-- where no more than one passes it, two that do are one
counted_apart : (test : List Op → Bool) (scripts : List (List Op)) (p q : ℕ) → test [] ≡ false → count_by test scripts ≤ 1
    → test (unwrap_or (slice_get scripts p) []) ≡ true → test (unwrap_or (slice_get scripts q) []) ≡ true → p ≡ q
counted_apart test [] p q none few one other = absurd (false≢true (sym none ∙ one))
counted_apart test (x ∷ xs) zero zero none few one other = refl
counted_apart test (x ∷ xs) zero (suc q) none few one other =
    let count = passes_once test x xs one in
    let more = counted_once test xs q none other in
    absurd (omega (arith, count, more, few))
counted_apart test (x ∷ xs) (suc p) zero none few one other =
    let count = passes_once test x xs other in
    let more = counted_once test xs p none one in
    absurd (omega (arith, count, more, few))
counted_apart test (x ∷ xs) (suc p) (suc q) none few one other =
    let count = one_more test x xs in ap suc (counted_apart test xs p q none (omega (arith, count, few)) one other)

-- by the check that each TCS page is named by one script at most
pub tcs_apart : (j : JobView) → IsValid j → TcsAreApart j
tcs_apart j valid p q g one other =
    counted_apart (script_names g.enclave g.number) j.scripts p q refl (valid.own g.enclave g.number)
    (sym (same_names g (script_of j p)) ∙ one) (sym (same_names g (script_of j q)) ∙ other)
