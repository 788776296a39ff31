-- The enclaves of a job by their numbers, and their sizes.
use Rattle.std.proofs.Common.{◌≡◌, ℕ, zero, suc, ◌^◌, ◌<◌, ◌≤◌, List, [], ◌∷◌, length, get_or, Option, Some}
use Rattle.std.proofs.Common.{None, MatchOption, HoldsAt, Bor, map, option_map, refl, sym, ap, arith}
use Rattle.std.proofs.lemmas.Bool.{and_parts, leb-true}
use Rattle.job_grammar.specs.declared.jobs.EnclaveJob.{EnclaveJob}
use Rattle.job_grammar.specs.Jobs.{EnclaveView, enclave_at}
use Rattle.job_grammar.specs.inner.Jobs.{enclave_view}
use Rattle.job_grammar.specs.inner.Valid.{IsValidEnclave}

pub lawful-size : (e : EnclaveView) → IsValidEnclave e → e.size ≤ 2 ^ 24
lawful-size e valid = let size = and_parts _ _ valid.range in let most = and_parts _ _ size.0 in leb-true _ _ most.1

enclave_at-past : (es : List EnclaveJob) (i : ℕ) → length es ≤ i → enclave_at (map enclave_view es) (suc i) ≡ None
enclave_at-past [] i le = refl
enclave_at-past (e ∷ es) zero le = absurd (omega arith)
enclave_at-past (e ∷ es) (suc i) le = enclave_at-past es i (omega arith)

enclave_at-here : (es : List EnclaveJob) (i : ℕ) (e : EnclaveJob) → i < length es → e ≡ get_or es i e
    → enclave_at (map enclave_view es) (suc i) ≡ Some (enclave_view e)
enclave_at-here [] i e lt here = absurd (omega arith)
enclave_at-here (f ∷ es) zero e lt here = ap (λ (x : EnclaveJob). Some (enclave_view x)) (sym here)
enclave_at-here (f ∷ es) (suc i) e lt here = enclave_at-here es i e (omega arith) here

-- an enclave that is looked up at an index is the one whose number is one more
pub enclave-told : (es : List EnclaveJob) (i : ℕ) (found : Option (Bor EnclaveJob))
    → MatchOption found (length es ≤ i) (λ e. (i < length es) × HoldsAt (λ y. e.now ≡ y) es i)
    → enclave_at (map enclave_view es) (suc i) ≡ option_map (λ e. enclave_view e.now) found
enclave-told es i None past = enclave_at-past es i past
enclave-told es i (Some e) here = enclave_at-here es i e.now here.0 (here.1 e.now)
