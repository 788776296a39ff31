-- What a change of one page or one enclave leaves of every page and every enclave.
use Rattle.std.proofs.Common.{◌≡◌, ◌≢◌, ℕ, ◌-◌, ◌<◌, ◌≤◌, ◌==◌, Bool, false, cond, List, length, get_or}
use Rattle.std.proofs.Common.{set, Option, Some, None, sym, ap, ◌∙◌, arith, length-set, ⊎_elim}
use Rattle.std.proofs.lemmas.Bool.{cases_lt, cases_eq, cond-true, cond-false, eq-eqb, ne_eqb}
use Rattle.std.proofs.lemmas.List.{get_or_past}
use Rattle.sgx_types.specs.declared.names.Kind.{Kind}
use Rattle.sgx_types.specs.declared.names.Perm.{Perm}
use Rattle.sgx_types.proofs.Lists.{get_or-set_if}
use Rattle.secs_state.specs.inner.Secs.{SecsState, IsSecs, page_count, added_at, is_busy_at, with_page, with_busy}
use Rattle.secs_state.specs.inner.Table.{enclave_at, with_enclave}

pub added_at-with_page : (secs : SecsState) (number n : ℕ) (kind : Kind) (perm : Perm) → IsSecs secs → number < page_count secs.size
    → added_at (with_page secs number kind perm) n ≡ cond (number == n) (Some (kind, perm)) (added_at secs n)
added_at-with_page secs number n kind perm is low = get_or-set_if secs.pages number n (Some (kind, perm)) None (rw is.pages low)

pub is_busy_at-with_busy : (secs : SecsState) (number n : ℕ) (mark : Bool) → IsSecs secs → number < page_count secs.size
    → is_busy_at (with_busy secs number mark) n ≡ cond (number == n) mark (is_busy_at secs n)
is_busy_at-with_busy secs number n mark is low = get_or-set_if secs.busy number n mark false (rw is.busy low)

-- an added page is a page of the range
pub added_below : (secs : SecsState) (number : ℕ) → IsSecs secs → added_at secs number ≢ None → number < page_count secs.size
added_below secs number is added =
    ⊎_elim (λ low. rw (← is.pages) low) (λ past. absurd (added (get_or_past secs.pages number None past)))
    (cases_lt number (length secs.pages))

-- the same records go on to be sound
pub sound-with_page : (secs : SecsState) (number : ℕ) (kind : Kind) (perm : Perm) → IsSecs secs → IsSecs (with_page secs number kind perm)
sound-with_page secs number kind perm is = record { lawful = is.lawful; pages = rw length-set is.pages; busy = is.busy }

pub enclave_at-with_enclave : (table : List (Option SecsState)) (enclave n : ℕ) (secs : SecsState) → length table ≡ 8 → 1 ≤ enclave
    → enclave ≤ 8
    → enclave_at (with_enclave table enclave secs) n ≡ cond (enclave == n) (Some secs) (enclave_at table n)
enclave_at-with_enclave table enclave n secs eight first last =
    ⊎_elim
    (λ none. cond-true (n == 0) None (get_or (set table (enclave - 1) (Some secs)) (n - 1) None) (eq-eqb n 0 none)
    ∙ sym (cond-false (enclave == n) (Some secs) (enclave_at table n) (ne_eqb enclave n (λ same. omega arith))
    ∙ cond-true (n == 0) None (get_or table (n - 1) None) (eq-eqb n 0 none)))
    (λ some. cond-false (n == 0) None (get_or (set table (enclave - 1) (Some secs)) (n - 1) None) (ne_eqb n 0 some)
    ∙ get_or-set_if table (enclave - 1) (n - 1) (Some secs) None (omega (arith, eight))
    ∙ ap (λ b. cond b (Some secs) (get_or table (n - 1) None)) (same_place enclave n first (omega (arith, some)))
    ∙ ap (λ v. cond (enclave == n) (Some secs) v) (sym (cond-false (n == 0) None (get_or table (n - 1) None) (ne_eqb n 0 some))))
    (cases_eq n 0)
  where
    same_place : (e n : ℕ) → 1 ≤ e → 1 ≤ n → (e - 1 == n - 1) ≡ (e == n)
    same_place e n he hn =
        ⊎_elim (λ same. eq-eqb (e - 1) (n - 1) (omega (arith, same)) ∙ sym (eq-eqb e n same))
        (λ apart. ne_eqb (e - 1) (n - 1) (λ same. apart (omega (arith, same))) ∙ sym (ne_eqb e n apart)) (cases_eq e n)
