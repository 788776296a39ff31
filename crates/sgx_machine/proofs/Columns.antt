-- What a write to one place of the machine's parts leaves of each place.
use Rattle.std.proofs.Common.{◌≡◌, ℕ, zero, suc, ◌-◌, ◌<◌, ◌≤◌, ◌==◌, ◌&&◌, Bool, true, false, cond, refl}
use Rattle.std.proofs.Common.{sym, ap, ◌∙◌, arith, ⊎_elim, Option, Some, None, List, [], ◌∷◌, length}
use Rattle.std.proofs.Common.{get_or, set, length-set}
use Rattle.std.proofs.lemmas.Bool.{cond_both, cond-false, eqb-true, ne_eqb, cases_eq}
use Rattle.std.proofs.lemmas.List.{set-get_or}
use Rattle.sgx_types.specs.declared.names.Page.{Page}
use Rattle.sgx_types.specs.Pages.{page_at, same_page}
use Rattle.sgx_types.proofs.Truths.{eqb-swap}
use Rattle.sgx_types.proofs.Lists.{get_or-set_if, get_or-like, there_below}
use Rattle.measure_log.specs.declared.measure.Measure.{Measure}
use Rattle.secs_state.specs.inner.Secs.{SecsState}
use Rattle.secs_state.specs.inner.Table.{enclave_at, with_enclave}
use Rattle.secs_state.proofs.Columns.{enclave_at-with_enclave}
use Rattle.sgx_machine.specs.inner.Whole.{IsSecsOf, IsTable}

-- ---- lists

-- a place of a list, whatever stands for one past its end
pub get_or-default : {A : Type 0} (xs : List A) (i : ℕ) (a b : A) → i < length xs → get_or xs i a ≡ get_or xs i b
get_or-default [] i a b low = absurd (omega arith)
get_or-default (x ∷ xs) zero a b low = refl
get_or-default (x ∷ xs) (suc i) a b low = get_or-default xs i a b (omega arith)

-- a function of one of two values
pub through : {A B : Type 0} (h : A → B) (b : Bool) (x y : A) → h (cond b x y) ≡ cond b (h x) (h y)
through h true x y = refl
through h false x y = refl

-- a place that keeps its value
pub same_at : {X : Type 0} (g : ℕ → X) (f n : ℕ) → cond (f == n) (g f) (g n) ≡ g n
same_at g f n = cond_both (f == n) (g f) (g n) (λ v. v ≡ g n) (λ e. ap g (eqb-true f n e)) (λ _. refl)

-- ---- the enclaves

-- an enclave that is there has a number from 1 to 8
pub numbered : (table : List (Option SecsState)) (e : ℕ) (x : SecsState) → length table ≡ 8 → enclave_at table e ≡ Some x
    → (1 ≤ e) × (e ≤ 8)
numbered table e x eight is = ⊎_elim zeroth later (cases_eq e 0)
  where
    zeroth : e ≡ 0 → (1 ≤ e) × (e ≤ 8)
    zeroth none = absurd (let at : enclave_at table 0 ≡ Some x = rw none at is in cc at)

    later : (e ≡ 0 → ⊥) → (1 ≤ e) × (e ≤ 8)
    later some =
        let at : get_or table (e - 1) None ≡ Some x = sym (cond-false (e == 0) None (get_or table (e - 1) None) (ne_eqb e 0 some)) ∙ is in
        let low = there_below table (e - 1) x at in
        (omega (arith, some), omega (arith, low, eight))

-- an enclave's state that is written as it was
pub enclave_same : (table : List (Option SecsState)) (e : ℕ) (x : SecsState) → length table ≡ 8 → enclave_at table e ≡ Some x
    → with_enclave table e x ≡ table
enclave_same table e x eight is =
    let some : e ≡ 0 → ⊥ = λ none. (let first = (numbered table e x eight is).0 in omega (arith, first, none)) in
    let at : get_or table (e - 1) None ≡ Some x = sym (cond-false (e == 0) None (get_or table (e - 1) None) (ne_eqb e 0 some)) ∙ is in
    ap (λ o. set table (e - 1) o) (sym at) ∙ set-get_or table (e - 1) None

module _ (table : List (Option SecsState)) (e : ℕ) (x : SecsState) (eight : length table ≡ 8) (first : 1 ≤ e) (last : e ≤ 8) where
  -- what is read of each enclave
  pub enclave_column : {A : Type 0} (col : Option SecsState → A) (n : ℕ)
      → col (enclave_at (with_enclave table e x) n) ≡ cond (n == e) (col (Some x)) (col (enclave_at table n))
  enclave_column col n = ap col (enclave_at-with_enclave table e n x eight first last) ∙ through col (e == n) (Some x) (enclave_at table n)
      ∙ ap (λ b. cond b (col (Some x)) (col (enclave_at table n))) (eqb-swap e n)

  -- .. where the write leaves it
  pub enclave_kept : {A : Type 0} (col : Option SecsState → A) (n : ℕ) → col (Some x) ≡ col (enclave_at table e)
      → col (enclave_at (with_enclave table e x) n) ≡ col (enclave_at table n)
  enclave_kept col n same =
      ap col (enclave_at-with_enclave table e n x eight first last)
      ∙ cond_both (e == n) (Some x) (enclave_at table n) (λ v. col v ≡ col (enclave_at table n))
      (λ is. same ∙ ap (λ k. col (enclave_at table k)) (eqb-true e n is)) (λ _. refl)

  -- what is read of each page, where the write changes one
  pub page_column : {A : Type 0} (col : Option SecsState → ℕ → A) (number : ℕ) (v : A)
      → ((k : ℕ) → col (Some x) k ≡ cond (number == k) v (col (enclave_at table e) k)) → (q : Page)
      → col (enclave_at (with_enclave table e x) q.enclave) q.number ≡ cond (same_page q (page_at e number)) v
      (col (enclave_at table q.enclave) q.number)
  page_column {A} col number v here q =
      ap (λ o. col o q.number) (enclave_at-with_enclave table e q.enclave x eight first last) ∙ by_enclave (e == q.enclave) refl
    where
      by_enclave : (b : Bool) → (e == q.enclave) ≡ b
          → col (cond b (Some x) (enclave_at table q.enclave)) q.number ≡ cond ((q.enclave == e) && (q.number == number)) v
          (col (enclave_at table q.enclave) q.number)
      by_enclave true same =
          rw (sym (eqb-swap e q.enclave) ∙ same, eqb-swap q.number number)
          (here q.number ∙ ap (λ k. cond (number == q.number) v (col (enclave_at table k) q.number)) (eqb-true e q.enclave same))
      by_enclave false other = rw (sym (eqb-swap e q.enclave) ∙ other) refl

  -- the table goes on to be one
  pub table_written : IsTable table → IsSecsOf e x → IsTable (with_enclave table e x)
  table_written is new = record {
    places = length-set table (e - 1) (Some x) ∙ eight;
    own = λ k y at. by_number k y (e == k) refl (sym (enclave_at-with_enclave table e k x eight first last) ∙ at);
  }
    where
      by_number : (k : ℕ) (y : SecsState) (b : Bool) → (e == k) ≡ b → cond b (Some x) (enclave_at table k) ≡ Some y → IsSecsOf k y
      by_number k y true same at = let there : x ≡ y = cc at in rw (← there, ← eqb-true e k same) new
      by_number k y false other at = is.own k y at

-- ---- the measurements

pub measure_set : (measures : List (Option Measure)) (e n : ℕ) (m : Measure) → e < length measures
    → get_or (set measures e (Some m)) n None ≡ cond (n == e) (Some m) (get_or measures n None)
measure_set measures e n m low = rw (eqb-swap n e) (get_or-set_if measures e n (Some m) None low)
