-- The scripts of a made job are valid.
use Rattle.std.proofs.Common.{◌≡◌, ℕ, zero, suc, ◌+◌, ◌*◌, ◌/◌, ◌^◌, ◌<◌, ◌≤◌, ◌==◌, ◌&&◌}
use Rattle.std.proofs.Common.{◌||◌, Bool, true, false, cond, List, [], ◌∷◌, ◌++◌, length, length-append, nat_lt, count_by}
use Rattle.std.proofs.Common.{sum_by, All, refl, ap, ◌∙◌, arith, inl, inr}
use Rattle.std.specs.List.{list_any}
use Rattle.std.proofs.lemmas.Bool.{cases_Bool, cases_eq, ne_eqb}
use Rattle.std.proofs.lemmas.List.Elements.{All-append, All-cons, All-nil}
use Rattle.std.proofs.lemmas.List.Sums.{sum_by-cons}
use Rattle.job_grammar.specs.declared.jobs.Op.{Op}
use Rattle.job_grammar.specs.declared.jobs.Op.TheVariants as ops
use Rattle.job_grammar.specs.Jobs.{EnclaveView, lines_at, is_tcs_page, names_tcs, script_names}
use Rattle.job_grammar.specs.inner.Valid.{IsOpAmong, IsValidOffset}
use Rattle.job_make.specs.Generator.{draw, number_below}
use Rattle.job_make.specs.MadeOps.{made_op, made_ops, made_script, made_scripts, op_of, own_offset, shared_offset}
use Rattle.job_make.specs.MadeOps.{state_behind_op}
use Rattle.job_make.specs.MadeOps.{state_behind_ops}

-- ---- numbers that are drawn

below : (n bound x : ℕ) → 0 < bound → draw n bound x < bound
unfolding number_below
below n bound x some = omega arith

own-valid : (size cpu page word : ℕ) → size ≤ 2000 → cpu < 4 → page < size / 4 → word < 512 → IsValidOffset (own_offset cpu page word)
unfolding own_offset
own-valid size cpu page word most few page_lt word_lt = (omega arith, omega arith)

shared-valid : (size : ℕ) → size ≤ 2000 → IsValidOffset (shared_offset size)
unfolding shared_offset
shared-valid size most = (omega arith, omega arith)

-- ---- operations

module _ (kind own shared value : ℕ) where
  op-valid : (es : List EnclaveView) → IsValidOffset own → IsValidOffset shared → value < 2 ^ 64
      → IsOpAmong es (op_of kind own shared value)
  unfolding op_of
  op-valid es at_own at_shared fits =
      elim (cases_Bool (nat_lt kind 2)) [
        | inl loads ↦ rw loads at_own
        | inr not_load ↦ elim (cases_Bool (kind == 2)) [
          | inl stores ↦ rw (not_load, stores) (at_own, fits)
          | inr adds ↦ rw (not_load, adds) (at_shared, omega arith)
        ]
      ]

  names-none : (enclave number : ℕ) → names_tcs enclave number (op_of kind own shared value) ≡ false
  unfolding op_of
  names-none enclave number =
      elim (cases_Bool (nat_lt kind 2)) [
        | inl loads ↦ rw loads refl
        | inr not_load ↦ elim (cases_Bool (kind == 2)) [
          | inl stores ↦ rw (not_load, stores) refl
          | inr adds ↦ rw (not_load, adds) refl
        ]
      ]

module _ (size cpu : ℕ) where
  pub length-made_ops : (n x : ℕ) → length (made_ops size cpu n x) ≡ n
  unfolding made_ops
  length-made_ops zero x = refl
  length-made_ops (suc n) x = ap (λ (k : ℕ). suc k) (length-made_ops n (state_behind_op x))

  ops-valid : (es : List EnclaveView) (n x : ℕ) → 4 ≤ size → size ≤ 2000 → cpu < 4 → All (IsOpAmong es) (made_ops size cpu n x)
  unfolding made_ops
  ops-valid es zero x least most few = All-nil (IsOpAmong es)
  ops-valid es (suc n) x least most few =
      All-cons (IsOpAmong es) (made_op size cpu x) (made_ops size cpu n (state_behind_op x))
      (op-valid _ _ _ _ es
      (own-valid size cpu _ _ most few (below 2 (size / 4) x (omega arith)) (below 3 512 x (omega arith)))
      (shared-valid size most)
      (let value = below 4 1000000 x (omega arith) in omega (arith, value)))
      (ops-valid es n (state_behind_op x) least most few)

  ops-name_none : (enclave number n x : ℕ) → list_any (names_tcs enclave number) (made_ops size cpu n x ++ ops.Exit ∷ []) ≡ false
  unfolding made_ops
  ops-name_none enclave number zero x = refl
  ops-name_none enclave number (suc n) x =
      rw (names-none (draw 1 4 x) (own_offset cpu (draw 2 (size / 4) x) (draw 3 512 x)) (shared_offset size) (draw 4 1000000 x) enclave
      number)
      (ops-name_none enclave number n (state_behind_op x))

-- ---- scripts

script-length : (size cpu x : ℕ) → length (made_script size cpu x) ≡ size + 2
script-length size cpu x =
    omega (arith, length-append (made_ops size cpu size x) (ops.Exit ∷ []), length-made_ops size cpu size x)

script-valid : (es : List EnclaveView) (size cpu x : ℕ) → 4 ≤ size → size ≤ 2000 → cpu < 4 → is_tcs_page (lines_at es 1) cpu ≡ true
    → All (IsOpAmong es) (made_script size cpu x)
script-valid es size cpu x least most few there =
    All-cons (IsOpAmong es) (ops.Enter 1 cpu) (made_ops size cpu size x ++ ops.Exit ∷ []) there
    (All-append (IsOpAmong es) (made_ops size cpu size x) (ops.Exit ∷ []) (ops-valid size cpu es size x least most few)
    (All-cons (IsOpAmong es) ops.Exit [] tt (All-nil (IsOpAmong es))))

pub scripts_valid : (es : List EnclaveView) (size n cpu x : ℕ) → 4 ≤ size → size ≤ 2000 → cpu + n ≤ 4
    → ((c : ℕ) → c < 4 → is_tcs_page (lines_at es 1) c ≡ true) → All (All (IsOpAmong es)) (made_scripts size n cpu x)
unfolding made_scripts
scripts_valid es size zero cpu x least most few there = All-nil (All (IsOpAmong es))
scripts_valid es size (suc n) cpu x least most few there =
    All-cons (All (IsOpAmong es)) (made_script size cpu x) (made_scripts size n (cpu + 1) (state_behind_ops size x))
    (script-valid es size cpu x least most (omega arith) (there cpu (omega arith)))
    (scripts_valid es size n (cpu + 1) (state_behind_ops size x) least most (omega arith) there)

pub length-made_scripts : (size n cpu x : ℕ) → length (made_scripts size n cpu x) ≡ n
unfolding made_scripts
length-made_scripts size zero cpu x = refl
length-made_scripts size (suc n) cpu x = ap (λ (k : ℕ). suc k) (length-made_scripts size n (cpu + 1) (state_behind_ops size x))

pub count-made_ops : (size n cpu x : ℕ) → sum_by length (made_scripts size n cpu x) ≡ n * (size + 2)
unfolding made_scripts
count-made_ops size zero cpu x = omega arith
count-made_ops size (suc n) cpu x =
    sum_by-cons length (made_script size cpu x) (made_scripts size n (cpu + 1) (state_behind_ops size x))
    ∙ omega (arith, script-length size cpu x, count-made_ops size n (cpu + 1) (state_behind_ops size x))

-- ---- each TCS page by one script

module _ (enclave number : ℕ) where
  other-cpu : (size cpu x : ℕ) → (cpu ≡ number → ⊥) → script_names enclave number (made_script size cpu x) ≡ false
  other-cpu size cpu x ne = rw (ne_eqb cpu number ne, ops-name_none size cpu enclave number size x) (none (1 == enclave))
    where
      none : (b : Bool) → (b && false || false) ≡ false
      none true = refl
      none false = refl

  count-cons : (script : List Op) (scripts : List (List Op))
      → count_by (script_names enclave number) (script ∷ scripts) ≡ cond (script_names enclave number script) 1 0
      + count_by (script_names enclave number) scripts
  count-cons script scripts = sum_by-cons (λ x. cond (script_names enclave number x) 1 0) script scripts

  none-here : (script : List Op) (scripts : List (List Op)) → script_names enclave number script ≡ false
      → count_by (script_names enclave number) (script ∷ scripts) ≡ count_by (script_names enclave number) scripts
  none-here script scripts not_here =
      let bit : ◌≡◌ {A = ℕ} (cond (script_names enclave number script) 1 0) 0 = rw not_here refl in
      omega (arith, count-cons script scripts, bit)

  one-at_most : (script : List Op) (scripts : List (List Op))
      → count_by (script_names enclave number) (script ∷ scripts) ≤ 1 + count_by (script_names enclave number) scripts
  one-at_most script scripts = omega (arith, count-cons script scripts, bit (script_names enclave number script))
    where
      bit : (b : Bool) → cond b 1 0 ≤ 1
      bit true = omega arith
      bit false = omega arith

  later : (size n cpu x : ℕ) → number < cpu → count_by (script_names enclave number) (made_scripts size n cpu x) ≡ 0
  unfolding made_scripts
  later size zero cpu x lt = refl
  later size (suc n) cpu x lt =
      none-here (made_script size cpu x) (made_scripts size n (cpu + 1) (state_behind_ops size x)) (other-cpu size cpu x (λ e. omega arith))
      ∙ later size n (cpu + 1) (state_behind_ops size x) (omega arith)

  pub scripts_own : (size n cpu x : ℕ) → count_by (script_names enclave number) (made_scripts size n cpu x) ≤ 1
  unfolding made_scripts
  scripts_own size zero cpu x = omega arith
  scripts_own size (suc n) cpu x =
      elim (cases_eq cpu number) [
        | inl same ↦ omega (
          arith,
          one-at_most (made_script size cpu x) (made_scripts size n (cpu + 1) (state_behind_ops size x)),
          later size n (cpu + 1) (state_behind_ops size x) (omega arith),
        )
        | inr other ↦ omega (
          arith,
          none-here (made_script size cpu x) (made_scripts size n (cpu + 1) (state_behind_ops size x)) (other-cpu size cpu x other),
          scripts_own size n (cpu + 1) (state_behind_ops size x),
        )
      ]
