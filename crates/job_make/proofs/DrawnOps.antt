-- What a draw leaves, and which operation the numbers that were drawn make.
use Rattle.std.proofs.Common.{◌≡◌, ℕ, ◌+◌, ◌*◌, ◌/◌, ◌%◌, ◌^◌, ◌<◌, ◌≤◌, refl, sym, ap, ◌∙◌}
use Rattle.std.proofs.Common.{arith}
use Rattle.std.proofs.lemmas.Bool.{le-ltb, lt-ltb, ne_eqb}
use Rattle.job_grammar.specs.declared.jobs.Op.TheVariants as ops
use Rattle.job_make.specs.Generator.{state_after, draw, next_state}
use Rattle.job_make.specs.MadeOps.{made_op, op_of, own_offset, shared_offset}

-- the product may be taken mod 2^64 first
pub stepped : (x : ℕ) → (x * 6364136223846793005 % 2 ^ 64 + 1442695040888963407) % 2 ^ 64 ≡ next_state x
unfolding next_state
stepped x = omega arith

module _ (kind own shared value : ℕ) where
  op-loads : kind < 2 → op_of kind own shared value ≡ ops.Load own
  unfolding op_of
  op-loads lt = rw (lt-ltb kind 2 lt) refl

  op-stores : kind ≡ 2 → op_of kind own shared value ≡ ops.Store own value
  unfolding op_of
  op-stores e = rw e refl

  op-adds : 3 ≤ kind → op_of kind own shared value ≡ ops.Xadd shared 1
  unfolding op_of
  op-adds le = rw (le-ltb kind 2 (omega arith), ne_eqb kind 2 (λ e. omega arith)) refl

module _ (size cpu x kind page word first second third off : ℕ) (kind_is : kind ≡ draw 1 4 x) (first_is : first ≡ state_after 1 x)
    (page_is : page ≡ draw 1 (size / 4) first) (second_is : second ≡ state_after 1 first) (word_is : word ≡ draw 1 512 second)
    (third_is : third ≡ state_after 1 second) (off_is : off ≡ own_offset cpu page word) where
  made-by : op_of kind off (shared_offset size) (draw 1 1000000 third) ≡ made_op size cpu x
  made-by = rw (off_is, word_is, page_is, kind_is, third_is, second_is, first_is) refl

  pub loads : kind < 2 → ops.Load off ≡ made_op size cpu x
  loads lt = sym (op-loads kind off (shared_offset size) (draw 1 1000000 third) lt) ∙ made-by

  pub stores : (value : ℕ) → kind ≡ 2 → value ≡ draw 1 1000000 third → ops.Store off value ≡ made_op size cpu x
  stores value e is =
      ap (λ (v : ℕ). ops.Store off v) is ∙ sym (op-stores kind off (shared_offset size) (draw 1 1000000 third) e) ∙ made-by

  pub adds : (shared : ℕ) → 3 ≤ kind → shared ≡ shared_offset size → ops.Xadd shared 1 ≡ made_op size cpu x
  adds shared le is =
      ap (λ (off : ℕ). ops.Xadd off 1) is ∙ sym (op-adds kind off (shared_offset size) (draw 1 1000000 third) le) ∙ made-by
