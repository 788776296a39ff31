-- How scripts grow while they are drawn, and when they are whole.
use Rattle.std.proofs.Common.{◌≡◌, ℕ, suc, ◌+◌, ◌-◌, ◌<◌, ◌≤◌, List, [], ◌∷◌, ◌++◌, append_assoc, refl}
use Rattle.std.proofs.Common.{sym, ap, ◌∙◌, arith}
use Rattle.std.specs.Global.{Vec}
use Rattle.std.proofs.lemmas.List.{append-nil, map_push}
use Rattle.job_grammar.specs.declared.jobs.Op.{Op}
use Rattle.job_grammar.specs.inner.Jobs.{script_ops}
use Rattle.job_make.specs.MadeOps.{made_op, made_ops, made_script, made_scripts, state_behind_op, state_behind_ops}

one-more : {A : Type 0} (front : List A) (x : A) (rest whole : List A) → front ++ x ∷ rest ≡ whole → (front ++ x ∷ []) ++ rest ≡ whole
one-more front x rest whole e = append_assoc front (x ∷ []) rest ∙ e

-- ---- operations

module _ (size cpu i x : ℕ) where
  next-op : (left n : ℕ) → left ≡ suc n → made_ops size cpu left x ≡ made_op size cpu x ∷ made_ops size cpu n (state_behind_op x)
  unfolding made_ops
  next-op left n e = rw e refl

  next-state : (left n : ℕ) → left ≡ suc n → state_behind_ops left x ≡ state_behind_ops n (state_behind_op x)
  unfolding state_behind_ops
  next-state left n e = rw e refl

  no-op : (left : ℕ) → left ≡ 0 → made_ops size cpu left x ≡ []
  unfolding made_ops
  no-op left e = rw e refl

  no-state : (left : ℕ) → left ≡ 0 → state_behind_ops left x ≡ x
  unfolding state_behind_ops
  no-state left e = rw e refl

  pub op_more : (y : ℕ) (op : Op) (front next whole : List Op) → i < size → op ≡ made_op size cpu x → y ≡ state_behind_op x
      → next ≡ front ++ op ∷ []
      → front ++ made_ops size cpu (size - i) x ≡ whole → next ++ made_ops size cpu (size - (i + 1)) y ≡ whole
  op_more y op front next whole lt op_is y_is next_is e =
      rw (next_is, op_is, y_is)
      (one-more front (made_op size cpu x) (made_ops size cpu (size - (i + 1)) (state_behind_op x)) whole
      (ap (λ (rest : List Op). front ++ rest) (sym (next-op (size - i) (size - (i + 1)) (omega arith))) ∙ e))

  pub state_more : (y behind : ℕ) → i < size → y ≡ state_behind_op x → state_behind_ops (size - i) x ≡ behind
      → state_behind_ops (size - (i + 1)) y ≡ behind
  state_more y behind lt y_is e = rw y_is (sym (next-state (size - i) (size - (i + 1)) (omega arith)) ∙ e)

  pub ops_whole : (front drawn : List Op) → size ≤ i → front ++ made_ops size cpu (size - i) x ≡ drawn → front ≡ drawn
  ops_whole front drawn le e =
      sym (append-nil front) ∙ ap (λ (rest : List Op). front ++ rest) (sym (no-op (size - i) (omega arith))) ∙ e

  pub state_whole : (behind : ℕ) → size ≤ i → state_behind_ops (size - i) x ≡ behind → x ≡ behind
  state_whole behind le e = sym (no-state (size - i) (omega arith)) ∙ e

-- ---- scripts

next-script : (size left n cpu x : ℕ) → left ≡ suc n
    → made_scripts size left cpu x ≡ made_script size cpu x ∷ made_scripts size n (cpu + 1) (state_behind_ops size x)
unfolding made_scripts
next-script size left n cpu x e = rw e refl

no-script : (size left cpu x : ℕ) → left ≡ 0 → made_scripts size left cpu x ≡ []
unfolding made_scripts
no-script size left cpu x e = rw e refl

pub script_more : (size i x y : ℕ) (script : Vec Op) (front next : List (Vec Op)) (whole : List (List Op)) → i < 4
    → script.items ≡ made_script size i x → y ≡ state_behind_ops size x → next ≡ front ++ script ∷ []
    → script_ops front ++ made_scripts size (4 - i) i x ≡ whole → script_ops next ++ made_scripts size (4 - (i + 1)) (i + 1) y ≡ whole
script_more size i x y script front next whole lt script_is y_is next_is e =
    rw (next_is, y_is, map_push (λ (s : Vec Op). s.items) front script, script_is)
    (one-more (script_ops front) (made_script size i x) (made_scripts size (4 - (i + 1)) (i + 1) (state_behind_ops size x)) whole
    (ap (λ (rest : List (List Op)). script_ops front ++ rest) (sym (next-script size (4 - i) (4 - (i + 1)) i x (omega arith))) ∙ e))

pub scripts_whole : (size i x : ℕ) (front : List (Vec Op)) (whole : List (List Op)) → 4 ≤ i
    → script_ops front ++ made_scripts size (4 - i) i x ≡ whole → script_ops front ≡ whole
scripts_whole size i x front whole le e =
    sym (append-nil (script_ops front))
    ∙ ap (λ (rest : List (List Op)). script_ops front ++ rest) (sym (no-script size (4 - i) i x (omega arith)))
    ∙ e
