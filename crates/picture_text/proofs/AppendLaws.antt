-- Lists that grow by several parts.
use Rattle.std.proofs.Common.{◌≡◌, List, [], ◌∷◌, ◌++◌, ap, ◌∙◌, append_assoc}

module _ {A : Type 0} where
  -- six parts
  pub pushed_six : (o p q r s t z a b c d e f : List A) → p ≡ o ++ a → q ≡ p ++ b → r ≡ q ++ c → s ≡ r ++ d → t ≡ s ++ e → z ≡ t ++ f
      → z ≡ o ++ (((((a ++ b) ++ c) ++ d) ++ e) ++ f)
  pushed_six o p q r s t z a b c d e f ha hb hc hd he hf =
      hf ∙ ap (λ x. x ++ f) (he ∙ ap (λ x. x ++ e) (hd ∙ ap (λ x. x ++ d) (hc ∙ ap (λ x. x ++ c) (hb ∙ ap (λ x. x ++ b) ha))))
      ∙ all
    where
      all : (((((o ++ a) ++ b) ++ c) ++ d) ++ e) ++ f ≡ o ++ (((((a ++ b) ++ c) ++ d) ++ e) ++ f)
      all = simp append_assoc

  -- one, and four parts
  pub pushed_five : (o p q r s z : List A) (m : A) (a b c d : List A) → p ≡ o ++ m ∷ [] → q ≡ p ++ a → r ≡ q ++ b → s ≡ r ++ c → z ≡ s ++ d
      → z ≡ o ++ (m ∷ (((a ++ b) ++ c) ++ d))
  pushed_five o p q r s z m a b c d hm ha hb hc hd =
      hd ∙ ap (λ x. x ++ d) (hc ∙ ap (λ x. x ++ c) (hb ∙ ap (λ x. x ++ b) (ha ∙ ap (λ x. x ++ a) hm)))
      ∙ all
    where
      all : ((((o ++ m ∷ []) ++ a) ++ b) ++ c) ++ d ≡ o ++ (m ∷ (((a ++ b) ++ c) ++ d))
      all = simp append_assoc

  -- three parts
  pub pushed_three : (o p q z a b c : List A) → p ≡ o ++ a → q ≡ p ++ b → z ≡ q ++ c → z ≡ o ++ ((a ++ b) ++ c)
  pushed_three o p q z a b c ha hb hc =
      hc ∙ ap (λ x. x ++ c) (hb ∙ ap (λ x. x ++ b) ha)
      ∙ all
    where
      all : ((o ++ a) ++ b) ++ c ≡ o ++ ((a ++ b) ++ c)
      all = simp append_assoc
