-- What the table of an enclave's pages says of its lines.
use Rattle.std.proofs.Common.{◌≡◌, ◌≤◌, Bool, true, false, cond, ◌&&◌, ◌||◌, List, [], ◌∷◌, ◌++◌, Option}
use Rattle.std.proofs.Common.{Some, None, count_by, find, refl, sym, ◌∙◌, arith, inl, inr}
use Rattle.std.specs.List.{list_any}
use Rattle.std.specs.Option.{option_map_or, option_or}
use Rattle.std.proofs.lemmas.Bool.{cases_Bool}
use Rattle.std.proofs.lemmas.List.Folds.{find-append}
use Rattle.std.proofs.lemmas.List.Sums.{sum_by-cons}
use Rattle.job_grammar.specs.declared.jobs.PageLine.{PageLine}
use Rattle.job_grammar.specs.Jobs.{covers}
use Rattle.job_text.specs.inner.PageTables.{Table, IsTableOf, AddsLine}

-- no item of those that pass is also of kind q
any-none : {X : Type 0} (p q : X → Bool) (xs : List X) → count_by p xs ≡ 0 → list_any (λ x. q x && p x) xs ≡ false
any-none p q [] e = refl
any-none p q (x ∷ xs) e =
    let count = sum_by-cons (λ y. cond (p y) 1 0) x xs in
    elim (cases_Bool (p x)) [
      | inl passes ↦ absurd (let one = rw (count, passes) at e in omega arith)
      | inr fails ↦ (let rest = rw (count, fails) at e in rw (fails, any-none p q xs (omega (arith, rest))) (and_false (q x)))
    ]
  where
    and_false : (b : Bool) → ((b && false) || false) ≡ false
    and_false true = refl
    and_false false = refl

-- where at most one passes, it is the one that is found
pub any-find : {X : Type 0} (p q : X → Bool) (xs : List X) → count_by p xs ≤ 1
    → list_any (λ x. q x && p x) xs ≡ option_map_or q (find p xs) false
any-find p q [] e = refl
any-find p q (x ∷ xs) e =
    let count = sum_by-cons (λ y. cond (p y) 1 0) x xs in
    elim (cases_Bool (p x)) [
      | inl passes ↦ (let one = rw (count, passes) at e in rw (passes, any-none p q xs (omega (arith, one))) (and_true (q x)))
      | inr fails ↦ (let rest = rw (count, fails) at e in
          rw fails (and_false (q x) (list_any (λ y. q y && p y) xs) ∙ any-find p q xs (omega (arith, rest))))
    ]
  where
    and_true : (b : Bool) → ((b && true) || false) ≡ b
    and_true true = refl
    and_true false = refl

    and_false : (b c : Bool) → ((b && false) || c) ≡ c
    and_false true c = refl
    and_false false c = refl

option_or-none : {X : Type 0} (o : Option X) → option_or o None ≡ o
option_or-none None = refl
option_or-none (Some x) = refl

pub IsTableOf-more : (xs : List PageLine) (y : PageLine) (old new : Table) → IsTableOf xs old → AddsLine old new y
    → IsTableOf (xs ++ y ∷ []) new
IsTableOf-more xs y old new of adds n =
    elim (cases_Bool (covers n y)) [
      | inl passes ↦ (let none = sym (of n) ∙ (adds n).1 passes in
          (adds n).0 ∙ rw (passes, find-append (covers n) xs (y ∷ []), none, passes) refl)
      | inr fails ↦ (adds n).0 ∙ rw (fails, find-append (covers n) xs (y ∷ []), fails, option_or-none (find (covers n) xs)) (of n)
    ]
