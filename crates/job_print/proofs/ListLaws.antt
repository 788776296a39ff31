-- The last of a list, and an element in its middle.
use Rattle.std.proofs.Common.{◌≡◌, ℕ, suc, ◌+◌, ◌-◌, ◌≤◌, ◌||◌, Bool, true, false, cond, List, [], ◌∷◌}
use Rattle.std.proofs.Common.{◌++◌, None, Some, length, sum_by, count_by, find, All, refl, sym, ap, ◌∙◌, arith}
use Rattle.std.specs.List.{list_any, slice_get}
use Rattle.std.proofs.Math.Seq.{take-append_seam}
use Rattle.std.proofs.lemmas.List.Elements.{All-head, All-tail}
use Rattle.std.proofs.lemmas.List.Sums.{sum_by-append, sum_by-cons}
use Rattle.job_grammar.specs.declared.jobs.Op.{Op}
use Rattle.job_text.specs.Drafts.{change_last, last}
use Rattle.job_text.specs.Faults.{earlier}

-- ---- in the middle

pub at_seam : {X : Type 0} (xs : List X) (x : X) (ys : List X) → slice_get (xs ++ x ∷ ys) (length xs) ≡ Some x
at_seam [] x ys = refl
at_seam (y ∷ xs) x ys = at_seam xs x ys

pub All-seam : {X : Type 0} (P : X → Type 0) (xs : List X) (x : X) (ys : List X) → All P (xs ++ x ∷ ys) → P x
All-seam P [] x ys all = All-head P x ys all
All-seam P (y ∷ xs) x ys all = All-seam P xs x ys (All-tail P y (xs ++ x ∷ ys) all)

pub any-seam : {X : Type 0} (p : X → Bool) (xs : List X) (x : X) (ys : List X) → p x ≡ true → list_any p (xs ++ x ∷ ys) ≡ true
any-seam p [] x ys is = rw is refl
any-seam p (y ∷ xs) x ys is = rw (any-seam p xs x ys is) (or-true (p y))
  where
    or-true : (b : Bool) → (b || true) ≡ true
    or-true true = refl
    or-true false = refl

pub sum-seam : {X : Type 0} (f : X → ℕ) (xs : List X) (x : X) (ys : List X) → sum_by f (xs ++ x ∷ ys) ≡ sum_by f xs + (f x + sum_by f ys)
sum-seam f xs x ys = sum_by-append f xs (x ∷ ys) ∙ ap (λ (n : ℕ). sum_by f xs + n) (sum_by-cons f x ys)

-- ---- the last

pub last-length : {X : Type 0} (xs : List X) (x : X) → length (xs ++ x ∷ []) ≡ suc (length xs)
last-length [] x = refl
last-length (y ∷ xs) x = ap (λ (n : ℕ). suc n) (last-length xs x)

last-index : {X : Type 0} (xs : List X) (x : X) → length (xs ++ x ∷ []) - 1 ≡ length xs
last-index xs x = omega (arith, last-length xs x)

pub last-push : {X : Type 0} (xs : List X) (x : X) → last (xs ++ x ∷ []) ≡ Some x
last-push xs x = rw (last-index xs x) (at_seam xs x [])

pub change_last-push : {X : Type 0} (f : X → X) (xs : List X) (x : X) → change_last f (xs ++ x ∷ []) ≡ xs ++ f x ∷ []
change_last-push f [] x = refl
change_last-push f (y ∷ []) x = refl
change_last-push {X = X} f (y ∷ z ∷ xs) x = ap (λ (zs : List X). y ∷ zs) (change_last-push f (z ∷ xs) x)

pub earlier-push : (scripts : List (List Op)) (script : List Op) → earlier (scripts ++ script ∷ []) ≡ scripts
earlier-push scripts script = rw (last-index scripts script) (take-append_seam scripts (script ∷ []))

pub push-push : {X : Type 0} (xs : List X) (x : X) (ys : List X) → xs ++ x ∷ ys ≡ (xs ++ x ∷ []) ++ ys
push-push [] x ys = refl
push-push {X = X} (y ∷ xs) x ys = ap (λ (zs : List X). y ∷ zs) (push-push xs x ys)

-- ---- where none is counted

none-here : {X : Type 0} (p : X → Bool) (x : X) (xs : List X) → count_by p (x ∷ xs) ≡ 0 → (p x ≡ false) × (count_by p xs ≡ 0)
none-here p x xs none = by_bit (p x) (sym none ∙ sum_by-cons (λ y. cond (p y) 1 0) x xs)
  where
    by_bit : (b : Bool) → 0 ≡ cond b 1 0 + count_by p xs → (b ≡ false) × (count_by p xs ≡ 0)
    by_bit true e = absurd (omega (arith, e))
    by_bit false e = (refl, omega (arith, e))

pub none-found : {X : Type 0} (p : X → Bool) (xs : List X) → count_by p xs ≡ 0 → find p xs ≡ None
none-found p [] none = refl
none-found p (x ∷ xs) none = let h = none-here p x xs none in rw h.0 (none-found p xs h.1)

pub none-any : {X : Type 0} (p : X → Bool) (xs : List X) → count_by p xs ≡ 0 → list_any p xs ≡ false
none-any p [] none = refl
none-any p (x ∷ xs) none = let h = none-here p x xs none in rw h.0 (none-any p xs h.1)

-- where one is counted at most, and one in the middle counts, none is counted before it
pub none-before : {X : Type 0} (p : X → Bool) (xs : List X) (x : X) (ys : List X) → count_by p (xs ++ x ∷ ys) ≤ 1 → p x ≡ true
    → count_by p xs ≡ 0
none-before p xs x ys once is =
    let all = sum-seam (λ y. cond (p y) 1 0) xs x ys in
    let one : ◌≡◌ {A = ℕ} (cond (p x) 1 0) 1 = rw is refl in
    omega (arith, all, one, once)
