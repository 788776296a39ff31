-- Facts on lists, and on the open start of a frame.
use Rattle.std.proofs.Common.{◌≡◌, ℕ, ◌==◌, Bool, true, false, cond, refl, sym, ◌∙◌, Option, Some, None, List}
use Rattle.std.proofs.Common.{[], ◌∷◌, ◌++◌, ◌⊎◌, inl, inr, ⊎_elim, subst, Any, zero, suc, arith}
use Rattle.std.proofs.lemmas.Bool.{eq-eqb, false≢true}
use Rattle.sgx_types.specs.declared.names.Actor.{Actor}
use Rattle.sgx_types.proofs.Lists.{Any-front}
use Rattle.sgx_rules.specs.declared.entries.Entry.{Entry}
use Rattle.sgx_rules.specs.declared.entries.Event.{Event}

-- an entry of an actor
abbrev pub entry_of : Actor → Event → Entry
entry_of actor event = record { actor = actor; event = event }

-- ---- lists

-- something of a longer list is its head or of its rest
pub any_cases : {X : Type 0} (P : X → Type 0) (x : X) (xs : List X) → Any P (x ∷ xs) → P x ⊎ Any P xs
any_cases P x xs (zero, y, low, here, p) = inl (subst P (sym here) p)
any_cases P x xs (suc k, y, low, here, p) = inr (k, y, omega arith, here, p)

-- the head is of it
pub any_head : {X : Type 0} (P : X → Type 0) (x : X) (xs : List X) → P x → Any P (x ∷ xs)
any_head P x xs p = (0, x, omega arith, refl, p)

-- .. and so is what is of the rest
pub any_rest : {X : Type 0} (P : X → Type 0) (x : X) (xs : List X) → Any P xs → Any P (x ∷ xs)
any_rest P x xs (k, y, low, here, p) = (suc k, y, omega arith, here, p)

-- something of a list with one more at its end is of the list, or the one more
pub any_last : {X : Type 0} (P : X → Type 0) (xs : List X) (x : X) → Any P (xs ++ x ∷ []) → Any P xs ⊎ P x
any_last P [] x any = inr (elim (any_cases P x [] any) as (λ _. P x) [ inl p ↦ p | inr none ↦ absurd (none_there none) ])
  where
    none_there : Any P [] → ⊥
    none_there (k, y, low, here, p) = omega arith
any_last P (y ∷ xs) x any = ⊎_elim (λ p. inl (any_head P y xs p))
    (λ more. ⊎_elim (λ inside. inl (any_rest P y xs inside)) inr (any_last P xs x more)) (any_cases P y (xs ++ x ∷ []) any)

-- ---- open starts

-- the start that is open where a test starts one
pub opened_cases : {X : Type 0} (b : Bool) (new x : X) (old : Option X) → cond b (Some new) old ≡ Some x
    → ((b ≡ true) × (new ≡ x)) ⊎ ((b ≡ false) × (old ≡ Some x))
opened_cases true new x old h = inl (refl, cc)
opened_cases false new x old h = inr (refl, h)

-- .. and where it ends one
pub ended_cases : {X : Type 0} (b : Bool) (x : X) (old : Option X) → cond b None old ≡ Some x → (b ≡ false) × (old ≡ Some x)
ended_cases true x old h = cc
ended_cases false x old h = (refl, h)

-- numbers that a test tells apart are not equal
pub apart_frames : (f n : ℕ) → (f == n) ≡ false → f ≡ n → ⊥
apart_frames f n isnt same = false≢true (sym isnt ∙ eq-eqb f n same)
