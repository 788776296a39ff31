-- Facts on tests, rows and places.
use Rattle.std.proofs.Common.{◌≡◌, ℕ, ◌==◌, ◌||◌, Bool, true, false, refl, Option, Some, None, IfSome, IsSomeAnd, is_some}
use Rattle.std.proofs.Common.{is_none, List, [], ◌∷◌}
use Rattle.std.proofs.lemmas.Bool.{eq-eqb}
use Rattle.sgx_rules.specs.declared.entries.Entry.{Entry}
use Rattle.sgx_rules.specs.Rules.{AtEachPlace}

pub last_place : (P : List Entry → Type 0) (past : List Entry) → AtEachPlace P past → P past
last_place P [] h = h
last_place P (e ∷ past) h = h.0

-- what holds of each value that is there
pub each_there : {X : Type 0} (o : ℕ → Option X) (P : ℕ → X → Type 0) → ((p : ℕ) (t : X) → o p ≡ Some t → P p t) → (p : ℕ)
    → IfSome (o p) (P p)
each_there {X} o P h p = by_value (o p) (h p)
  where
    by_value : (v : Option X) → ((t : X) → v ≡ Some t → P p t) → IfSome v (P p)
    by_value None k = tt
    by_value (Some t) k = k t refl

pub is_none-None : {X : Type 0} (o : Option X) → o ≡ None → is_none o ≡ true
is_none-None o h = rw h refl

pub none_there : {X : Type 0} (o : Option X) → is_some o ≡ false → o ≡ None
none_there None h = refl
none_there (Some x) h = cc

pub both_false : (a b : Bool) → a ≡ false → b ≡ false → (a || b) ≡ false
both_false a b h k = rw (h, k) refl

-- what holds of a value where it is there
pub each_there_at : {X : Type 0} (o : Option X) (P : X → Type 0) → ((t : X) → o ≡ Some t → P t) → IfSome o P
each_there_at None P h = tt
each_there_at (Some t) P h = h t refl

pub equal : (a b : ℕ) → a ≡ b → (a == b) ≡ true
equal a b e = eq-eqb a b e

-- what a value that is there has, it has in other words
pub there_then : {X : Type 0} {P Q : X → Type 0} (o : Option X) → IsSomeAnd o P → ((x : X) → P x → Q x) → IsSomeAnd o Q
there_then None h f = h
there_then (Some x) h f = f x h

-- .. where it is there
pub there_at : {X : Type 0} (o : Option X) (P : X → Type 0) → is_some o ≡ true → ((x : X) → o ≡ Some x → P x) → IsSomeAnd o P
there_at None P is h = cc
there_at (Some x) P is h = h x refl
