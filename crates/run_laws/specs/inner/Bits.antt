-- A number's bits as a list of processors, one after another.
use Rattle.std.specs.Prelude.{ℕ, ◌≡◌, ◌+◌, ◌/◌, ◌%◌, ◌^◌, ◌≤◌, ◌<◌, ◌==◌, Bool, if◌then◌else◌}
use Rattle.std.specs.Prelude.{List, [], ◌∷◌, ◌++◌, nat_lt}
use Rattle.std.specs.List.{list_any}

-- the bit of a processor
abbrev pub has_bit : ℕ → ℕ → Bool
has_bit bits p = bits / 2 ^ p % 2 == 1

-- those of the list that are below a number, in their order
abbrev pub below : ℕ → List ℕ → List ℕ
below p [] = []
below p (q ∷ qs) = if nat_lt q p then q ∷ below p qs else below p qs

abbrev pub is_member : ℕ → List ℕ → Bool
is_member p ps = list_any (λ q. q == p) ps

-- each is larger than the one before it, and the first at least this number
abbrev pub RisesFrom : ℕ → List ℕ → Type 0
RisesFrom p [] = Unit {0}
RisesFrom p (q ∷ qs) = (p ≤ q) × RisesFrom (q + 1) qs

abbrev pub AllBelow : ℕ → List ℕ → Type 0
AllBelow p [] = Unit {0}
AllBelow p (q ∷ qs) = (q < p) × AllBelow p qs

-- the list goes on with a processor behind those below it
pub record GoesOnBy (p : ℕ) (ps : List ℕ) : Type 0 where
  pub rest : List ℕ
  pub splits : ps ≡ below p ps ++ (p ∷ rest)
