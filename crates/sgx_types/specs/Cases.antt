-- Cases in their order, of which the first that holds decides: the checks of an instruction, and those of a job's line.
use Rattle.std.specs.Prelude.{Bool, if◌then◌else◌, List, [], ◌∷◌, Option, Some, None}

infixr 5 ◌otherwise◌
pub record Case (K : Type 0) : Type 0 where
  pub holds : Bool
  pub why : K

abbrev pub when : {K : Type 0} → Bool → K → Case K
when b k = record { holds = b; why = k }

abbrev pub ◌otherwise◌ : {K : Type 0} → Case K → List (Case K) → List (Case K)
c otherwise rest = c ∷ rest

abbrev pub allowed : {K : Type 0} → List (Case K)
allowed = []

-- the first case that holds
abbrev pub first_of_row : {K : Type 0} → List (Case K) → Option K
first_of_row [] = None
first_of_row (c ∷ cases) = if c.holds then Some c.why else first_of_row cases
