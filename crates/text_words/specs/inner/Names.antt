-- A value by its name.
use Rattle.std.specs.Prelude.{ℕ, if◌then◌else◌, List, [], ◌∷◌, Option, Some, None, bytes_eq}

-- the value that stands beside a name in a table, the first where the name stands there twice
abbrev pub by_name : {A : Type 0} → List (List ℕ × A) → List ℕ → Option A
by_name [] name = None
by_name (row ∷ rows) name = if bytes_eq name row.0 then Some row.1 else by_name rows name
