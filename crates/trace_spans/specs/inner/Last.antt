-- The last of items that stand by place, up to a place.
use Rattle.std.specs.Prelude.{ℕ, nat_le, if◌then◌else◌, List, [], ◌∷◌}

-- what the last item up to a place tells, where items tell nothing else before the first
abbrev pub last_from : {A B : Type 0} → (A → ℕ) → (A → B) → B → List A → ℕ → B
last_from place told first [] n = first
last_from place told first (x ∷ xs) n = last_from place told (if nat_le (place x) n then told x else first) xs n
