-- Lists as the values of a map.
use Rattle.std.specs.Prelude.{ℕ, ◌+◌, ◌≤◌, List, [], IsSomeAnd, Option, Some, None, vec_len, vec_capacity}
use Rattle.std.specs.Global.{Vec}

-- what stands in a list that the map has, and nothing where it has none
abbrev pub items_of : {T : Type 0} → Option (Vec T) → List T
items_of None = []
items_of (Some list) = list.items

-- a list is there, and so many items more of it need no memory
abbrev pub HasSpare : {T : Type 0} → Option (Vec T) → ℕ → Type 0
HasSpare list k = IsSomeAnd list (λ items. vec_len items + k ≤ vec_capacity items)
