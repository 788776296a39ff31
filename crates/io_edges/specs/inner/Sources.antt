-- What a call of a source gives, and what was read so far.
use Rattle.std.specs.Prelude.{◌≡◌, ◌≤◌, ℕ, List, [], ◌++◌, length, take, drop, Option, option_map, IfSome}
use Rattle.io_edges.specs.Sources.{fewer}

-- what is left at the end of the input
abbrev pub emptied : Option (List ℕ) → Option (List ℕ)
emptied left = option_map (λ _. []) left

-- The first n bytes of what was left stand at the front of the slice, and behind them it is as it was.
-- None are given only where none were left.
pub record Gives (slice filled : List ℕ) (n : ℕ) (left : List ℕ) : Type 0 where
  pub enough : n ≤ length left
  pub front : filled ≡ take n left ++ drop n slice
  pub at_end : n ≡ 0 → left ≡ []

-- these bytes were the front of what was left first, and the rest is left now
pub record HasRead (first now : Option (List ℕ)) (bytes : List ℕ) : Type 0 where
  pub front : IfSome first (λ all. bytes ≡ take (length bytes) all)
  pub rest : now ≡ fewer (length bytes) first
