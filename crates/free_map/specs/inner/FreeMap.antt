-- A set of numbers below a length, kept as bits, 64 in each mark.
use Rattle.std.specs.Prelude.{◌≡◌, ℕ, ◌+◌, ◌/◌, ◌%◌, ◌≤◌, ◌==◌, nat_lt, Bool, false, not, List, length, map}
use Rattle.std.specs.Prelude.{count_by, slice_index}
use Rattle.std.specs.Int.{bit_at}
use Rattle.std.specs.List.{range_with_len}

-- bit n, counted from bit 0 of the first mark
abbrev pub is_marked : List ℕ → ℕ → Bool
is_marked marks n = bit_at (slice_index marks (n / 64)) (n % 64) == 1

-- a mark has a bit
abbrev pub is_used : ℕ → Bool
is_used mark = not (mark == 0)

-- for each number below a length, whether it is in the set
abbrev pub members : List ℕ → ℕ → List Bool
members marks len = map (is_marked marks) (range_with_len 0 len)

-- every number below a length is in the set, and no other
pub record IsFull (marks : List ℕ) (len : ℕ) : Type 0 where
  pub sized : length marks ≡ (len + 63) / 64
  pub marked : (n : ℕ) → is_marked marks n ≡ nat_lt n len

-- there are as many marks as the length needs, at most 64, no bit past it, and the count is right
pub record IsFreeMap (marks : List ℕ) (len count : ℕ) : Type 0 where
  pub small : len ≤ 4096
  pub sized : length marks ≡ (len + 63) / 64
  pub clear : (n : ℕ) → len ≤ n → is_marked marks n ≡ false
  pub counted : count ≡ count_by (λ b. b) (members marks len)
