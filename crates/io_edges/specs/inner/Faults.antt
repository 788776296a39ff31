-- When a told fault has its cause, and one more on a count that stands still at its end.
use Rattle.std.specs.Prelude.{ℕ, ◌+◌, ◌-◌, ◌^◌, ◌≤◌, min}
use Rattle.io_edges.specs.Faults.{HasRisen}

-- the count did not fall, and a fault is told only where it has risen
pub record HasCause (old new : ℕ) (told : Type 0) : Type 0 where
  pub not_fallen : old ≤ new
  pub risen : told → HasRisen old new

-- one more, where a count that would pass 2^64 - 1 stands still
abbrev pub one_more : ℕ → ℕ
one_more count = min (count + 1) (2 ^ 64 - 1)
