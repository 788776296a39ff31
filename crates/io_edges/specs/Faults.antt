-- How an outside tells that it failed: by a count of 64 bits that never falls.
use Rattle.std.specs.Prelude.{ℕ, ◌-◌, ◌^◌, ◌<◌}

-- a count has risen, where one that stood at its last value counts as risen
abbrev pub HasRisen : ℕ → ℕ → Type 0
HasRisen old new = old < 2 ^ 64 - 1 → old < new
