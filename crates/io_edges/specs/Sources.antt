-- What calls of a source do with the bytes that it has left, where it tells them.
use Rattle.std.specs.Prelude.{◌≡◌, ◌≤◌, ℕ, List, drop, Option, option_map}

-- what is left after n bytes were taken
abbrev pub fewer : ℕ → Option (List ℕ) → Option (List ℕ)
fewer n left = option_map (drop n) left

-- no more than so many bytes were taken
abbrev pub TakesAtMost : ℕ → Option (List ℕ) → Option (List ℕ) → Type 0
TakesAtMost most first now = (n : ℕ) × (n ≤ most) × (now ≡ fewer n first)
