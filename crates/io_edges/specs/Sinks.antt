-- What calls of a sink do to the bytes that it was given, where it tells them.
use Rattle.std.specs.Prelude.{◌≡◌, ◌<◌, ℕ, List, ◌++◌, length, take, Option, option_map}

-- the bytes given so far, and then these
abbrev pub followed_by : Option (List ℕ) → List ℕ → Option (List ℕ)
followed_by given bytes = option_map (λ before. before ++ bytes) given

-- a front of the text was given, and not all of it
abbrev pub GivesPart : Option (List ℕ) → Option (List ℕ) → List ℕ → Type 0
GivesPart before now text = (n : ℕ) × (n < length text) × (now ≡ followed_by before (take n text))
