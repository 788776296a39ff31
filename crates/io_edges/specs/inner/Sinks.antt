-- That a sink was given a front of a text.
use Rattle.std.specs.Prelude.{◌≡◌, ℕ, List, take, Option}
use Rattle.io_edges.specs.Sinks.{followed_by}

-- a front of the text was given, maybe all of it
abbrev pub GivesFront : Option (List ℕ) → Option (List ℕ) → List ℕ → Type 0
GivesFront before now text = (n : ℕ) × (now ≡ followed_by before (take n text))
