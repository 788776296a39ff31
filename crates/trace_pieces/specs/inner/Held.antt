-- What of a text was given to a sink, and what is held.
use Rattle.std.specs.Prelude.{ℕ, ◌≡◌, List, ◌++◌, Option}
use Rattle.io_edges.specs.Sinks.{followed_by}

-- a front of the text was given, and the rest is held
pub record IsHeld (first now : Option (List ℕ)) (held text : List ℕ) : Type 0 where
  pub front : List ℕ
  pub given : now ≡ followed_by first front
  pub whole : front ++ held ≡ text
