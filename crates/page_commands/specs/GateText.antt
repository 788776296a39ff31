-- What is told of a gate that ran: the entries of all processors, and how often one used a frame that was no longer its own.
use Rattle.std.specs.Prelude.{ℕ, ◌*◌, ◌++◌, List, [], ◌∷◌, codes}
use Rattle.std.specs.Fmt.{decimal}
use Rattle.text_words.specs.Words.{line_text}

-- a line with the number of entries, and a line that says that no use was stale
abbrev pub counts_text : ℕ → List ℕ
counts_text entries = line_text (codes "enters" ∷ decimal entries ∷ []) ++ line_text (codes "stale" ∷ decimal 0 ∷ [])

-- each of the four processors entered once a round
abbrev pub gate_text : ℕ → List ℕ
gate_text rounds = counts_text (4 * rounds)
