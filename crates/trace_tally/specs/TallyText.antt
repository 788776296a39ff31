-- The text of the tally of a trace.
use Rattle.std.specs.Prelude.{ℕ, List, [], ◌∷◌, ◌++◌, Option, Some, None, codes, flat_map, length}
use Rattle.std.specs.Fmt.{decimal}
use Rattle.sgx_rules.specs.declared.entries.Entry.{Entry}
use Rattle.text_words.specs.Words.{Words, line_text}
use Rattle.trace_text.specs.TraceText.{action_name, refusal_name}
use Rattle.trace_tally.specs.declared.counts.Counts.{Counts}
use Rattle.trace_tally.specs.declared.refusals.RefusalCount.{RefusalCount}
use Rattle.trace_tally.specs.Tally.{counts, refusals, odd_place}

abbrev pub number_line : List ℕ → ℕ → List ℕ
number_line name n = line_text (name ∷ decimal n ∷ [])

-- how many entries there are, and how much there was to judge in them
unfoldable pub counts_text : ℕ → Counts → List ℕ
counts_text entries c =
    number_line (codes "entries") entries
    ++ number_line (codes "written") c.written
    ++ number_line (codes "entered") c.entered
    ++ number_line (codes "cached") c.cached
    ++ number_line (codes "reloaded") c.reloaded
    ++ number_line (codes "again") c.again

-- the instruction, the refusal, how many there are, and the place of the first one
abbrev pub refusal_words : RefusalCount → Words
refusal_words row =
    codes "refused" ∷ (action_name row.action ++ refusal_name row.why ++ decimal row.count ∷ decimal row.place ∷ [])

unfoldable pub refusals_text : List RefusalCount → List ℕ
refusals_text rows = flat_map (λ row. line_text (refusal_words row)) rows

abbrev pub driver_words : Option ℕ → Words
driver_words None = codes "driver" ∷ codes "yes" ∷ []
driver_words (Some place) = codes "driver" ∷ codes "no" ∷ decimal place ∷ []

-- the tally of entries that stand newest first
unfoldable pub tally_text : List Entry → List ℕ
tally_text past =
    counts_text (length past) (counts past) ++ refusals_text (refusals past) ++ line_text (driver_words (odd_place past))
