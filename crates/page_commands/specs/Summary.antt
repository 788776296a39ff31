-- The summary of a run of a job that was made of a size.
use Rattle.std.specs.Prelude.{ℕ, ◌+◌, ◌*◌, ◌%◌, ◌^◌, Bool, true, false, List, [], ◌∷◌, codes, flat_map, length, reverse, take}
use Rattle.std.specs.Fmt.{decimal}
use Rattle.std.specs.List.{count_by, sum_by}
use Rattle.sgx_rules.specs.declared.entries.Action.TheVariants.{Load}
use Rattle.sgx_rules.specs.declared.entries.Answer.TheVariants.{Value}
use Rattle.sgx_rules.specs.declared.entries.Entry.{Entry}
use Rattle.sgx_rules.specs.declared.entries.Event.{Event}
use Rattle.sgx_rules.specs.declared.entries.Event.TheVariants.{Did}
use Rattle.job_grammar.specs.declared.jobs.Op.{Op}
use Rattle.job_grammar.specs.declared.jobs.Op.TheVariants.{Xadd}
use Rattle.job_grammar.specs.Jobs.{JobView}
use Rattle.script_rules.specs.Script.{numbers_from, replied, script_of}
use Rattle.text_words.specs.Words.{Words, line_text}

abbrev pub loaded_by : Event → ℕ
loaded_by (Did (Load off) (Value v)) = v
loaded_by event = 0

-- what a load was answered, and 0 for any other entry
abbrev pub loaded_value : Entry → ℕ
loaded_value e = loaded_by e.event

-- an operation is an exchange
abbrev pub is_xadd : Op → Bool
is_xadd (Xadd off value) = true
is_xadd op = false

-- how many of the first `count` operations of a script are exchanges
abbrev pub xadds_in : List Op → ℕ → ℕ
xadds_in script count = count_by is_xadd (take count script)

-- of the operations of a processor's script that have their reply, whatever it is, how many are exchanges
abbrev pub xadds_of : JobView → List Entry → ℕ → ℕ
xadds_of j past p = xadds_in (script_of j p) (replied past p)

-- how many replies to exchanges the processors of a job have
abbrev pub xadds : JobView → List Entry → ℕ
xadds j past = sum_by (xadds_of j past) (numbers_from 0 (length j.scripts))

-- the entries stand oldest first
abbrev pub summary_lines : JobView → ℕ → List Entry → List Words
summary_lines j size entries =
    (codes "pages" ∷ decimal (size + 9) ∷ [])
    ∷ (codes "operations" ∷ decimal (4 * (size + 2)) ∷ [])
    ∷ (codes "loads" ∷ decimal (sum_by loaded_value entries % 2 ^ 64) ∷ [])
    ∷ (codes "xadds" ∷ decimal (xadds j (reverse entries)) ∷ [])
    ∷ []

unfoldable pub summary_of : JobView → ℕ → List Entry → List ℕ
summary_of j size entries = flat_map line_text (summary_lines j size entries)
