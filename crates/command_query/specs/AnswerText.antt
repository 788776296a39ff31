-- The text that answers a question to a trace, whose entries stand newest first.
use Rattle.std.specs.Prelude.{ℕ, List, [], ◌∷◌, Option, Some, None, codes, flat_map, map}
use Rattle.std.specs.Fmt.{decimal}
use Rattle.command_words.specs.declared.question.Question.{Question}
use Rattle.command_words.specs.declared.question.Question.TheVariants.{Behind, Moves}
use Rattle.flat_words.specs.Words.{word}
use Rattle.sgx_rules.specs.declared.entries.Entry.{Entry}
use Rattle.sgx_types.specs.declared.names.Cpu.{Cpu}
use Rattle.text_words.specs.Words.{Words, line_text}
use Rattle.trace_places.specs.declared.moves.Where.{Where}
use Rattle.trace_places.specs.declared.moves.Where.TheVariants.{Nowhere, At, Loading, Sealed}
use Rattle.trace_places.specs.Places.{place_of}
use Rattle.trace_query.specs.declared.page_moves.Move.{Move}
use Rattle.trace_query.specs.Moves.{first_entries, moves}
use Rattle.trace_query.specs.Spans.{cachers}

abbrev pub where_words : Where → Words
where_words Nowhere = codes "at" ∷ codes "nowhere" ∷ []
where_words (At f) = codes "at" ∷ codes "frame" ∷ decimal f.0 ∷ []
where_words (Loading f) = codes "at" ∷ codes "loading" ∷ decimal f.0 ∷ []
where_words (Sealed version) = codes "at" ∷ codes "sealed" ∷ decimal version ∷ []

abbrev pub cached_words : List Cpu → Words
cached_words cpus = codes "cached" ∷ map (λ p. decimal p.0) cpus

abbrev pub first_word : Option ℕ → Words
first_word None = codes "word" ∷ codes "none" ∷ []
first_word (Some value) = codes "word" ∷ decimal value ∷ []

-- a line for each: where the page is, the processors that cache it, and its first word
unfoldable pub page_text : Where → List Cpu → Option ℕ → List ℕ
page_text there cpus value = flat_map line_text (where_words there ∷ cached_words cpus ∷ first_word value ∷ [])

abbrev pub move_words : Move → Words
move_words move = decimal move.place ∷ where_words move.to

-- a line for each move
unfoldable pub moves_text : List Move → List ℕ
moves_text moves = flat_map (λ move. line_text (move_words move)) moves

abbrev pub answer_text : Question → List Entry → List ℕ
answer_text (Behind place page) past =
    page_text (place_of (first_entries place past) page) (cachers (first_entries place past) page) (word (first_entries place past) page 0)
answer_text (Moves page) past = moves_text (moves past page)
