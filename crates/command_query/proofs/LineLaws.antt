-- How a line grows by the numbers of processors, and a line with a number before it.
use Rattle.std.proofs.Common.{◌≡◌, ℕ, ◌+◌, ◌<◌, List, [], ◌∷◌, ◌++◌, length, map, take, get_or, sym, ap, ◌∙◌}
use Rattle.std.specs.Fmt.{decimal}
use Rattle.std.specs.Prelude.{codes}
use Rattle.std.proofs.lemmas.List.{append_assoc, map_more}
use Rattle.sgx_types.specs.declared.names.Cpu.{Cpu}
use Rattle.std.specs.List.{join_with_byte}
use Rattle.text_words.specs.Words.{Words, line_text}
use Rattle.text_words.specs.inner.Words.{with_words}
use Rattle.text_words.proofs.LineLaws.{with_words_append}
use Rattle.trace_places.specs.declared.moves.Where.{Where}
use Rattle.trace_places.specs.declared.moves.Where.TheVariants.{Nowhere, At, Loading, Sealed}
use Rattle.command_query.specs.AnswerText.{where_words}

-- one processor more
pub cached_more : (text : List ℕ) (cpus : List Cpu) (i : ℕ) (d : Cpu) → i < length cpus
    → (with_words text (map (λ (p : Cpu). decimal p.0) (take i cpus)) ++ 32 ∷ []) ++ decimal (get_or cpus i d).0
    ≡ with_words text (map (λ (p : Cpu). decimal p.0) (take (i + 1) cpus))
cached_more text cpus i d within =
    append_assoc (with_words text (map (λ (p : Cpu). decimal p.0) (take i cpus))) (32 ∷ []) (decimal (get_or cpus i d).0)
    ∙ with_words_append text (map (λ (p : Cpu). decimal p.0) (take i cpus)) (decimal (get_or cpus i d).0 ∷ [])
    ∙ ap (with_words text) (sym (map_more (λ (p : Cpu). decimal p.0) cpus i d within))

line_before : (text first word : List ℕ) (words : Words)
    → ((text ++ first) ++ 32 ∷ []) ++ line_text (word ∷ words) ≡ text ++ line_text (first ∷ word ∷ words)
line_before text first word words =
    append_assoc (text ++ first) (32 ∷ []) (line_text (word ∷ words))
    ∙ append_assoc text first (32 ∷ line_text (word ∷ words))
    ∙ ap (λ rest. text ++ rest) (sym (append_assoc first (32 ∷ join_with_byte 32 (word ∷ words)) (10 ∷ [])))

-- a word before the line on a place
pub where_before : (text first : List ℕ) (there : Where)
    → ((text ++ first) ++ 32 ∷ []) ++ line_text (where_words there) ≡ text ++ line_text (first ∷ where_words there)
where_before text first Nowhere = line_before text first (codes "at") (codes "nowhere" ∷ [])
where_before text first (At f) = line_before text first (codes "at") (codes "frame" ∷ decimal f.0 ∷ [])
where_before text first (Loading f) = line_before text first (codes "at") (codes "loading" ∷ decimal f.0 ∷ [])
where_before text first (Sealed version) = line_before text first (codes "at") (codes "sealed" ∷ decimal version ∷ [])
