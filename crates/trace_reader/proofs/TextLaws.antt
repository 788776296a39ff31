-- The lines of a text, and the lines of a trace's text.
use Rattle.std.proofs.Common.{◌≡◌, ℕ, ◌+◌, ◌^◌, ◌<◌, ◌≤◌, false, eqb, if◌then◌else◌, List, [], ◌∷◌}
use Rattle.std.proofs.Common.{◌++◌, length, map, reverse, append_assoc, refl, sym, ap, ◌∙◌}
use Rattle.std.specs.List.{AllByRecursion}
use Rattle.std.proofs.lemmas.List.{map-append, reverse-append, reverse-reverse, length-reverse, append-nil}
use Rattle.std.proofs.lemmas.List.Elements.{All-head, All-tail}
use Rattle.sgx_rules.specs.declared.entries.Entry.{Entry}
use Rattle.text_words.proofs.Splits.{IsApart}
use Rattle.trace_text.specs.declared.edition.Edition.{Edition}
use Rattle.trace_text.specs.declared.edition.Edition.TheVariants as editions
use Rattle.trace_text.specs.TraceText as printed
use Rattle.trace_text.specs.TraceText.{entries_text, entry_text, spelling, trace_in}
use Rattle.trace_reader.specs.Faults.{text_of, whole_lines}
use Rattle.trace_reader.specs.inner.Lines.{first_line, joined, last_line, trace_lines}

-- no line has a line feed
abbrev pub AreApart : List (List ℕ) → Type 0
AreApart lines = AllByRecursion (IsApart 10) lines

-- ---- the lines of a text

pub whole-line : (line rest : List ℕ) → IsApart 10 line → whole_lines (line ++ 10 ∷ rest) ≡ line ∷ whole_lines rest
whole-line [] rest apart = refl
whole-line (c ∷ line) rest apart =
    let other : eqb c 10 ≡ false = All-head (λ b. eqb b 10 ≡ false) c line apart in
    rw (other, whole-line line rest (All-tail (λ b. eqb b 10 ≡ false) c line apart)) refl

pub whole-part : (part : List ℕ) → IsApart 10 part → whole_lines part ≡ []
whole-part [] apart = refl
whole-part (c ∷ part) apart =
    let other : eqb c 10 ≡ false = All-head (λ b. eqb b 10 ≡ false) c part apart in
    rw (other, whole-part part (All-tail (λ b. eqb b 10 ≡ false) c part apart)) refl

pub whole-joined : (lines : List (List ℕ)) (rest : List ℕ) → AreApart lines
    → whole_lines (joined lines ++ rest) ≡ lines ++ whole_lines rest
whole-joined [] rest apart = refl
whole-joined (line ∷ lines) rest apart =
    ap whole_lines (append_assoc line (10 ∷ joined lines) rest)
    ∙ whole-line line (joined lines ++ rest) apart.0
    ∙ ap (λ (others : List (List ℕ)). line ∷ others) (whole-joined lines rest apart.1)

pub whole-all : (lines : List (List ℕ)) → AreApart lines → whole_lines (joined lines) ≡ lines
whole-all lines apart =
    ap whole_lines (sym (append-nil (joined lines))) ∙ whole-joined lines [] apart ∙ append-nil lines

pub joined-append : (lines others : List (List ℕ)) → joined (lines ++ others) ≡ joined lines ++ joined others
joined-append [] others = refl
joined-append (line ∷ lines) others =
    ap (λ (text : List ℕ). line ++ 10 ∷ text) (joined-append lines others)
    ∙ sym (append_assoc line (10 ∷ joined lines) (joined others))

-- ---- one line more

pub one_line : (lines : List (List ℕ)) (line behind : List ℕ)
    → joined (lines ++ line ∷ []) ++ behind ≡ joined lines ++ line ++ 10 ∷ behind
one_line lines line behind =
    ap (λ (text : List ℕ). text ++ behind) (joined-append lines (line ∷ []))
    ∙ append_assoc (joined lines) (line ++ 10 ∷ []) behind
    ∙ ap (λ (text : List ℕ). joined lines ++ text) (append_assoc line (10 ∷ []) behind)
    ∙ sym (append_assoc (joined lines) line (10 ∷ behind))

-- ---- the lines of a trace's text

-- the first line, and what stands behind it
first-joined : (edition : Edition) (body last : List ℕ)
    → (printed.first_line edition ++ body) ++ last ≡ first_line edition ++ 10 ∷ (body ++ last)
first-joined editions.One body last = refl
first-joined editions.Two body last = refl

module _ (edition : Edition) where
  entries-joined : (past : List Entry) → entries_text edition past ≡ joined (map (spelling edition) (reverse past))
  unfolding entry_text
  entries-joined [] = refl
  entries-joined (e ∷ past) =
      ap (λ (text : List ℕ). text ++ entry_text edition e) (entries-joined past)
      ∙ sym (joined-append (map (spelling edition) (reverse past)) (spelling edition e ∷ []))
      ∙ ap joined (sym (map-append (spelling edition) (reverse past) (e ∷ [])))
      ∙ ap (λ (entries : List Entry). joined (map (spelling edition) entries)) (sym (reverse-append (e ∷ []) past))

  pub text-joined : (entries : List Entry) → text_of edition entries ≡ joined (trace_lines edition entries)
  unfolding trace_in
  text-joined entries =
      let body : entries_text edition (reverse entries) ≡ joined (map (spelling edition) entries) =
      entries-joined (reverse entries) ∙ ap (λ (es : List Entry). joined (map (spelling edition) es)) (reverse-reverse entries) in
      let count : length (reverse entries) ≡ length entries = length-reverse entries in
      rw (body, count)
      (first-joined edition (joined (map (spelling edition) entries)) (joined (last_line (length entries) ∷ []))
      ∙ ap (λ (text : List ℕ). first_line edition ++ 10 ∷ text)
      (sym (joined-append (map (spelling edition) entries) (last_line (length entries) ∷ []))))
