-- Behind some lines of a trace comes the line of an entry, or the last line, and nothing else.
use Rattle.std.proofs.Common.{◌≡◌, ℕ, ◌+◌, refl, sym, ap, ◌∙◌, List, [], ◌∷◌, ◌++◌, append_assoc, decimal}
use Rattle.std.proofs.Common.{length, map, take, get_or, eqb, Bool, true, false}
use Rattle.std.specs.List.{join_with_byte}
use Rattle.std.proofs.lemmas.List.{append-nil}
use Rattle.sgx_rules.specs.declared.entries.Entry.{Entry}
use Rattle.sgx_types.specs.declared.names.Actor.{Actor}
use Rattle.sgx_types.specs.declared.names.Actor.TheVariants as actors
use Rattle.text_words.specs.Words.{Words}
use Rattle.trace_text.specs.declared.edition.Edition.{Edition}
use Rattle.trace_text.specs.Readable.{AreReadable, IsReadable}
use Rattle.trace_text.specs.Fields.{event_fields, words_of_fields}
use Rattle.trace_text.specs.TraceText.{actor_word, spelling}
use Rattle.trace_lines.proofs.LineReads.{same_entry}
use Rattle.trace_reader.specs.declared.lines.Stage.{Stage}
use Rattle.trace_reader.specs.declared.lines.Stage.TheVariants.{First, Entries, Ended}
use Rattle.trace_reader.specs.inner.Lines.{CannotFollow, first_line, last_line, lines_at, trace_lines}

-- ---- the last line is no entry's: it begins with another byte

first-byte : (c : ℕ) (word : List ℕ) (words : Words) → take 1 (join_with_byte 32 ((c ∷ word) ∷ words)) ≡ c ∷ []
first-byte c word [] = refl
first-byte c word (next ∷ words) = refl

is-e : List ℕ → Bool
is-e bytes = eqb (get_or bytes 0 0) 101

begins-other : (actor : Actor) (words : Words) → 101 ∷ [] ≡ take 1 (join_with_byte 32 (actor_word actor ∷ words)) → ⊥
unfolding is-e
begins-other actors.Builder words same = let f : true ≡ false = ap is-e (same ∙ first-byte 98 [] words) in cc
begins-other actors.Reclaimer words same = let f : true ≡ false = ap is-e (same ∙ first-byte 114 [] words) in cc
begins-other (actors.Cpu p) words same = let f : true ≡ false = ap is-e (same ∙ first-byte 112 (decimal p.0) words) in cc

module _ (edition : Edition) where
  pub last-no_entry : (e : Entry) (count : ℕ) → last_line count ≡ spelling edition e → ⊥
  unfolding spelling
  last-no_entry e count same = begins-other e.actor (words_of_fields edition (event_fields e.event)) (ap (take 1) same)

  -- ---- what a trace has behind some of its entries' lines

  head-inj : {x y : List ℕ} {xs ys : List (List ℕ)} → x ∷ xs ≡ y ∷ ys → x ≡ y
  head-inj e = cc

  tail-inj : {x y : List ℕ} {xs ys : List (List ℕ)} → x ∷ xs ≡ y ∷ ys → xs ≡ ys
  tail-inj e = cc

  pub record GoesOn (done whole : List Entry) (count : ℕ) (lines : List (List ℕ)) : Type 0 where
    pub others : List Entry
    pub readable : AreReadable edition others
    pub entries_are : whole ≡ done ++ others
    pub lines_are : lines ≡ map (spelling edition) others ++ last_line count ∷ []

  pub goes_on : (done whole : List Entry) (count : ℕ) (lines : List (List ℕ)) → AreReadable edition done → AreReadable edition whole
      → map (spelling edition) done ++ lines ≡ map (spelling edition) whole ++ last_line count ∷ [] → GoesOn done whole count lines
  goes_on [] whole count lines own all same = record { others = whole; readable = all; entries_are = refl; lines_are = same }
  goes_on (e ∷ done) [] count lines own all same = absurd (last-no_entry e count (sym (head-inj same)))
  goes_on (e ∷ done) (x ∷ whole) count lines own all same =
      let rest = goes_on done whole count lines own.1 all.1 (tail-inj same) in
      let one : e ≡ x = same_entry edition e x own.0 all.0 (head-inj same) in
      record {
        others = rest.others;
        readable = rest.readable;
        entries_are = ap (λ (y : Entry). y ∷ whole) (sym one) ∙ ap (λ (es : List Entry). e ∷ es) rest.entries_are;
        lines_are = rest.lines_are;
      }

  -- ---- which lines cannot follow

  pub first-only : (line : List ℕ) → (line ≡ first_line edition → ⊥) → CannotFollow edition [] line
  first-only line other entries others readable same = other (sym (head-inj same))

  pub others-only : (done : List Entry) (line : List ℕ) → AreReadable edition done
      → ((e : Entry) → IsReadable edition e → line ≡ spelling edition e → ⊥) → (line ≡ last_line (length done) → ⊥)
      → CannotFollow edition (first_line edition ∷ map (spelling edition) done) line
  others-only done line own no_entry no_last whole others readable same =
      let rest = goes_on done whole (length whole) (line ∷ others) own readable (sym (tail-inj same)) in
      by_others rest.others rest.readable rest.entries_are rest.lines_are
    where
      by_others : (es : List Entry) → AreReadable edition es → whole ≡ done ++ es
          → line ∷ others ≡ map (spelling edition) es ++ last_line (length whole) ∷ [] → ⊥
      by_others [] all are lines =
          let count : length whole ≡ length done = ap length are ∙ ap length (append-nil done) in
          no_last (head-inj lines ∙ ap last_line count)
      by_others (e ∷ es) all are lines = no_entry e all.0 (head-inj lines)

  pub none_behind : (done : List Entry) (line : List ℕ) → AreReadable edition done → CannotFollow edition (trace_lines edition done) line
  none_behind done line own whole others readable same =
      let split : map (spelling edition) done ++ last_line (length done) ∷ line ∷ others
      ≡ map (spelling edition) whole ++ last_line (length whole) ∷ [] =
      sym (append_assoc (map (spelling edition) done) (last_line (length done) ∷ []) (line ∷ others)) ∙ sym (tail-inj same) in
      let rest = goes_on done whole (length whole) (last_line (length done) ∷ line ∷ others) own readable split in
      by_others rest.others rest.lines_are
    where
      by_others : (es : List Entry) → last_line (length done) ∷ line ∷ others ≡ map (spelling edition) es ++ last_line (length whole) ∷ []
          → ⊥
      by_others [] lines = let e = tail-inj lines in absurd cc
      by_others (e ∷ es) lines = last-no_entry e (length done) (head-inj lines)

  -- the lines of entries without the last line are no trace's
  pub not_whole : (done whole : List Entry) → AreReadable edition done → AreReadable edition whole
      → first_line edition ∷ map (spelling edition) done ≡ trace_lines edition whole → ⊥
  not_whole done whole own readable same =
      let rest = goes_on done whole (length whole) [] own readable (append-nil (map (spelling edition) done) ∙ tail-inj same) in
      by_others rest.others rest.lines_are
    where
      by_others : (es : List Entry) → [] ≡ map (spelling edition) es ++ last_line (length whole) ∷ [] → ⊥
      by_others [] lines = cc
      by_others (e ∷ es) lines = cc

  -- two traces with the same lines have the same entries
  pub same_entries : (done whole : List Entry) → AreReadable edition done → AreReadable edition whole
      → trace_lines edition done ≡ trace_lines edition whole → done ≡ whole
  same_entries done whole own readable same =
      let rest = goes_on done whole (length whole) (last_line (length done) ∷ []) own readable (tail-inj same) in
      by_others rest.others rest.entries_are rest.lines_are
    where
      by_others : (es : List Entry) → whole ≡ done ++ es
          → last_line (length done) ∷ [] ≡ map (spelling edition) es ++ last_line (length whole) ∷ []
          → done ≡ whole
      by_others [] are lines = sym (are ∙ append-nil done)
      by_others (e ∷ es) are lines = absurd (last-no_entry e (length done) (head-inj lines))

  -- ---- by the stage

  pub later_refused : (stage after : Stage) (done kept : List Entry) (line : List ℕ) → stage ≡ Entries → after ≡ stage → kept ≡ done
      → AreReadable edition done → ((e : Entry) → IsReadable edition e → line ≡ spelling edition e → ⊥)
      → (line ≡ last_line (length done) → ⊥)
      → (lines_at edition after kept ≡ lines_at edition stage done) × CannotFollow edition (lines_at edition stage done) line
  later_refused First after done kept line is same more own no_entry no_last = absurd cc
  later_refused Entries after done kept line is same more own no_entry no_last =
      (ap (λ (s : Stage). lines_at edition s kept) same ∙ ap (lines_at edition Entries) more, others-only done line own no_entry no_last)
  later_refused Ended after done kept line is same more own no_entry no_last = absurd cc

  pub ended_refused : (stage : Stage) (done : List Entry) (line : List ℕ) → stage ≡ Ended → AreReadable edition done
      → CannotFollow edition (lines_at edition stage done) line
  ended_refused First done line is own = absurd cc
  ended_refused Entries done line is own = absurd cc
  ended_refused Ended done line is own = none_behind done line own
