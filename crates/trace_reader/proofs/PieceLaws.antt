-- Lines of a piece that are taken or refused, and what a text lacks that ends.
use Rattle.std.proofs.Common.{◌≡◌, ℕ, suc, arith, ◌+◌, Bool, true, false, eqb, List, [], ◌∷◌, ◌++◌, Option, Some}
use Rattle.std.proofs.Common.{None, Ok, Err, MatchBool, length, refl, sym, ap, subst, ◌∙◌, append_assoc}
use Rattle.std.proofs.lemmas.Bool.{ne_eqb}
use Rattle.std.proofs.lemmas.List.{append-nil}
use Rattle.trace_text.specs.declared.edition.Edition.{Edition}
use Rattle.trace_reader.specs.declared.refusals.TraceRefusal.{TraceRefusal}
use Rattle.trace_reader.specs.declared.refusals.TraceRefusal.TheVariants.{Fault, Memory}
use Rattle.trace_reader.specs.declared.lines.Lines.{Lines}
use Rattle.trace_reader.specs.declared.lines.Stage.{Stage}
use Rattle.trace_reader.specs.declared.lines.Stage.TheVariants.{First, Entries, Ended}
use Rattle.trace_reader.specs.Faults.{IsFirstFault, text_of}
use Rattle.trace_reader.specs.inner.Faults.{Progress, Reading}
use Rattle.trace_reader.specs.inner.Kept.{progress_at}
use Rattle.trace_reader.specs.inner.Lines.{CannotFollow, HasNoFeed, IsKept, IsRefused, IsTaken, is_last_stage, joined, taken}
use Rattle.trace_reader.specs.inner.Outcomes.{Feeds, Finishes, Tells}
use Rattle.trace_reader.proofs.TextLaws.{one_line}
use Rattle.trace_reader.proofs.FaultLaws.{end_fault, ended_text, part_fault, refused_fault}

-- ---- a line is taken or refused

module _ (edition : Edition) where
  pub refused_more : (text : List ℕ) (before after : List (List ℕ)) (rest line behind : List ℕ) (is_next : Bool)
      → text ≡ joined before ++ rest → HasNoFeed line → rest ≡ line ++ 10 ∷ behind
      → MatchBool is_next (after ≡ before ++ line ∷ []) ((after ≡ before) × CannotFollow edition before line) → is_next ≡ false
      → IsRefused edition text after
  refused_more text before after rest line behind true same apart cut took unmet = absurd cc
  refused_more text before after rest line behind false same apart cut took unmet =
      subst (IsRefused edition text) (sym took.0) (record {
        line = line;
        rest = behind;
        same = same ∙ ap (λ (r : List ℕ). joined before ++ r) cut ∙ sym (append_assoc (joined before) line (10 ∷ behind));
        apart = apart;
        refused = took.1;
      })

  pub taken_more : (text : List ℕ) (before after : List (List ℕ)) (rest line behind : List ℕ) (is_next : Bool)
      → text ≡ joined before ++ rest → rest ≡ line ++ 10 ∷ behind
      → MatchBool is_next (after ≡ before ++ line ∷ []) ((after ≡ before) × CannotFollow edition before line) → is_next ≡ true
      → text ≡ joined after ++ behind
  taken_more text before after rest line behind false same cut took met = absurd cc
  taken_more text before after rest line behind true same cut took met =
      same ∙ ap (λ (r : List ℕ). joined before ++ r) cut ∙ sym (append_assoc (joined before) line (10 ∷ behind))
      ∙ sym (one_line before line behind) ∙ ap (λ (lines : List (List ℕ)). joined lines ++ behind) (sym took)

  -- ---- the lines behind one that was taken

  one-more : (before middle : List (List ℕ)) (line behind : List ℕ) (is_next : Bool)
      → MatchBool is_next (middle ≡ before ++ line ∷ []) ((middle ≡ before) × CannotFollow edition before line) → is_next ≡ true
      → joined middle ++ behind ≡ joined before ++ line ++ 10 ∷ behind
  one-more before middle line behind false took met = absurd cc
  one-more before middle line behind true took met =
      ap (λ (lines : List (List ℕ)). joined lines ++ behind) took ∙ one_line before line behind

  pub taken_behind : (before middle after : List (List ℕ)) (line behind rest own : List ℕ) (is_next : Bool)
      → MatchBool is_next (middle ≡ before ++ line ∷ []) ((middle ≡ before) × CannotFollow edition before line) → is_next ≡ true
      → IsTaken (joined middle ++ behind) after rest → own ≡ rest → IsTaken (joined before ++ line ++ 10 ∷ behind) after own
  taken_behind before middle after line behind rest own is_next took met all same =
      subst (λ (text : List ℕ). IsTaken text after own) (one-more before middle line behind is_next took met)
      (subst (λ (r : List ℕ). IsTaken (joined middle ++ behind) after r) (sym same) all)

  pub refused_behind : (before middle after : List (List ℕ)) (line behind : List ℕ) (is_next : Bool)
      → MatchBool is_next (middle ≡ before ++ line ∷ []) ((middle ≡ before) × CannotFollow edition before line) → is_next ≡ true
      → IsRefused edition (joined middle ++ behind) after → IsRefused edition (joined before ++ line ++ 10 ∷ behind) after
  refused_behind before middle after line behind is_next took met refused =
      subst (λ (text : List ℕ). IsRefused edition text after) (one-more before middle line behind is_next took met) refused

  -- ---- a piece

  pub piece_fault : (lines : Lines) (head part own piece end behind : List ℕ) (count : ℕ) → IsKept edition lines
      → IsRefused edition (head ++ (own ++ end) ++ 10 ∷ behind) (taken edition lines) → own ≡ part → piece ≡ end ++ 10 ∷ behind
      → count ≡ length (taken edition lines)
      → (more : List ℕ) → IsFirstFault edition (((head ++ part) ++ piece) ++ more) (count + 1)
  piece_fault lines head part own piece end behind count kept refused same cut is more =
      let text : head ++ (own ++ end) ++ 10 ∷ behind ≡ (head ++ part) ++ piece =
      ap (λ (p : List ℕ). head ++ (p ++ end) ++ 10 ∷ behind) same
      ∙ ap (λ (t : List ℕ). t ++ 10 ∷ behind) (sym (append_assoc head part end))
      ∙ append_assoc (head ++ part) end (10 ∷ behind)
      ∙ ap (λ (t : List ℕ). (head ++ part) ++ t) (sym cut) in
      subst (λ (t : List ℕ). IsFirstFault edition (t ++ more) (count + 1)) text
      (subst (λ (n : ℕ). IsFirstFault edition ((head ++ (own ++ end) ++ 10 ∷ behind) ++ more) (n + 1)) (sym is)
      (refused_fault edition lines (head ++ (own ++ end) ++ 10 ∷ behind) more kept refused))

  -- ---- the end of a text

  empty-from : (xs : List ℕ) → eqb (length xs) 0 ≡ true → xs ≡ []
  empty-from [] is = refl
  empty-from (x ∷ xs) is = let other = ne_eqb (suc (length xs)) 0 (λ e. omega arith) in absurd (let f : false ≡ true = sym other ∙ is in cc)

  some-from : (xs : List ℕ) → eqb (length xs) 0 ≡ false → xs ≡ [] → ⊥
  some-from [] is same = cc
  some-from (x ∷ xs) is same = cc

  ended-from : (stage : Stage) → is_last_stage stage ≡ true → stage ≡ Ended
  ended-from First is = absurd cc
  ended-from Entries is = absurd cc
  ended-from Ended is = refl

  unended-from : (stage : Stage) → is_last_stage stage ≡ false → stage ≡ Ended → ⊥
  unended-from First is same = cc
  unended-from Entries is same = cc
  unended-from Ended is same = cc

  at-count : (text : List ℕ) (count own : ℕ) → count ≡ own → IsFirstFault edition text (own + 1) → IsFirstFault edition text (count + 1)
  at-count text count own is first = subst (λ (n : ℕ). IsFirstFault edition text (n + 1)) (sym is) first

  pub missing_part : (lines : Lines) (part : List ℕ) (empty : Bool) (count : ℕ) → IsKept edition lines → HasNoFeed part
      → empty ≡ eqb (length part) 0 → empty ≡ false → count ≡ length (taken edition lines)
      → IsFirstFault edition (joined (taken edition lines) ++ part) (count + 1)
  missing_part lines part empty count kept apart test unmet is =
      at-count (joined (taken edition lines) ++ part) count (length (taken edition lines)) is
      (part_fault edition lines part kept apart (some-from part (sym test ∙ unmet)))

  pub missing_end : (lines : Lines) (part : List ℕ) (ended : Bool) (count : ℕ) → IsKept edition lines → HasNoFeed part
      → ended ≡ is_last_stage lines.stage → ended ≡ false → count ≡ length (taken edition lines)
      → IsFirstFault edition (joined (taken edition lines) ++ part) (count + 1)
  missing_end lines part ended count kept apart test unmet is =
      at-count (joined (taken edition lines) ++ part) count (length (taken edition lines)) is
      (end_fault edition lines part kept apart (unended-from lines.stage (sym test ∙ unmet)))

  pub missing_none : (lines : Lines) (part : List ℕ) (empty ended : Bool) → empty ≡ eqb (length part) 0 → empty ≡ true
      → ended ≡ is_last_stage lines.stage → ended ≡ true → joined (taken edition lines) ++ part ≡ text_of edition lines.entries.items
  missing_none lines part empty ended test met stage end =
      ended_text edition lines part (ended-from lines.stage (sym stage ∙ end)) (empty-from part (sym test ∙ met))

  pub finishes_ok : (before : Progress) (fault : Option ℕ) (lines : Lines) (part own : List ℕ)
      → progress_at edition fault (joined (taken edition lines) ++ part) ≡ before → fault ≡ None → IsKept edition lines → own ≡ part
      → joined (taken edition lines) ++ own ≡ text_of edition lines.entries.items → Finishes before (Ok lines.entries.items)
  finishes_ok before None lines part own is none kept same text =
      subst (λ p. Finishes p (Ok lines.entries.items)) is
      (kept.readable, ap (λ (p : List ℕ). joined (taken edition lines) ++ p) (sym same) ∙ text)
  finishes_ok before (Some line) lines part own is none kept same text = absurd cc

  pub finishes_fault : (before : Progress) (fault : Option ℕ) (lines : Lines) (part own : List ℕ) (line : ℕ)
      → progress_at edition fault (joined (taken edition lines) ++ part) ≡ before → fault ≡ None → own ≡ part
      → IsFirstFault edition (joined (taken edition lines) ++ own) line → Finishes before (Err (Fault line))
  finishes_fault before None lines part own line is none same first =
      subst (λ p. Finishes p (Err (Fault line))) is
      (subst (λ (p : List ℕ). IsFirstFault edition (joined (taken edition lines) ++ p) line) same first)
  finishes_fault before (Some other) lines part own line is none same first = absurd cc

  -- ---- a whole text

  pub tells_refused : (before after : Progress) (bytes : List ℕ) (refusal : TraceRefusal) → before ≡ Reading edition []
      → Feeds before bytes (Err refusal) after → Tells edition bytes (Err refusal)
  tells_refused before after bytes refusal is feeds = by_refusal refusal (subst (λ p. Feeds p bytes (Err refusal) after) is feeds)
    where
      by_refusal : (why : TraceRefusal) → Feeds (Reading edition []) bytes (Err why) after → Tells edition bytes (Err why)
      by_refusal (Fault line) told = subst (λ (text : List ℕ). IsFirstFault edition text line) (append-nil bytes) (told.1 [])
      by_refusal Memory told = tt
