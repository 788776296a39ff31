-- Which line of a text is its first fault, by the lines that a reader took.
use Rattle.std.proofs.Common.{◌≡◌, ℕ, zero, suc, ◌+◌, ◌<◌, ◌≤◌, ◌/◌, ◌%◌, if◌then◌else◌, true, false}
use Rattle.std.proofs.Common.{eqb, List, [], ◌∷◌, ◌++◌, length, map, take, drop, decimal, refl, sym, ap, ◌∙◌, arith}
use Rattle.std.proofs.Common.{append_assoc}
use Rattle.std.specs.Fmt.{digits, digits_onto, digit_glyph}
use Rattle.std.proofs.lemmas.List.{append-nil, append_cancel_left, length-append, take-append-le, take-append-drop, length-take}
use Rattle.std.proofs.lemmas.List.{take_all}
use Rattle.std.proofs.lemmas.List.Elements.{All-nil, All-cons, All-append, All-from_recursion}
use Rattle.std.proofs.lemmas.Bool.Decides.{nat_tests}
use Rattle.sgx_rules.specs.declared.entries.Entry.{Entry}
use Rattle.text_words.proofs.Splits.{IsApart}
use Rattle.trace_text.specs.declared.edition.Edition.{Edition}
use Rattle.trace_text.specs.declared.edition.Edition.TheVariants as editions
use Rattle.trace_text.specs.Readable.{AreReadable}
use Rattle.trace_text.specs.TraceText.{spelling}
use Rattle.trace_lines.proofs.LineReads.{spelling_apart}
use Rattle.trace_reader.specs.declared.lines.Lines.{Lines}
use Rattle.trace_reader.specs.declared.lines.Stage.{Stage}
use Rattle.trace_reader.specs.declared.lines.Stage.TheVariants.{First, Entries, Ended}
use Rattle.trace_reader.specs.Faults.{IsBegun, IsFirstFault, text_of, whole_lines}
use Rattle.trace_reader.specs.inner.Lines.{CannotFollow, HasNoFeed, IsKept, IsRefused, first_line, joined, last_line, lines_at}
use Rattle.trace_reader.specs.inner.Lines.{taken}
use Rattle.trace_reader.specs.inner.Lines.{trace_lines}
use Rattle.trace_reader.proofs.TextLaws.{AreApart, text-joined, whole-all, whole-joined, whole-line, whole-part}
use Rattle.trace_reader.proofs.FollowLaws.{not_whole, same_entries}

abbrev Other : ℕ → Type 0
Other b = eqb b 10 ≡ false

-- ---- no line of a trace has a line feed

glyph-apart : (d : ℕ) → Other (digit_glyph false d)
glyph-apart d = grind (arith, nat_tests)

digits-apart : (k n : ℕ) (acc : List ℕ) → IsApart 10 acc → IsApart 10 (digits_onto k 10 false n acc)
digits-apart zero n acc apart = apart
digits-apart (suc k) n acc apart =
    let more : IsApart 10 (digit_glyph false (n % 10) ∷ acc) =
    All-cons Other (digit_glyph false (n % 10)) acc (glyph-apart (n % 10)) apart in
    elim (eqb (n / 10) 0) as (λ last. IsApart 10
    (if last then digit_glyph false (n % 10) ∷ acc else digits_onto k 10 false (n / 10) (digit_glyph false (n % 10) ∷ acc))) [
      | true ↦ more
      | false ↦ digits-apart k (n / 10) (digit_glyph false (n % 10) ∷ acc) more
    ]

decimal-apart : (n : ℕ) → IsApart 10 (decimal n)
unfolding digits
decimal-apart n = digits-apart 64 n [] (All-nil Other)

last-apart : (n : ℕ) → IsApart 10 (last_line n)
last-apart n =
    All-append Other (101 ∷ 110 ∷ 100 ∷ 32 ∷ []) (decimal n)
    (All-from_recursion Other (101 ∷ 110 ∷ 100 ∷ 32 ∷ []) (refl, (refl, (refl, (refl, tt))))) (decimal-apart n)

-- ---- lines that were taken behind others

pub front_trans : (a b c : List Entry) → take (length a) b ≡ a → take (length b) c ≡ b → take (length a) c ≡ a
front_trans a b c first second =
    let short = ap length first in
    ap (take (length a)) (sym (take-append-drop (length b) c))
    ∙ ap (λ (front : List Entry). take (length a) (front ++ drop (length b) c)) second
    ∙ take-append-le (length a) b (drop (length b) c) (omega (arith, short, length-take (length a) b))
    ∙ first

-- ---- in an edition

module _ (edition : Edition) where
  first-apart : IsApart 10 (first_line edition)
  first-apart = by_edition edition
    where
      by_edition : (of : Edition) → IsApart 10 (first_line of)
      by_edition editions.One = All-from_recursion Other (first_line editions.One)
          (refl, (refl, (refl, (refl, (refl, (refl, (refl, tt)))))))
      by_edition editions.Two = All-from_recursion Other (first_line editions.Two)
          (refl, (refl, (refl, (refl, (refl, (refl, (refl, tt)))))))

  spellings-apart : (entries : List Entry) → AreReadable edition entries → AreApart (map (spelling edition) entries)
  spellings-apart [] all = tt
  spellings-apart (e ∷ entries) all = (spelling_apart edition e all.0, spellings-apart entries all.1)

  apart-append : (lines others : List (List ℕ)) → AreApart lines → AreApart others → AreApart (lines ++ others)
  apart-append [] others all rest = rest
  apart-append (line ∷ lines) others all rest = (all.0, apart-append lines others all.1 rest)

  pub trace-apart : (entries : List Entry) → AreReadable edition entries → AreApart (trace_lines edition entries)
  trace-apart entries all = (
    first-apart,
    apart-append (map (spelling edition) entries) (last_line (length entries) ∷ []) (spellings-apart entries all)
        (last-apart (length entries), tt),
  )

  pub lines-apart : (stage : Stage) (entries : List Entry) → AreReadable edition entries → AreApart (lines_at edition stage entries)
  lines-apart First entries all = tt
  lines-apart Entries entries all = (first-apart, spellings-apart entries all)
  lines-apart Ended entries all = trace-apart entries all

  pub whole-text : (entries : List Entry) → AreReadable edition entries
      → whole_lines (text_of edition entries) ≡ trace_lines edition entries
  whole-text entries all = ap whole_lines (text-joined edition entries) ∙ whole-all (trace_lines edition entries) (trace-apart entries all)

  -- ---- some trace begins with the lines that were taken

  pub record Begins (lines : List (List ℕ)) : Type 0 where
    pub entries : List Entry
    pub readable : AreReadable edition entries
    pub others : List (List ℕ)
    pub same : trace_lines edition entries ≡ lines ++ others

  begins : (stage : Stage) (entries : List Entry) → AreReadable edition entries → Begins (lines_at edition stage entries)
  begins First entries all = record { entries = []; readable = tt; others = trace_lines edition []; same = refl }
  begins Entries entries all = record { entries = entries; readable = all; others = last_line (length entries) ∷ []; same = refl }
  begins Ended entries all = record {
    entries = entries;
    readable = all;
    others = [];
    same = sym
        (append-nil (trace_lines edition entries));
  }

  begun-at : (lines : List (List ℕ)) (text : List ℕ) (more : List (List ℕ)) (n : ℕ) → Begins lines → whole_lines text ≡ lines ++ more
      → n ≤ length lines → IsBegun edition text n
  begun-at lines text more n b whole within = record {
    entries = b.entries;
    readable = b.readable;
    whole = let e = ap length whole ∙ length-append lines more in omega (arith, e);
    same = ap (take n) whole ∙ take-append-le n lines more within ∙ sym (take-append-le n lines b.others within)
        ∙ ap (take n) (sym b.same) ∙ ap (take n) (sym (whole-text b.entries b.readable));
  }

  -- ---- faults

  -- a line with which no trace goes on is the first fault, whatever follows
  refused-first : (stage : Stage) (entries : List Entry) (line rest : List ℕ) (text : List ℕ) → AreReadable edition entries
      → IsApart 10 line
      → CannotFollow edition (lines_at edition stage entries) line → text ≡ joined (lines_at edition stage entries) ++ line ++ 10 ∷ rest
      → IsFirstFault edition text (length (lines_at edition stage entries) + 1)
  refused-first stage entries line rest text all apart refused same =
      let lines = lines_at edition stage entries in
      let whole : whole_lines text ≡ lines ++ line ∷ whole_lines rest =
      ap whole_lines (same ∙ append_assoc (joined lines) line (10 ∷ rest))
      ∙ whole-joined lines (line ++ 10 ∷ rest) (lines-apart stage entries all)
      ∙ ap (λ (others : List (List ℕ)). lines ++ others) (whole-line line rest apart) in
      record {
        no_trace = λ es readable text_is.
            refused es (whole_lines rest) readable (sym (whole-text es readable) ∙ ap whole_lines (sym text_is) ∙ whole);
        before = λ n below. begun-at lines text (line ∷ whole_lines rest) n (begins stage entries all) whole (omega arith);
        none = λ begun. none_begun lines line (whole_lines rest) text refused whole begun;
      }
    where
      none_begun : (lines : List (List ℕ)) (line : List ℕ) (others : List (List ℕ)) (text : List ℕ) → CannotFollow edition lines line
          → whole_lines text ≡ lines ++ line ∷ others → IsBegun edition text (length lines + 1) → ⊥
      none_begun lines line others text refused whole begun =
          let n = length lines + 1 in
          let front : take n (lines ++ line ∷ others) ≡ lines ++ line ∷ [] =
          ap (take n) (sym (append_assoc lines (line ∷ []) others))
          ∙ take-append-le n (lines ++ line ∷ []) others (omega (arith, length-append lines (line ∷ [])))
          ∙ take_all n (lines ++ line ∷ []) (omega (arith, length-append lines (line ∷ []))) in
          let same : take n (trace_lines edition begun.entries) ≡ lines ++ line ∷ [] =
          ap (take n) (sym (whole-text begun.entries begun.readable)) ∙ sym begun.same ∙ ap (take n) whole ∙ front in
          refused begun.entries (drop n (trace_lines edition begun.entries)) begun.readable
          (sym (take-append-drop n (trace_lines edition begun.entries))
          ∙ ap (λ (front : List (List ℕ)). front ++ drop n (trace_lines edition begun.entries)) same
          ∙ append_assoc lines (line ∷ []) (drop n (trace_lines edition begun.entries)))

  pub refused_fault : (lines : Lines) (text more : List ℕ) → IsKept edition lines → IsRefused edition text (taken edition lines)
      → IsFirstFault edition (text ++ more) (length (taken edition lines) + 1)
  refused_fault lines text more kept refused =
      refused-first lines.stage lines.entries.items refused.line (refused.rest ++ more)
      (text ++ more) kept.readable refused.apart refused.refused
      (ap (λ (t : List ℕ). t ++ more) refused.same
      ∙ append_assoc (joined (taken edition lines) ++ refused.line) (10 ∷ refused.rest) more)

  -- whole lines and a part of one begin a trace
  pub taken_begun : (lines : Lines) (text part : List ℕ) → IsKept edition lines → HasNoFeed part
      → text ≡ joined (taken edition lines) ++ part
      → IsBegun edition text (length (whole_lines text))
  taken_begun lines text part kept apart same =
      let whole : whole_lines text ≡ taken edition lines ++ [] =
      ap whole_lines same ∙ whole-joined (taken edition lines) part (lines-apart lines.stage lines.entries.items kept.readable)
      ∙ ap (λ (others : List (List ℕ)). taken edition lines ++ others) (whole-part part apart) in
      let few = ap length whole ∙ length-append (taken edition lines) [] in
      begun-at (taken edition lines) text [] (length (whole_lines text)) (begins lines.stage lines.entries.items kept.readable) whole
      (omega (arith, few))

  -- a text that ends before its trace does has its first fault in the line that is missing
  cut-fault : (stage : Stage) (entries : List Entry) (part text : List ℕ) → AreReadable edition entries → IsApart 10 part
      → text ≡ joined (lines_at edition stage entries) ++ part
      → ((es : List Entry) → AreReadable edition es → text ≡ text_of edition es → ⊥)
      → IsFirstFault edition text (length (lines_at edition stage entries) + 1)
  cut-fault stage entries part text all apart same other =
      let lines = lines_at edition stage entries in
      let whole : whole_lines text ≡ lines ++ [] =
      ap whole_lines same ∙ whole-joined lines part (lines-apart stage entries all)
      ∙ ap (λ (others : List (List ℕ)). lines ++ others) (whole-part part apart) in
      let few = ap length whole ∙ length-append lines [] in
      record {
        no_trace = other;
        before = λ n below. begun-at lines text [] n (begins stage entries all) whole (omega arith);
        none = λ begun. let most = begun.whole in omega (arith, few, most);
      }

  -- what is left of a text without its whole lines is nothing where it is a trace's
  text-parts : (stage : Stage) (entries es : List Entry) (part text : List ℕ) → AreReadable edition entries → IsApart 10 part
      → text ≡ joined (lines_at edition stage entries) ++ part → AreReadable edition es → text ≡ text_of edition es
      → (lines_at edition stage entries ≡ trace_lines edition es) × (part ≡ [])
  text-parts stage entries es part text all apart same readable is =
      let lines = lines_at edition stage entries in
      let whole : lines ≡ trace_lines edition es =
      sym (append-nil lines) ∙ sym (ap (λ (others : List (List ℕ)). lines ++ others) (whole-part part apart))
      ∙ sym (whole-joined lines part (lines-apart stage entries all)) ∙ sym (ap whole_lines same)
      ∙ ap whole_lines is ∙ whole-text es readable in
      let both : joined lines ++ part ≡ joined lines ++ [] =
      sym same ∙ is ∙ text-joined edition es ∙ ap joined (sym whole) ∙ sym (append-nil (joined lines)) in
      (whole, append_cancel_left (joined lines) part [] both)

  pub part_fault : (lines : Lines) (part : List ℕ) → IsKept edition lines → HasNoFeed part → (part ≡ [] → ⊥)
      → IsFirstFault edition (joined (taken edition lines) ++ part) (length (taken edition lines) + 1)
  part_fault lines part kept apart some =
      cut-fault lines.stage lines.entries.items part (joined (taken edition lines) ++ part) kept.readable apart refl
      (λ es readable is. some (text-parts lines.stage lines.entries.items es part
      (joined (taken edition lines) ++ part) kept.readable apart refl readable is).1)

  unended : (stage : Stage) (entries es : List Entry) → (stage ≡ Ended → ⊥) → AreReadable edition entries → AreReadable edition es
      → lines_at edition stage entries ≡ trace_lines edition es → ⊥
  unended First entries es other all readable same = cc
  unended Entries entries es other all readable same = not_whole edition entries es all readable same
  unended Ended entries es other all readable same = other refl

  pub end_fault : (lines : Lines) (part : List ℕ) → IsKept edition lines → HasNoFeed part → (lines.stage ≡ Ended → ⊥)
      → IsFirstFault edition (joined (taken edition lines) ++ part) (length (taken edition lines) + 1)
  end_fault lines part kept apart other =
      cut-fault lines.stage lines.entries.items part (joined (taken edition lines) ++ part) kept.readable apart refl
      (λ es readable is. unended lines.stage lines.entries.items es other kept.readable readable
      (text-parts lines.stage lines.entries.items es part (joined (taken edition lines) ++ part) kept.readable apart refl readable is).0)

  -- the lines of a trace are its text
  pub ended_text : (lines : Lines) (part : List ℕ) → lines.stage ≡ Ended → part ≡ []
      → joined (taken edition lines) ++ part ≡ text_of edition lines.entries.items
  ended_text lines part is none =
      ap (λ (p : List ℕ). joined (taken edition lines) ++ p) none ∙ append-nil (joined (taken edition lines))
      ∙ ap (λ (stage : Stage). joined (lines_at edition stage lines.entries.items)) is ∙ sym (text-joined edition lines.entries.items)

  -- ---- one text

  pub same_text : (entries others : List Entry) → AreReadable edition entries → AreReadable edition others
      → text_of edition entries ≡ text_of edition others
      → entries ≡ others
  same_text entries others own readable same =
      same_entries edition entries others own readable (sym (whole-text entries own) ∙ ap whole_lines same ∙ whole-text others readable)
