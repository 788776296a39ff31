-- The lines of a trace, and those that a reader has taken.
use Rattle.std.specs.Prelude.{ℕ, ◌≡◌, ◌==◌, Bool, true, false, All, List, [], ◌∷◌, ◌++◌, codes, length, map}
use Rattle.std.specs.Fmt.{decimal}
use Rattle.sgx_rules.specs.declared.entries.Entry.{Entry}
use Rattle.trace_text.specs.declared.edition.Edition.{Edition}
use Rattle.trace_text.specs.Names.{edition_word}
use Rattle.trace_text.specs.Readable.{AreReadable}
use Rattle.trace_text.specs.TraceText.{spelling}
use Rattle.trace_reader.specs.declared.lines.Stage.{Stage}
use Rattle.trace_reader.specs.declared.lines.Stage.TheVariants.{First, Entries, Ended}
use Rattle.trace_reader.specs.declared.lines.Lines.{Lines}

-- lines with their line feeds
abbrev pub joined : List (List ℕ) → List ℕ
joined [] = []
joined (line ∷ lines) = line ++ 10 ∷ joined lines

abbrev pub first_line : Edition → List ℕ
first_line edition = codes "trace" ++ 32 ∷ edition_word edition

abbrev pub last_line : ℕ → List ℕ
last_line count = codes "end" ++ 32 ∷ decimal count

-- the lines of a trace whose entries stand oldest first
abbrev pub trace_lines : Edition → List Entry → List (List ℕ)
trace_lines edition entries = first_line edition ∷ map (spelling edition) entries ++ last_line (length entries) ∷ []

-- the lines that were taken
abbrev pub lines_at : Edition → Stage → List Entry → List (List ℕ)
lines_at edition First entries = []
lines_at edition Entries entries = first_line edition ∷ map (spelling edition) entries
lines_at edition Ended entries = trace_lines edition entries

abbrev pub is_last_stage : Stage → Bool
is_last_stage Ended = true
is_last_stage stage = false

abbrev pub taken : Edition → Lines → List (List ℕ)
taken edition lines = lines_at edition lines.stage lines.entries.items

-- no entry stands before the first line
abbrev pub NoneBefore : Stage → List Entry → Type 0
NoneBefore First entries = entries ≡ []
NoneBefore stage entries = Unit {0}

pub record IsKept (edition : Edition) (lines : Lines) : Type 0 where
  pub readable : AreReadable edition lines.entries.items
  pub none : NoneBefore lines.stage lines.entries.items

-- in no trace does the line stand behind these lines
abbrev pub CannotFollow : Edition → List (List ℕ) → List ℕ → Type 0
CannotFollow edition lines line =
    (entries : List Entry) (others : List (List ℕ)) → AreReadable edition entries → trace_lines edition entries ≡ lines ++ line ∷ others → ⊥

abbrev pub HasNoFeed : List ℕ → Type 0
HasNoFeed bytes = All (λ b. (b == 10) ≡ false) bytes

-- the text is these lines and what stands behind them, which has no line feed
pub record IsTaken (text : List ℕ) (lines : List (List ℕ)) (rest : List ℕ) : Type 0 where
  pub same : text ≡ joined lines ++ rest
  pub apart : HasNoFeed rest

-- behind these lines the text has one with which no trace goes on
pub record IsRefused (edition : Edition) (text : List ℕ) (lines : List (List ℕ)) : Type 0 where
  pub line : List ℕ
  pub rest : List ℕ
  pub same : text ≡ joined lines ++ line ++ 10 ∷ rest
  pub apart : HasNoFeed line
  pub refused : CannotFollow edition lines line
