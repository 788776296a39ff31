-- Which texts begin a trace, which line is a text's first fault, and what a reader in pieces was fed.
use Rattle.std.specs.Prelude.{ℕ, ◌≡◌, ◌<◌, ◌≤◌, ◌==◌, if◌then◌else◌, List, [], ◌∷◌, take, length, reverse}
use Rattle.sgx_rules.specs.declared.entries.Entry.{Entry}
use Rattle.trace_text.specs.declared.edition.Edition.{Edition}
use Rattle.trace_text.specs.Readable.{AreReadable}
use Rattle.trace_text.specs.TraceText.{trace_in}

-- the whole lines of a text, without their line feeds: what stands behind the last line feed is none
abbrev pub whole_lines : List ℕ → List (List ℕ)
whole_lines [] = []
whole_lines (c ∷ text) = if c == 10 then [] ∷ whole_lines text else onto_first (whole_lines text)
  where
    onto_first : List (List ℕ) → List (List ℕ)
    onto_first [] = []
    onto_first (line ∷ lines) = (c ∷ line) ∷ lines

-- the text in an edition of a trace whose entries stand oldest first
abbrev pub text_of : Edition → List Entry → List ℕ
text_of edition entries = trace_in edition (reverse entries)

-- some trace's text begins with the first so many lines of a text
pub record IsBegun (edition : Edition) (text : List ℕ) (n : ℕ) : Type 0 where
  pub entries : List Entry
  pub readable : AreReadable edition entries
  pub whole : n ≤ length (whole_lines text)
  pub same : take n (whole_lines text) ≡ take n (whole_lines (text_of edition entries))

-- the text is no trace's, and this is the least number of lines with which none begins
pub record IsFirstFault (edition : Edition) (text : List ℕ) (line : ℕ) : Type 0 where
  pub no_trace : (entries : List Entry) → AreReadable edition entries → text ≡ text_of edition entries → ⊥
  pub before : (n : ℕ) → n < line → IsBegun edition text n
  pub none : IsBegun edition text line → ⊥
