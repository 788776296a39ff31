-- The table of an enclave's pages: which line adds each page, by the page's number.
use Rattle.std.specs.Prelude.{◌≡◌, ℕ, ◌≤◌, true, if◌then◌else◌, List, Option, Some, None, slice_index_or, count_by}
use Rattle.std.specs.Prelude.{find}
use Rattle.job_grammar.specs.declared.jobs.PageLine.{PageLine}
use Rattle.job_grammar.specs.Jobs.{covers}

-- the line that adds each page, the first at 0
abbrev pub Table : Type 0
Table = List (Option PageLine)

-- the line that adds a page by the table
abbrev pub line_at : Table → ℕ → Option PageLine
line_at table n = slice_index_or table n None

-- the table is that of these lines
abbrev pub IsTableOf : List PageLine → Table → Type 0
IsTableOf lines table = (n : ℕ) → line_at table n ≡ find (covers n) lines

-- the table is that of these lines, which add no page twice
pub record Tells (table : Table) (lines : List PageLine) : Type 0 where
  pub of : IsTableOf lines table
  pub once : (n : ℕ) → count_by (covers n) lines ≤ 1

-- the table with the pages of one line more, none of which it had before
abbrev pub AddsLine : Table → Table → PageLine → Type 0
AddsLine old new line =
    (n : ℕ) → (line_at new n ≡ (if covers n line then Some line else line_at old n)) × (covers n line ≡ true → line_at old n ≡ None)
