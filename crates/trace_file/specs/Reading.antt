-- What reading an old trace gives: its entries, or the first faulty line.
use Rattle.std.specs.Prelude.{ℕ, ◌≡◌, ◌^◌, ◌<◌, ◌≤◌, ◌⊎◌, List, ◌++◌, Option, IfSome, Result, Ok, Err}
use Rattle.std.specs.Prelude.{codes, length}
use Rattle.std.specs.Fmt.{decimal}
use Rattle.sgx_rules.specs.declared.entries.Entry.{Entry}
use Rattle.trace_reader.specs.Faults.{IsFirstFault, text_of}
use Rattle.trace_text.specs.declared.edition.Edition.{Edition}
use Rattle.trace_text.specs.Readable.{AreReadable}

-- The bytes are the text in an edition of these entries, which stand oldest first; or this is their first line with which no trace goes
-- on, and line 0 where they are too many.
abbrev pub Reads : Edition → List ℕ → Result (List Entry) ℕ → Type 0
Reads edition bytes (Ok entries) = (length bytes ≤ 2 ^ 30) × AreReadable edition entries × (bytes ≡ text_of edition entries)
Reads edition bytes (Err line) =
    ((2 ^ 30 < length bytes) × (line ≡ 0)) ⊎ ((length bytes ≤ 2 ^ 30) × IsFirstFault edition bytes line)

-- a fact of the bytes that a source had, where it tells them, and of some bytes otherwise
abbrev pub OfRead : Option (List ℕ) → (List ℕ → Type 0) → Type 0
OfRead left P = (bytes : List ℕ) × IfSome left (λ all. bytes ≡ all) × P bytes

-- the line on the first fault of a trace
abbrev pub trace_fault_line : ℕ → List ℕ
trace_fault_line line = codes "trace line " ++ decimal line ++ codes "\n"
