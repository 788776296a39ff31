-- What a reader of traces answers, and what it was fed then.
use Rattle.std.specs.Prelude.{ℕ, ◌≡◌, List, ◌++◌, length, Result, Ok, Err}
use Rattle.sgx_rules.specs.declared.entries.Entry.{Entry}
use Rattle.trace_text.specs.declared.edition.Edition.{Edition}
use Rattle.trace_text.specs.Readable.{AreReadable}
use Rattle.trace_reader.specs.declared.refusals.TraceRefusal.{TraceRefusal}
use Rattle.trace_reader.specs.declared.refusals.TraceRefusal.TheVariants.{Fault, Memory}
use Rattle.trace_reader.specs.Faults.{IsBegun, IsFirstFault, text_of, whole_lines}
use Rattle.trace_reader.specs.inner.Faults.{Progress, Reading, Faulted}

-- a piece is behind what was fed where some trace begins with the whole lines; else the first fault is told, which nothing that
-- follows could mend
abbrev pub Feeds : Progress → List ℕ → Result (Unit {0}) TraceRefusal → Progress → Type 0
Feeds (Reading edition fed) piece (Ok done) after =
    (after ≡ Reading edition (fed ++ piece)) × IsBegun edition (fed ++ piece) (length (whole_lines (fed ++ piece)))
Feeds (Reading edition fed) piece (Err (Fault line)) after =
    (after ≡ Faulted line) × ((more : List ℕ) → IsFirstFault edition ((fed ++ piece) ++ more) line)
Feeds (Reading edition fed) piece (Err Memory) after = after ≡ Reading edition fed
Feeds (Faulted line) piece result after = (result ≡ Err (Fault line)) × (after ≡ Faulted line)

-- the entries are the trace's, or the fault is the text's first
abbrev pub Tells : Edition → List ℕ → Result (List Entry) TraceRefusal → Type 0
Tells edition text (Ok entries) = AreReadable edition entries × (text ≡ text_of edition entries)
Tells edition text (Err (Fault line)) = IsFirstFault edition text line
Tells edition text (Err Memory) = Unit {0}

-- the end of the text that was fed; no memory is taken
abbrev pub Finishes : Progress → Result (List Entry) TraceRefusal → Type 0
Finishes (Reading edition fed) (Err Memory) = ⊥
Finishes (Reading edition fed) result = Tells edition fed result
Finishes (Faulted line) result = result ≡ Err (Fault line)
