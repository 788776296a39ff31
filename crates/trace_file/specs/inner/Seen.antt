-- What a reader of an edition keeps of all bytes that it was given, also where the fault was found before the last of them.
use Rattle.std.specs.Prelude.{ℕ, ◌≡◌, List, ◌++◌}
use Rattle.trace_text.specs.declared.edition.Edition.{Edition}
use Rattle.trace_reader.specs.Faults.{IsFirstFault}
use Rattle.trace_reader.specs.inner.Faults.{Progress, Reading, Faulted}

abbrev pub HasSeen : Edition → Progress → List ℕ → Type 0
HasSeen edition (Reading of fed) bytes = Reading of fed ≡ Reading edition bytes
HasSeen edition (Faulted line) bytes = (more : List ℕ) → IsFirstFault edition (bytes ++ more) line
