-- Why there is no old trace.
use Rattle.std.specs.Prelude.{ℕ, List, Option, Err}
use Rattle.trace_file.specs.declared.unread.Unread.{Unread}
use Rattle.trace_file.specs.declared.unread.Unread.TheVariants.{Bad}
use Rattle.trace_text.specs.declared.edition.Edition.{Edition}
use Rattle.trace_file.specs.Reading.{Reads, OfRead}

-- where there is no trace for a fault of its text, it is what reading the bytes gives
abbrev pub IsFaultOf : Edition → Option (List ℕ) → Unread → Type 0
IsFaultOf edition left (Bad line) = OfRead left (λ bytes. Reads edition bytes (Err line))
IsFaultOf edition left _ = Unit {0}
