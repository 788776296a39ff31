-- What a reader in pieces was fed.
use Rattle.std.specs.Prelude.{ℕ, List}
use Rattle.trace_text.specs.declared.edition.Edition.{Edition}

-- what a reader of an edition was fed so far, of which each whole line was one of a trace, or the line of its fault
pub data Progress : Type 0 where
  Reading : (edition : Edition) → (fed : List ℕ) → Progress
  Faulted : (line : ℕ) → Progress
