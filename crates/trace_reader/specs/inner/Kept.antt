-- What a reader in pieces keeps.
use Rattle.std.specs.Prelude.{ℕ, List, Option, Some, None, ◌++◌}
use Rattle.trace_reader.specs.declared.reader.TraceReader.TheInside.{Inside}
use Rattle.trace_text.specs.declared.edition.Edition.{Edition}
use Rattle.trace_reader.specs.inner.Faults.{Progress, Reading, Faulted}
use Rattle.trace_reader.specs.inner.Lines.{HasNoFeed, IsKept, joined, taken}

abbrev pub progress_at : Edition → Option ℕ → List ℕ → Progress
progress_at edition None fed = Reading edition fed
progress_at edition (Some line) fed = Faulted line

-- the lines that were taken, and the part of one
abbrev pub progress_of : Inside → Progress
progress_of reader = progress_at reader.edition reader.fault (joined (taken reader.edition reader.lines) ++ reader.part.items)

pub record IsWhole (reader : Inside) : Type 0 where
  pub lines : IsKept reader.edition reader.lines
  pub apart : HasNoFeed reader.part.items
