-- An index over the entries of a trace.
use Rattle.std.specs.Prelude.{List}
use Rattle.sgx_rules.specs.declared.entries.Entry.{Entry}
use Rattle.trace_query.specs.declared.index.Index.{Index}
use Rattle.trace_query.specs.inner.Kept as moves
use Rattle.trace_query.specs.inner.Seen as spans
use Rattle.trace_query.specs.inner.Written as words

-- the index is over these entries, the newest first
pub record IndexStands (index : Index) (past : List Entry) : Type 0 where
  pub moves : moves.MovesFollow index.moves past
  pub spans : spans.SpansFollow index.spans past
  pub words : words.WordsFollow index.words past
