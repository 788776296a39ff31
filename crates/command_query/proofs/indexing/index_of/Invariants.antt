use Rattle.std.proofs.Common.{reverse, take}
use Rattle.trace_query.specs.Index.{IndexStands}
use Rattle.command_query.proofs.indexing.index_of.Given as goal

abbrev pub invariant-loop-entry : goal.invariant-loop-entry
invariant-loop-entry l = IndexStands l.index (reverse (take l.entry-index l.entries))
