-- A reader that has read nothing, in any edition.
use Rattle.std.proofs.Common.{eqb, false, rules}
use Rattle.std.proofs.lemmas.List.Elements.{All-nil}
use Rattle.trace_reader.proofs.reader.TraceReader.new.Goals as goal

pub invariant_of-result : goal.invariant_of-result
invariant_of-result c = record { lines = c.new.ensures.kept c.args.edition; apart = search rules }
