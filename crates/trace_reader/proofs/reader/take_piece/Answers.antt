-- The refused line is the first fault, whatever follows.
use Rattle.trace_reader.specs.inner.Lines.{joined, taken}
use Rattle.trace_reader.proofs.PieceLaws.{piece_fault}
use Rattle.trace_reader.proofs.reader.take_piece.Goals as goal

pub returns-in-Ok-None-clause-taken : goal.returns-in-Ok-None-clause-taken
returns-in-Ok-None-clause-taken c =
    piece_fault c.args.edition c.take_whole.new.lines
    (joined (taken c.args.edition c.args.lines.now)) c.args.part.now.items c.deref.result.now c.args.piece.now
    c.in-Some.end.now c.in-Some.behind.now c.count.result
    c.in-Ok-None.ensures.kept (rw c.in-Ok-None.field-0-is at c.in-Ok-None.ensures.taken)
    c.deref.ensures.value c.in-Some.ensures.1 (c.count.ensures.lines c.args.edition)
