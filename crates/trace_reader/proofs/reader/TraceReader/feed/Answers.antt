-- All whole lines begin a trace.
use Rattle.std.proofs.Common.{◌++◌}
use Rattle.trace_reader.specs.inner.Lines.{joined, taken}
use Rattle.trace_reader.proofs.FaultLaws.{taken_begun}
use Rattle.trace_reader.proofs.FeedLaws.{feeds_ok}
use Rattle.trace_reader.proofs.reader.TraceReader.feed.Goals as goal

pub returns-in-Ok-None : goal.returns-in-Ok-None
returns-in-Ok-None c =
    let same = rw c.in-Ok-None.field-0-is at c.in-Ok-None.ensures.taken in
    feeds_ok c.self.inside.edition c.args.self.now c.self.inside.fault
    (joined (taken c.self.inside.edition c.self.inside.lines) ++ c.self.inside.part.items) c.args.piece.now
    (joined (taken c.self.inside.edition c.take_piece.new.lines) ++ c.take_piece.new.part.items) c.self.view_is c.in_default.is same
    (taken_begun c.self.inside.edition c.take_piece.new.lines
    ((joined (taken c.self.inside.edition c.self.inside.lines) ++ c.self.inside.part.items) ++ c.args.piece.now)
    c.take_piece.new.part.items c.in-Ok-None.ensures.kept c.in-Ok-None.ensures.apart same)
