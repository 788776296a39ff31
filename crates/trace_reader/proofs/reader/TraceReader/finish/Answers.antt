-- The text that was fed is a trace's, or lacks a line.
use Rattle.trace_reader.proofs.PieceLaws.{finishes_ok}
use Rattle.trace_reader.proofs.reader.TraceReader.finish.Goals as goal

pub returns-in-None : goal.returns-in-None
returns-in-None c =
    finishes_ok c.self.inside.edition c.args.self c.self.inside.fault c.self.inside.lines c.self.inside.part.items c.deref.result.now
    c.self.view_is c.in_default.is c.self.invariant.lines
    c.deref.ensures.value c.in-None.ensures
