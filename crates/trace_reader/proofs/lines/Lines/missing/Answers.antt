-- A text lacks a line's end, or the last line, or nothing.
use Rattle.trace_reader.proofs.PieceLaws.{missing_end, missing_none, missing_part}
use Rattle.trace_reader.proofs.lines.Lines.missing.Goals as goal

pub returns-then-is_ended : goal.returns-then-is_ended
returns-then-is_ended c =
    missing_none c.args.edition c.args.self.now c.args.part.now c.is_empty.result c.is_ended.result
    c.is_empty.ensures c.if-is_empty.true c.is_ended.ensures c.if-is_ended.true

pub returns-else-is_ended : goal.returns-else-is_ended
returns-else-is_ended c =
    missing_end c.args.edition c.args.self.now c.args.part.now c.is_ended.result c.count-next.result
    c.requires.kept c.requires.apart c.is_ended.ensures c.if-is_ended.false (c.count-next.ensures.lines c.args.edition)

pub returns-else-is_empty : goal.returns-else-is_empty
returns-else-is_empty c =
    missing_part c.args.edition c.args.self.now c.args.part.now c.is_empty.result c.count-next.result
    c.requires.kept c.requires.apart c.is_empty.ensures c.if-is_empty.false (c.count-next.ensures.lines c.args.edition)
