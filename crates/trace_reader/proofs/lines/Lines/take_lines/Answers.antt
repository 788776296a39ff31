-- A line more is taken, or refused.
use Rattle.std.proofs.Common.{◌++◌}
use Rattle.trace_reader.specs.inner.Lines.{joined, taken}
use Rattle.trace_reader.proofs.FaultLaws.{front_trans}
use Rattle.trace_reader.proofs.PieceLaws.{refused_more, taken_more}
use Rattle.trace_reader.proofs.lines.Lines.take_lines.Goals as goal

pub returns-else-branch-clause-taken : goal.returns-else-branch-clause-taken
returns-else-branch-clause-taken c =
    refused_more c.args.edition (joined (taken c.args.edition c.args.self.now) ++ c.args.text.now) (taken c.args.edition c.loop-line.self)
    (taken c.args.edition c.take_line.new.self) c.loop-line.rest.now
    c.in-Some.line.now c.in-Some.behind.now c.in_ok-take_line.field-0
    c.loop-line.invariant.same c.in-Some.ensures.0 c.in-Some.ensures.1 c.in_ok-take_line.ensures.taken c.if-branch.false

pub loop-line-preserved : goal.loop-line-preserved
loop-line-preserved c = record {
  kept = c.in_ok-take_line.ensures.kept;
  front = front_trans c.args.self.now.entries.items c.loop-line.self.entries.items c.take_line.new.self.entries.items
      c.loop-line.invariant.front c.in_ok-take_line.ensures.front;
  same = taken_more c.args.edition (joined (taken c.args.edition c.args.self.now) ++ c.args.text.now)
      (taken c.args.edition c.loop-line.self)
      (taken c.args.edition c.take_line.new.self) c.loop-line.rest.now
      c.in-Some.line.now c.in-Some.behind.now c.in_ok-take_line.field-0
      c.loop-line.invariant.same c.in-Some.ensures.1 c.in_ok-take_line.ensures.taken c.if-branch.true;
}
