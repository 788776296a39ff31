-- The lines that were taken and the rest are the text.
use Rattle.std.proofs.Common.{◌≡◌, ◌++◌, length, take}
use Rattle.trace_reader.specs.inner.Lines.{IsKept, joined, taken}
use Rattle.trace_reader.proofs.lines.Lines.take_lines.Given as goal

abbrev pub invariant-loop-line : goal.invariant-loop-line
invariant-loop-line l = record {
  kept : IsKept l.fn.edition l.self;
  front : take (length l.fn.self.entries.items) l.self.entries.items ≡ l.fn.self.entries.items;
  same : joined (taken l.fn.edition l.fn.self) ++ l.fn.text ≡ joined (taken l.fn.edition l.self) ++ l.rest;
}

abbrev pub decreases-loop-line : goal.decreases-loop-line
decreases-loop-line l = length l.rest
