use Rattle.std.proofs.Common.{◌≡◌, ◌≤◌, ◌+◌, ◌-◌, ◌^◌, ℕ, List, length}
use Rattle.io_edges.specs.inner.Sources.{HasRead}
use Rattle.trace_file.specs.inner.Seen.{HasSeen}
use Rattle.trace_file.proofs.reading.read_old.Given as goal

abbrev pub invariant-loop-count : goal.invariant-loop-count
invariant-loop-count g l = record {
  bytes : List ℕ;
  read : HasRead (g.S.Source.left l.initial.source) (g.S.Source.left l.source) bytes;
  count : length bytes ≡ l.count;
  seen : HasSeen l.fn.edition l.reader bytes;
  short : l.count ≤ 2 ^ 30 + 1;
  not_fallen : g.S.Source.faults l.initial.source ≤ g.S.Source.faults l.source;
}

abbrev pub decreases-loop-count : goal.decreases-loop-count
decreases-loop-count g l = 2 ^ 30 + 1 - l.count
