use Rattle.std.proofs.Common.{◌≡◌, ◌≤◌, ◌-◌, length, take}
use Rattle.io_edges.specs.Sinks.{followed_by}
use Rattle.io_edges.proofs.giving.give_all.Given as goal

abbrev pub invariant-loop-at : goal.invariant-loop-at
invariant-loop-at g l = record {
  in_text : l.at ≤ length l.text;
  given : g.K.Sink.given l.sink ≡ followed_by (g.K.Sink.given l.initial.sink) (take l.at l.text);
  not_fallen : g.K.Sink.faults l.initial.sink ≤ g.K.Sink.faults l.sink;
  untouched : l.at ≡ 0 → l.sink ≡ l.initial.sink;
}

abbrev pub decreases-loop-at : goal.decreases-loop-at
decreases-loop-at g l = length l.text - l.at
