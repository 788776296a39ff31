use Rattle.std.proofs.Common.{◌≤◌, ◌++◌, take, reverse, vec_capacity}
use Rattle.trace_pieces.specs.declared.pieces.TheConstants.{PIECE}
use Rattle.trace_pieces.specs.inner.Held.{IsHeld}
use Rattle.trace_text.specs.declared.edition.Edition.TheVariants as editions
use Rattle.trace_text.specs.TraceText.{entries_text, first_line}
use Rattle.trace_pieces.proofs.pieces.give_lines.Given as goal

abbrev pub invariant-loop-entry : goal.invariant-loop-entry
invariant-loop-entry g l = record {
  held : IsHeld (g.K.Sink.given l.initial.sink) (g.K.Sink.given l.sink) l.piece.items
      (first_line editions.Two ++ entries_text editions.Two (reverse (take l.entry-index l.entries)));
  capacity : PIECE ≤ vec_capacity l.piece;
  not_fallen : g.K.Sink.faults l.initial.sink ≤ g.K.Sink.faults l.sink;
}
