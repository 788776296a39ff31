use Rattle.std.proofs.Common.{◌≤◌, ◌++◌, List, take, vec_capacity}
use Rattle.std.specs.List.{flat_map}
use Rattle.trace_pieces.specs.inner.Held.{IsHeld}
use Rattle.command_picture.specs.declared.pieces.TheConstants.{PIECE}
use Rattle.picture_text.specs.declared.events.Lane.{Lane}
use Rattle.picture_text.specs.PictureText.{event_text}
use Rattle.picture_text.specs.inner.Following.{AreNumbered}
use Rattle.command_picture.proofs.pieces.give_events.Given as goal

abbrev pub invariant-loop-event : goal.invariant-loop-event
invariant-loop-event g l = record {
  held : (lanes : List Lane) → AreNumbered l.known lanes → IsHeld (g.K.Sink.given l.initial.sink) (g.K.Sink.given l.sink) l.piece.items
      (l.initial.piece.items ++ flat_map (event_text l.entries lanes) (take l.event-index l.events));
  capacity : PIECE ≤ vec_capacity l.piece;
  not_fallen : g.K.Sink.faults l.initial.sink ≤ g.K.Sink.faults l.sink;
}
