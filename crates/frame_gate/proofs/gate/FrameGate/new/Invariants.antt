use Rattle.std.proofs.Common.{◌≡◌, replicate}
use Rattle.frame_gate.specs.declared.view.Role.TheVariants.{Pager}
use Rattle.frame_gate.specs.inner.Views.{view, no_step, start, untouched}
use Rattle.frame_gate.specs.inner.Known.{newcomer_of}
use Rattle.frame_gate.proofs.gate.FrameGate.new.Given as goal

abbrev pub invariant-loop-split : goal.invariant-loop-split
invariant-loop-split l = (l.seat.table_id ≡ l.initial.seat.table_id)
    × (l.seat.me.0 ≡ view (Pager (start l.split) (replicate l.fn.frames untouched)) no_step)
    × (l.procs.items ≡ replicate l.split (newcomer_of l.initial.seat.table_id))
