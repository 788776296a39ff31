use Rattle.std.proofs.Common.{◌≡◌, drop}
use Rattle.frame_gate.specs.inner.Views.{generation_of}
use Rattle.frame_gate.proofs.seats.find_generation.Given as goal

abbrev pub invariant-loop-pair : goal.invariant-loop-pair
invariant-loop-pair l = generation_of l.pairs l.frame ≡ generation_of (drop l.pair-index l.pairs) l.frame
