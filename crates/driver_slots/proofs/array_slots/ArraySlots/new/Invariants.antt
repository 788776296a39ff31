use Rattle.driver_slots.proofs.ArrayLaws.{IsFrom}
use Rattle.driver_slots.proofs.array_slots.ArraySlots.new.Given as goal

abbrev pub invariant-loop-index : goal.invariant-loop-index
invariant-loop-index l = IsFrom l.free l.index
