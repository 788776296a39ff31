use Rattle.driver_slots.specs.inner.Least.{IsLeastBelow}
use Rattle.driver_slots.proofs.keeper.least_with_room.Given as goal

abbrev pub invariant-loop-place : goal.invariant-loop-place
invariant-loop-place l = IsLeastBelow l.arrays l.least l.place
