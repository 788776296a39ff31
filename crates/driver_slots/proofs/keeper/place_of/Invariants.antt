use Rattle.std.proofs.Common.{◌≡◌, ◌<◌, ◌==◌, ℕ, false, get_or}
use Rattle.driver_slots.specs.inner.Keeper.{ArrayView}
use Rattle.driver_slots.proofs.keeper.place_of.Given as goal

abbrev pub invariant-loop-place : goal.invariant-loop-place
invariant-loop-place l = (k : ℕ) (d : ArrayView) → k < l.place → ((get_or l.arrays k d).va == l.va) ≡ false
