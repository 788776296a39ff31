use Rattle.std.proofs.Common.{◌≡◌, ℕ, ◌≤◌, false, length}
use Rattle.driver_slots.specs.inner.Keeper.{is_added}
use Rattle.test_parts.proofs.tables.slots.add_each.Given as goal

abbrev pub invariant-loop-number : goal.invariant-loop-number
invariant-loop-number l = record {
  counted : length l.keeper.arrays ≡ l.number;
  room : l.keeper.room ≡ 9;
  fresh : (va : ℕ) → l.number ≤ va → is_added l.keeper va ≡ false;
}
