use Rattle.std.proofs.Common.{◌≡◌, length, vec_capacity}
use Rattle.std.specs.List.{All}
use Rattle.driver_slots.specs.inner.KeeperKept.{IsAllFree}
use Rattle.driver_slots.proofs.keeper.SlotKeeper.new.Given as goal

abbrev pub invariant-loop : goal.invariant-loop
invariant-loop l = record {
  maps : All IsAllFree l.maps.items;
  count : length l.maps.items ≡ l.counter;
  room : vec_capacity l.maps ≡ vec_capacity l.initial.maps;
}
