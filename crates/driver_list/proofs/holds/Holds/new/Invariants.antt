use Rattle.std.proofs.Common.{◌≡◌, ◌≤◌, [], map, replicate, vec_capacity}
use Rattle.std.specs.List.{All}
use Rattle.driver_list.specs.inner.KeptHolds.{pages_in}
use Rattle.driver_list.proofs.HoldLaws.{IsRoomy}
use Rattle.driver_list.proofs.holds.Holds.new.Given as goal

abbrev pub invariant-loop : goal.invariant-loop
invariant-loop l = record {
  own : map pages_in l.own.items ≡ replicate l.counter [];
  roomy : All IsRoomy l.own.items;
  room : 17 ≤ vec_capacity l.own;
}
