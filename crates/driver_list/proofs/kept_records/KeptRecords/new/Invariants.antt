use Rattle.std.proofs.Common.{◌≡◌, None, map, replicate, vec_capacity}
use Rattle.driver_list.specs.inner.Rooms.{kept_by}
use Rattle.driver_list.proofs.kept_records.KeptRecords.new.Given as goal

abbrev pub invariant-loop : goal.invariant-loop
invariant-loop l = record {
  rooms : map kept_by l.rooms.items ≡ replicate l.counter None;
  room : vec_capacity l.rooms ≡ l.cpus;
}
