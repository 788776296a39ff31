use Rattle.std.proofs.Common.{◌≡◌, ◌<◌, ◌≤◌, length}
use Rattle.driver_list.specs.inner.Holds.{holder_of, own_of}
use Rattle.driver_list.proofs.ActiveLaws.{left_after}
use Rattle.driver_list.proofs.active.Active.drop_holds.Given as goal

abbrev pub invariant-loop : goal.invariant-loop
invariant-loop l = record {
  self : l.self ≡ record l.initial.self { own = left_after l.initial.self.own (holder_of l.who) l.counter };
  holders : 0 < l.counter → length l.initial.self.own ≡ 17;
  few : 0 < l.counter → length (own_of l.initial.self.own (holder_of l.who)) ≤ 11;
}
