use Rattle.std.proofs.Common.{take}
use Rattle.least_reloads.specs.inner.Sets.{CanJoin, Join}
use Rattle.least_reloads.proofs.lawful.join.Given as goal

abbrev pub invariant-loop-page : goal.invariant-loop-page
invariant-loop-page l = record {
  can : CanJoin l.initial.held (take l.page-index l.pages);
  joined : Join l.initial.held (take l.page-index l.pages) l.held;
}
