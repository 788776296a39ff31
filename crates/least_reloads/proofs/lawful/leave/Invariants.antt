use Rattle.std.proofs.Common.{take}
use Rattle.least_reloads.specs.inner.Sets.{CanLeave, Leave}
use Rattle.least_reloads.proofs.lawful.leave.Given as goal

abbrev pub invariant-loop-page : goal.invariant-loop-page
invariant-loop-page l = record {
  can : CanLeave l.initial.held (take l.page-index l.pages);
  left : Leave l.initial.held (take l.page-index l.pages) l.held;
}
