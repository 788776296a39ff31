use Rattle.std.proofs.Common.{◌≡◌, length, drop, slice_index}
use Rattle.std.specs.HashMap.{get}
use Rattle.sgx_types.specs.declared.names.Page.{Page}
use Rattle.sgx_types.specs.Pages.{same_page}
use Rattle.least_reloads.specs.inner.Farthest.{AreUses}
use Rattle.least_reloads.proofs.UseLaws.{first_at}
use Rattle.least_reloads.proofs.farthest.next_uses.Given as goal

abbrev pub invariant-loop-i : goal.invariant-loop-i
invariant-loop-i l = record {
  size : length l.uses.items ≡ length l.accesses;
  later : (p : Page) → get same_page l.later p ≡ first_at l.i (drop l.i l.accesses) p;
  uses : AreUses l.accesses l.i (slice_index l.uses.items);
}
