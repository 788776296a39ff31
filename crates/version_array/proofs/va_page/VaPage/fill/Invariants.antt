use Rattle.std.proofs.Common.{◌≡◌, ℕ, ◌*◌, ◌<◌, length, get_or}
use Rattle.sgx_types.specs.inner.Layouts.{long_at}
use Rattle.version_array.specs.inner.Slots.{empty_slot, filled}
use Rattle.version_array.proofs.va_page.VaPage.fill.Given as goal

abbrev pub invariant-loop-index : goal.invariant-loop-index
invariant-loop-index l = record {
  sized : length l.self-inside.slots.items ≡ 512;
  written : (k : ℕ) → k < l.index → get_or l.self-inside.slots.items k empty_slot ≡ filled (long_at l.from (8 * k));
}
