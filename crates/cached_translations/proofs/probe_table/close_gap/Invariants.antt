use Rattle.std.proofs.Common.{◌≡◌, ◌<◌, ◌≤◌, ◌+◌, ℕ, None}
use Rattle.std.specs.Prelude.{IsPermutation}
use Rattle.cached_translations.specs.inner.Probe.{IsGapped, slot_at}
use Rattle.cached_translations.proofs.probe_table.close_gap.Given as goal

-- the table has the gap alone, and a free place is still ahead
abbrev pub invariant-loop-step : goal.invariant-loop-step
invariant-loop-step l = record {
  gapped : IsGapped l.slots l.from l.filled l.step;
  before : l.filled < l.step;
  ahead : (b : ℕ) × (l.step ≤ b) × (b < 128) × (slot_at l.slots (l.from + b) ≡ None);
  same : IsPermutation l.initial.slots l.slots;
}
