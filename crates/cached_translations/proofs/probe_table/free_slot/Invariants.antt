use Rattle.std.proofs.Common.{◌≡◌, ◌<◌, ◌+◌, ◌-◌, ℕ, true, is_some}
use Rattle.cached_translations.specs.inner.Probe.{slot_at}
use Rattle.cached_translations.proofs.probe_table.free_slot.Given as goal

-- each place up to here is in use
abbrev pub invariant-loop-step : goal.invariant-loop-step
invariant-loop-step l = record {
  few : l.step < 128;
  taken : (k : ℕ) → k < l.step → is_some (slot_at l.slots (l.number + k)) ≡ true;
}

abbrev pub decreases-loop-step : goal.decreases-loop-step
decreases-loop-step l = 128 - l.step
