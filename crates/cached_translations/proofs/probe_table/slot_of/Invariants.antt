use Rattle.std.proofs.Common.{◌≡◌, ◌<◌, ◌+◌, ℕ, Some}
use Rattle.cached_translations.specs.declared.probe_table.Slot.{Slot}
use Rattle.cached_translations.specs.inner.Probe.{slot_at}
use Rattle.cached_translations.proofs.probe_table.slot_of.Given as goal

-- no place up to here is the page's
abbrev pub invariant-loop-step : goal.invariant-loop-step
invariant-loop-step l = record {
  others : (k : ℕ) (a : Slot) → k < l.step → slot_at l.slots (l.number + k) ≡ Some a → a.number ≡ l.number → ⊥;
}
