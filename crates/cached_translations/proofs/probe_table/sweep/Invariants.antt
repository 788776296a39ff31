use Rattle.std.proofs.Common.{ℕ}
use Rattle.cached_translations.specs.inner.Probe.{IsSwept, Leads}
use Rattle.cached_translations.proofs.probe_table.sweep.Given as goal

-- the places up to here are free, and no page came
abbrev pub invariant-loop-step : goal.invariant-loop-step
invariant-loop-step l = record {
  swept : IsSwept l.slots l.number l.step;
  fewer : (n place : ℕ) → Leads l.slots n place → Leads l.initial.slots n place;
}
