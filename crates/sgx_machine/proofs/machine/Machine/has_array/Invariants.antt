use Rattle.std.proofs.Common.{◌≡◌, ℕ, ◌<◌}
use Rattle.sgx_rules.specs.Frames.{IsVa}
use Rattle.epcm_entry.specs.inner.Sights.{held_in}
use Rattle.sgx_machine.proofs.machine.Machine.has_array.Given as goal

abbrev pub invariant-loop-frame : goal.invariant-loop-frame
invariant-loop-frame l = (k : ℕ) → k < l.frame → held_in l.self-inside.epc k ≡ IsVa l.number → ⊥
