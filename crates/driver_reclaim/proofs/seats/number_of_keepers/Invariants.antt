use Rattle.std.proofs.Common.{◌≡◌, ◌≤◌, ◌-◌}
use Rattle.sgx_machine.specs.inner.Parts.{cpu_at}
use Rattle.driver_pass.specs.inner.Keeping.{is_older}
use Rattle.driver_reclaim.proofs.SeatLaws.{count_from}
use Rattle.driver_reclaim.proofs.seats.number_of_keepers.Given as goal

abbrev pub invariant-loop-back : goal.invariant-loop-back
invariant-loop-back l = record {
  count : l.count ≡ count_from (λ p. is_older (cpu_at l.machine p).mode l.enclave l.epoch) (l.cpus - l.back) l.back;
  small : l.count ≤ l.back;
}
