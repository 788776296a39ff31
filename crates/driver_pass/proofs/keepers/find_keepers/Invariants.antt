use Rattle.std.proofs.Common.{◌≡◌, ◌-◌, ◌≤◌, ◌++◌, length, vec_capacity}
use Rattle.sgx_machine.specs.inner.Parts.{cpu_at}
use Rattle.driver_pass.specs.inner.Keeping.{is_older, keepers_by, passing_from}
use Rattle.driver_pass.specs.inner.Viewed.{numbers_in}
use Rattle.driver_pass.proofs.keepers.find_keepers.Given as goal

abbrev pub invariant-loop-number : goal.invariant-loop-number
invariant-loop-number l = record {
  list : numbers_in l.found.items ++ passing_from (λ p. is_older (cpu_at l.machine p).mode l.enclave l.epoch) l.number
      (length l.machine.cpus - l.number)
      ≡ keepers_by l.machine l.enclave l.epoch;
  few : length l.found.items ≤ l.number;
  capacity : vec_capacity l.found ≡ vec_capacity l.initial.found;
}
