use Rattle.std.proofs.Common.{◌≡◌, ◌-◌, length}
use Rattle.sgx_machine.specs.inner.Parts.{cpu_at}
use Rattle.driver_pass.specs.inner.Keeping.{is_older, keepers_by, passing_from}
use Rattle.driver_pass.proofs.keepers.first_keeper.Given as goal

abbrev pub invariant-loop-number : goal.invariant-loop-number
invariant-loop-number l =
    passing_from (λ p. is_older (cpu_at l.machine p).mode l.enclave l.epoch) l.number (length l.machine.cpus - l.number)
    ≡ keepers_by l.machine l.enclave l.epoch
