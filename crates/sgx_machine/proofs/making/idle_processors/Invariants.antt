use Rattle.std.proofs.Common.{◌≡◌, replicate}
use Rattle.sgx_machine.specs.inner.Parts.{idle}
use Rattle.sgx_machine.proofs.making.idle_processors.Given as goal

abbrev pub invariant-loop : goal.invariant-loop
invariant-loop l = l.cpus.items ≡ replicate l.counter idle
