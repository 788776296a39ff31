use Rattle.std.proofs.Common.{◌≡◌, None, replicate}
use Rattle.sgx_machine.proofs.making.no_starts.Given as goal

abbrev pub invariant-loop : goal.invariant-loop
invariant-loop l = l.starts.items ≡ replicate l.counter None
