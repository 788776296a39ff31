use Rattle.std.proofs.Common.{◌≡◌, ◌++◌}
use Rattle.sgx_types.specs.Layouts.{zeros}
use Rattle.page_bytes.proofs.bytes.put_zeros.Given as goal

abbrev pub invariant-loop : goal.invariant-loop
invariant-loop l = (l.onto.items ≡ l.fn.onto.items ++ zeros l.counter) × (l.onto.cap ≡ l.fn.onto.cap)
