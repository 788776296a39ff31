use Rattle.std.proofs.Common.{◌≡◌, ◌+◌, ◌++◌, map, take}
use Rattle.job_grammar.specs.inner.Jobs.{enclave_view}
use Rattle.job_print.specs.JobText.{enclave_says, numbered, statements_text}
use Rattle.job_print.proofs.printer.push_enclaves.Given as goal

abbrev pub invariant-loop-enclave : goal.invariant-loop-enclave
invariant-loop-enclave l =
    (l.number ≡ 1 + l.enclave-index)
    × (l.onto.items ≡ l.fn.onto.items ++ statements_text (numbered enclave_says 1 (map enclave_view (take l.enclave-index l.enclaves))))
