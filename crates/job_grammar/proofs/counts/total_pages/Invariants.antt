use Rattle.std.proofs.Common.{◌≡◌, ◌-◌, ◌^◌, map, min, sum_by, take}
use Rattle.job_grammar.specs.Jobs.{enclave_pages}
use Rattle.job_grammar.specs.inner.Jobs.{enclave_view}
use Rattle.job_grammar.proofs.counts.total_pages.Given as goal

abbrev pub invariant-loop-enclave : goal.invariant-loop-enclave
invariant-loop-enclave l = l.pages ≡ min (sum_by enclave_pages (map enclave_view (take l.enclave-index l.enclaves))) (2 ^ 64 - 1)
