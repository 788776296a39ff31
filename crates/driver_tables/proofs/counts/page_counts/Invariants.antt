use Rattle.std.proofs.Common.{◌≡◌, ◌≤◌, length, map, take}
use Rattle.job_grammar.specs.inner.Jobs.{enclave_view}
use Rattle.driver_tables.specs.inner.Counts.{enclave_places}
use Rattle.driver_tables.proofs.counts.page_counts.Given as goal

abbrev pub invariant-loop-enclave : goal.invariant-loop-enclave
invariant-loop-enclave l =
    (l.counts.items ≡ map enclave_places (map enclave_view (take l.enclave-index l.enclaves))) × (length l.enclaves ≤ l.counts.cap)
