use Rattle.std.proofs.Common.{map, take}
use Rattle.job_grammar.specs.inner.Jobs.{enclave_view}
use Rattle.due_tables.specs.inner.TcsTurns.{IsNewTable}
use Rattle.due_tables.specs.inner.TcsPlaces.{turns_in}
use Rattle.due_tables.proofs.tcs_turns.TcsTurns.new.Given as goal

abbrev pub invariant-loop-enclave : goal.invariant-loop-enclave
invariant-loop-enclave l = IsNewTable l.arrays (map enclave_view (take l.enclave-index l.enclaves)) (map turns_in l.pages.items)
