-- What the table becomes where an enclave's state is written through a reference into it.
use Rattle.std.specs.Prelude.{ℕ, List, Option}
use Rattle.std.specs.Borrow.{LendsIf, MutBor, Fml}
use Rattle.secs_state.specs.inner.Secs.{SecsState}
use Rattle.secs_state.specs.inner.Table.{with_enclave}
use Rattle.secs_state.specs.contracts.table.SecsTable.{the_row}
use Rattle.secs_state.specs.contracts.secs.Secs.{the_row as secs_row}

-- the enclave's state ends as the last value behind r, and the rest stays
abbrev pub LendsEnclave : MutBor (List (Option SecsState)) → ℕ → Option (MutBor SecsState) → Fml
LendsEnclave table enclave r = LendsIf the_row secs_row table r (with_enclave table.now enclave) table.now
