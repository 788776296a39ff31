use Rattle.sgx_machine.specs.inner.Parts.{state_of}
use Rattle.run_records.proofs.LoadRecords.{end_flat}
use Rattle.run_records.proofs.records.ends_of_loads_keep_enclaves_flat.Goals as goal

pub returns : goal.returns
returns c past d d' m m' cpu page loaded can = end_flat past d d' (state_of m) (state_of m') cpu page can.slot can.frame can.kept loaded
