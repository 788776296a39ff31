use Rattle.sgx_machine.specs.inner.Parts.{state_of}
use Rattle.run_records.proofs.PassRecords.{out_flat}
use Rattle.run_records.proofs.records.write_outs_keep_enclaves_flat.Goals as goal

pub returns : goal.returns
returns c past v d d' m m' told told' faults faults' e = out_flat past v (state_of m) (state_of m') d d' told told' faults faults' e
