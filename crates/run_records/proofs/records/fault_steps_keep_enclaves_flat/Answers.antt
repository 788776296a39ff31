use Rattle.driver_list.specs.inner.States.{state_of as page_state}
use Rattle.run_records.proofs.LoadRecords.{fault_flat}
use Rattle.run_records.proofs.records.fault_steps_keep_enclaves_flat.Goals as goal

pub returns : goal.returns
returns c past cpu page d d' m m' told told' answer = fault_flat past cpu page (page_state d.states page) d d' m m' told told' answer
