-- What the rows of the instruction table see of an enclave.
use Rattle.sgx_rules.specs.Table.{EnclaveSight}
use Rattle.secs_state.specs.inner.Secs.{SecsState}

abbrev pub sight_of : SecsState → EnclaveSight
sight_of secs = record { size = secs.size; is_init = secs.is_init }
