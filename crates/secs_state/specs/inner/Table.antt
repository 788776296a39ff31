-- The table of enclaves as contracts see it: eight places, for the enclaves 1 to 8 in order.
use Rattle.std.specs.Prelude.{ℕ, ◌-◌, ◌==◌, if◌then◌else◌, List, Option, None, Some, replicate, slice_index_or, slice_set}
use Rattle.secs_state.specs.inner.Secs.{SecsState}

-- the places of a new table
abbrev pub empty_table : List (Option SecsState)
empty_table = replicate 8 None

-- the state of an enclave that was created
abbrev pub enclave_at : List (Option SecsState) → ℕ → Option SecsState
enclave_at table enclave = if enclave == 0 then None else slice_index_or table (enclave - 1) None

-- an enclave with this state
abbrev pub with_enclave : List (Option SecsState) → ℕ → SecsState → List (Option SecsState)
with_enclave table enclave secs = slice_set table (enclave - 1) (Some secs)
