-- How a call adds to those that a store tells.
use Rattle.std.specs.Prelude.{true, false, List, ◌∷◌, Option, Some, None, option_map, Result, Ok, Err}
use Rattle.sgx_types.specs.declared.names.Page.{Page}
use Rattle.sgx_types.specs.Sealed.{Sealed}
use Rattle.backing_store.specs.declared.backing.StoreFault.{StoreFault}
use Rattle.backing_store.specs.declared.backing.StoreFault.TheVariants as faults
use Rattle.backing_store.specs.Calls.{Failed, Nothing, Given, Call, Room, Got}

-- one call more, where the store tells its calls
abbrev pub with_call : Call → Option (List Call) → Option (List Call)
with_call call told = option_map (λ calls. call ∷ calls) told

-- the calls after place was asked for, by the answer; a call for which memory was refused counts as not made
abbrev pub told_room : Page → Result (Unit {0}) StoreFault → Option (List Call) → Option (List Call)
told_room page (Ok done) told = with_call (Room page false) told
told_room page (Err faults.Failed) told = with_call (Room page true) told
told_room page (Err faults.Memory) told = told

-- .. after a record was asked for
abbrev pub told_got : Page → Result (Option Sealed) StoreFault → Option (List Call) → Option (List Call)
told_got page (Ok (Some rec)) told = with_call (Got page (Given rec)) told
told_got page (Ok None) told = with_call (Got page Nothing) told
told_got page (Err faults.Failed) told = with_call (Got page Failed) told
told_got page (Err faults.Memory) told = told
