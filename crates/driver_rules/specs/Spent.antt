-- The last epoch and the last version: where an instruction is refused for want of one.
use Rattle.std.specs.Prelude.{◌≡◌, ◌^◌, false, List}
use Rattle.sgx_rules.specs.declared.entries.Action.TheVariants.{EwbStart, Track}
use Rattle.sgx_rules.specs.declared.entries.Entry.{Entry}
use Rattle.sgx_rules.specs.declared.entries.Event.{Event}
use Rattle.sgx_rules.specs.declared.entries.Event.TheVariants.{Refused}
use Rattle.sgx_rules.specs.declared.refusals.Refusal.TheVariants as why
use Rattle.sgx_rules.specs.Epochs.{epoch}
use Rattle.sgx_rules.specs.Slots.{next_version}
use Rattle.sgx_types.specs.declared.names.TheConstants.{LAST_EPOCH}
use Rattle.job_grammar.specs.Jobs.{JobView}
use Rattle.driver_rules.specs.Stops.{spends}

-- a track is refused for want of an epoch where its enclave's is the last, 2^40 - 1; a start of EWB for want of a version where 2^64 - 1
-- was the last one drawn; and nothing else is refused so
abbrev pub IsUsedUp : JobView → List Entry → Event → Type 0
IsUsedUp j past (Refused (Track enclave) why.EpochSpent) = epoch j.start_epoch past enclave ≡ LAST_EPOCH
IsUsedUp j past (Refused (EwbStart f slot) why.VersionSpent) = next_version j.start_version past ≡ 2 ^ 64
IsUsedUp j past event = spends event ≡ false

abbrev pub SpentRule : JobView → List Entry → Entry → Type 0
SpentRule j past e = IsUsedUp j past e.event
