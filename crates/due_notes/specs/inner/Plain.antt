-- The instructions of the builder and of processors that move no page out or back.
use Rattle.std.specs.Prelude.{Bool, true, false}
use Rattle.sgx_rules.specs.declared.entries.Action.{Action}
use Rattle.sgx_rules.specs.declared.entries.Action.TheVariants.{Block, Track, EwbStart, Ewb, EldStart, Eld}
use Rattle.sgx_types.specs.declared.names.Actor.{Actor}
use Rattle.sgx_types.specs.declared.names.Actor.TheVariants as actors

abbrev pub is_plain : Action → Bool
is_plain (Block f) = false
is_plain (Track enclave) = false
is_plain (EwbStart f slot) = false
is_plain (Ewb f) = false
is_plain (EldStart f page slot) = false
is_plain (Eld f) = false
is_plain action = true

abbrev pub is_reclaimer : Actor → Bool
is_reclaimer actors.Reclaimer = true
is_reclaimer actor = false
