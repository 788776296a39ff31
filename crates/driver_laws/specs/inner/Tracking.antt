-- What an entry tells of who is inside which enclave, and since which epoch: what the words by which epochs are counted ask of it.
use Rattle.std.specs.Prelude.{ℕ, ◌≡◌, ◌==◌, true, false, List, Option, None, is_some}
use Rattle.sgx_rules.specs.declared.entries.Action.TheVariants.{Track}
use Rattle.sgx_types.specs.declared.names.Actor.{Actor}
use Rattle.sgx_rules.specs.declared.entries.Entry.{Entry}
use Rattle.sgx_rules.specs.declared.entries.Event.{Event}
use Rattle.sgx_rules.specs.declared.entries.Event.TheVariants.{Did}
use Rattle.sgx_types.specs.declared.names.TheConstants.{LAST_EPOCH}
use Rattle.sgx_rules.specs.inner.Enclaves.{created}
use Rattle.sgx_rules.specs.Epochs.{epoch, older_at}
use Rattle.sgx_rules.specs.Processors.{Enters, Keeps, Leaves, Move, move_by, Stay, stay}
use Rattle.sgx_types.specs.declared.names.Actor.TheVariants as actors

abbrev pub CanMoveFrom : List Entry → Option Stay → Move → Type 0
CanMoveFrom past before (Enters seat) = (before ≡ None) × (is_some (created past seat.enclave) ≡ true)
CanMoveFrom past before Leaves = is_some before ≡ true
CanMoveFrom past before Keeps = Unit {0}

-- a processor that entered was outside, and its enclave was created; one that left was inside
abbrev pub StayTells : List Entry → Actor → Event → Type 0
StayTells past (actors.Cpu p) event = CanMoveFrom past (stay past p.0) (move_by event)
StayTells past _ event = Unit {0}

-- an epoch of an enclave that was created may end: no processor is inside since before it began, and it is not the last that there is
pub record CanTrack (first : ℕ) (past : List Entry) (enclave : ℕ) : Type 0 where
  pub made : is_some (created past enclave) ≡ true
  pub none_older : older_at past enclave ≡ 0
  pub not_last : (epoch first past enclave == LAST_EPOCH) ≡ false

abbrev pub TrackTells : ℕ → List Entry → Event → Type 0
TrackTells first past (Did (Track enclave) answer) = CanTrack first past enclave
TrackTells first past _ = Unit {0}

pub record TrackingRule (first : ℕ) (past : List Entry) (e : Entry) : Type 0 where
  pub stay : StayTells past e.actor e.event
  pub track : TrackTells first past e.event
