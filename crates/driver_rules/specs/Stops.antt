-- The last event of an actor, and what ends a run or a script early. Entries stand newest first.
use Rattle.std.specs.Prelude.{ℕ, Bool, true, false, ◌||◌, if◌then◌else◌, List, [], ◌∷◌, Option, Some, None}
use Rattle.sgx_rules.specs.declared.entries.Entry.{Entry}
use Rattle.sgx_rules.specs.declared.entries.Event.{Event}
use Rattle.sgx_rules.specs.declared.entries.Event.TheVariants.{Refused, Bus}
use Rattle.sgx_rules.specs.declared.refusals.Refusal.{Refusal}
use Rattle.sgx_types.specs.declared.names.Actor.{Actor}
use Rattle.sgx_rules.specs.declared.refusals.Refusal.TheVariants as why
use Rattle.sgx_rules.specs.Processors.{is_by}
use Rattle.sgx_types.specs.declared.names.Actor.TheVariants as actors

-- ---- the last event

abbrev pub same_actor : Actor → Actor → Bool
same_actor actors.Builder actors.Builder = true
same_actor (actors.Cpu p) actor = is_by p.0 actor
same_actor actors.Reclaimer actors.Reclaimer = true
same_actor _ _ = false

-- an actor's last event
abbrev pub last_event : List Entry → Actor → Option Event
last_event [] actor = None
last_event (e ∷ past) actor = if same_actor actor e.actor then Some e.event else last_event past actor

-- ---- a run that was stopped

-- the epochs or the versions are used up
abbrev pub is_last_refusal : Refusal → Bool
is_last_refusal why.EpochSpent = true
is_last_refusal why.VersionSpent = true
is_last_refusal _ = false

abbrev pub spends : Event → Bool
spends (Refused action refusal) = is_last_refusal refusal
spends _ = false

-- whether a track was refused for want of an epoch, or a start of EWB for want of a version: the run is stopped then
abbrev pub is_spent : List Entry → Bool
is_spent [] = false
is_spent (e ∷ past) = if spends e.event then true else is_spent past

-- ---- a processor that was ended

abbrev pub is_bus : Event → Bool
is_bus (Bus page why) = true
is_bus _ = false

-- whether a page that the processor needed did not come back
abbrev pub has_bus : List Entry → ℕ → Bool
has_bus [] p = false
has_bus (e ∷ past) p = if is_by p e.actor then (if is_bus e.event then true else has_bus past p) else has_bus past p

-- whether a page could not be reloaded
abbrev pub has_loss : List Entry → Bool
has_loss [] = false
has_loss (e ∷ past) = is_bus e.event || has_loss past
