-- Which entries make a record, and what the machine says of an entry of no instruction.
use Rattle.std.specs.Prelude.{Bool, true, false, List, ◌∷◌}
use Rattle.sgx_rules.specs.declared.entries.Action.TheVariants.{Ewb}
use Rattle.sgx_rules.specs.declared.entries.Entry.{Entry}
use Rattle.sgx_rules.specs.declared.entries.Event.{Event}
use Rattle.sgx_rules.specs.declared.entries.Event.TheVariants.{Did}
use Rattle.sgx_types.specs.Making.{Making}
use Rattle.seal_record.specs.Records.{Made}
use Rattle.machine_laws.specs.inner.Histories.{StandsWithAllRules}
use Rattle.machine_laws.specs.inner.State.{State}

-- a write-out was done: no other entry makes a record
abbrev pub writes_out : Event → Bool
writes_out (Did (Ewb f) answer) = true
writes_out event = false

-- whatever entries the state stood for with all the rules, it stands for them with this one in front
abbrev pub StaysWith : State → Entry → Type 0
StaysWith s e = (making : Making) (past : List Entry) (records : List Made) → StandsWithAllRules making s past records
    → StandsWithAllRules making s (e ∷ past) records
