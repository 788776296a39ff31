-- The instructions that build enclaves as flat memory has them.
use Rattle.std.specs.Prelude.{Bool, true, false}
use Rattle.sgx_rules.specs.declared.entries.Action.{Action}
use Rattle.sgx_rules.specs.declared.entries.Action.TheVariants.{Create, Add, Init}
use Rattle.sgx_rules.specs.declared.entries.Event.{Event}
use Rattle.sgx_rules.specs.declared.entries.Event.TheVariants.{Did}

-- it creates an enclave, adds a page to one or initialises one
abbrev pub builds : Action → Bool
builds (Create enclave f base size) = true
builds (Add enclave number f kind perm init) = true
builds (Init enclave expect) = true
builds action = false

-- .. and was done
abbrev pub is_building : Event → Bool
is_building (Did action answer) = builds action
is_building event = false
