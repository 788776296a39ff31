-- That enclaves that were initialised are so in the machine.
use Rattle.std.specs.Prelude.{ℕ, ◌≡◌, true, List, is_some}
use Rattle.sgx_rules.specs.declared.entries.Action.TheVariants.{Init}
use Rattle.sgx_rules.specs.declared.entries.Entry.{Entry}
use Rattle.sgx_rules.specs.declared.entries.Event.{Event}
use Rattle.sgx_rules.specs.declared.entries.Event.TheVariants.{Did}
use Rattle.sgx_rules.specs.inner.Enclaves.{created}
use Rattle.sgx_rules.specs.Flat.{enclave_sight_of}
use Rattle.sgx_rules.specs.Table.{is_ready}
use Rattle.script_rules.specs.Script.{is_initialised}

-- an enclave that was initialised was created before
abbrev pub InitsAreReady : List Entry → Type 0
InitsAreReady past = (e : ℕ) → is_initialised past e ≡ true → is_ready (enclave_sight_of (created past e)) ≡ true

-- only an enclave that was created is initialised
abbrev pub InitTells : List Entry → Event → Type 0
InitTells past (Did (Init enclave expect) answer) = is_some (created past enclave) ≡ true
InitTells past _ = Unit {0}
