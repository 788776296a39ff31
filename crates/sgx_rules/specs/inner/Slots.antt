-- A slot that no open start names.
use Rattle.std.specs.Prelude.{ℕ, ◌≡◌, false, List}
use Rattle.sgx_rules.specs.declared.entries.Entry.{Entry}
use Rattle.sgx_types.specs.declared.names.VaSlot.{VaSlot}
use Rattle.sgx_rules.specs.Slots.{open_slot, names_slot}

-- no open start names the slot
abbrev pub IsIdle : List Entry → VaSlot → Type 0
IsIdle past s = (n : ℕ) → names_slot (open_slot past n) s ≡ false
