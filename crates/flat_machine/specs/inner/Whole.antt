-- What is true of every flat memory.
use Rattle.std.specs.Prelude.{ℕ, ◌≡◌, ◌/◌, [], Option, Some, None, length, slice_index_or}
use Rattle.sgx_types.specs.declared.names.TheConstants.{PROCESSORS}
use Rattle.flat_machine.specs.declared.flat.Enclave.{Enclave}
use Rattle.flat_machine.specs.declared.flat.Flat.TheInside.{Inside}
use Rattle.flat_machine.specs.inner.Parts.{FlatParts}

abbrev pub parts_of : Inside → FlatParts
parts_of m = record { enclaves = m.enclaves.items; tables = m.tables.items; cpus = m.cpus.items }

-- how many pages an enclave has, none where it was not created
abbrev pub page_count : Option Enclave → ℕ
page_count None = 0
page_count (Some x) = x.size / 4096

-- a place for each enclave from 1 to 8, with one for each of its pages, and 16 processors
pub record IsWholeMemory (m : Inside) : Type 0 where
  pub enclaves_len : length m.enclaves.items ≡ 9
  pub tables_len : length m.tables.items ≡ 9
  pub cpus_len : length m.cpus.items ≡ PROCESSORS
  pub pages_len : (e : ℕ) → length (slice_index_or m.tables.items e []) ≡ page_count (slice_index_or m.enclaves.items e None)
