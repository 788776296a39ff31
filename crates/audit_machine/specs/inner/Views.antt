-- The map in which the records are kept, with pages as its keys.
use Rattle.std.specs.Prelude.{ℕ, List, map}
use Rattle.sgx_types.specs.declared.names.Page.{Page}
use Rattle.sgx_types.specs.Sealed.{Sealed}
use Rattle.seal_record.specs.declared.unseal.UnsealedWork.{UnsealedWork}
use Rattle.audit_machine.specs.declared.old_records.OldRecords.TheInside.{Inside}

-- a page, and the record that was opened
abbrev pub pair_of : Page × UnsealedWork → Page × (ℕ × Sealed)
pair_of entry = (entry.0, (entry.1.version, entry.1.rec))

-- each page that is a key, and its record
abbrev pub pairs_in : Inside → List (Page × (ℕ × Sealed))
pairs_in old = map pair_of old.works.entries
