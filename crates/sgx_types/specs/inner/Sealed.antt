-- The bytes of a record, and why bytes give none.
use Rattle.std.specs.Prelude.{ℕ, ◌≡◌, ◌<◌, ◌^◌, ◌==◌, if◌then◌else◌, List, ◌++◌, length}
use Rattle.sgx_types.specs.declared.record.RecordFault.{RecordFault}
use Rattle.sgx_types.specs.declared.record.RecordFault.TheVariants.{BadLength, Memory}
use Rattle.sgx_types.specs.Sealed.{Sealed, header_bytes}

-- the bytes of a record: the header, the cipher and the tag
abbrev pub record_bytes : Sealed → List ℕ
record_bytes rec = header_bytes rec.header ++ rec.cipher ++ rec.tag

-- the sizes of a record: its three numbers have 64 bits, its cipher has 4096 bytes and its tag 32
pub record IsRecord (rec : Sealed) : Type 0 where
  pub enclave : rec.header.enclave < 2 ^ 64
  pub address : rec.header.address < 2 ^ 64
  pub flags : rec.header.flags < 2 ^ 64
  pub cipher : length rec.cipher ≡ 4096
  pub tag : length rec.tag ≡ 32

-- why bytes give no record: there are not 4152 of them, and else only for want of memory
abbrev pub fault_of : List ℕ → RecordFault
fault_of bytes = if length bytes == 4152 then Memory else BadLength (length bytes)
