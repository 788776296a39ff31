-- A sealed record as contracts see it, and its bytes; numbers have their low byte first.
use Rattle.std.specs.Prelude.{ℕ, ◌+◌, ◌*◌, List, ◌++◌}
use Rattle.std.specs.Int.{w64, to_le_bytes}
use Rattle.sgx_types.specs.declared.names.Page.{Page}
use Rattle.sgx_types.specs.declared.names.Kind.{Kind}
use Rattle.sgx_types.specs.declared.names.Perm.{Perm}
use Rattle.sgx_types.specs.declared.record.Header.{Header}
use Rattle.sgx_types.specs.Layouts.{flags_of}

-- a header, the cipher bytes and the tag
pub record Sealed : Type 0 where
  pub header : Header
  pub cipher : List ℕ
  pub tag : List ℕ

-- the 24 bytes of a header: the enclave's number, the page's address and SECINFO.FLAGS
abbrev pub header_bytes : Header → List ℕ
header_bytes header = to_le_bytes w64 header.enclave ++ to_le_bytes w64 header.address ++ to_le_bytes w64 header.flags

-- the header of a page of an enclave with this base, added with this kind and permissions
abbrev pub header_of : ℕ → Page → Kind → Perm → Header
header_of base page kind perm = record { enclave = page.enclave; address = base + 4096 * page.number; flags = flags_of kind perm }
