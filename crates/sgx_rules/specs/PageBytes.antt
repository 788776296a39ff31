-- What is sealed of a page, by the entries before a place: its header and its bytes.
use Rattle.std.specs.Prelude.{ℕ, ◌==◌, ◌*◌, if◌then◌else◌, List, [], ◌∷◌, ◌++◌, Option, Some, None, map}
use Rattle.std.specs.List.{range_with_len}
use Rattle.std.specs.Int.{w32, w64, to_le_bytes}
use Rattle.sgx_rules.specs.declared.entries.Action.TheVariants.{Init}
use Rattle.sgx_rules.specs.declared.entries.Answer.TheVariants.{Hash}
use Rattle.sgx_rules.specs.declared.entries.Entry.{Entry}
use Rattle.sgx_rules.specs.declared.entries.Event.{Event}
use Rattle.sgx_rules.specs.declared.entries.Event.TheVariants.{Did}
use Rattle.sgx_types.specs.declared.names.Kind.TheVariants as kinds
use Rattle.sgx_types.specs.declared.names.Page.{Page}
use Rattle.sgx_types.specs.declared.record.Header.{Header}
use Rattle.sgx_rules.specs.Flat.{FlatEnclave, flat, flat_bytes, header_in}
use Rattle.sgx_types.specs.Pages.{is_secs_page, is_va_page, no_perm}
use Rattle.sgx_types.specs.Layouts.{bytes_of, flags_of, zeros}
use Rattle.sgx_rules.specs.Slots.{version_in}

-- ---- headers

-- the header of a version array page: its number as an address in bytes
abbrev pub va_header : ℕ → Header
va_header number = record { enclave = 0; address = 4096 * number; flags = flags_of kinds.Va no_perm }

-- .. and of an enclave's SECS, which has no address
abbrev pub secs_header : ℕ → Header
secs_header enclave = record { enclave = enclave; address = 0; flags = flags_of kinds.Secs no_perm }

-- the header of a page before a place, None for a TCS or REG page that was not added
abbrev pub header_at : List Entry → Page → Option Header
header_at past g =
    if is_va_page g then Some (va_header g.number)
    else if is_secs_page g then Some (secs_header g.enclave)
    else header_in (flat past) g

-- ---- bytes

abbrev pub digest_after : Event → ℕ → List ℕ → List ℕ
digest_after (Did (Init enclave expect) (Hash digest)) e before = if enclave == e then digest else before
digest_after _ e before = before

-- the digest with which an enclave was initialised, zero before
abbrev pub digest_of : List Entry → ℕ → List ℕ
digest_of [] e = zeros 32
digest_of (e ∷ past) enclave = digest_after e.event enclave (digest_of past enclave)

-- the bytes of a SECS by its enclave's range and digest: SIZE at 0, BASE at 8, the number 1 at 16 and the digest at 64 (Intel SDM
-- volume 3D, SECS, where MRENCLAVE stands at 64 and SSAFRAMESIZE at 16)
abbrev pub secs_bytes : FlatEnclave → List ℕ → List ℕ
secs_bytes x digest = to_le_bytes w64 x.size ++ to_le_bytes w64 x.base ++ to_le_bytes w32 1 ++ zeros 44 ++ digest ++ zeros 4000

abbrev pub secs_bytes_of : Option FlatEnclave → List ℕ → List ℕ
secs_bytes_of None digest = zeros 4096
secs_bytes_of (Some x) digest = secs_bytes x digest

-- the 512 slots of a version array page before a place
abbrev pub va_words : List Entry → ℕ → List ℕ
va_words past number = map (λ index. version_in past (record { va = number; index = index })) (range_with_len 0 512)

-- a page's bytes before a place: its slots, its enclave's range and digest, or its words in flat memory
abbrev pub bytes_at : List Entry → Page → List ℕ
bytes_at past g =
    if is_va_page g then bytes_of (va_words past g.number)
    else if is_secs_page g then secs_bytes_of ((flat past).enclaves g.enclave) (digest_of past g.enclave)
    else flat_bytes past g
