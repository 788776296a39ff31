-- The row of the commit of ELDU, by the record that was brought.
use Rattle.std.specs.Prelude.{ℕ, ◌==◌, ◌&&◌, not, Bool, false, List, Option, Some, None}
use Rattle.std.specs.Str.{bytes_eq}
use Rattle.sgx_types.specs.declared.record.Header.{Header}
use Rattle.sgx_rules.specs.declared.refusals.Refusal.TheVariants as why
use Rattle.sgx_types.specs.Sealed.{Sealed}
use Rattle.sgx_types.specs.Cases.{allowed, when, ◌otherwise◌}
use Rattle.sgx_rules.specs.Table.{Row}

-- the two headers are one
abbrev pub same_header : Header → Header → Bool
same_header a b = (a.enclave == b.enclave) && (a.address == b.address) && (a.flags == b.flags)

abbrev pub is_header : Option Header → Header → Bool
is_header None given = false
is_header (Some header) given = same_header given header

-- the cases, by the record, the tag that is computed of it, and the header of the page
abbrev pub eld_row : Sealed → List ℕ → Option Header → Row
eld_row rec computed header =
    when (not (bytes_eq rec.tag computed)) (why.MacFail rec.tag computed)
    otherwise when (not (is_header header rec.header)) (why.BadHeader rec.header.enclave rec.header.address rec.header.flags)
    otherwise allowed
