-- Facts on the test of headers.
use Rattle.std.proofs.Common.{◌≡◌, ◌==◌, ◌&&◌, true, refl}
use Rattle.std.proofs.lemmas.Bool.{eqb-true}
use Rattle.sgx_types.specs.declared.record.Header.{Header}
use Rattle.sgx_types.proofs.Truths.{both_true, eqb-refl}
use Rattle.seal_record.specs.inner.Row.{same_header}

-- headers that the test finds the same are equal
pub same_headers : (a b : Header) → same_header a b ≡ true → a ≡ b
same_headers a b is =
    let first = both_true ((a.enclave == b.enclave) && (a.address == b.address)) (a.flags == b.flags) is in
    let second = both_true (a.enclave == b.enclave) (a.address == b.address) first.0 in
    λ i. record {
      enclave = eqb-true a.enclave b.enclave second.0 i;
      address = eqb-true a.address b.address second.1 i;
      flags = eqb-true a.flags b.flags first.1 i;
    }

-- a header is the same as itself
pub same_header-refl : (a : Header) → same_header a a ≡ true
same_header-refl a = rw (eqb-refl a.enclave, eqb-refl a.address, eqb-refl a.flags) refl
