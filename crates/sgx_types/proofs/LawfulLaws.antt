-- What a lawful range of an enclave gives.
use Rattle.std.proofs.Common.{◌≡◌, ℕ, ◌/◌, ◌^◌, ◌≤◌, true, nat_le, arith}
use Rattle.std.proofs.lemmas.Bool.{and_parts, leb-true}
use Rattle.sgx_types.specs.Lawful.{is_lawful, is_lawful_size}

-- an enclave has at most 4096 pages
pub few_pages : (base size : ℕ) → is_lawful base size ≡ true → size / 4096 ≤ 4096
few_pages base size h =
    let low : size ≤ 2 ^ 24 = leb-true size (2 ^ 24) (and_parts _ (nat_le size (2 ^ 24)) (and_parts (is_lawful_size size) _ h).0).1 in
    omega (arith, low)
