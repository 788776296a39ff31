-- The least lawful size of an enclave.
use Rattle.std.specs.Prelude.{ℕ, ◌≡◌, ◌≤◌, true}
use Rattle.sgx_types.specs.Lawful.{is_lawful}

-- no lawful size at this base that has room for so many bytes is less
pub record IsLeastLawful (base bytes size : ℕ) : Type 0 where
  pub lawful : is_lawful base size ≡ true
  pub room : bytes ≤ size
  pub least : (other : ℕ) → is_lawful base other ≡ true → bytes ≤ other → size ≤ other
