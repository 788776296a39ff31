-- Digests, as SHA-256 makes them.
use Rattle.std.specs.Prelude.{ℕ, ◌≡◌, ◌<◌, List, All, length}

-- 32 bytes
pub record IsDigest (digest : List ℕ) : Type 0 where
  pub sized : length digest ≡ 32
  pub bytes : All (λ b. b < 256) digest
