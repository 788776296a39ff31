-- What a machine is made with.
use Rattle.std.specs.Prelude.{ℕ, List}

-- the frames of its EPC, its processors, the key under which it seals, and the numbers from which epochs and versions count
pub record Making : Type 0 where
  pub frames : ℕ
  pub cpus : ℕ
  pub key : List ℕ
  pub first_epoch : ℕ
  pub first_version : ℕ
