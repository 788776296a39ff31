use Rattle.driver_pass.proofs.KeptLaws.{told_keepers}
use Rattle.driver_pass.proofs.laws.keepers_are_told.Goals as goal

pub returns : goal.returns
returns c = λ k made j past d m v next epoch form t a s is known there.
    told_keepers k made j past d m a v next epoch form t s is known there
