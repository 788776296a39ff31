use Rattle.std.proofs.Common.{refl}
use lib.Count.{ones}
use Rattle.sgx_types.specs.Counts.{any_below, count_below, least_below}
use Rattle.worked_driver.proofs.wrong_kicks.the_kicks_stand_next_to_each_other.Goals as goal

pub returns : goal.returns
unfolding any_below count_below least_below ones
returns c = record { order = refl; one = refl; between = refl; twice = refl }
