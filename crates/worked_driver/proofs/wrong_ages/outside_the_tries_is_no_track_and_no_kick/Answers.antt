use Rattle.std.proofs.Common.{refl}
use lib.Count.{ones}
use Rattle.sgx_types.specs.Counts.{any_below, count_below, least_below}
use Rattle.worked_driver.proofs.wrong_ages.outside_the_tries_is_no_track_and_no_kick.Goals as goal

pub returns : goal.returns
unfolding any_below count_below least_below ones
returns c = record { track = refl; kick = refl; start = refl }
