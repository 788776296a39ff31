use Rattle.std.proofs.Common.{refl}
use lib.Count.{ones}
use Rattle.sgx_types.specs.Counts.{any_below, count_below, least_below}
use Rattle.worked_driver.proofs.wrong_kicks.a_track_is_followed_by_the_second_try.Goals as goal

pub returns : goal.returns
unfolding any_below count_below least_below ones
returns c = record { track = refl; early = refl }
