use Rattle.std.proofs.Common.{refl}
use lib.Count.{ones}
use Rattle.sgx_types.specs.Counts.{any_below, count_below, least_below}
use Rattle.worked_driver.proofs.wrong_kicks.a_first_refusal_is_answered_by_a_track.Goals as goal

pub returns : goal.returns
unfolding any_below count_below least_below ones
returns c = record { again = refl; other = refl; kick = refl }
