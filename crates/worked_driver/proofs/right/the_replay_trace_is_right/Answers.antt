use Rattle.std.proofs.Common.{refl}
use lib.Count.{ones}
use Rattle.sgx_types.specs.Counts.{any_below, count_below, least_below}
use Rattle.worked_driver.proofs.right.the_replay_trace_is_right.Goals as goal

pub returns : goal.returns
unfolding any_below count_below least_below ones
returns c = record { entries = refl; six = refl; end = refl }
