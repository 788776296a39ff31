use Rattle.std.proofs.Common.{refl}
use lib.Count.{ones}
use Rattle.sgx_types.specs.Counts.{any_below, count_below, least_below}
use Rattle.worked_driver.proofs.wrong_dues.the_secs_comes_first.Goals as goal

pub returns : goal.returns
unfolding any_below count_below least_below ones
returns c = record { page = refl; told = refl; slot = refl; unasked = refl }
