use Rattle.std.proofs.Common.{refl}
use lib.Count.{ones}
use Rattle.sgx_types.specs.Counts.{any_below, count_below, least_below}
use Rattle.worked_driver.proofs.wrong_ages.the_taken_pages_are_tried_in_order.Goals as goal

pub returns : goal.returns
unfolding any_below count_below least_below ones
returns c = record { look = refl; order = refl; block = refl }
