use Rattle.std.proofs.Common.{refl}
use lib.Count.{ones}
use Rattle.sgx_types.specs.Counts.{any_below, count_below, least_below}
use Rattle.worked_driver.proofs.wrong_dues.no_secs_is_due_while_a_page_is_left.Goals as goal

pub returns : goal.returns
unfolding any_below count_below least_below ones
returns c = record { before = refl; behind = refl }
