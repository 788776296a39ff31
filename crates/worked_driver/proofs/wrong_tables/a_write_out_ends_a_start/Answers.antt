use Rattle.std.proofs.Common.{refl}
use lib.Count.{ones}
use Rattle.sgx_types.specs.Counts.{any_below, count_below, least_below}
use Rattle.worked_driver.proofs.wrong_tables.a_write_out_ends_a_start.Goals as goal

pub returns : goal.returns
unfolding any_below count_below least_below ones
returns c = refl
