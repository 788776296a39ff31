use Rattle.std.proofs.Common.{refl}
use lib.Count.{ones}
use Rattle.sgx_types.specs.Counts.{any_below, count_below, least_below}
use Rattle.worked_driver.specs.inner.SpentTrace.{spent_job, spent_trace}
use Rattle.worked_driver.proofs.FaultLaws.{whole_history}
use Rattle.worked_driver.proofs.whole_traces.a_run_that_ends_at_the_last_epoch_is_a_history.Goals as goal

pub returns : goal.returns
unfolding any_below count_below least_below ones
returns c = whole_history spent_job spent_trace refl
