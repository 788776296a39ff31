use Rattle.std.proofs.Common.{refl}
use lib.Count.{ones}
use Rattle.sgx_types.specs.Counts.{least_below}
use Rattle.sgx_types.specs.declared.names.Actor.TheVariants.{Reclaimer}
use Rattle.worked_driver.specs.inner.Faults.{first_of}
use Rattle.worked_driver.specs.inner.MeasuredTrace.{measured_job, measured_trace}
use Rattle.worked_driver.proofs.FaultLaws.{init_breaks_age}
use Rattle.worked_driver.proofs.wrong_ages.the_reclaimer_initialises_nothing.Goals as goal

pub returns : goal.returns
unfolding least_below ones
returns c = init_breaks_age measured_job (first_of 33 measured_trace) Reclaimer refl refl refl refl refl
