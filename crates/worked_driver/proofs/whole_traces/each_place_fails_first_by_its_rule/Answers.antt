use Rattle.std.proofs.Common.{refl}
use lib.Count.{ones}
use Rattle.sgx_types.specs.declared.names.Actor.TheVariants.{Builder, Reclaimer}
use Rattle.sgx_types.specs.Counts.{any_below, count_below, least_below}
use Rattle.history_rules.specs.declared.rules.Rule.TheVariants as rules
use Rattle.worked_driver.specs.inner.Faults.{first_of}
use Rattle.worked_driver.specs.inner.KickTrace.{kick_job, kick_trace}
use Rattle.worked_driver.specs.inner.Words.{block, init, kick}
use Rattle.worked_driver.proofs.FaultLaws.{fails_at_last}
use Rattle.worked_driver.proofs.whole_traces.each_place_fails_first_by_its_rule.Goals as goal

pub returns : goal.returns
unfolding any_below count_below least_below ones
returns c = record {
  script = fails_at_last kick_job (first_of 4 kick_trace) (init Builder) rules.Script refl;
  refusal = fails_at_last kick_job (first_of 11 kick_trace) (block Reclaimer 2) rules.Refusal refl;
  age = fails_at_last kick_job (first_of 8 kick_trace) (block Reclaimer 2) rules.Age refl;
  kick = fails_at_last kick_job (first_of 12 kick_trace) (kick 0) rules.Kick refl;
}
