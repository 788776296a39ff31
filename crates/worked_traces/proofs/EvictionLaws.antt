-- What the check does not find by itself of the page that goes out and comes back.
use Rattle.std.proofs.Common.{Some, None, refl, replicate, arith}
use lib.Count.{ones}
use Rattle.sgx_types.specs.Counts.{any_below, count_below, least_below}
use Rattle.sgx_rules.specs.Rules.{Along, EvictRule, RefusalRule}
use Rattle.sgx_rules.specs.Starts.{Start}
use Rattle.sgx_types.specs.declared.names.Actor.TheVariants.{Reclaimer}
use Rattle.script_rules.specs.Machines.{machine_of}
use Rattle.worked_traces.specs.inner.Evictions.{came_back, enter_by_reclaimer, first_slot, sevens}
use Rattle.worked_traces.specs.inner.Traces.{first_job}
use Rattle.worked_traces.proofs.TraceLaws.{first_trace_table}

abbrev out_started : Start
out_started = record { at = first_slot; slot = record { va = 0; index = 0 }; version = 1; loads = None; place = 12; actor = Reclaimer }

abbrev in_started : Start
in_started =
    record { at = first_slot; slot = record { va = 0; index = 0 }; version = 1; loads = Some sevens; place = 14; actor = Reclaimer }

pub came_back_table : Along (RefusalRule (machine_of first_job)) came_back
unfolding any_below count_below least_below ones
came_back_table = (
  (
    refl,
    record {
      page = sevens;
      ends = record { start = in_started; opened = refl; loads = refl };
      version = 1;
      tag = replicate 32 0;
      told = refl;
    },
  ),
  (
    (refl, refl),
    (
      (
        refl,
        record {
          page = sevens;
          held = refl;
          start = out_started;
          opened = refl;
          writes = refl;
          version = 1;
          tag = replicate 32 0;
          told = refl;
        },
      ),
      ((refl, (1, refl)), ((refl, refl), ((refl, refl), first_trace_table))),
    ),
  ),
)

pub enter_by_reclaimer_table : Along (RefusalRule (machine_of first_job)) enter_by_reclaimer
unfolding least_below ones
enter_by_reclaimer_table = search arith

pub came_back_drained : Along EvictRule came_back
unfolding count_below
came_back_drained = (tt, (tt, (record { start = out_started; opened = refl; writes = refl; told = refl }, (refl, search))))
