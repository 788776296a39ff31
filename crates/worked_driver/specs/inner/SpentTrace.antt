-- A job that begins at the last epoch, so that its first track ends the run.
use Rattle.std.specs.Prelude.{List, [], ◌∷◌, reverse}
use Rattle.sgx_types.specs.declared.names.Actor.TheVariants.{Builder, Reclaimer}
use Rattle.sgx_rules.specs.declared.entries.Entry.{Entry}
use Rattle.sgx_rules.specs.declared.entries.Look.TheVariants as looks
use Rattle.job_grammar.specs.Jobs.{JobView}
use Rattle.worked_driver.specs.inner.TightJob.{reads_page, tight_job}
use Rattle.worked_driver.specs.inner.Words.{add_reg, add_tcs, age, block, create, track_refused, try_refused}
use Rattle.worked_traces.specs.inner.Traces.{epa}

-- seven frames, and the last epoch but none to come
abbrev pub spent_job : JobView
spent_job = record (tight_job reads_page) { marks = record { low = 2; high = 3; scan = 2 }; start_epoch = 1099511627775 }

-- its trace
abbrev pub spent_trace : List Entry
spent_trace = reverse (
    epa Builder 0
    ∷ create Builder 1
    ∷ add_tcs Builder 0 2 1
    ∷ add_reg Builder 1 3 0
    ∷ add_reg Builder 2 4 7
    ∷ add_reg Builder 3 5 7
    ∷ age 0 looks.Taken
    ∷ add_reg Builder 4 6 7
    ∷ age 1 looks.Taken
    ∷ block Reclaimer 2
    ∷ block Reclaimer 3
    ∷ try_refused Reclaimer 2 0 1099511627775 0
    ∷ track_refused Reclaimer
    ∷ [])
