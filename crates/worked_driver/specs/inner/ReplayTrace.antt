-- A job in which an old record of a page comes back, and its processor is ended.
use Rattle.std.specs.Prelude.{List, [], ◌∷◌, ◌++◌, reverse}
use Rattle.sgx_types.specs.declared.names.Actor.TheVariants.{Reclaimer}
use Rattle.sgx_rules.specs.declared.entries.BusWhy.TheVariants as reasons
use Rattle.sgx_rules.specs.declared.entries.Cause.TheVariants as causes
use Rattle.sgx_rules.specs.declared.entries.Entry.{Entry}
use Rattle.sgx_rules.specs.declared.entries.Look.TheVariants as looks
use Rattle.job_grammar.specs.declared.jobs.Op.TheVariants as ops
use Rattle.job_grammar.specs.Jobs.{JobView}
use Rattle.worked_driver.specs.inner.ReloadTrace.{stores_page}
use Rattle.worked_driver.specs.inner.TightJob.{tight_job}
use Rattle.worked_driver.specs.inner.Words.{aex, age, back, back_refused, block, bus, fill, load, out, resume}
use Rattle.worked_driver.specs.inner.Words.{start_back, start_out, track, try_refused}
use Rattle.worked_traces.specs.inner.Traces.{cpu}

-- the second get of page 2 gives its first record, which no rule here looks at
abbrev pub replay_job : JobView
replay_job = tight_job (ops.Enter 1 0 ∷ ops.Store 0x2000 9 ∷ ops.Load 0x7000 ∷ ops.Load 0x6000 ∷ ops.Load 0x5000
    ∷ ops.Load 0x4000 ∷ ops.Load 0x2000 ∷ ops.Exit ∷ [])

-- its trace
abbrev pub replay_trace : List Entry
replay_trace = reverse (stores_page ++ (
    aex (cpu 0) causes.Fault
    ∷ age 0 looks.Held
    ∷ start_back (cpu 0) 3 6 2 7
    ∷ back (cpu 0) 3 6 7
    ∷ age 1 looks.Held
    ∷ resume (cpu 0) 0 5 6 0
    ∷ age 2 looks.Young
    ∷ fill (cpu 0) 6 3
    ∷ age 7 looks.Taken
    ∷ load (cpu 0) 0x6000 7
    ∷ block Reclaimer 4
    ∷ aex (cpu 0) causes.Fault
    ∷ try_refused Reclaimer 4 2 8 0
    ∷ track Reclaimer
    ∷ start_out Reclaimer 4 2 8
    ∷ out Reclaimer 4 7 8
    ∷ start_back (cpu 0) 4 5 1 6
    ∷ back (cpu 0) 4 5 6
    ∷ age 0 looks.Held
    ∷ resume (cpu 0) 0 5 6 0
    ∷ age 6 looks.Young
    ∷ fill (cpu 0) 5 4
    ∷ age 1 looks.Held
    ∷ load (cpu 0) 0x5000 7
    ∷ age 2 looks.Taken
    ∷ aex (cpu 0) causes.Fault
    ∷ block Reclaimer 2
    ∷ try_refused Reclaimer 2 1 9 0
    ∷ track Reclaimer
    ∷ start_out Reclaimer 2 1 9
    ∷ out Reclaimer 2 2 9
    ∷ start_back (cpu 0) 2 4 0 5
    ∷ back (cpu 0) 2 4 5
    ∷ age 5 looks.Young
    ∷ resume (cpu 0) 0 5 6 0
    ∷ age 0 looks.Held
    ∷ fill (cpu 0) 4 2
    ∷ age 6 looks.Taken
    ∷ load (cpu 0) 0x4000 7
    ∷ block Reclaimer 3
    ∷ aex (cpu 0) causes.Fault
    ∷ try_refused Reclaimer 3 0 10 0
    ∷ track Reclaimer
    ∷ start_out Reclaimer 3 0 10
    ∷ out Reclaimer 3 6 10
    ∷ start_back (cpu 0) 3 2 1 9
    ∷ back_refused (cpu 0) 3
    ∷ bus 0 2 reasons.Mac
    ∷ []))
