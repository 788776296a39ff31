-- A job whose pages go out in the build and come back: the value that was stored is read.
use Rattle.std.specs.Prelude.{List, [], ◌∷◌, ◌++◌, reverse}
use Rattle.sgx_types.specs.declared.names.Actor.TheVariants.{Reclaimer}
use Rattle.sgx_rules.specs.declared.entries.Cause.TheVariants as causes
use Rattle.sgx_rules.specs.declared.entries.Entry.{Entry}
use Rattle.sgx_rules.specs.declared.entries.Look.TheVariants as looks
use Rattle.job_grammar.specs.declared.jobs.Op.TheVariants as ops
use Rattle.job_grammar.specs.Jobs.{JobView}
use Rattle.worked_driver.specs.inner.TightJob.{loads_page, tight_job}
use Rattle.worked_driver.specs.inner.Words.{aex, age, back, block, exit, fill, kick, load, out, resume, start_out}
use Rattle.worked_driver.specs.inner.Words.{store, track, try_refused}
use Rattle.worked_traces.specs.inner.Traces.{cpu}

-- seven frames for eight pages, the version array and the SECS
abbrev pub reload_job : JobView
reload_job = tight_job (ops.Enter 1 0 ∷ ops.Store 0x2000 9 ∷ ops.Load 0x7000 ∷ ops.Load 0x2000 ∷ ops.Exit ∷ [])

-- it begins so: page 2 comes back, the store is done, and the processor comes back behind a kick
abbrev pub stores_page : List Entry
stores_page = loads_page ++ (
    back (cpu 0) 2 2 3
    ∷ age 6 looks.Taken
    ∷ resume (cpu 0) 0 5 6 0
    ∷ block Reclaimer 3
    ∷ fill (cpu 0) 2 2
    ∷ try_refused Reclaimer 3 2 7 1
    ∷ store (cpu 0) 0x2000 9
    ∷ track Reclaimer
    ∷ fill (cpu 0) 7 4
    ∷ try_refused Reclaimer 3 2 8 1
    ∷ load (cpu 0) 0x7000 7
    ∷ kick 0
    ∷ aex (cpu 0) causes.Kick
    ∷ start_out Reclaimer 3 2 7
    ∷ out Reclaimer 3 6 7
    ∷ resume (cpu 0) 0 5 6 0
    ∷ age 7 looks.Young
    ∷ [])

-- its trace
abbrev pub reload_trace : List Entry
reload_trace = reverse (stores_page ++ (
    fill (cpu 0) 2 2
    ∷ age 0 looks.Held
    ∷ load (cpu 0) 0x2000 9
    ∷ age 1 looks.Young
    ∷ exit (cpu 0)
    ∷ []))
