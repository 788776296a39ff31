-- A job in which the store has no room at first, so that a page stays.
use Rattle.std.specs.Prelude.{List, [], ◌∷◌, ◌++◌, reverse}
use Rattle.sgx_types.specs.declared.names.Actor.TheVariants.{Builder, Reclaimer}
use Rattle.sgx_rules.specs.declared.entries.Cause.TheVariants as causes
use Rattle.sgx_rules.specs.declared.entries.Entry.{Entry}
use Rattle.sgx_rules.specs.declared.entries.Look.TheVariants as looks
use Rattle.job_grammar.specs.Jobs.{JobView}
use Rattle.worked_driver.specs.inner.TightJob.{fills_up, reads_page, tight_job}
use Rattle.worked_driver.specs.inner.Words.{add_reg, aex, age, back, block, enter, exit, fill, init, load, out}
use Rattle.worked_driver.specs.inner.Words.{resume, start_back, start_out, track, try_refused}
use Rattle.worked_traces.specs.inner.Traces.{cpu}

-- the first room and the third get fail, which no rule here looks at
abbrev pub room_job : JobView
room_job = tight_job reads_page

-- its trace
abbrev pub room_trace : List Entry
room_trace = reverse (fills_up ++ (
    age 0 looks.NoRoom
    ∷ age 1 looks.Taken
    ∷ block Reclaimer 3
    ∷ try_refused Reclaimer 3 0 1 0
    ∷ track Reclaimer
    ∷ start_out Reclaimer 3 0 1
    ∷ out Reclaimer 3 1 1
    ∷ add_reg Builder 5 3 7
    ∷ age 2 looks.Taken
    ∷ block Reclaimer 4
    ∷ try_refused Reclaimer 4 1 2 0
    ∷ track Reclaimer
    ∷ start_out Reclaimer 4 1 2
    ∷ out Reclaimer 4 2 2
    ∷ add_reg Builder 6 4 7
    ∷ age 3 looks.Taken
    ∷ block Reclaimer 5
    ∷ try_refused Reclaimer 5 2 3 0
    ∷ track Reclaimer
    ∷ start_out Reclaimer 5 2 3
    ∷ out Reclaimer 5 3 3
    ∷ add_reg Builder 7 5 7
    ∷ age 4 looks.Taken
    ∷ init Builder
    ∷ block Reclaimer 6
    ∷ try_refused Reclaimer 6 3 4 0
    ∷ track Reclaimer
    ∷ start_out Reclaimer 6 3 4
    ∷ out Reclaimer 6 4 4
    ∷ start_back (cpu 0) 6 1 0 1
    ∷ back (cpu 0) 6 1 1
    ∷ age 0 looks.Held
    ∷ enter (cpu 0) 0 2 6 0
    ∷ age 5 looks.Taken
    ∷ aex (cpu 0) causes.Fault
    ∷ block Reclaimer 3
    ∷ try_refused Reclaimer 3 0 5 0
    ∷ track Reclaimer
    ∷ start_out Reclaimer 3 0 5
    ∷ out Reclaimer 3 5 5
    ∷ start_back (cpu 0) 3 2 1 2
    ∷ back (cpu 0) 3 2 2
    ∷ age 6 looks.Taken
    ∷ resume (cpu 0) 0 2 6 0
    ∷ block Reclaimer 4
    ∷ fill (cpu 0) 2 3
    ∷ try_refused Reclaimer 4 1 6 1
    ∷ load (cpu 0) 0x2000 7
    ∷ track Reclaimer
    ∷ exit (cpu 0)
    ∷ []))
