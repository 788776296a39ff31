-- A job with an interrupt, faults that no reload can help and a load from outside: saved state survives that its page is out.
use Rattle.std.specs.Prelude.{List, [], ◌∷◌, ◌++◌, reverse}
use Rattle.sgx_types.specs.declared.names.Actor.TheVariants.{Builder, Reclaimer}
use Rattle.sgx_rules.specs.declared.entries.AccessOp.TheVariants as accesses
use Rattle.sgx_rules.specs.declared.entries.Cause.TheVariants as causes
use Rattle.sgx_rules.specs.declared.entries.Entry.{Entry}
use Rattle.sgx_rules.specs.declared.entries.Look.TheVariants as looks
use Rattle.sgx_rules.specs.declared.entries.PfWhy.TheVariants as pfs
use Rattle.job_grammar.specs.declared.jobs.Op.TheVariants as ops
use Rattle.job_grammar.specs.Jobs.{JobView}
use Rattle.worked_driver.specs.inner.TightJob.{first_out, tight_job}
use Rattle.worked_driver.specs.inner.Words.{add_reg, aex, age, back, block, enter, exit, fill, init, kick, load}
use Rattle.worked_driver.specs.inner.Words.{out, outload, pf, plus, resume, set, start_back, start_out, track}
use Rattle.worked_driver.specs.inner.Words.{try_refused}
use Rattle.worked_traces.specs.inner.Traces.{cpu}

-- seven frames
abbrev pub timer_job : JobView
timer_job = tight_job (ops.Enter 1 0 ∷ ops.Set 5 ∷ ops.Load 0x6000 ∷ ops.Timer ∷ ops.OutLoad 1 0x2000 ∷ ops.Resume 1 0
    ∷ ops.Plus 1 ∷ ops.Load 0x2000 ∷ ops.Load 0x8000 ∷ ops.Load 0x0 ∷ ops.Exit ∷ [])

-- its trace
abbrev pub timer_trace : List Entry
timer_trace = reverse (first_out 1 ++ (
    age 1 looks.Taken
    ∷ add_reg Builder 5 2 7
    ∷ block Reclaimer 3
    ∷ try_refused Reclaimer 3 1 2 0
    ∷ track Reclaimer
    ∷ start_out Reclaimer 3 1 2
    ∷ out Reclaimer 3 1 2
    ∷ age 2 looks.Taken
    ∷ add_reg Builder 6 3 7
    ∷ block Reclaimer 4
    ∷ try_refused Reclaimer 4 2 3 0
    ∷ track Reclaimer
    ∷ start_out Reclaimer 4 2 3
    ∷ out Reclaimer 4 2 3
    ∷ age 3 looks.Taken
    ∷ add_reg Builder 7 4 7
    ∷ block Reclaimer 5
    ∷ try_refused Reclaimer 5 3 4 0
    ∷ track Reclaimer
    ∷ start_out Reclaimer 5 3 4
    ∷ out Reclaimer 5 3 4
    ∷ age 4 looks.Taken
    ∷ block Reclaimer 6
    ∷ try_refused Reclaimer 6 4 5 0
    ∷ init Builder
    ∷ track Reclaimer
    ∷ start_out Reclaimer 6 4 5
    ∷ out Reclaimer 6 4 5
    ∷ age 5 looks.Taken
    ∷ block Reclaimer 2
    ∷ try_refused Reclaimer 2 5 6 0
    ∷ track Reclaimer
    ∷ start_out Reclaimer 2 5 6
    ∷ out Reclaimer 2 5 6
    ∷ start_back (cpu 0) 2 0 0 1
    ∷ back (cpu 0) 2 0 1
    ∷ start_back (cpu 0) 5 1 1 2
    ∷ back (cpu 0) 5 1 2
    ∷ enter (cpu 0) 0 2 5 0
    ∷ set (cpu 0) 5
    ∷ fill (cpu 0) 6 3
    ∷ load (cpu 0) 0x6000 7
    ∷ aex (cpu 0) causes.Timer
    ∷ outload (cpu 0) 0x2000
    ∷ resume (cpu 0) 0 2 5 5
    ∷ plus (cpu 0) 1 6
    ∷ aex (cpu 0) causes.Fault
    ∷ start_back (cpu 0) 6 2 2 3
    ∷ back (cpu 0) 6 2 3
    ∷ age 6 looks.Young
    ∷ age 7 looks.Taken
    ∷ block Reclaimer 4
    ∷ try_refused Reclaimer 4 0 7 0
    ∷ track Reclaimer
    ∷ start_out Reclaimer 4 0 7
    ∷ out Reclaimer 4 7 7
    ∷ resume (cpu 0) 0 2 5 6
    ∷ age 0 looks.Held
    ∷ age 1 looks.Held
    ∷ age 2 looks.Held
    ∷ age 6 looks.Taken
    ∷ block Reclaimer 3
    ∷ try_refused Reclaimer 3 1 8 1
    ∷ track Reclaimer
    ∷ fill (cpu 0) 2 6
    ∷ load (cpu 0) 0x2000 7
    ∷ try_refused Reclaimer 3 1 9 1
    ∷ kick 0
    ∷ aex (cpu 0) causes.Kick
    ∷ start_out Reclaimer 3 1 8
    ∷ out Reclaimer 3 6 8
    ∷ age 0 looks.Taken
    ∷ block Reclaimer 2
    ∷ try_refused Reclaimer 2 2 9 0
    ∷ track Reclaimer
    ∷ start_out Reclaimer 2 2 9
    ∷ out Reclaimer 2 0 9
    ∷ start_back (cpu 0) 2 0 2 9
    ∷ back (cpu 0) 2 0 9
    ∷ resume (cpu 0) 0 2 5 6
    ∷ pf (cpu 0) accesses.Load 0x8000 pfs.Absent
    ∷ pf (cpu 0) accesses.Load 0x0 pfs.WrongType
    ∷ exit (cpu 0)
    ∷ []))
