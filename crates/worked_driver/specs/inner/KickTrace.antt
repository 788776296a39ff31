-- A job in which a processor is kicked and goes on, and pages go out and come back.
use Rattle.std.specs.Prelude.{List, [], ◌∷◌, None, true, replicate, reverse}
use Rattle.sgx_types.specs.declared.names.Actor.TheVariants.{Builder, Reclaimer}
use Rattle.sgx_rules.specs.declared.entries.Cause.TheVariants as causes
use Rattle.sgx_rules.specs.declared.entries.Entry.{Entry}
use Rattle.sgx_rules.specs.declared.entries.Look.TheVariants as looks
use Rattle.job_grammar.specs.declared.jobs.PageLine.TheVariants as lines
use Rattle.job_grammar.specs.declared.jobs.Op.TheVariants as ops
use Rattle.job_grammar.specs.Jobs.{JobView}
use Rattle.worked_driver.specs.inner.Words.{add_reg, add_tcs, aex, age, back, block, create, enter, exit, fill, init}
use Rattle.worked_driver.specs.inner.Words.{kick, load, out}
use Rattle.worked_driver.specs.inner.Words.{resume, start_back, start_out, track, try_refused}
use Rattle.worked_traces.specs.inner.Traces.{cpu, epa, rw_perm}

-- seven frames for eight pages, the version array and the SECS: the processor loads from five pages in turn
abbrev pub kick_job : JobView
kick_job = record {
  epc = 7;
  marks = record { low = 2; high = 3; scan = 2 };
  key = replicate 32 0;
  start_epoch = 1;
  start_version = 1;
  enclaves = record {
    base = 0x10000;
    size = 0x10000;
    lines = lines.Tcs 0 1 1 true ∷ lines.Reg 1 1 rw_perm 0 true ∷ lines.Reg 2 5 rw_perm 7 true ∷ [];
    expect = None;
  } ∷ [];
  plans = [];
  scripts = (ops.Enter 1 0 ∷ ops.Load 0x2000 ∷ ops.Load 0x3000 ∷ ops.Load 0x4000 ∷ ops.Load 0x5000
      ∷ ops.Load 0x6000 ∷ ops.Load 0x2000 ∷ ops.Exit ∷ []) ∷ [];
}

-- its trace
abbrev pub kick_trace : List Entry
kick_trace = reverse (
    epa Builder 0
    ∷ create Builder 1
    ∷ add_tcs Builder 0 2 1
    ∷ add_reg Builder 1 3 0
    ∷ add_reg Builder 2 4 7
    ∷ add_reg Builder 3 5 7
    ∷ add_reg Builder 4 6 7
    ∷ age 0 looks.Taken
    ∷ age 1 looks.Taken
    ∷ block Reclaimer 2
    ∷ block Reclaimer 3
    ∷ try_refused Reclaimer 2 0 1 0
    ∷ track Reclaimer
    ∷ start_out Reclaimer 2 0 1
    ∷ out Reclaimer 2 0 1
    ∷ start_out Reclaimer 3 1 2
    ∷ out Reclaimer 3 1 2
    ∷ age 2 looks.Taken
    ∷ age 3 looks.Taken
    ∷ block Reclaimer 4
    ∷ block Reclaimer 5
    ∷ try_refused Reclaimer 4 2 2 0
    ∷ track Reclaimer
    ∷ add_reg Builder 5 2 7
    ∷ start_out Reclaimer 4 2 3
    ∷ out Reclaimer 4 2 3
    ∷ start_out Reclaimer 5 3 4
    ∷ out Reclaimer 5 3 4
    ∷ add_reg Builder 6 3 7
    ∷ init Builder
    ∷ start_back (cpu 0) 4 0 0 1
    ∷ back (cpu 0) 4 0 1
    ∷ start_back (cpu 0) 5 1 1 2
    ∷ back (cpu 0) 5 1 2
    ∷ age 4 looks.Taken
    ∷ enter (cpu 0) 0 4 5 0
    ∷ aex (cpu 0) causes.Fault
    ∷ age 5 looks.Taken
    ∷ block Reclaimer 6
    ∷ block Reclaimer 2
    ∷ try_refused Reclaimer 6 0 3 0
    ∷ track Reclaimer
    ∷ start_out Reclaimer 6 0 5
    ∷ out Reclaimer 6 4 5
    ∷ start_back (cpu 0) 6 2 2 3
    ∷ back (cpu 0) 6 2 3
    ∷ resume (cpu 0) 0 4 5 0
    ∷ fill (cpu 0) 2 6
    ∷ load (cpu 0) 0x2000 7
    ∷ start_out Reclaimer 2 1 6
    ∷ out Reclaimer 2 5 6
    ∷ age 6 looks.Taken
    ∷ age 0 looks.Young
    ∷ aex (cpu 0) causes.Fault
    ∷ block Reclaimer 3
    ∷ try_refused Reclaimer 3 2 4 0
    ∷ start_back (cpu 0) 2 3 3 4
    ∷ back (cpu 0) 2 3 4
    ∷ resume (cpu 0) 0 4 5 0
    ∷ fill (cpu 0) 3 2
    ∷ load (cpu 0) 0x3000 7
    ∷ aex (cpu 0) causes.Fault
    ∷ track Reclaimer
    ∷ start_out Reclaimer 3 2 7
    ∷ out Reclaimer 3 6 7
    ∷ start_back (cpu 0) 3 4 0 5
    ∷ back (cpu 0) 3 4 5
    ∷ age 1 looks.Held
    ∷ age 2 looks.Young
    ∷ age 0 looks.Held
    ∷ age 3 looks.Young
    ∷ resume (cpu 0) 0 4 5 0
    ∷ age 4 looks.Held
    ∷ fill (cpu 0) 4 3
    ∷ load (cpu 0) 0x4000 7
    ∷ aex (cpu 0) causes.Fault
    ∷ age 1 looks.Young
    ∷ age 2 looks.Taken
    ∷ age 0 looks.Young
    ∷ block Reclaimer 6
    ∷ try_refused Reclaimer 6 0 5 0
    ∷ track Reclaimer
    ∷ start_out Reclaimer 6 0 8
    ∷ out Reclaimer 6 2 8
    ∷ start_back (cpu 0) 6 5 1 6
    ∷ back (cpu 0) 6 5 6
    ∷ age 3 looks.Taken
    ∷ age 4 looks.Young
    ∷ resume (cpu 0) 0 4 5 0
    ∷ fill (cpu 0) 5 6
    ∷ block Reclaimer 2
    ∷ try_refused Reclaimer 2 1 6 1
    ∷ track Reclaimer
    ∷ try_refused Reclaimer 2 1 7 1
    ∷ kick 0
    ∷ aex (cpu 0) causes.Kick
    ∷ start_out Reclaimer 2 1 9
    ∷ out Reclaimer 2 3 9
    ∷ resume (cpu 0) 0 4 5 0
    ∷ fill (cpu 0) 5 6
    ∷ age 1 looks.Held
    ∷ load (cpu 0) 0x5000 7
    ∷ aex (cpu 0) causes.Fault
    ∷ age 0 looks.Young
    ∷ age 5 looks.Young
    ∷ start_back (cpu 0) 2 6 2 7
    ∷ back (cpu 0) 2 6 7
    ∷ age 4 looks.Taken
    ∷ block Reclaimer 3
    ∷ resume (cpu 0) 0 4 5 0
    ∷ try_refused Reclaimer 3 2 7 1
    ∷ track Reclaimer
    ∷ fill (cpu 0) 6 2
    ∷ try_refused Reclaimer 3 2 8 1
    ∷ kick 0
    ∷ aex (cpu 0) causes.Kick
    ∷ resume (cpu 0) 0 4 5 0
    ∷ start_out Reclaimer 3 2 10
    ∷ out Reclaimer 3 4 10
    ∷ fill (cpu 0) 6 2
    ∷ load (cpu 0) 0x6000 7
    ∷ aex (cpu 0) causes.Fault
    ∷ start_back (cpu 0) 3 2 0 8
    ∷ back (cpu 0) 3 2 8
    ∷ age 1 looks.Held
    ∷ resume (cpu 0) 0 4 5 0
    ∷ fill (cpu 0) 2 3
    ∷ age 0 looks.Held
    ∷ load (cpu 0) 0x2000 7
    ∷ age 5 looks.Taken
    ∷ exit (cpu 0)
    ∷ [])
