-- A job with a page that is measured, and so held by the builder, while pages go out.
use Rattle.std.specs.Prelude.{List, [], ◌∷◌, None, true, false, replicate, reverse}
use Rattle.sgx_types.specs.declared.names.Actor.TheVariants.{Builder, Reclaimer}
use Rattle.sgx_rules.specs.declared.entries.Entry.{Entry}
use Rattle.sgx_rules.specs.declared.entries.Look.TheVariants as looks
use Rattle.job_grammar.specs.declared.jobs.PageLine.TheVariants as lines
use Rattle.job_grammar.specs.declared.jobs.Op.TheVariants as ops
use Rattle.job_grammar.specs.Jobs.{JobView}
use Rattle.worked_driver.specs.inner.Words.{add_read_only, add_reg, add_tcs, age, back, block, create, enter, exit}
use Rattle.worked_driver.specs.inner.Words.{extend, fill, init}
use Rattle.worked_driver.specs.inner.Words.{load, out, r_perm, start_back, start_out, track, try_refused}
use Rattle.worked_traces.specs.inner.Traces.{cpu, epa, rw_perm}

-- six frames for five pages, the version array and the SECS; page 2 is measured
abbrev pub measured_job : JobView
measured_job = record {
  epc = 6;
  marks = record { low = 1; high = 2; scan = 2 };
  key = replicate 32 0;
  start_epoch = 1;
  start_version = 1;
  enclaves = record {
    base = 0x10000;
    size = 0x10000;
    lines = lines.Tcs 0 1 1 true ∷ lines.Reg 1 1 rw_perm 0 true ∷ lines.Reg 2 1 rw_perm 7 false ∷ lines.Reg 3 2 r_perm 5 true ∷ [];
    expect = None;
  } ∷ [];
  plans = [];
  scripts = (ops.Enter 1 0 ∷ ops.Load 0x4000 ∷ ops.Exit ∷ []) ∷ [];
}

-- its trace
abbrev pub measured_trace : List Entry
measured_trace = reverse (
    epa Builder 0
    ∷ create Builder 1
    ∷ add_tcs Builder 0 2 1
    ∷ add_reg Builder 1 3 0
    ∷ add_reg Builder 2 4 7
    ∷ extend Builder 4 0
    ∷ extend Builder 4 1
    ∷ extend Builder 4 2
    ∷ extend Builder 4 3
    ∷ extend Builder 4 4
    ∷ extend Builder 4 5
    ∷ extend Builder 4 6
    ∷ extend Builder 4 7
    ∷ extend Builder 4 8
    ∷ extend Builder 4 9
    ∷ extend Builder 4 10
    ∷ extend Builder 4 11
    ∷ extend Builder 4 12
    ∷ extend Builder 4 13
    ∷ extend Builder 4 14
    ∷ extend Builder 4 15
    ∷ add_read_only Builder 3 5 5
    ∷ age 0 looks.Taken
    ∷ age 1 looks.Taken
    ∷ block Reclaimer 2
    ∷ block Reclaimer 3
    ∷ try_refused Reclaimer 2 0 1 0
    ∷ track Reclaimer
    ∷ start_out Reclaimer 2 0 1
    ∷ out Reclaimer 2 0 1
    ∷ start_out Reclaimer 3 1 2
    ∷ out Reclaimer 3 1 2
    ∷ add_read_only Builder 4 2 5
    ∷ init Builder
    ∷ start_back (cpu 0) 3 0 0 1
    ∷ back (cpu 0) 3 0 1
    ∷ age 2 looks.Taken
    ∷ age 3 looks.Taken
    ∷ block Reclaimer 4
    ∷ block Reclaimer 5
    ∷ try_refused Reclaimer 4 0 2 0
    ∷ track Reclaimer
    ∷ start_out Reclaimer 4 0 3
    ∷ out Reclaimer 4 2 3
    ∷ start_back (cpu 0) 4 1 1 2
    ∷ back (cpu 0) 4 1 2
    ∷ enter (cpu 0) 0 3 4 0
    ∷ fill (cpu 0) 4 2
    ∷ load (cpu 0) 0x4000 5
    ∷ exit (cpu 0)
    ∷ [])
