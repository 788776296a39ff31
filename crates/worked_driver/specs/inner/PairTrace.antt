-- A job of two processors in one enclave, both of which are kicked and go on.
use Rattle.std.specs.Prelude.{List, [], ◌∷◌, None, true, replicate, reverse}
use Rattle.sgx_types.specs.declared.names.Actor.TheVariants.{Builder, Reclaimer}
use Rattle.sgx_rules.specs.declared.entries.Cause.TheVariants as causes
use Rattle.sgx_rules.specs.declared.entries.Entry.{Entry}
use Rattle.sgx_rules.specs.declared.entries.Look.TheVariants as looks
use Rattle.job_grammar.specs.declared.jobs.PageLine.TheVariants as lines
use Rattle.job_grammar.specs.declared.jobs.Op.TheVariants as ops
use Rattle.job_grammar.specs.Jobs.{JobView, default_marks}
use Rattle.worked_driver.specs.inner.Words.{add_reg, add_tcs, aex, age, back, block, create, enter, exit, fill, init}
use Rattle.worked_driver.specs.inner.Words.{kick, load, out}
use Rattle.worked_driver.specs.inner.Words.{resume, start_back, start_out, track, try_refused, xadd}
use Rattle.worked_traces.specs.inner.Traces.{cpu, epa, rw_perm}

-- nine frames for nine pages, the version array and the SECS
abbrev pub pair_job : JobView
pair_job = record {
  epc = 9;
  marks = default_marks 9;
  key = replicate 32 0;
  start_epoch = 1;
  start_version = 1;
  enclaves = record {
    base = 0x10000;
    size = 0x10000;
    lines = lines.Tcs 0 2 1 true ∷ lines.Tcs 1 3 1 true ∷ lines.Reg 2 2 rw_perm 0 true ∷ lines.Reg 4 5 rw_perm 1 true ∷ [];
    expect = None;
  } ∷ [];
  plans = [];
  scripts = (ops.Enter 1 0 ∷ ops.Xadd 0x4000 1 ∷ ops.Load 0x8000 ∷ ops.Exit ∷ [])
      ∷ (ops.Enter 1 1 ∷ ops.Xadd 0x4000 1 ∷ ops.Load 0x7000 ∷ ops.Exit ∷ []) ∷ [];
}

-- its trace
abbrev pub pair_trace : List Entry
pair_trace = reverse (
    epa Builder 0
    ∷ create Builder 1
    ∷ add_tcs Builder 0 2 2
    ∷ add_tcs Builder 1 3 3
    ∷ add_reg Builder 2 4 0
    ∷ add_reg Builder 3 5 0
    ∷ add_reg Builder 4 6 1
    ∷ add_reg Builder 5 7 1
    ∷ add_reg Builder 6 8 1
    ∷ age 0 looks.Taken
    ∷ age 1 looks.Taken
    ∷ block Reclaimer 2
    ∷ block Reclaimer 3
    ∷ try_refused Reclaimer 2 0 1 0
    ∷ track Reclaimer
    ∷ start_out Reclaimer 2 0 1
    ∷ out Reclaimer 2 0 1
    ∷ add_reg Builder 7 2 1
    ∷ start_out Reclaimer 3 1 2
    ∷ out Reclaimer 3 1 2
    ∷ add_reg Builder 8 3 1
    ∷ init Builder
    ∷ age 2 looks.Taken
    ∷ age 3 looks.Taken
    ∷ block Reclaimer 4
    ∷ block Reclaimer 5
    ∷ try_refused Reclaimer 4 2 2 0
    ∷ track Reclaimer
    ∷ start_out Reclaimer 4 2 3
    ∷ out Reclaimer 4 2 3
    ∷ start_back (cpu 0) 4 0 0 1
    ∷ back (cpu 0) 4 0 1
    ∷ start_out Reclaimer 5 0 4
    ∷ out Reclaimer 5 3 4
    ∷ age 4 looks.Taken
    ∷ age 5 looks.Taken
    ∷ start_back (cpu 0) 5 2 2 3
    ∷ back (cpu 0) 5 2 3
    ∷ block Reclaimer 6
    ∷ enter (cpu 0) 0 4 5 0
    ∷ block Reclaimer 7
    ∷ try_refused Reclaimer 6 2 3 1
    ∷ aex (cpu 0) causes.Fault
    ∷ track Reclaimer
    ∷ start_out Reclaimer 6 2 5
    ∷ out Reclaimer 6 4 5
    ∷ start_back (cpu 0) 6 4 2 5
    ∷ back (cpu 0) 6 4 5
    ∷ resume (cpu 0) 0 4 5 0
    ∷ start_out Reclaimer 7 2 6
    ∷ out Reclaimer 7 5 6
    ∷ fill (cpu 0) 4 6
    ∷ age 6 looks.Taken
    ∷ age 7 looks.Taken
    ∷ block Reclaimer 8
    ∷ block Reclaimer 2
    ∷ try_refused Reclaimer 8 3 4 1
    ∷ track Reclaimer
    ∷ try_refused Reclaimer 8 3 5 1
    ∷ kick 0
    ∷ aex (cpu 0) causes.Kick
    ∷ start_back (cpu 1) 7 1 1 2
    ∷ back (cpu 1) 7 1 2
    ∷ resume (cpu 0) 0 4 5 0
    ∷ start_out Reclaimer 8 1 7
    ∷ out Reclaimer 8 6 7
    ∷ fill (cpu 0) 4 6
    ∷ start_out Reclaimer 2 3 8
    ∷ out Reclaimer 2 7 8
    ∷ xadd (cpu 0) 0x4000 1 1
    ∷ fill (cpu 0) 8 3
    ∷ age 8 looks.Held
    ∷ load (cpu 0) 0x8000 1
    ∷ age 0 looks.Young
    ∷ exit (cpu 0)
    ∷ age 2 looks.Young
    ∷ age 4 looks.Young
    ∷ age 1 looks.Held
    ∷ age 8 looks.Young
    ∷ age 0 looks.Taken
    ∷ age 2 looks.Taken
    ∷ block Reclaimer 4
    ∷ block Reclaimer 5
    ∷ start_back (cpu 1) 2 3 0 4
    ∷ back (cpu 1) 2 3 4
    ∷ try_refused Reclaimer 4 0 5 0
    ∷ enter (cpu 1) 1 7 2 0
    ∷ track Reclaimer
    ∷ fill (cpu 1) 4 6
    ∷ try_refused Reclaimer 4 0 6 1
    ∷ kick 1
    ∷ aex (cpu 1) causes.Kick
    ∷ start_out Reclaimer 4 0 9
    ∷ out Reclaimer 4 0 9
    ∷ start_out Reclaimer 5 4 10
    ∷ out Reclaimer 5 2 10
    ∷ age 4 looks.Held
    ∷ age 1 looks.Young
    ∷ age 8 looks.Taken
    ∷ resume (cpu 1) 1 7 2 0
    ∷ age 3 looks.Held
    ∷ block Reclaimer 3
    ∷ try_refused Reclaimer 3 5 6 1
    ∷ track Reclaimer
    ∷ fill (cpu 1) 4 6
    ∷ try_refused Reclaimer 3 5 7 1
    ∷ xadd (cpu 1) 0x4000 1 2
    ∷ kick 1
    ∷ aex (cpu 1) causes.Kick
    ∷ start_out Reclaimer 3 5 11
    ∷ out Reclaimer 3 8 11
    ∷ resume (cpu 1) 1 7 2 0
    ∷ aex (cpu 1) causes.Fault
    ∷ start_back (cpu 1) 3 7 3 8
    ∷ back (cpu 1) 3 7 8
    ∷ resume (cpu 1) 1 7 2 0
    ∷ fill (cpu 1) 7 3
    ∷ load (cpu 1) 0x7000 1
    ∷ exit (cpu 1)
    ∷ [])
