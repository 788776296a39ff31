-- A job of two processors that are both inside when a page has to go out, so that both are kicked. This trace is written by hand from the
-- rules.
use Rattle.std.specs.Prelude.{List, [], ◌∷◌, None, true, replicate, reverse}
use Rattle.sgx_types.specs.declared.names.Actor.TheVariants.{Builder, Reclaimer}
use Rattle.sgx_rules.specs.declared.entries.Cause.TheVariants as causes
use Rattle.sgx_rules.specs.declared.entries.Entry.{Entry}
use Rattle.sgx_rules.specs.declared.entries.Look.TheVariants as looks
use Rattle.job_grammar.specs.declared.jobs.PageLine.TheVariants as lines
use Rattle.job_grammar.specs.declared.jobs.Op.TheVariants as ops
use Rattle.job_grammar.specs.Jobs.{JobView}
use Rattle.worked_driver.specs.inner.Words.{add_reg, add_tcs, aex, age, block, create, enter, init, kick, out}
use Rattle.worked_driver.specs.inner.Words.{start_out}
use Rattle.worked_driver.specs.inner.Words.{track, try_refused}
use Rattle.worked_traces.specs.inner.Traces.{cpu, epa, rw_perm}

-- eight frames, of which one is left when all is built
abbrev pub crowd_job : JobView
crowd_job = record {
  epc = 8;
  marks = record { low = 2; high = 3; scan = 1 };
  key = replicate 32 0;
  start_epoch = 1;
  start_version = 1;
  enclaves = record {
    base = 0x10000;
    size = 0x10000;
    lines = lines.Tcs 0 2 1 true ∷ lines.Tcs 1 3 1 true ∷ lines.Reg 2 2 rw_perm 0 true ∷ lines.Reg 4 1 rw_perm 7 true ∷ [];
    expect = None;
  } ∷ [];
  plans = [];
  scripts = (ops.Enter 1 0 ∷ ops.Load 0x4000 ∷ []) ∷ (ops.Enter 1 1 ∷ []) ∷ [];
}

-- its trace, to the write-out of page 4
abbrev pub crowd_trace : List Entry
crowd_trace = reverse (
    epa Builder 0
    ∷ create Builder 1
    ∷ add_tcs Builder 0 2 2
    ∷ add_tcs Builder 1 3 3
    ∷ add_reg Builder 2 4 0
    ∷ add_reg Builder 3 5 0
    ∷ add_reg Builder 4 6 7
    ∷ init Builder
    ∷ enter (cpu 0) 0 2 4 0
    ∷ enter (cpu 1) 1 3 5 0
    ∷ age 0 looks.Young
    ∷ age 1 looks.Young
    ∷ age 2 looks.Young
    ∷ age 3 looks.Young
    ∷ age 4 looks.Taken
    ∷ block Reclaimer 6
    ∷ try_refused Reclaimer 6 0 1 2
    ∷ track Reclaimer
    ∷ try_refused Reclaimer 6 0 2 2
    ∷ kick 0
    ∷ kick 1
    ∷ aex (cpu 1) causes.Kick
    ∷ aex (cpu 0) causes.Kick
    ∷ start_out Reclaimer 6 0 1
    ∷ out Reclaimer 6 4 1
    ∷ [])
