-- The job of seven frames and eight pages that most of these traces are of, and how its runs begin.
use Rattle.std.specs.Prelude.{ℕ, List, [], ◌∷◌, ◌++◌, None, true, replicate}
use Rattle.sgx_types.specs.declared.names.Actor.TheVariants.{Builder, Reclaimer}
use Rattle.sgx_rules.specs.declared.entries.Cause.TheVariants as causes
use Rattle.sgx_rules.specs.declared.entries.Entry.{Entry}
use Rattle.sgx_rules.specs.declared.entries.Look.TheVariants as looks
use Rattle.job_grammar.specs.declared.jobs.Op.{Op}
use Rattle.job_grammar.specs.declared.jobs.Op.TheVariants as ops
use Rattle.job_grammar.specs.declared.jobs.PageLine.TheVariants as lines
use Rattle.job_grammar.specs.Jobs.{JobView, default_marks}
use Rattle.worked_driver.specs.inner.Words.{add_reg, add_tcs, aex, age, back, block, create, enter, init}
use Rattle.worked_driver.specs.inner.Words.{out, start_back, start_out, track, try_refused}
use Rattle.worked_traces.specs.inner.Traces.{cpu, epa, rw_perm}

-- one enclave of a TCS page and seven others in seven frames, and one processor
abbrev pub tight_job : List Op → JobView
tight_job script = record {
  epc = 7;
  marks = default_marks 7;
  key = replicate 32 0;
  start_epoch = 1;
  start_version = 1;
  enclaves = record {
    base = 0x10000;
    size = 0x10000;
    lines = lines.Tcs 0 1 1 true ∷ lines.Reg 1 1 rw_perm 0 true ∷ lines.Reg 2 6 rw_perm 7 true ∷ [];
    expect = None;
  } ∷ [];
  plans = [];
  scripts = script ∷ [];
}

-- the enclave is entered, page 2 is read, and the enclave is left
abbrev pub reads_page : List Op
reads_page = ops.Enter 1 0 ∷ ops.Load 0x2000 ∷ ops.Exit ∷ []

-- ---- how its runs begin, from the first entry on

-- the frames are full
abbrev pub fills_up : List Entry
fills_up =
    epa Builder 0
    ∷ create Builder 1
    ∷ add_tcs Builder 0 2 1
    ∷ add_reg Builder 1 3 0
    ∷ add_reg Builder 2 4 7
    ∷ add_reg Builder 3 5 7
    ∷ add_reg Builder 4 6 7
    ∷ []

-- .. and the TCS page goes out with this version
abbrev pub first_out : ℕ → List Entry
first_out version = fills_up ++ (
    age 0 looks.Taken
    ∷ block Reclaimer 2
    ∷ try_refused Reclaimer 2 0 1 0
    ∷ track Reclaimer
    ∷ start_out Reclaimer 2 0 version
    ∷ out Reclaimer 2 0 version
    ∷ [])

-- .. up to the fault of the load and the refused start of the write-out of page 5
abbrev pub load_faults : List Entry
load_faults = first_out 1 ++ (
    add_reg Builder 5 2 7
    ∷ age 1 looks.Taken
    ∷ block Reclaimer 3
    ∷ try_refused Reclaimer 3 1 2 0
    ∷ track Reclaimer
    ∷ start_out Reclaimer 3 1 2
    ∷ out Reclaimer 3 1 2
    ∷ add_reg Builder 6 3 7
    ∷ age 2 looks.Taken
    ∷ block Reclaimer 4
    ∷ try_refused Reclaimer 4 2 3 0
    ∷ track Reclaimer
    ∷ start_out Reclaimer 4 2 3
    ∷ out Reclaimer 4 2 3
    ∷ add_reg Builder 7 4 7
    ∷ age 3 looks.Taken
    ∷ init Builder
    ∷ block Reclaimer 5
    ∷ try_refused Reclaimer 5 3 4 0
    ∷ track Reclaimer
    ∷ start_out Reclaimer 5 3 4
    ∷ out Reclaimer 5 3 4
    ∷ start_back (cpu 0) 5 0 0 1
    ∷ back (cpu 0) 5 0 1
    ∷ age 4 looks.Taken
    ∷ block Reclaimer 6
    ∷ try_refused Reclaimer 6 0 5 0
    ∷ track Reclaimer
    ∷ start_out Reclaimer 6 0 5
    ∷ out Reclaimer 6 4 5
    ∷ start_back (cpu 0) 6 1 1 2
    ∷ back (cpu 0) 6 1 2
    ∷ age 5 looks.Taken
    ∷ enter (cpu 0) 0 5 6 0
    ∷ block Reclaimer 2
    ∷ aex (cpu 0) causes.Fault
    ∷ try_refused Reclaimer 2 1 6 0
    ∷ [])

-- .. and to the start of the load of page 2, behind that write-out
abbrev pub loads_page : List Entry
loads_page = load_faults ++ (
    track Reclaimer
    ∷ start_out Reclaimer 2 1 6
    ∷ out Reclaimer 2 5 6
    ∷ start_back (cpu 0) 2 2 2 3
    ∷ [])
