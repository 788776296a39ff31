-- Two enclaves in eight frames: all pages of the first go out while the second is built, and then its SECS. A processor enters the first,
-- so that its SECS comes back, and then its two pages.
use Rattle.std.specs.Prelude.{ℕ, List, [], ◌∷◌, None, true, replicate, reverse}
use Rattle.sgx_types.specs.declared.names.Actor.TheVariants.{Builder, Reclaimer}
use Rattle.sgx_types.specs.declared.names.Kind.TheVariants as kinds
use Rattle.sgx_types.specs.declared.names.Page.{Page}
use Rattle.sgx_types.specs.declared.lawful.PageInit.TheVariants as inits
use Rattle.sgx_types.specs.Pages.{no_perm, page_at, secs_page}
use Rattle.sgx_rules.specs.declared.entries.Action.TheVariants as actions
use Rattle.sgx_rules.specs.declared.entries.Answer.TheVariants as answers
use Rattle.sgx_rules.specs.declared.entries.BusWhy.{BusWhy}
use Rattle.sgx_rules.specs.declared.entries.Entry.{Entry}
use Rattle.sgx_rules.specs.declared.entries.Event.TheVariants as events
use Rattle.sgx_rules.specs.declared.entries.Look.{Look}
use Rattle.sgx_rules.specs.declared.entries.Look.TheVariants as looks
use Rattle.job_grammar.specs.declared.jobs.PageLine.TheVariants as lines
use Rattle.job_grammar.specs.declared.jobs.Op.TheVariants as ops
use Rattle.job_grammar.specs.Jobs.{JobView}
use Rattle.sgx_types.specs.Pages.{frame_at}
use Rattle.worked_driver.specs.inner.Words.{add_reg, add_tcs, block, enter, exit, init, slot_at, start_out}
use Rattle.worked_driver.specs.inner.Words.{track, try_refused}
use Rattle.worked_traces.specs.inner.Traces.{cpu, epa, rw_perm, did}

abbrev pub secs_job : JobView
secs_job = record {
  epc = 8;
  marks = record { low = 2; high = 4; scan = 2 };
  key = replicate 32 0;
  start_epoch = 1;
  start_version = 1;
  enclaves = record {
    base = 0x10000;
    size = 0x4000;
    lines = lines.Tcs 0 1 1 true ∷ lines.Reg 1 1 rw_perm 0 true ∷ [];
    expect = None;
  } ∷ record {
    base = 0x10000;
    size = 0x10000;
    lines = lines.Tcs 0 1 1 true ∷ lines.Reg 1 3 rw_perm 0 true ∷ [];
    expect = None;
  } ∷ [];
  plans = [];
  scripts = (ops.Enter 1 0 ∷ ops.Exit ∷ []) ∷ [];
}

-- ---- words for pages of any kind and of either enclave

abbrev pub look_at : Page → Look → Entry
look_at page look = record { actor = Reclaimer; event = events.Age page look }

abbrev pub out_of : ℕ → Page → ℕ → Entry
out_of f page version = did Reclaimer (actions.Ewb (frame_at f)) (answers.Moved page version [])

abbrev pub starts_back : ℕ → Page → ℕ → ℕ → Entry
starts_back f page i version = did (cpu 0) (actions.EldStart (frame_at f) page (slot_at i)) (answers.Version version)

abbrev pub back_in : ℕ → Page → ℕ → Entry
back_in f page version = did (cpu 0) (actions.Eld (frame_at f)) (answers.Moved page version [])

abbrev pub told_lost : Page → BusWhy → Entry
told_lost page why = record { actor = cpu 0; event = events.Bus page why }

-- ---- the second enclave

abbrev second : ℕ → Page
second = page_at 2

abbrev create_second : ℕ → Entry
create_second f = did Builder (actions.Create 2 (frame_at f) 0x10000 0x10000) answers.Plain

abbrev tcs_second : ℕ → ℕ → Entry
tcs_second n f = did Builder (actions.Add 2 n (frame_at f) kinds.Tcs no_perm (inits.Tcs 1 1)) answers.Plain

abbrev reg_second : ℕ → ℕ → Entry
reg_second n f = did Builder (actions.Add 2 n (frame_at f) kinds.Reg rw_perm (inits.Words 0)) answers.Plain

abbrev init_second : Entry
init_second = did Builder (actions.Init 2 None) (answers.Hash [])

abbrev track_second : Entry
track_second = did Reclaimer (actions.Track 2) answers.Plain

abbrev pub secs_trace : List Entry
secs_trace = reverse (
    epa Builder 0
    ∷ did Builder (actions.Create 1 (frame_at 1) 0x10000 0x4000) answers.Plain
    ∷ add_tcs Builder 0 2 1
    ∷ add_reg Builder 1 3 0
    ∷ init Builder
    ∷ create_second 4
    ∷ tcs_second 0 5
    ∷ reg_second 1 6
    ∷ look_at (page_at 1 0) looks.Taken
    ∷ reg_second 2 7
    ∷ look_at (page_at 1 1) looks.Taken
    ∷ block Reclaimer 2
    ∷ block Reclaimer 3
    ∷ try_refused Reclaimer 2 3 1 0
    ∷ track Reclaimer
    ∷ start_out Reclaimer 2 3 1
    ∷ out_of 2 (page_at 1 0) 1
    ∷ reg_second 3 2
    ∷ start_out Reclaimer 3 4 2
    ∷ out_of 3 (page_at 1 1) 2
    ∷ init_second
    ∷ look_at (secs_page 1) looks.Taken
    ∷ start_out Reclaimer 1 0 3
    ∷ out_of 1 (secs_page 1) 3
    ∷ starts_back 1 (secs_page 1) 0 3
    ∷ back_in 1 (secs_page 1) 3
    ∷ look_at (second 0) looks.Taken
    ∷ starts_back 3 (page_at 1 0) 3 1
    ∷ back_in 3 (page_at 1 0) 1
    ∷ look_at (second 1) looks.Taken
    ∷ block Reclaimer 5
    ∷ block Reclaimer 6
    ∷ try_refused Reclaimer 5 3 1 0
    ∷ track_second
    ∷ start_out Reclaimer 5 3 4
    ∷ out_of 5 (second 0) 4
    ∷ starts_back 5 (page_at 1 1) 4 2
    ∷ back_in 5 (page_at 1 1) 2
    ∷ start_out Reclaimer 6 4 5
    ∷ out_of 6 (second 1) 5
    ∷ enter (cpu 0) 0 3 5 0
    ∷ look_at (second 2) looks.Taken
    ∷ exit (cpu 0)
    ∷ [])
