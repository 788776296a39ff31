-- A small job, the trace of its run, and traces that are wrong in one place: what the definitions are evaluated at.
-- Entries stand newest first.
use Rattle.std.specs.Prelude.{ℕ, List, [], ◌∷◌, None, true, false, replicate}
use Rattle.sgx_rules.specs.declared.entries.Entry.{Entry}
use Rattle.sgx_rules.specs.declared.entries.Event.TheVariants.{Did}
use Rattle.sgx_types.specs.declared.names.Actor.{Actor}
use Rattle.sgx_types.specs.declared.names.Actor.TheVariants.{Builder, Cpu, Reclaimer}
use Rattle.sgx_rules.specs.declared.entries.Action.{Action}
use Rattle.sgx_rules.specs.declared.entries.Action.TheVariants as actions
use Rattle.sgx_rules.specs.declared.entries.Answer.{Answer}
use Rattle.sgx_rules.specs.declared.entries.Answer.TheVariants as answers
use Rattle.sgx_types.specs.declared.lawful.PageInit.TheVariants as inits
use Rattle.sgx_types.specs.declared.names.Kind.TheVariants as kinds
use Rattle.sgx_types.specs.declared.names.Perm.{Perm}
use Rattle.sgx_types.specs.Pages.{no_perm}
use Rattle.job_grammar.specs.declared.jobs.PageLine.TheVariants as lines
use Rattle.job_grammar.specs.declared.jobs.Op.TheVariants as ops
use Rattle.job_grammar.specs.Jobs.{JobView, default_marks}
use Rattle.sgx_types.specs.Pages.{frame_at}

-- ---- the job

-- may be read and written
abbrev pub rw_perm : Perm
rw_perm = record { r = true; w = true; x = false }

-- six frames; an enclave of a TCS page, its state save page and a page of sevens; a processor that enters, loads a seven
-- and exits
abbrev pub first_job : JobView
first_job = record {
  epc = 6;
  marks = default_marks 6;
  key = replicate 32 0;
  start_epoch = 1;
  start_version = 1;
  enclaves = record {
    base = 0x10000;
    size = 0x10000;
    lines = lines.Tcs 0 1 1 true ∷ lines.Reg 1 1 rw_perm 0 true ∷ lines.Reg 2 1 rw_perm 7 true ∷ [];
    expect = None;
  } ∷ [];
  plans = [];
  scripts = (ops.Enter 1 0 ∷ ops.Load 0x2000 ∷ ops.Exit ∷ []) ∷ [];
}

-- ---- its entries

-- an instruction was done
abbrev pub did : Actor → Action → Answer → Entry
did actor action answer = record { actor = actor; event = Did action answer }

-- a processor by its number
abbrev pub cpu : ℕ → Actor
cpu p = Cpu (record { 0 = p })

-- this actor makes a version array of this frame
abbrev pub epa : Actor → ℕ → Entry
epa actor f = did actor (actions.Epa (frame_at f)) (answers.Va 0)

-- enclave 1 is created, its SECS in frame 1
abbrev pub create : Entry
create = did Builder (actions.Create 1 (frame_at 1) 0x10000 0x10000) answers.Plain

-- page 0, the TCS page, comes into frame 2
abbrev pub add_tcs : Entry
add_tcs = did Builder (actions.Add 1 0 (frame_at 2) kinds.Tcs no_perm (inits.Tcs 1 1)) answers.Plain

-- page 1, the state save page, comes into frame 3
abbrev pub add_ssa : Entry
add_ssa = did Builder (actions.Add 1 1 (frame_at 3) kinds.Reg rw_perm (inits.Words 0)) answers.Plain

-- page 2, the page of sevens, comes into this frame
abbrev pub add_sevens : ℕ → Entry
add_sevens f = did Builder (actions.Add 1 2 (frame_at f) kinds.Reg rw_perm (inits.Words 7)) answers.Plain

-- the enclave's measurement: the SHA-256 of its four blocks
abbrev pub first_digest : List ℕ
first_digest =
    0x00 ∷ 0x6d ∷ 0x51 ∷ 0x8b ∷ 0xbd ∷ 0x88 ∷ 0x25 ∷ 0xda ∷ 0x4a ∷ 0x0e ∷ 0x7d ∷ 0x35 ∷ 0xd4 ∷ 0x18 ∷ 0xaa ∷ 0xf1
    ∷ 0x6b ∷ 0x77 ∷ 0x49 ∷ 0xc6 ∷ 0x28 ∷ 0x54 ∷ 0xa6 ∷ 0xf4 ∷ 0x0d ∷ 0x8d ∷ 0x58 ∷ 0xdb ∷ 0x41 ∷ 0x5a ∷ 0x8c ∷ 0x31 ∷ []

-- the enclave is initialised
abbrev pub init : Entry
init = did Builder (actions.Init 1 None) (answers.Hash first_digest)

-- processor 0 enters, and is answered this count of used state save frames
abbrev pub enter : ℕ → Entry
enter cssa = did (cpu 0) (actions.Enter 1 0 (frame_at 2) (frame_at 3)) (answers.Cssa cssa)

-- processor 0 takes the translation of page 2 to this frame
abbrev pub fill : ℕ → Entry
fill f = did (cpu 0) (actions.Fill 2 (frame_at f)) answers.Plain

-- this actor loads the first word of page 2, and is answered this value
abbrev pub load : Actor → ℕ → Entry
load actor value = did actor (actions.Load 0x2000) (answers.Value value)

-- processor 0 exits
abbrev pub exit : Entry
exit = did (cpu 0) actions.Exit answers.Plain

-- ---- the right trace

-- the builder makes a version array, and builds the enclave of its three pages
abbrev pub first_build : List Entry
first_build = init ∷ add_sevens 4 ∷ add_ssa ∷ add_tcs ∷ create ∷ epa Builder 0 ∷ []

-- processor 0 runs its script after a build
abbrev pub run_after : List Entry → List Entry
run_after build = exit ∷ load (cpu 0) 7 ∷ fill 4 ∷ enter 0 ∷ build

-- the job's one trace
abbrev pub first_trace : List Entry
first_trace = run_after first_build

-- ---- wrong in the build

-- the version array in frame 6, where the last of the six is 5
abbrev pub frame_beyond : List Entry
frame_beyond = run_after (init ∷ add_sevens 4 ∷ add_ssa ∷ add_tcs ∷ create ∷ epa Builder 6 ∷ [])

-- page 2 into frame 3, where page 1 is
abbrev pub frame_twice : List Entry
frame_twice = run_after (init ∷ add_sevens 3 ∷ add_ssa ∷ add_tcs ∷ create ∷ epa Builder 0 ∷ [])

-- page 2 once more, into the free frame 5
abbrev pub page_twice : List Entry
page_twice = run_after (init ∷ add_sevens 5 ∷ add_sevens 4 ∷ add_ssa ∷ add_tcs ∷ create ∷ epa Builder 0 ∷ [])

-- page 2 before page 1, each into its frame
abbrev pub adds_exchanged : List Entry
adds_exchanged = run_after (init ∷ add_ssa ∷ add_sevens 4 ∷ add_tcs ∷ create ∷ epa Builder 0 ∷ [])

-- the version array by the reclaimer
abbrev pub epa_by_reclaimer : List Entry
epa_by_reclaimer = run_after (init ∷ add_sevens 4 ∷ add_ssa ∷ add_tcs ∷ create ∷ epa Reclaimer 0 ∷ [])

-- ---- wrong in the script

-- the enter before the init
abbrev pub enter_before_init : List Entry
enter_before_init = exit ∷ load (cpu 0) 7 ∷ fill 4 ∷ init ∷ enter 0 ∷ add_sevens 4 ∷ add_ssa ∷ add_tcs ∷ create ∷ epa Builder 0 ∷ []

-- the enter answers that one state save frame is used
abbrev pub other_cssa : List Entry
other_cssa = exit ∷ load (cpu 0) 7 ∷ fill 4 ∷ enter 1 ∷ first_build

-- no fill before the load
abbrev pub no_fill : List Entry
no_fill = exit ∷ load (cpu 0) 7 ∷ enter 0 ∷ first_build

-- the fill from frame 3, where page 1 is
abbrev pub fill_from_other_frame : List Entry
fill_from_other_frame = exit ∷ load (cpu 0) 7 ∷ fill 3 ∷ enter 0 ∷ first_build

-- the load answers an eight
abbrev pub other_value : List Entry
other_value = exit ∷ load (cpu 0) 8 ∷ fill 4 ∷ enter 0 ∷ first_build

-- the load by processor 1, which is outside
abbrev pub load_by_other_cpu : List Entry
load_by_other_cpu = exit ∷ load (cpu 1) 7 ∷ fill 4 ∷ enter 0 ∷ first_build

-- the load by the builder
abbrev pub load_by_builder : List Entry
load_by_builder = exit ∷ load Builder 7 ∷ fill 4 ∷ enter 0 ∷ first_build

-- processor 0 stays inside
abbrev pub no_exit : List Entry
no_exit = load (cpu 0) 7 ∷ fill 4 ∷ enter 0 ∷ first_build
