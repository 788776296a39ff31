-- What an answer goes by: what the driver, the machine and the tables show of pages and of a processor.
use Rattle.std.specs.Prelude.{ℕ, ◌≡◌, ◌==◌, ◌<◌, ◌+◌, ◌-◌, ◌/◌, ◌%◌, ◌^◌, ◌||◌, min, not, Bool}
use Rattle.std.specs.Prelude.{true, false, if◌then◌else◌, Option, None, Some, is_some, length, map, nat_le, slice_get}
use Rattle.std.specs.Prelude.{slice_index_or}
use Rattle.std.specs.Option.{option_map}
use Rattle.sgx_rules.specs.declared.entries.AccessOp.{AccessOp}
use Rattle.sgx_rules.specs.declared.entries.AccessOp.TheVariants as accesses
use Rattle.sgx_rules.specs.declared.entries.Action.TheVariants as actions
use Rattle.sgx_types.specs.declared.names.Actor.{Actor}
use Rattle.sgx_rules.specs.declared.entries.Cause.TheVariants as causes
use Rattle.sgx_types.specs.declared.names.Frame.{Frame}
use Rattle.sgx_types.specs.declared.names.Page.{Page}
use Rattle.sgx_types.specs.Pages.{page_at}
use Rattle.sgx_rules.specs.Frames.{least_free}
use Rattle.sgx_rules.specs.Processors.{is_by}
use Rattle.sgx_rules.specs.Table.{is_lawful_access}
use Rattle.cached_translations.specs.declared.processor.Mode.{Mode}
use Rattle.cached_translations.specs.declared.processor.Mode.TheVariants.{Inside, Outside}
use Rattle.cached_translations.specs.inner.Modes.{is_inside}
use Rattle.cached_translations.specs.inner.Translations.{translation_of}
use Rattle.job_grammar.specs.declared.jobs.Op.{Op}
use Rattle.job_grammar.specs.declared.jobs.Op.TheVariants as ops
use Rattle.job_grammar.specs.Jobs.{JobView}
use Rattle.script_rules.specs.declared.steps.BuildStep.{BuildStep}
use Rattle.script_rules.specs.declared.steps.BuildStep.TheVariants as builds
use Rattle.script_rules.specs.inner.Cursor.{left}
use Rattle.script_rules.specs.Script.{script_of, step_action}
use Rattle.sgx_types.specs.Pages.{frame_at}
use Rattle.driver_list.specs.declared.page_states.PageState.{PageState}
use Rattle.driver_list.specs.declared.page_states.PageState.TheVariants as states
use Rattle.driver_list.specs.inner.States.{StateTable, state_of as page_state}
use Rattle.sgx_machine.specs.inner.Parts.{Parts, cpu_at, state_of}
use Rattle.driver_rules.specs.declared.waits.Why.TheVariants as waits
use Rattle.driver_tables.specs.declared.driver.Driver.{Driver}
use Rattle.due_tables.specs.declared.cpu_turns.CpuTurn.{CpuTurn}
use Rattle.due_tables.specs.declared.cpu_turns.Interruption.{Interruption}
use Rattle.due_tables.specs.declared.cpu_turns.Last.{Last}
use Rattle.due_tables.specs.declared.cpu_turns.Last.TheVariants as ways
use Rattle.due_tables.specs.declared.dues.BuilderDue.{BuilderDue}
use Rattle.due_tables.specs.declared.dues.BuilderDue.TheVariants as builders
use Rattle.due_tables.specs.declared.dues.CpuDue.{CpuDue}
use Rattle.due_tables.specs.declared.dues.CpuDue.TheVariants.{Stopped, Finished, Waits, Ends, Makes, Reports, Needs}
use Rattle.due_tables.specs.declared.steps.CpuStep.{CpuStep}
use Rattle.due_tables.specs.declared.steps.CpuStep.TheVariants as steps
use Rattle.due_tables.specs.declared.tcs_turns.TcsTurn.{TcsTurn}
use Rattle.due_tables.specs.declared.turns.Turns.{Turns}
use Rattle.due_tables.specs.inner.TcsTurns.{has_place, rows, tcs_at}

-- ---- pages

abbrev pub here_if : Bool → PageState → Option Frame
here_if true (states.Here f) = Some f
here_if _ state = None

-- the frame of a page that is here. A page that has no place in the driver's tables is not
abbrev pub frame_by : StateTable → Turns → Page → Option Frame
frame_by table t g = here_if (has_place t.tcs g) (page_state table g)

abbrev pub frame_seen : Driver → Turns → Page → Option Frame
frame_seen d t g = frame_by d.states t g

abbrev pub here_seen : StateTable → Turns → Page → Bool
here_seen table t g = is_some (frame_by table t g)

abbrev pub stands_if : Bool → PageState → Option Frame
stands_if true (states.Here f) = Some f
stands_if true (states.Leaving f) = Some f
stands_if _ state = None

-- the frame of a page that is here, or on its way out
abbrev pub standing_seen : Driver → Turns → Page → Option Frame
standing_seen d t g = stands_if (has_place t.tcs g) (page_state d.states g)

-- the state save page that an entry takes, and the one that was used last
abbrev pub next_save_of : ℕ → Option TcsTurn → Option Page
next_save_of enclave None = None
next_save_of enclave (Some x) = if nat_le x.nssa x.saved then None else Some (page_at enclave ((x.ossa + x.saved) % 2 ^ 32))

abbrev pub last_save_of : ℕ → Option TcsTurn → Option Page
last_save_of enclave None = None
last_save_of enclave (Some x) = if x.saved == 0 then None else Some (page_at enclave ((x.ossa + (min x.saved x.nssa - 1)) % 2 ^ 32))

-- ---- the builder

-- the step that is next
abbrev pub next_step : JobView → Turns → Option BuildStep
next_step j t = slice_get (left j t.cursor) 0

abbrev pub with_frame : BuildStep → Option Frame → BuilderDue
with_frame step None = builders.Waits waits.NoFrame
with_frame step (Some f) = builders.Makes (step_action step f.0)

-- a step that makes a page takes the free frame, and one that measures that of its page
abbrev pub step_by : Option Frame → (Page → Option Frame) → BuildStep → BuilderDue
step_by free standing (builds.Init enclave expect) = builders.Makes (actions.Init enclave expect)
step_by free standing (builds.Extend enclave number chunk) =
    with_frame (builds.Extend enclave number chunk) (standing (page_at enclave number))
step_by free standing step = with_frame step free

abbrev pub builder_by : Bool → Option Frame → (Page → Option Frame) → Option BuildStep → BuilderDue
builder_by true free standing step = builders.Stopped
builder_by false free standing None = builders.Finished
builder_by false free standing (Some step) = step_by free standing step

-- by the least free frame
pub record IsBuilderDue (j : JobView) (d : Driver) (m : Parts) (t : Turns) (due : BuilderDue) : Type 0 where
  pub free : Option Frame
  pub least : option_map (λ f. f.0) free ≡ least_free (state_of m).frames (state_of m).content
  pub answer : due ≡ builder_by t.is_spent free (standing_seen d t) (next_step j t)

-- ---- entries and resumptions

-- with the frame of a page that is needed
abbrev pub if_here : Page → (Frame → CpuDue) → Option Frame → CpuDue
if_here page to None = Needs page
if_here page to (Some f) = to f

abbrev pub with_tcs : (Page → Option Frame) → Option Page → (Frame → Frame → CpuDue) → Frame → CpuDue
with_tcs frame None to tf = to tf tf
with_tcs frame (Some save) to tf = if_here save (to tf) (frame save)

-- with the frames of a TCS page and of a state save page, that of the first alone where there is none
abbrev pub with_frames : (Page → Option Frame) → Page → Option Page → (Frame → Frame → CpuDue) → CpuDue
with_frames frame tcs save to = if_here tcs (with_tcs frame save to) (frame tcs)

abbrev pub enters_by : (Page → Option Frame) → Page → Option Page → CpuDue
enters_by frame tcs save = with_frames frame tcs save (λ tf sf. Makes (steps.Enter tcs.enclave tcs.number tf sf))

-- the page of the access has to be here too
abbrev pub with_access : (Page → Option Frame) → Option Page → CpuDue → CpuDue
with_access frame None due = due
with_access frame (Some g) due = if_here g (λ f. due) (frame g)

abbrev pub resumes_by : (Page → Option Frame) → Page → Option Page → Option Page → CpuDue
resumes_by frame tcs save access =
    with_frames frame tcs save (λ tf sf. with_access frame access (Makes (steps.Resume tcs.enclave tcs.number tf sf)))

-- ---- a processor

-- what its turn looks at
pub record Looks : Type 0 where
  -- how it is inside
  pub mode : Mode
  -- the frames of pages that are here
  pub frame : Page → Option Frame
  pub tcs : Page → Option TcsTurn
  pub is_init : ℕ → Bool
  pub is_lawful : Page → AccessOp → Bool
  -- the translations that it holds
  pub holds : ℕ → Bool

abbrev pub looks_at : Driver → Parts → Turns → ℕ → Looks
looks_at d m t p = record {
  mode = (cpu_at m p).mode;
  frame = frame_seen d t;
  tcs = tcs_at t.tcs;
  is_init = λ e. slice_index_or t.inits e false;
  is_lawful = λ g op. is_lawful_access ((state_of m).added g) op;
  holds = λ n. is_some (translation_of (cpu_at m p).cache n);
}

-- who is inside, or enters an enclave that is not initialised
abbrev pub turned_away : Looks → ℕ → Bool
turned_away look enclave = is_inside look.mode || not (look.is_init enclave)

abbrev pub page_of : ℕ → ℕ → Page
page_of enclave off = page_at enclave (off / 4096 % 2 ^ 32)

abbrev pub fill_by : ℕ → Option Frame → CpuDue
fill_by number None = Makes (steps.Aex causes.Fault)
fill_by number (Some f) = Makes (steps.Fill number f)

abbrev pub access_in : Looks → ℕ → AccessOp → ℕ → CpuStep → CpuDue
access_in look enclave op off access =
    if look.is_lawful (page_of enclave off) op then
    (if look.holds (off / 4096 % 2 ^ 32) then Makes access else fill_by (off / 4096 % 2 ^ 32) (look.frame (page_of enclave off)))
    else Makes (steps.Pf op off)

abbrev pub access_by : Looks → Mode → AccessOp → ℕ → CpuStep → CpuDue
access_by look Outside op off access = Makes access
access_by look (Inside enclave tcs tf sf epoch) op off access = access_in look enclave op off access

-- an operation
abbrev pub op_by : Looks → Op → CpuDue
op_by look (ops.Enter enclave tcs) =
    if turned_away look enclave then Makes (steps.Enter enclave tcs (frame_at 0) (frame_at 0))
    else enters_by look.frame (page_at enclave tcs) (next_save_of enclave (look.tcs (page_at enclave tcs)))
op_by look (ops.Resume enclave tcs) =
    if turned_away look enclave then Makes (steps.Resume enclave tcs (frame_at 0) (frame_at 0))
    else resumes_by look.frame (page_at enclave tcs) (last_save_of enclave (look.tcs (page_at enclave tcs))) None
op_by look ops.Exit = Makes steps.Exit
op_by look ops.Timer = Makes (steps.Aex causes.Timer)
op_by look (ops.Load off) = access_by look look.mode accesses.Load off (steps.Load off)
op_by look (ops.Store off value) = access_by look look.mode accesses.Store off (steps.Store off value)
op_by look (ops.Xadd off value) = access_by look look.mode accesses.Xadd off (steps.Xadd off value)
op_by look (ops.Set value) = Makes (steps.Set value)
op_by look (ops.Plus value) = Makes (steps.Plus value)
op_by look (ops.OutLoad enclave off) = Makes (steps.OutLoad enclave off)
op_by look (ops.OutStore enclave off value) = Makes (steps.OutStore enclave off value)

-- the page of an access
abbrev pub access_page : ℕ → Op → Option Page
access_page enclave (ops.Load off) = Some (page_of enclave off)
access_page enclave (ops.Store off value) = Some (page_of enclave off)
access_page enclave (ops.Xadd off value) = Some (page_of enclave off)
access_page enclave op = None

-- the page that a processor needs besides, behind an interruption
abbrev pub page_behind : Interruption → Op → Option Page
page_behind i op = if i.for_page then access_page i.enclave op else None

-- the resumption behind an interruption
abbrev pub after_by : (Page → Option Frame) → (Page → Option TcsTurn) → Interruption → Op → CpuDue
after_by frame turns i op =
    resumes_by frame (page_at i.enclave i.tcs) (last_save_of i.enclave (turns (page_at i.enclave i.tcs))) (page_behind i op)

abbrev pub outside_by : Looks → Option Interruption → Option Op → CpuDue
outside_by look i None = Finished
outside_by look (Some i) (Some op) = after_by look.frame look.tcs i op
outside_by look None (Some op) = op_by look op

abbrev pub inside_by : Looks → Bool → Option Op → CpuDue
inside_by look true op = Makes (steps.Aex causes.Kick)
inside_by look false None = Makes (steps.Aex causes.End)
inside_by look false (Some op) = op_by look op

abbrev pub built_by : Looks → CpuTurn → Option Op → Mode → CpuDue
built_by look x op Outside = outside_by look x.interruption op
built_by look x op (Inside enclave tcs tf sf epoch) = inside_by look x.is_kicked op

-- before the build is done
abbrev pub early_by : Mode → Option Op → CpuDue
early_by Outside None = Finished
early_by mode op = Waits waits.Building

-- by the step of the builder that is next
abbrev pub turn_by : Looks → CpuTurn → Option Op → Option BuildStep → CpuDue
turn_by look x op None = built_by look x op look.mode
turn_by look x op (Some step) = early_by look.mode op

abbrev pub after_last : Last → Bool → CpuDue → CpuDue
after_last (ways.Loads f page) is_direct turn = Ends f
after_last (ways.Fails page why) true turn = Reports why page
after_last (ways.Fails page why) false turn = Finished
after_last ways.WasEnded is_direct turn = Finished
after_last ways.Other is_direct turn = turn

abbrev pub cpu_by : Bool → Looks → CpuTurn → Bool → Option Op → Option BuildStep → CpuDue
cpu_by true look x is_direct op step = Stopped
cpu_by false look x is_direct op step = after_last x.last is_direct (turn_by look x op step)

abbrev pub op_at : JobView → ℕ → ℕ → Option Op
op_at j p n = slice_get (script_of j p) n

-- the last entry of all is the processor's own
abbrev pub is_last_by : ℕ → Option Actor → Bool
is_last_by p None = false
is_last_by p (Some actor) = is_by p actor

-- ---- what the code asks

-- the tables have the driver's places, and both and the machine this processor
pub record CanAskDue (d : Driver) (m : Parts) (t : Turns) (p : ℕ) : Type 0 where
  pub places : map length t.tcs ≡ rows d.states.counts
  pub turn : p < length t.cpus
  pub cpu : p < length m.cpus
