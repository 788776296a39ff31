-- What the builder and each processor do next: of a processor the end of a load that it has started, and else the first rule that
-- applies to it.
use Rattle.std.specs.Prelude.{ℕ, ◌==◌, ◌/◌, Bool, true, false, not, if◌then◌else◌, List, [], ◌∷◌, Option, Some, None}
use Rattle.std.specs.Prelude.{length, nat_le, slice_get}
use Rattle.sgx_rules.specs.declared.entries.Entry.{Entry}
use Rattle.sgx_rules.specs.declared.entries.Event.{Event}
use Rattle.sgx_rules.specs.declared.entries.Event.TheVariants.{Bus, Did, Kick, Refused}
use Rattle.sgx_rules.specs.declared.entries.Action.{Action}
use Rattle.sgx_rules.specs.declared.entries.AccessOp.{AccessOp}
use Rattle.sgx_rules.specs.declared.entries.BusWhy.{BusWhy}
use Rattle.sgx_types.specs.declared.names.Page.{Page}
use Rattle.sgx_rules.specs.declared.refusals.Refusal.{Refusal}
use Rattle.sgx_rules.specs.Flat.{at_offset}
use Rattle.sgx_types.specs.Pages.{page_at}
use Rattle.sgx_rules.specs.Frames.{added, content, least_free}
use Rattle.sgx_rules.specs.Processors.{holds_number, is_by, Stay, stay, translations}
use Rattle.sgx_rules.specs.Starts.{open_start, Start}
use Rattle.sgx_rules.specs.Table.{is_lawful_access}
use Rattle.job_grammar.specs.declared.jobs.Op.{Op}
use Rattle.job_grammar.specs.Jobs.{JobView}
use Rattle.script_rules.specs.declared.steps.BuildStep.{BuildStep}
use Rattle.script_rules.specs.Script.{build_of, built, enter_with, is_turned_away, resume_with, step_due}
use Rattle.sgx_types.specs.Pages.{frame_at}
use Rattle.driver_rules.specs.Dues.{Asks, Due, Ends, Fetch, Fetches, Finished, Makes, makes_or, Reports, Stopped, Waits, WaitsFor}
use Rattle.driver_rules.specs.Needs.{Interruption, interruption, needs_after, needs_to_enter, needs_to_resume, next_op, save_to_enter}
use Rattle.driver_rules.specs.Needs.{save_to_resume}
use Rattle.driver_rules.specs.Places.{Away, frame_here, is_here, Place, place}
use Rattle.driver_rules.specs.Stops.{is_spent}
use Rattle.driver_rules.specs.Targets.{slot_here, target_by}
use Rattle.sgx_rules.specs.declared.entries.Action.TheVariants as actions
use Rattle.sgx_rules.specs.declared.entries.AccessOp.TheVariants as accesses
use Rattle.sgx_rules.specs.declared.entries.Cause.TheVariants as causes
use Rattle.sgx_rules.specs.declared.entries.BusWhy.TheVariants as reasons
use Rattle.sgx_rules.specs.declared.refusals.Refusal.TheVariants as why
use Rattle.job_grammar.specs.declared.jobs.Op.TheVariants as ops
use Rattle.driver_rules.specs.declared.waits.Why.TheVariants as waits

-- ---- how its last entry left it

-- it loads a page into a frame; its load was refused; it was ended; or neither
pub data Last : Type 0 where
  Loads : (frame : ℕ) → (page : Page) → Last
  Fails : (page : Page) → (why : BusWhy) → Last
  WasEnded : Last
  Other : Last

abbrev pub fails_with : Option Page → Refusal → Last
fails_with (Some page) (why.MacFail given computed) = Fails page reasons.Mac
fails_with (Some page) (why.BadHeader enclave address flags) = Fails page reasons.Header
fails_with _ refusal = WasEnded

-- a start that found no version in the slot is told as a refused load
abbrev pub start_fails : Page → Refusal → Last
start_fails page why.SlotEmpty = Fails page reasons.Slot
start_fails page refusal = WasEnded

abbrev pub load_of : Option Start → Option Page
load_of None = None
load_of (Some start) = start.loads

abbrev pub last_by : Event → (ℕ → Option Start) → Last
last_by (Did (actions.EldStart f page slot) answer) opened = Loads f.0 page
last_by (Refused (actions.EldStart f page slot) refusal) opened = start_fails page refusal
last_by (Refused (actions.Eld f) refusal) opened = fails_with (load_of (opened f.0)) refusal
last_by (Bus page why) opened = WasEnded
last_by _ opened = Other

abbrev pub last_of : List Entry → ℕ → Last
last_of [] p = Other
last_of (e ∷ past) p = if is_by p e.actor then last_by e.event (open_start past) else last_of past p

-- the last entry of all is its own
abbrev pub is_last : List Entry → ℕ → Bool
is_last [] p = false
is_last (e ∷ past) p = is_by p e.actor

-- ---- kicks

abbrev pub kicked_after : Event → ℕ → Bool → Bool → Bool
kicked_after (Kick cpu) p is_its_own before = if cpu.0 == p then true else before
kicked_after (Did actions.Exit answer) p is_its_own before = if is_its_own then false else before
kicked_after (Did (actions.Aex cause) answer) p is_its_own before = if is_its_own then false else before
kicked_after _ p is_its_own before = before

-- whether a kick is pending: each exit takes it away
abbrev pub is_kicked : List Entry → ℕ → Bool
is_kicked [] p = false
is_kicked (e ∷ past) p = kicked_after e.event p (is_by p e.actor) (is_kicked past p)

-- ---- with the pages that it needs

-- the first of these that is not here
abbrev pub first_away : List Entry → List Page → Option Page
first_away past [] = None
first_away past (g ∷ gs) = if is_here (place past g) then first_away past gs else Some g

-- the first step for a page that is brought back: one that is outside is asked for; one that is on its way out, or that another
-- processor brings back, is waited for
abbrev pub fetch_by : ℕ → List Entry → Page → Place → Fetch
fetch_by frames past g (Away slot) = Asks g (slot_here past slot) (least_free frames (content past))
fetch_by frames past g _ = WaitsFor g

abbrev pub fetch : ℕ → List Entry → Page → Fetch
fetch frames past g = fetch_by frames past g (place past g)

-- .. for a page that is not here: where it is outside, for the page that has to be back first
abbrev pub fetches : ℕ → List Entry → Page → Place → Due
fetches frames past g (Away slot) = Fetches g (fetch frames past (target_by past g (Away slot)))
fetches frames past g _ = Waits (waits.Busy g)

-- .. and with all of them here what is to be done
abbrev pub with_pages : JobView → List Entry → Option Page → Due → Due
with_pages j past None due = due
with_pages j past (Some g) due = fetches j.epc past g (place past g)

-- the frame of a state save page, or that of the TCS page where there is none
abbrev pub save_frame : List Entry → Page → Option Page → Option ℕ
save_frame past tcs None = frame_here (place past tcs)
save_frame past tcs (Some g) = frame_here (place past g)

-- with its pages here it enters, by their frames
abbrev pub enters : JobView → List Entry → ℕ → ℕ → Due
enters j past enclave tcs =
    let g = page_at enclave tcs in
    with_pages j past (first_away past (needs_to_enter j past enclave tcs))
    (makes_or (waits.Busy g) (enter_with enclave tcs (frame_here (place past g)) (save_frame past g (save_to_enter j past enclave tcs))))

-- .. or resumes
abbrev pub resumes : JobView → List Entry → ℕ → ℕ → List Page → Due
resumes j past enclave tcs pages =
    let g = page_at enclave tcs in
    with_pages j past (first_away past pages)
    (makes_or (waits.Busy g) (resume_with enclave tcs (frame_here (place past g)) (save_frame past g (save_to_resume j past enclave tcs))))

-- ---- operations

-- a page that is here is filled, for another one it leaves
abbrev pub fills : ℕ → Option ℕ → Due
fills number None = Makes (actions.Aex causes.Fault)
fills number (Some f) = Makes (actions.Fill number (frame_at f))

-- an access that cannot succeed faults; another one goes by a translation, which is filled first where none is held
abbrev pub accesses_inside : List Entry → ℕ → ℕ → AccessOp → ℕ → Action → Due
accesses_inside past p enclave op off access =
    let g = at_offset enclave off in
    if not (is_lawful_access (added past g) op) then Makes (actions.Pf op off)
    else if holds_number (translations past p) (off / 4096) then Makes access
    else fills (off / 4096) (frame_here (place past g))

-- an access outside is made, and refused
abbrev pub accesses_by : List Entry → ℕ → Option Stay → AccessOp → ℕ → Action → Due
accesses_by past p None op off access = Makes access
accesses_by past p (Some s) op off access = accesses_inside past p s.seat.enclave op off access

-- the next step of an operation
abbrev pub op_turn : JobView → List Entry → ℕ → Op → Due
op_turn j past p (ops.Enter enclave tcs) =
    if is_turned_away past p enclave then Makes (actions.Enter enclave tcs (frame_at 0) (frame_at 0))
    else enters j past enclave tcs
op_turn j past p (ops.Resume enclave tcs) =
    if is_turned_away past p enclave then Makes (actions.Resume enclave tcs (frame_at 0) (frame_at 0))
    else resumes j past enclave tcs (needs_to_resume j past enclave tcs)
op_turn j past p ops.Exit = Makes actions.Exit
op_turn j past p ops.Timer = Makes (actions.Aex causes.Timer)
op_turn j past p (ops.Load off) = accesses_by past p (stay past p) accesses.Load off (actions.Load off)
op_turn j past p (ops.Store off value) = accesses_by past p (stay past p) accesses.Store off (actions.Store off value)
op_turn j past p (ops.Xadd off value) = accesses_by past p (stay past p) accesses.Xadd off (actions.Xadd off value)
op_turn j past p (ops.Set value) = Makes (actions.Set value)
op_turn j past p (ops.Plus value) = Makes (actions.Plus value)
op_turn j past p (ops.OutLoad enclave off) = Makes (actions.OutLoad enclave off)
op_turn j past p (ops.OutStore enclave off value) = Makes (actions.OutStore enclave off value)

-- ---- the first rule that applies

-- outside: nothing more at the script's end; else first the resumption behind an exit that no operation asked for
abbrev pub outside_turn : JobView → List Entry → ℕ → Option Interruption → Option Op → Due
outside_turn j past p i None = Finished
outside_turn j past p (Some i) (Some op) = resumes j past i.enclave i.tcs (needs_after j past p i)
outside_turn j past p None (Some op) = op_turn j past p op

-- inside: a kick first, and at the script's end it leaves
abbrev pub inside_turn : JobView → List Entry → ℕ → Bool → Option Op → Due
inside_turn j past p true op = Makes (actions.Aex causes.Kick)
inside_turn j past p false None = Makes (actions.Aex causes.End)
inside_turn j past p false (Some op) = op_turn j past p op

abbrev pub stay_turn : JobView → List Entry → ℕ → Option Stay → Due
stay_turn j past p None = outside_turn j past p (interruption past p) (next_op j past p)
stay_turn j past p (Some s) = inside_turn j past p (is_kicked past p) (next_op j past p)

-- before the build is done: an empty script is finished, any other one waits
abbrev pub early_turn : Option Stay → Option Op → Due
early_turn None None = Finished
early_turn _ _ = Waits waits.Building

-- the builder has made all its entries
abbrev pub is_built : JobView → List Entry → Bool
is_built j past = nat_le (length (build_of j)) (built past)

abbrev pub turn_due : JobView → List Entry → ℕ → Due
turn_due j past p =
    if is_built j past then stay_turn j past p (stay past p)
    else early_turn (stay past p) (next_op j past p)

-- a load that has started is ended; a refused one is told directly behind, or never; who was ended has nothing more to do
abbrev pub due_after : Last → Bool → Due → Due
due_after (Loads f page) is_direct turn = Ends (actions.Eld (frame_at f))
due_after (Fails page why) true turn = Reports page why
due_after (Fails page why) false turn = Finished
due_after WasEnded is_direct turn = Finished
due_after Other is_direct turn = turn

-- what a processor does next
abbrev pub cpu_due : JobView → List Entry → ℕ → Due
cpu_due j past p =
    if is_spent past then Stopped
    else due_after (last_of past p) (is_last past p) (turn_due j past p)

-- ---- the builder

-- a step that makes a page takes the least free frame, and waits where none is free; one that measures is of the frame of its page
abbrev pub step_turn : JobView → List Entry → Option BuildStep → Due
step_turn j past None = Finished
step_turn j past (Some step) = makes_or waits.NoFrame (step_due j.epc past step)

-- what the builder does next
abbrev pub builder_due : JobView → List Entry → Due
builder_due j past = if is_spent past then Stopped else step_turn j past (slice_get (build_of j) (built past))
