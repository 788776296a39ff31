-- What each actor has to do next under a job, by the entries before it, and what a whole run has done at its end.
use Rattle.std.specs.Prelude.{ℕ, zero, suc, ◌==◌, ◌+◌, ◌-◌, ◌&&◌, ◌||◌, not, Bool, true, false, if◌then◌else◌}
use Rattle.std.specs.Prelude.{List, [], ◌∷◌, ◌++◌, Option, Some, None, map, flat_map, replicate, slice_get, is_some, unwrap_or}
use Rattle.sgx_rules.specs.declared.entries.Entry.{Entry}
use Rattle.sgx_rules.specs.declared.entries.Event.{Event}
use Rattle.sgx_rules.specs.declared.entries.Event.TheVariants.{Did, Refused, Bus}
use Rattle.sgx_types.specs.declared.names.Actor.{Actor}
use Rattle.sgx_types.specs.declared.names.Actor.TheVariants as actors
use Rattle.sgx_rules.specs.declared.entries.Action.{Action}
use Rattle.sgx_rules.specs.declared.entries.Action.TheVariants as actions
use Rattle.sgx_rules.specs.declared.entries.Cause.{Cause}
use Rattle.sgx_rules.specs.declared.entries.Cause.TheVariants as causes
use Rattle.sgx_types.specs.declared.lawful.PageInit.{PageInit}
use Rattle.sgx_types.specs.declared.lawful.PageInit.TheVariants as inits
use Rattle.sgx_types.specs.declared.names.Frame.{Frame}
use Rattle.sgx_types.specs.declared.names.Page.{Page}
use Rattle.sgx_types.specs.declared.names.Kind.{Kind}
use Rattle.sgx_types.specs.declared.names.Kind.TheVariants as kinds
use Rattle.sgx_types.specs.declared.names.Perm.{Perm}
use Rattle.sgx_types.specs.Pages.{same_page, page_at, no_perm}
use Rattle.sgx_rules.specs.Frames.{content, least_free, frame_of}
use Rattle.sgx_rules.specs.Processors.{Stay, stay, is_by}
use Rattle.job_grammar.specs.declared.jobs.PageLine.{PageLine}
use Rattle.job_grammar.specs.declared.jobs.PageLine.TheVariants as lines
use Rattle.job_grammar.specs.declared.jobs.Op.{Op}
use Rattle.job_grammar.specs.Jobs.{EnclaveView, JobView, va_pages}
use Rattle.script_rules.specs.declared.steps.BuildStep.{BuildStep}
use Rattle.script_rules.specs.declared.steps.BuildStep.TheVariants as builds
use Rattle.sgx_types.specs.Pages.{frame_at}

-- ---- the build

abbrev pub numbers_from : ℕ → ℕ → List ℕ
numbers_from n zero = []
numbers_from n (suc count) = n ∷ numbers_from (n + 1) count

-- the 16 chunks of a page, unless its bytes are not measured
abbrev pub chunk_steps : ℕ → ℕ → Bool → List BuildStep
chunk_steps enclave number true = []
chunk_steps enclave number false = map (builds.Extend enclave number) (numbers_from 0 16)

-- a page is added, and then measured
abbrev pub page_steps : ℕ → ℕ → Kind → Perm → PageInit → Bool → List BuildStep
page_steps enclave number kind perm init plain = builds.Add enclave number kind perm init ∷ chunk_steps enclave number plain

-- a line's pages, rising
abbrev pub line_steps : ℕ → PageLine → List BuildStep
line_steps enclave (lines.Tcs page ossa nssa plain) = page_steps enclave page kinds.Tcs no_perm (inits.Tcs ossa nssa) plain
line_steps enclave (lines.Reg first count perm value plain) =
    flat_map (λ n. page_steps enclave n kinds.Reg perm (inits.Words value) plain) (numbers_from first count)

abbrev pub enclave_steps : ℕ → EnclaveView → List BuildStep
enclave_steps enclave e = builds.Create enclave e.base e.size ∷ flat_map (line_steps enclave) e.lines ++ builds.Init enclave e.expect ∷ []

-- the enclaves from this number on
abbrev pub enclaves_steps : ℕ → List EnclaveView → List BuildStep
enclaves_steps enclave [] = []
enclaves_steps enclave (e ∷ es) = enclave_steps enclave e ++ enclaves_steps (enclave + 1) es

-- the version arrays, then each enclave in order
abbrev pub build_of : JobView → List BuildStep
build_of j = replicate (va_pages j) builds.Va ++ enclaves_steps 1 j.enclaves

-- a step's instruction, with the frame that it takes
abbrev pub step_action : BuildStep → ℕ → Action
step_action builds.Va f = actions.Epa (frame_at f)
step_action (builds.Create enclave base size) f = actions.Create enclave (frame_at f) base size
step_action (builds.Add enclave number kind perm init) f = actions.Add enclave number (frame_at f) kind perm init
step_action (builds.Extend enclave number chunk) f = actions.Extend (frame_at f) chunk
step_action (builds.Init enclave expect) f = actions.Init enclave expect

abbrev pub with_frame : BuildStep → Option ℕ → Option Action
with_frame step None = None
with_frame step (Some f) = Some (step_action step f)

-- a step takes the least free frame, or is of the frame of its page
abbrev pub step_due : ℕ → List Entry → BuildStep → Option Action
step_due frames past (builds.Init enclave expect) = Some (actions.Init enclave expect)
step_due frames past (builds.Extend enclave number chunk) =
    with_frame (builds.Extend enclave number chunk) (frame_of past (page_at enclave number))
step_due frames past step = with_frame step (least_free frames (content past))

-- ---- entries and replies

-- the instruction of an entry, done or refused
abbrev pub action_of : Event → Option Action
action_of (Did action answer) = Some action
action_of (Refused action why) = Some action
action_of _ = None

abbrev pub is_builder : Actor → Bool
is_builder actors.Builder = true
is_builder _ = false

-- how many entries the builder has made
abbrev pub built : List Entry → ℕ
built [] = 0
built (e ∷ past) = if is_builder e.actor then built past + 1 else built past

-- an exit that no operation of the script asked for, after which the processor resumes by itself
abbrev pub is_system : Cause → Bool
is_system causes.Fault = true
is_system causes.Kick = true
is_system _ = false

abbrev pub interrupted_after : Event → Bool → Bool
interrupted_after (Did (actions.Enter enclave tcs tf sf) answer) before = false
interrupted_after (Did (actions.Resume enclave tcs tf sf) answer) before = false
interrupted_after (Did actions.Exit answer) before = false
interrupted_after (Did (actions.Aex cause) answer) before = is_system cause
interrupted_after _ before = before

-- whether such an exit was the last of a processor's entries into enclaves and exits
abbrev pub is_interrupted : List Entry → ℕ → Bool
is_interrupted [] p = false
is_interrupted (e ∷ past) p = if is_by p e.actor then interrupted_after e.event (is_interrupted past p) else is_interrupted past p

-- the instructions whose entries answer an operation of a script. A resumption answers one where the processor was not
-- interrupted
abbrev pub is_reply_action : Bool → Action → Bool
is_reply_action interrupted (actions.Enter enclave tcs tf sf) = true
is_reply_action interrupted (actions.Resume enclave tcs tf sf) = not interrupted
is_reply_action interrupted actions.Exit = true
is_reply_action interrupted (actions.Aex causes.Timer) = true
is_reply_action interrupted (actions.Load off) = true
is_reply_action interrupted (actions.Store off value) = true
is_reply_action interrupted (actions.Xadd off value) = true
is_reply_action interrupted (actions.Set value) = true
is_reply_action interrupted (actions.Plus value) = true
is_reply_action interrupted (actions.Pf op off) = true
is_reply_action interrupted (actions.OutLoad enclave off) = true
is_reply_action interrupted (actions.OutStore enclave off value) = true
is_reply_action interrupted _ = false

-- .. and so does an entry that tells why a page could not be reloaded
abbrev pub is_reply : Bool → Event → Bool
is_reply interrupted (Did action answer) = is_reply_action interrupted action
is_reply interrupted (Refused action why) = is_reply_action interrupted action
is_reply interrupted (Bus page why) = true
is_reply interrupted _ = false

-- whether the entry behind these is a reply of a processor
abbrev pub is_reply_of : List Entry → Entry → ℕ → Bool
is_reply_of past e p = is_by p e.actor && is_reply (is_interrupted past p) e.event

-- how many operations of its script a processor has replies to
abbrev pub replied : List Entry → ℕ → ℕ
replied [] p = 0
replied (e ∷ past) p = if is_reply_of past e p then replied past p + 1 else replied past p

abbrev pub is_init_of : ℕ → Event → Bool
is_init_of enclave (Did (actions.Init e expect) answer) = e == enclave
is_init_of enclave _ = false

-- whether an enclave was initialised
abbrev pub is_initialised : List Entry → ℕ → Bool
is_initialised [] enclave = false
is_initialised (e ∷ past) enclave = is_init_of enclave e.event || is_initialised past enclave

abbrev pub is_seated_at : Page → Option Stay → Bool
is_seated_at g None = false
is_seated_at g (Some s) = same_page (page_at s.seat.enclave s.seat.tcs) g

-- the processor of an entry leaves by its exit the TCS page by which it is inside
abbrev pub leaves_by : Actor → List Entry → Page → Bool
leaves_by (actors.Cpu p) past g = is_seated_at g (stay past p.0)
leaves_by _ past g = false

abbrev pub saved_after : Event → Bool → Page → ℕ → ℕ
saved_after (Did (actions.Aex cause) answer) is_left g before = if is_left then before + 1 else before
saved_after (Did (actions.Resume enclave tcs tf sf) answer) is_left g before =
    if same_page (page_at enclave tcs) g then before - 1 else before
saved_after _ is_left g before = before

-- how many state save frames of a TCS page are in use
abbrev pub saved_frames : List Entry → Page → ℕ
saved_frames [] g = 0
saved_frames (e ∷ past) g = saved_after e.event (leaves_by e.actor past g) g (saved_frames past g)

-- ---- a processor's next entry

abbrev pub enter_with : ℕ → ℕ → Option ℕ → Option ℕ → Option Action
enter_with enclave tcs (Some tf) (Some sf) = Some (actions.Enter enclave tcs (frame_at tf) (frame_at sf))
enter_with enclave tcs _ _ = None

abbrev pub resume_with : ℕ → ℕ → Option ℕ → Option ℕ → Option Action
resume_with enclave tcs (Some tf) (Some sf) = Some (actions.Resume enclave tcs (frame_at tf) (frame_at sf))
resume_with enclave tcs _ _ = None

-- who is inside, or enters an enclave that is not initialised, is refused whatever the frames are
abbrev pub is_turned_away : List Entry → ℕ → ℕ → Bool
is_turned_away past p enclave = is_some (stay past p) || not (is_initialised past enclave)

abbrev pub script_of : JobView → ℕ → List Op
script_of j p = unwrap_or (slice_get j.scripts p) []
