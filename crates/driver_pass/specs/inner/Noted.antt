-- How far the reclaimer is behind an entry.
use Rattle.std.specs.Prelude.{ℕ, zero, suc, ◌+◌, ◌-◌, nat_lt, min, true, false, if◌then◌else◌, List, [], ◌++◌, Option, None, Some, length}
use Rattle.std.specs.Prelude.{slice_get}
use Rattle.std.specs.Option.{option_to_list}
use Rattle.sgx_rules.specs.declared.entries.Action.{Action}
use Rattle.sgx_rules.specs.declared.entries.Action.TheVariants as actions
use Rattle.sgx_rules.specs.declared.entries.Answer.TheVariants.{Moved}
use Rattle.sgx_types.specs.declared.names.Actor.{Actor}
use Rattle.sgx_types.specs.declared.names.Actor.TheVariants as actors
use Rattle.sgx_rules.specs.declared.entries.Event.{Event}
use Rattle.sgx_rules.specs.declared.entries.Event.TheVariants.{Age, Did, Kick, Refused}
use Rattle.sgx_rules.specs.declared.entries.Look.{Look}
use Rattle.sgx_rules.specs.declared.entries.Look.TheVariants as looks
use Rattle.sgx_types.specs.declared.names.Page.{Page}
use Rattle.sgx_types.specs.Pages.{is_own_page, is_secs_page}
use Rattle.sgx_rules.specs.declared.refusals.Refusal.{Refusal}
use Rattle.sgx_rules.specs.declared.refusals.Refusal.TheVariants as why
use Rattle.job_grammar.specs.declared.jobs.Marks.{Marks}
use Rattle.driver_list.specs.inner.Places.{IsPlaced}
use Rattle.driver_list.specs.inner.States.{state_of}
use Rattle.sgx_machine.specs.inner.Parts.{Parts}
use Rattle.driver_rules.specs.Passes.{works_with}
use Rattle.driver_tables.specs.declared.driver.Driver.{Driver}
use Rattle.driver_tables.specs.inner.Moves.{frame_in}
use Rattle.driver_pass.specs.declared.stages.Aside.{Aside}
use Rattle.driver_pass.specs.declared.stages.Aside.TheVariants as asides
use Rattle.driver_pass.specs.declared.stages.Behind.{Behind}
use Rattle.driver_pass.specs.declared.stages.Behind.TheVariants as last
use Rattle.driver_pass.specs.declared.stages.Form.{Form}
use Rattle.driver_pass.specs.declared.stages.Form.TheVariants as forms
use Rattle.driver_pass.specs.declared.stages.Stage.{Stage}
use Rattle.driver_pass.specs.declared.stages.Stage.TheVariants as stages
use Rattle.driver_pass.specs.declared.stages.Taken.{Taken}
use Rattle.driver_pass.specs.inner.Keeping.{keepers_by}
use Rattle.driver_pass.specs.inner.Viewed.{PassView}

-- the place behind one, of so many
abbrev pub behind : ℕ → ℕ → Option ℕ
behind place count = if nat_lt (place + 1) count then Some (place + 1) else None

-- a pass goes on where no page goes out beside it
abbrev pub unless_aside : Aside → PassView → PassView → PassView
unless_aside asides.None before after = after
unless_aside _ before after = before

-- ---- looks

-- a page with its frame
abbrev pub taken_of : Driver → Page → Taken
taken_of d page = record { page = page; frame = frame_in (state_of d.states page) }

-- the page that a look takes, with its frame
abbrev pub taken_by : Driver → Page → Look → Option Taken
taken_by d page looks.Taken = Some (taken_of d page)
taken_by d page _ = None

-- with one more, where there is room
abbrev pub with_taken : List Taken → Option Taken → List Taken
with_taken taken one = if nat_lt (length taken) 64 then taken ++ option_to_list one else taken

abbrev pub after_look : ℕ → ℕ → Stage
after_look (suc left) taken = stages.Scan (suc left)
after_look zero zero = stages.Idle true
after_look zero (suc n) = stages.Block 0

abbrev pub looked_on : Driver → ℕ → Page → Look → PassView → PassView
looked_on d left page look v = let taken = with_taken v.taken (taken_by d page look) in
    record v { taken = taken; stage = after_look (left - 1) (length taken) }

abbrev pub passed_by : Driver → Page → Look → PassView → Stage → PassView
passed_by d page look v (stages.Idle works) =
    looked_on d (min d.marks.scan (length d.active.pages)) page look (record v { taken = [] })
passed_by d page look v (stages.Scan left) = looked_on d left page look v
passed_by d page look v _ = v

-- .. of a pass
abbrev pub passed_on : Driver → Page → Look → PassView → PassView
passed_on d page look v = passed_by d page look v v.stage

abbrev pub passed_own : Driver → Page → Look → PassView → PassView
passed_own d page look v = if is_own_page page then passed_on d page look v else v

abbrev pub aside_of : Option Taken → Aside
aside_of None = asides.None
aside_of (Some t) = asides.ToGo t

abbrev pub aside_looked : Driver → Page → Look → Aside
aside_looked d page look = if is_own_page page then asides.None else aside_of (taken_by d page look)

abbrev pub behind_looked : Page → Look → Behind
behind_looked page looks.NoRoom = if is_secs_page page then last.NoRoom else last.Nothing
behind_looked page _ = last.Nothing

abbrev pub looked : Driver → Page → Look → PassView → PassView
looked d page look v = record (unless_aside v.aside v (passed_own d page look v)) {
  aside = aside_looked d page look;
  behind = behind_looked page look;
}

-- ---- instructions

abbrev pub after_block : Option ℕ → Stage
after_block None = stages.Tries 0 forms.First
after_block (Some next) = stages.Block next

abbrev pub after_page : Option ℕ → Stage
after_page None = stages.Idle true
after_page (Some next) = stages.Tries next forms.First

abbrev pub after_done : Stage → ℕ → Action → Stage
after_done (stages.Block next) taken (actions.Block f) = after_block (behind next taken)
after_done (stages.Tries next form) taken (actions.EwbStart f slot) = stages.Tries next forms.Sealing
after_done (stages.Tries next form) taken (actions.Track enclave) = stages.Tries next forms.Second
after_done (stages.Tries next form) taken (actions.Ewb f) = after_page (behind next taken)
after_done stage taken _ = stage

abbrev pub not_tracked : Form → ℕ → Form
not_tracked forms.First epoch = forms.Track
not_tracked forms.Second epoch = forms.Kick epoch false
not_tracked form epoch = form

abbrev pub occupied : Form → Form
occupied (forms.Kick epoch made) = forms.Third epoch
occupied form = form

abbrev pub after_refused : Stage → Action → Refusal → Stage
after_refused (stages.Tries next form) (actions.EwbStart f slot) (why.NotTracked epoch older) = stages.Tries next (not_tracked form epoch)
after_refused (stages.Tries next form) (actions.EwbStart f slot) (why.SlotOccupied version) = stages.Tries next (occupied form)
after_refused stage _ _ = stage

abbrev pub after_instruction : Stage → ℕ → Event → Stage
after_instruction stage taken (Did action answer) = after_done stage taken action
after_instruction stage taken (Refused action refusal) = after_refused stage action refusal
after_instruction stage taken _ = stage

abbrev pub aside_instructed : Event → Aside → Aside
aside_instructed (Did (actions.EwbStart f slot) answer) (asides.ToGo t) = asides.Going t
aside_instructed (Did (actions.Ewb f) answer) before = asides.None
aside_instructed _ before = before

abbrev pub behind_instructed : Event → Behind
behind_instructed (Did (actions.Ewb f) (Moved page version tag)) = last.Out page
behind_instructed _ = last.Nothing

abbrev pub instructed : Event → PassView → PassView
instructed event v = record (unless_aside v.aside v (record v { stage = after_instruction v.stage (length v.taken) event })) {
  aside = aside_instructed event v.aside;
  behind = behind_instructed event;
}

-- ---- kicks

abbrev pub after_kick : ℕ → Option ℕ → Form
after_kick epoch None = forms.Third epoch
after_kick epoch (Some next) = forms.Kicks epoch next

-- behind the kick of this place
abbrev pub kicked_at : PassView → ℕ → ℕ → List ℕ → ℕ → PassView
kicked_at v next epoch kicks place =
    record v { kicks = kicks; stage = stages.Tries next (after_kick epoch (behind place (length kicks))) }

abbrev pub kicked_with : Parts → PassView → ℕ → Form → Option Taken → PassView
kicked_with m v next form None = v
kicked_with m v next (forms.Kick epoch made) (Some t) = kicked_at v next epoch (keepers_by m t.page.enclave epoch) 0
kicked_with m v next (forms.Kicks epoch place) (Some t) = kicked_at v next epoch v.kicks place
kicked_with m v next form (Some t) = v

abbrev pub kicked_by : Parts → PassView → Stage → PassView
kicked_by m v (stages.Tries next form) = kicked_with m v next form (slice_get v.taken next)
kicked_by m v _ = v

abbrev pub kicked_on : Parts → PassView → PassView
kicked_on m v = kicked_by m v v.stage

abbrev pub kicked : Parts → PassView → PassView
kicked m v = record (unless_aside v.aside v (kicked_on m v)) { behind = last.Nothing }

-- behind all kicks of a page: where there are none, no entry is made
abbrev pub all_kicked_form : ℕ → Form → Form
all_kicked_form zero (forms.Kick epoch made) = forms.Kick epoch true
all_kicked_form (suc more) (forms.Kick epoch made) = forms.Third epoch
all_kicked_form count form = form

abbrev pub all_kicked_stage : ℕ → Stage → Stage
all_kicked_stage count (stages.Tries next form) = stages.Tries next (all_kicked_form count form)
all_kicked_stage count stage = stage

abbrev pub behind_kicks : ℕ → Behind → Behind
behind_kicks zero before = before
behind_kicks (suc more) before = last.Nothing

abbrev pub all_kicked : ℕ → PassView → PassView
all_kicked count v = record v { stage = all_kicked_stage count v.stage; behind = behind_kicks count v.behind }

-- ---- an entry

-- of the reclaimer
abbrev pub gone_on : Driver → Parts → Event → PassView → PassView
gone_on d m (Age page look) v = looked d page look v
gone_on d m (Kick cpu) v = kicked m v
gone_on d m event v = instructed event v

abbrev pub gone_by : Driver → Parts → Actor → Event → PassView → PassView
gone_by d m actors.Reclaimer event v = gone_on d m event v
gone_by d m _ event v = v

-- a page that is looked at has its place in the tables
abbrev pub IsSeen : Driver → Actor → Event → Type 0
IsSeen d actors.Reclaimer (Age page look) = IsPlaced d.states.counts page
IsSeen d _ _ = Unit {0}

-- between two passes it is decided anew whether the reclaimer works
abbrev pub decided_stage : Marks → ℕ → Stage → Stage
decided_stage marks free (stages.Idle works) = stages.Idle (works_with marks free works)
decided_stage marks free stage = stage

abbrev pub decided : Marks → ℕ → PassView → PassView
decided marks free v = record v { stage = decided_stage marks free v.stage }
