-- What is told of an entry, by the tables, the machine and how far the pass is.
use Rattle.std.specs.Prelude.{ℕ, ◌==◌, ◌&&◌, ◌||◌, not, Bool, true, false, List, Option, None, Some, slice_get}
use Rattle.sgx_rules.specs.declared.entries.Action.{Action}
use Rattle.sgx_rules.specs.declared.entries.Action.TheVariants as actions
use Rattle.sgx_types.specs.declared.names.Actor.{Actor}
use Rattle.sgx_types.specs.declared.names.Actor.TheVariants as actors
use Rattle.sgx_rules.specs.declared.entries.Event.{Event}
use Rattle.sgx_rules.specs.declared.entries.Event.TheVariants.{Age, Did, Kick, Refused}
use Rattle.sgx_rules.specs.declared.entries.Look.{Look}
use Rattle.sgx_types.specs.declared.names.Frame.{Frame}
use Rattle.sgx_types.specs.declared.names.Page.{Page}
use Rattle.sgx_types.specs.Pages.{is_own_page, same_page}
use Rattle.sgx_rules.specs.declared.refusals.Refusal.TheVariants as why
use Rattle.driver_list.specs.inner.Holds.{is_held}
use Rattle.driver_list.specs.inner.Listing.{head_of, is_young}
use Rattle.machine_laws.specs.inner.State.{State}
use Rattle.sgx_machine.specs.inner.Parts.{Parts}
use Rattle.driver_rules.specs.inner.Decided.{is_end, is_last_try, is_look_ahead, is_track_of, is_try}
use Rattle.driver_rules.specs.Dues.{is_look}
use Rattle.driver_tables.specs.declared.driver.Driver.{Driver}
use Rattle.driver_pass.specs.declared.stages.Aside.{Aside}
use Rattle.driver_pass.specs.declared.stages.Aside.TheVariants as asides
use Rattle.driver_pass.specs.declared.stages.Form.{Form}
use Rattle.driver_pass.specs.declared.stages.Form.TheVariants as forms
use Rattle.driver_pass.specs.declared.stages.Stage.{Stage}
use Rattle.driver_pass.specs.declared.stages.Stage.TheVariants as stages
use Rattle.driver_pass.specs.declared.stages.Taken.{Taken}
use Rattle.driver_pass.specs.inner.Keeping.{first_of, keepers_by}
use Rattle.driver_pass.specs.inner.Dues.{due_in}
use Rattle.driver_pass.specs.inner.Viewed.{PassView}

-- ---- Age

-- a look is at the head of the list, and tells what is so of it
abbrev pub look_is_right : Driver → Option Page → Page → Look → Bool
look_is_right d None page look = false
look_is_right d (Some head) page look =
    same_page head page && is_look (is_held d.active.own head) (is_young d.active.pages head) look

abbrev pub looks_right : Driver → Event → Bool
looks_right d (Age page look) = look_is_right d (head_of d.active.pages) page look
looks_right d _ = true

-- an instruction of the tries of the page that leaves this frame
abbrev pub in_frame : Frame → Action → Bool
in_frame frame (actions.EwbStart f slot) = frame.0 == f.0
in_frame frame (actions.Ewb f) = frame.0 == f.0
in_frame frame (actions.Track enclave) = true
in_frame frame _ = false

abbrev pub in_tries : Frame → Event → Bool
in_tries frame (Did action answer) = in_frame frame action
in_tries frame (Refused action refusal) = in_frame frame action
in_tries frame (Kick cpu) = true
in_tries frame _ = false

abbrev pub is_in_block : Option Taken → Frame → Bool
is_in_block None f = false
is_in_block (Some t) f = t.frame.0 == f.0

abbrev pub is_in_tries : Option Taken → Event → Bool
is_in_tries None event = false
is_in_tries (Some t) event = in_tries t.frame event

-- the event stands at this place of a pass
abbrev pub in_pass : List Taken → Stage → Event → Bool
in_pass taken (stages.Idle works) (Age page look) = works
in_pass taken (stages.Scan left) (Age page look) = true
in_pass taken (stages.Block next) (Did (actions.Block f) answer) = is_in_block (slice_get taken next) f
in_pass taken (stages.Tries next form) event = is_in_tries (slice_get taken next) event
in_pass taken _ event = false

abbrev pub of_pass : Driver → PassView → Event → Bool
of_pass d v event = looks_right d event && in_pass v.taken v.stage event

-- ---- .. and beside it

-- the start of the write-out of the page in a frame, or the refusal at which a run ends
abbrev pub is_start_of : Frame → Event → Bool
is_start_of frame (Did (actions.EwbStart f slot) answer) = frame.0 == f.0
is_start_of frame (Refused (actions.EwbStart f slot) why.VersionSpent) = frame.0 == f.0
is_start_of frame event = false

-- its end
abbrev pub is_end_of : Frame → Event → Bool
is_end_of frame (Did (actions.Ewb f) answer) = frame.0 == f.0
is_end_of frame event = false

-- where no page goes out beside the passes: a page that is due comes before what the pass gives
abbrev pub due_told : Driver → PassView → Event → Option Page → Bool
due_told d v event None = of_pass d v event
due_told d v event (Some g) = is_look_ahead g event

abbrev pub ahead_told : Driver → State → PassView → Event → Aside → Bool
ahead_told d s v event asides.None = due_told d v event (due_in d s v.behind)
ahead_told d s v event (asides.ToGo t) = is_start_of t.frame event
ahead_told d s v event (asides.Going t) = is_end_of t.frame event

abbrev pub age_told : Driver → State → PassView → Actor → Event → Bool
age_told d s v actors.Reclaimer event = ahead_told d s v event v.aside
age_told d s v _ event = true

-- ---- Kick

abbrev pub kick_is : Option ℕ → Event → Bool
kick_is (Some p) (Kick cpu) = cpu.0 == p
kick_is _ event = false

abbrev pub is_kick_or_try : Option ℕ → Event → Bool
is_kick_or_try None event = is_last_try event
is_kick_or_try (Some p) event = kick_is (Some p) event

-- an entry for a page that goes out beside the passes is set aside
abbrev pub is_aside_told : Aside → Event → Bool
is_aside_told asides.None (Age page look) = not (is_own_page page)
is_aside_told asides.None event = false
is_aside_told _ event = true

abbrev pub in_form : Parts → List ℕ → ℕ → Form → Event → Bool
in_form m kicks enclave forms.First event = is_try event
in_form m kicks enclave forms.Track event = is_track_of enclave event
in_form m kicks enclave forms.Second event = is_try event
in_form m kicks enclave (forms.Kick epoch made) event = is_kick_or_try (first_of (keepers_by m enclave epoch)) event
in_form m kicks enclave (forms.Kicks epoch next) event = kick_is (slice_get kicks next) event
in_form m kicks enclave (forms.Third epoch) event = is_last_try event
in_form m kicks enclave forms.Sealing event = is_end event

abbrev pub is_beside : Form → Bool
is_beside (forms.Kicks epoch next) = false
is_beside _ = true

abbrev pub by_actor : Parts → List ℕ → Aside → Form → Actor → Event → Taken → Bool
by_actor m kicks aside form actors.Reclaimer event t = is_aside_told aside event || in_form m kicks t.page.enclave form event
by_actor m kicks aside form _ event t = is_beside form

abbrev pub with_page : Option Taken → (Taken → Bool) → Bool
with_page None test = true
with_page (Some t) test = test t

abbrev pub kick_by : Parts → PassView → Stage → Actor → Event → Bool
kick_by m v (stages.Tries next form) actor event = with_page (slice_get v.taken next) (by_actor m v.kicks v.aside form actor event)
kick_by m v _ actor event = true

abbrev pub kick_told : Parts → PassView → Actor → Event → Bool
kick_told m v actor event = kick_by m v v.stage actor event
