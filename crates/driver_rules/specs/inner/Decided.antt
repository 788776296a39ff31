-- The rules Script, Age and Kick as tests.
use Rattle.std.specs.Prelude.{ℕ, zero, suc, ◌≡◌, ◌==◌, ◌&&◌, ◌||◌, not, Bool, true, false, List, [], ◌∷◌, Option}
use Rattle.std.specs.Prelude.{Some, None, length, nat_lt}
use Rattle.sgx_rules.specs.declared.entries.Entry.{Entry}
use Rattle.sgx_rules.specs.declared.entries.Event.{Event}
use Rattle.sgx_rules.specs.declared.entries.Event.TheVariants.{Age, Bus, Did, Kick, Refused}
use Rattle.sgx_types.specs.declared.names.Actor.{Actor}
use Rattle.sgx_rules.specs.declared.entries.Action.{Action}
use Rattle.sgx_rules.specs.declared.entries.Action.TheVariants.{Block, Ewb, EwbStart, Track}
use Rattle.sgx_rules.specs.declared.entries.BusWhy.{BusWhy}
use Rattle.sgx_rules.specs.declared.entries.Look.{Look}
use Rattle.sgx_types.specs.declared.names.Page.{Page}
use Rattle.sgx_types.specs.Pages.{same_page}
use Rattle.sgx_rules.specs.Processors.{Stay, stay}
use Rattle.job_grammar.specs.Jobs.{JobView}
use Rattle.script_rules.specs.Script.{action_of, build_of, built, replied, script_of}
use Rattle.driver_rules.specs.Ages.{Ahead, ahead, EndsNext, GoesOn, head_of, Looks, TriesNext}
use Rattle.driver_rules.specs.Dues.{Asks, Due, Ends, Fetch, Fetches, is_look, KicksAll, load_by, LooksAt, Makes, Reports, TriesOut}
use Rattle.driver_rules.specs.Dues.{WaitsFor}
use Rattle.driver_rules.specs.Holds.{is_held}
use Rattle.driver_rules.specs.Passes.{aside, Between, Blocking, First, Form, is_aside, keepers, Kicks, Pass, pass, Scan, Sealing}
use Rattle.driver_rules.specs.Passes.{Second, Third, ToKick, ToTrack, Tries}
use Rattle.driver_rules.specs.Places.{active, is_young, Leaving, Place, place}
use Rattle.driver_rules.specs.inner.Same.{same_action}
use Rattle.driver_rules.specs.Scripts.{is_load}
use Rattle.driver_rules.specs.Spares.{Outs, outs}
use Rattle.driver_rules.specs.Stops.{has_bus, is_spent}
use Rattle.driver_rules.specs.Turns.{builder_due, cpu_due}
use Rattle.sgx_types.specs.declared.names.Actor.TheVariants as actors
use Rattle.sgx_rules.specs.declared.entries.BusWhy.TheVariants as reasons
use Rattle.sgx_rules.specs.declared.entries.Look.TheVariants as looks
use Rattle.sgx_rules.specs.declared.refusals.Refusal.TheVariants as why

-- a test passes exactly where something is so
abbrev pub TellsIf : Bool → Type 0 → Type 0
TellsIf test Is = (test ≡ true → Is) × (Is → test ≡ true)

-- ---- Age

abbrev pub is_some_page : Option Page → Page → Bool
is_some_page None g = false
is_some_page (Some page) g = same_page page g

abbrev pub looks_at : JobView → List Entry → Page → Look → Bool
looks_at j past page look = is_some_page (head_of (active past)) page && is_look (is_held j past page) (is_young past page) look

abbrev pub is_leaving_in : Place → ℕ → Bool
is_leaving_in (Leaving n) f = n == f
is_leaving_in _ f = false

abbrev pub is_next_block : List Entry → List Page → ℕ → Bool
is_next_block past [] f = false
is_next_block past (g ∷ gs) f = is_leaving_in (place past g) f

abbrev pub is_in_tries : List Entry → Page → Event → Bool
is_in_tries past g (Did (EwbStart f slot) answer) = is_leaving_in (place past g) f.0
is_in_tries past g (Refused (EwbStart f slot) refusal) = is_leaving_in (place past g) f.0
is_in_tries past g (Did (Ewb f) answer) = is_leaving_in (place past g) f.0
is_in_tries past g (Refused (Ewb f) refusal) = is_leaving_in (place past g) f.0
is_in_tries past g (Did (Track enclave) answer) = true
is_in_tries past g (Refused (Track enclave) refusal) = true
is_in_tries past g (Kick cpu) = true
is_in_tries past g _ = false

abbrev pub is_in_pass : List Entry → Pass → Event → Bool
is_in_pass past (Between works) (Age page look) = works
is_in_pass past (Scan left taken) (Age page look) = true
is_in_pass past (Blocking due taken) (Did (Block f) answer) = is_next_block past due f.0
is_in_pass past (Tries g rest form) event = is_in_tries past g event
is_in_pass past _ event = false

abbrev pub looks_of : JobView → List Entry → Event → Bool
looks_of j past (Age page look) = looks_at j past page look
looks_of j past _ = true

abbrev pub is_of_pass : JobView → List Entry → Event → Bool
is_of_pass j past event = looks_of j past event && is_in_pass past (pass j past) event

abbrev pub is_look_ahead : Page → Event → Bool
is_look_ahead g (Age page looks.NoRoom) = same_page page g
is_look_ahead g (Age page looks.Taken) = same_page page g
is_look_ahead g event = false

abbrev pub is_try_ahead : List Entry → Page → Event → Bool
is_try_ahead past g (Did (EwbStart f slot) answer) = is_leaving_in (place past g) f.0
is_try_ahead past g (Refused (EwbStart f slot) why.VersionSpent) = is_leaving_in (place past g) f.0
is_try_ahead past g event = false

abbrev pub is_end_ahead : List Entry → Page → Event → Bool
is_end_ahead past g (Did (Ewb f) answer) = is_leaving_in (place past g) f.0
is_end_ahead past g event = false

abbrev pub is_ahead : JobView → List Entry → Ahead → Event → Bool
is_ahead j past GoesOn event = is_of_pass j past event
is_ahead j past (Looks g) event = is_look_ahead g event
is_ahead j past (TriesNext g) event = is_try_ahead past g event
is_ahead j past (EndsNext g) event = is_end_ahead past g event

abbrev pub age_of : JobView → List Entry → Outs → Actor → Event → Bool
age_of j past out actors.Reclaimer event = is_ahead j past (ahead j past out) event
age_of j past out _ event = true

abbrev pub keeps_age_by : JobView → List Entry → Outs → Entry → Bool
keeps_age_by j past out e = age_of j past out e.actor e.event

abbrev pub keeps_age : JobView → List Entry → Entry → Bool
keeps_age j past e = keeps_age_by j past (outs j past) e

-- ---- Kick

abbrev pub is_last_try : Event → Bool
is_last_try (Did (EwbStart f slot) answer) = true
is_last_try (Refused (EwbStart f slot) why.VersionSpent) = true
is_last_try (Refused (EwbStart f slot) (why.SlotOccupied version)) = true
is_last_try _ = false

abbrev pub is_try : Event → Bool
is_try (Refused (EwbStart f slot) (why.NotTracked epoch older)) = true
is_try event = is_last_try event

abbrev pub is_track_of : ℕ → Event → Bool
is_track_of enclave (Did (Track e) answer) = e == enclave
is_track_of enclave (Refused (Track e) why.EpochSpent) = e == enclave
is_track_of enclave _ = false

abbrev pub is_kick_of : List ℕ → Event → Bool
is_kick_of (p ∷ ps) (Kick cpu) = cpu.0 == p
is_kick_of _ _ = false

abbrev pub is_kick_or_try : List ℕ → Event → Bool
is_kick_or_try [] event = is_last_try event
is_kick_or_try (p ∷ ps) event = is_kick_of (p ∷ ps) event

abbrev pub is_end : Event → Bool
is_end (Did (Ewb f) answer) = true
is_end _ = false

abbrev pub is_in_form : List Entry → Page → Form → Event → Bool
is_in_form past g First event = is_try event
is_in_form past g ToTrack event = is_track_of g.enclave event
is_in_form past g Second event = is_try event
is_in_form past g ToKick event = is_kick_or_try (keepers past g) event
is_in_form past g (Kicks rest) event = is_kick_of rest event
is_in_form past g Third event = is_last_try event
is_in_form past g Sealing event = is_end event

abbrev pub is_beside : Form → Bool
is_beside (Kicks rest) = false
is_beside _ = true

abbrev pub form_of : List Entry → Pass → Actor → Event → Bool
form_of past (Tries g rest form) actors.Reclaimer event = is_aside (aside past) event || is_in_form past g form event
form_of past _ _ event = true

abbrev pub beside_of : Pass → Actor → Bool
beside_of at actors.Reclaimer = true
beside_of (Tries g rest form) _ = is_beside form
beside_of _ _ = true

abbrev pub keeps_kick : JobView → List Entry → Entry → Bool
keeps_kick j past e = form_of past (pass j past) e.actor e.event && beside_of (pass j past) e.actor

-- ---- Script

abbrev pub is_action : Option Action → Action → Bool
is_action None action = false
is_action (Some done) action = same_action done action

abbrev pub same_reason : BusWhy → BusWhy → Bool
same_reason reasons.GetFailed reasons.GetFailed = true
same_reason reasons.NoRecord reasons.NoRecord = true
same_reason reasons.PutFailed reasons.PutFailed = true
same_reason reasons.Mac reasons.Mac = true
same_reason reasons.Header reasons.Header = true
same_reason reasons.Slot reasons.Slot = true
same_reason _ _ = false

abbrev pub is_lost : Page → Fetch → Page → Bool
is_lost g (WaitsFor target) page = same_page page g
is_lost g (Asks target slot free) page = same_page page g || same_page page target

abbrev pub is_fetch : Page → Fetch → Event → Bool
is_fetch g fetch (Bus page reasons.PutFailed) = is_lost g fetch page
is_fetch g (Asks target slot (Some f)) (Bus page reasons.GetFailed) = same_page page target
is_fetch g (Asks target slot (Some f)) (Bus page reasons.NoRecord) = same_page page target
is_fetch g (Asks target slot (Some f)) (Did action answer) = is_action (load_by target slot f) action
is_fetch g (Asks target slot (Some f)) (Refused action why.SlotEmpty) = is_action (load_by target slot f) action
is_fetch g _ event = false

abbrev pub is_stop : Page → BusWhy → Event → Bool
is_stop page reason (Bus g other) = same_page g page && same_reason other reason
is_stop page reason _ = false

abbrev pub is_look_of : Page → Bool → Bool → Event → Bool
is_look_of page held young (Age g look) = same_page g page && is_look held young look
is_look_of page held young _ = false

abbrev pub is_try_of : ℕ → Event → Bool
is_try_of n (Did (EwbStart f slot) answer) = f.0 == n
is_try_of n (Refused (EwbStart f slot) refusal) = f.0 == n
is_try_of n _ = false

abbrev pub is_next : Due → Event → Bool
is_next (Ends action) event = is_action (action_of event) action
is_next (Makes action) event = is_action (action_of event) action
is_next (Reports page reason) event = is_stop page reason event
is_next (Fetches g fetch) event = is_fetch g fetch event
is_next (LooksAt page held young) event = is_look_of page held young event
is_next (TriesOut g n) event = is_try_of n event
is_next (KicksAll cpus) event = is_kick_of cpus event
is_next _ event = false

abbrev pub is_actors : JobView → List Entry → Actor → Event → Bool
is_actors j past actors.Builder event = is_next (builder_due j past) event
is_actors j past (actors.Cpu p) event = nat_lt p.0 (length j.scripts) && is_next (cpu_due j past p.0) event
is_actors j past actors.Reclaimer event = not (is_load event)

abbrev pub keeps_script : JobView → List Entry → Entry → Bool
keeps_script j past e = not (is_spent past) && is_actors j past e.actor e.event

-- ---- along a trace

-- a test passes at each entry
abbrev pub all_along : (List Entry → Entry → Bool) → List Entry → Bool
all_along test [] = true
all_along test (e ∷ past) = test past e && all_along test past

-- ---- the end

abbrev pub is_outside : Option Stay → Bool
is_outside None = true
is_outside (Some s) = false

abbrev pub is_done : JobView → List Entry → ℕ → Bool
is_done j past p = has_bus past p || ((replied past p == length (script_of j p)) && is_outside (stay past p))

-- each of so many processors is done or was ended
abbrev pub are_done : JobView → List Entry → ℕ → Bool
are_done j past zero = true
are_done j past (suc p) = is_done j past p && are_done j past p

abbrev pub is_ended : JobView → List Entry → Bool
is_ended j past = is_spent past || ((built past == length (build_of j)) && are_done j past (length j.scripts))
