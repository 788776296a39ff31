-- What the reclaimer does next: the end of a write-out that it has started, and else what its pass gives.
use Rattle.std.specs.Prelude.{ℕ, zero, suc, ◌&&◌, Bool, true, false, if◌then◌else◌, List, [], ◌∷◌, Option, Some, None}
use Rattle.std.specs.Prelude.{length}
use Rattle.std.specs.List.{list_all}
use Rattle.sgx_rules.specs.declared.entries.Entry.{Entry}
use Rattle.sgx_rules.specs.declared.entries.Event.{Event}
use Rattle.sgx_rules.specs.declared.entries.Event.TheVariants.{Refused}
use Rattle.sgx_types.specs.declared.names.Page.{Page}
use Rattle.job_grammar.specs.Jobs.{JobView}
use Rattle.sgx_types.specs.Pages.{frame_at}
use Rattle.driver_rules.specs.Dues.{Due, Ends, Finished, KicksAll, LooksAt, Makes, Stopped, TriesOut, Waits}
use Rattle.driver_rules.specs.Ages.{Ahead, ahead, EndsNext, GoesOn, head_of, Looks, TriesNext}
use Rattle.driver_rules.specs.Holds.{is_held}
use Rattle.driver_rules.specs.Passes.{Between, Blocking, First, Form, free_count, keepers, Kicks, Pass, pass, Scan, Sealing, Second}
use Rattle.driver_rules.specs.Passes.{Third, ToKick, ToTrack, Tries}
use Rattle.driver_rules.specs.Places.{active, frame_leaving, is_young, place}
use Rattle.driver_rules.specs.Spares.{Outs, outs}
use Rattle.driver_rules.specs.inner.Stops.{frame_started}
use Rattle.driver_rules.specs.Stops.{is_spent, last_event}
use Rattle.driver_rules.specs.Turns.{cpu_due, is_built}
use Rattle.sgx_types.specs.declared.names.Actor.TheVariants as actors
use Rattle.sgx_rules.specs.declared.entries.Action.TheVariants as actions
use Rattle.driver_rules.specs.declared.waits.Why.TheVariants as waits

-- ---- looks

-- every page of the list is held; so it is with an empty list
abbrev pub are_held : JobView → List Entry → Bool
are_held j past = list_all (is_held j past) (active past)

abbrev pub look_at : JobView → List Entry → Option Page → Due
look_at j past None = Waits waits.AllHeld
look_at j past (Some g) = LooksAt g (is_held j past g) (is_young past g)

-- a look at the head of the list
abbrev pub look_due : JobView → List Entry → Due
look_due j past = look_at j past (head_of (active past))

-- ---- the tries of a page

-- an instruction on the frame that a page leaves
abbrev pub in_frame : Page → Option ℕ → (ℕ → Due) → Due
in_frame g None to = Waits (waits.Busy g)
in_frame g (Some f) to = to f

abbrev pub leaving_due : List Entry → Page → (ℕ → Due) → Due
leaving_due past g to = in_frame g (frame_leaving (place past g)) to

abbrev pub tries_out : List Entry → Page → Due
tries_out past g = leaving_due past g (TriesOut g)

-- the last try waits until nobody keeps the page back
abbrev pub third_due : List Entry → Page → List ℕ → Due
third_due past g [] = tries_out past g
third_due past g (p ∷ ps) = Waits (waits.Older g.enclave (length (p ∷ ps)))

-- a turn of kicks comes once, also where there is nobody to kick
abbrev pub form_due : List Entry → Page → Bool → Form → Due
form_due past g is_kicked First = tries_out past g
form_due past g is_kicked ToTrack = Makes (actions.Track g.enclave)
form_due past g is_kicked Second = tries_out past g
form_due past g is_kicked ToKick = if is_kicked then third_due past g (keepers past g) else KicksAll (keepers past g)
form_due past g is_kicked (Kicks rest) = KicksAll rest
form_due past g is_kicked Third = third_due past g (keepers past g)
form_due past g is_kicked Sealing = leaving_due past g (λ f. Ends (actions.Ewb (frame_at f)))

-- ---- a pass

abbrev pub pass_due : JobView → List Entry → Bool → Pass → Due
pass_due j past is_kicked (Between false) = Waits (waits.Enough (free_count j.epc past))
pass_due j past is_kicked (Between true) = if are_held j past then Waits waits.AllHeld else look_due j past
pass_due j past is_kicked (Scan left taken) = look_due j past
pass_due j past is_kicked (Blocking [] taken) = Finished
pass_due j past is_kicked (Blocking (g ∷ gs) taken) = leaving_due past g (λ f. Makes (actions.Block (frame_at f)))
pass_due j past is_kicked (Tries g rest form) = form_due past g is_kicked form

-- ---- pages that are due besides

-- a page that is due comes before what its pass gives: the store is asked for room, and it goes out next
abbrev pub ahead_gives : JobView → List Entry → Bool → Ahead → Due
ahead_gives j past is_kicked GoesOn = pass_due j past is_kicked (pass j past)
ahead_gives j past is_kicked (Looks g) = LooksAt g false false
ahead_gives j past is_kicked (TriesNext g) = tries_out past g
ahead_gives j past is_kicked (EndsNext g) = leaving_due past g (λ f. Ends (actions.Ewb (frame_at f)))

-- .. by a test of which slots are out
abbrev pub going_due : JobView → List Entry → Outs → Bool → Due
going_due j past out is_kicked = ahead_gives j past is_kicked (ahead j past out)

-- an instruction was refused
abbrev pub is_refused : Event → Bool
is_refused (Refused action refusal) = true
is_refused _ = false

-- ---- the first rule that applies

abbrev pub is_finished : Due → Bool
is_finished Finished = true
is_finished _ = false

-- each of so many processors is finished
abbrev pub are_finished : JobView → List Entry → ℕ → Bool
are_finished j past zero = true
are_finished j past (suc p) = is_finished (cpu_due j past p) && are_finished j past p

-- the build is done, and every processor is finished
abbrev pub all_finished : JobView → List Entry → Bool
all_finished j past = is_built j past && are_finished j past (length j.scripts)

abbrev pub reclaims_by : JobView → List Entry → Outs → Bool → Option ℕ → Due
reclaims_by j past out is_kicked (Some f) = Ends (actions.Ewb (frame_at f))
reclaims_by j past out is_kicked None = if all_finished j past then Finished else going_due j past out is_kicked

-- what the reclaimer does next, by a test of which slots are out. That the turn of kicks was made no entry tells where it had nobody to
-- kick, so this is asked besides
abbrev pub reclaimer_due_by : JobView → List Entry → Outs → Bool → Due
reclaimer_due_by j past out is_kicked =
    if is_spent past then Stopped
    else reclaims_by j past out is_kicked (frame_started (last_event past actors.Reclaimer))

abbrev pub reclaimer_due : JobView → List Entry → Bool → Due
reclaimer_due j past is_kicked = reclaimer_due_by j past (outs j past) is_kicked
