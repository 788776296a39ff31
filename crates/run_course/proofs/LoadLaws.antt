-- What an entry of a processor leaves: who was ended is told why, nobody has a refused load, and how many starts are open.
use Rattle.std.proofs.Common.{◌≡◌, ℕ, ◌+◌, ◌<◌, Bool, true, false, if◌then◌else◌, List, ◌∷◌, Option, Some}
use Rattle.std.proofs.Common.{None, length, count_by, set, refl, sym, ap, subst, ◌∙◌}
use Rattle.std.proofs.lemmas.Bool.{false≢true}
use Rattle.std.proofs.lemmas.List.Sums.{sum_by-set}
use Rattle.sgx_rules.specs.declared.entries.Action.{Action}
use Rattle.sgx_rules.specs.declared.entries.Action.TheVariants as actions
use Rattle.sgx_rules.specs.declared.entries.Answer.{Answer}
use Rattle.sgx_types.specs.declared.names.Actor.TheVariants as actors
use Rattle.sgx_rules.specs.declared.entries.BusWhy.{BusWhy}
use Rattle.sgx_rules.specs.declared.entries.Entry.{Entry}
use Rattle.sgx_rules.specs.declared.entries.Event.{Event}
use Rattle.sgx_rules.specs.declared.entries.Event.TheVariants.{Did, Refused, Age, Kick, Bus}
use Rattle.sgx_types.specs.declared.names.Cpu.{Cpu}
use Rattle.sgx_types.specs.declared.names.Frame.{Frame}
use Rattle.sgx_types.specs.declared.names.Page.{Page}
use Rattle.sgx_types.specs.declared.names.SlotAt.{SlotAt}
use Rattle.sgx_rules.specs.declared.refusals.Refusal.{Refusal}
use Rattle.sgx_rules.specs.declared.refusals.Refusal.TheVariants as why
use Rattle.sgx_rules.specs.Processors.{is_by}
use Rattle.sgx_rules.specs.Starts.{open_start}
use Rattle.sgx_types.proofs.CountLaws.{one_if}
use Rattle.script_rules.specs.Script.{action_of}
use Rattle.sgx_types.specs.Pages.{frame_at}
use Rattle.driver_rules.specs.Dues.{Asks, Fetch, IsFetch, IsNext, load_by}
use Rattle.driver_rules.specs.Places.{Absent, Away, Here, Leaving, Loading, Place}
use Rattle.driver_rules.specs.inner.Reclaims.{is_refused}
use Rattle.driver_rules.specs.Targets.{target_by}
use Rattle.driver_rules.specs.Turns.{Fails, Loads, WasEnded, fetch, fetches, last_by, last_of}
use Rattle.driver_laws.specs.inner.Sound.{is_absent}
use Rattle.run_calls.specs.inner.Comes.{bus_of}
use Rattle.due_notes.specs.inner.Arrays.{is_move}
use Rattle.due_tables.specs.declared.cpu_turns.CpuTurn.{CpuTurn}
use Rattle.due_tables.specs.declared.cpu_turns.Last.{Last}
use Rattle.due_tables.specs.declared.cpu_turns.Last.TheVariants as ways
use Rattle.due_tables.specs.inner.CpuTurns.{first_turn, last_told, turn_at}
use Rattle.due_tables.specs.inner.Ending.{IsForRecord, NoneFails}
use Rattle.due_tables.specs.inner.Entries.{EntersApart}
use Rattle.due_tables.specs.inner.Noting.{failed_by, last_after, with_kick}
use Rattle.run_course.specs.inner.Courses.{is_load, has_open_load}

-- ---- refused loads

-- an entry that leaves its processor with no refused load leaves nobody with one
pub none_more : (past : List Entry) (e : Entry)
    → ((page : Page) (why : BusWhy) → last_by e.event (open_start past) ≡ Fails page why → ⊥) → NoneFails past → NoneFails (e ∷ past)
none_more past e own none p page why is = by_test (is_by p e.actor) is
  where
    by_test : (b : Bool) → (if b then last_by e.event (open_start past) else last_of past p) ≡ Fails page why → ⊥
    by_test true k = own page why k
    by_test false k = none p page why k

-- so does a processor's entry whose bus stands behind it
pub none_behind_bus : (past : List Entry) (cpu : Cpu) (page : Page) (why : BusWhy) (e : Entry) → e.actor ≡ actors.Cpu cpu → NoneFails past
    → NoneFails (bus_of cpu page why ∷ e ∷ past)
none_behind_bus past cpu page why e by none p g reason is = by_test (is_by p (actors.Cpu cpu)) refl is
  where
    other : is_by p (actors.Cpu cpu) ≡ false → last_of (e ∷ past) p ≡ last_of past p
    other apart = ap (λ b. if b then last_by e.event (open_start past) else last_of past p) (ap (is_by p) by ∙ apart)

    by_test : (b : Bool) → is_by p (actors.Cpu cpu) ≡ b → (if b then WasEnded else last_of (e ∷ past) p) ≡ Fails g reason → ⊥
    by_test true own k = cc
    by_test false apart k = none p g reason (sym (other apart) ∙ k)

-- ---- the entry of a fault step

-- an entry that enters nowhere. Where it is not refused, it refuses no load
pub record IsQuiet (past : List Entry) (event : Event) : Type 0 where
  pub fails : is_refused event ≡ false → (page : Page) (why : BusWhy) → last_by event (open_start past) ≡ Fails page why → ⊥
  pub for_record : IsForRecord past event
  pub enters : EntersApart event

-- a bus is one
pub bus_quiet : (past : List Entry) (page : Page) (why : BusWhy) → IsQuiet past (Bus page why)
bus_quiet past page why = record { fails = λ done g reason is. cc; for_record = tt; enters = tt }

-- so is the start of a load
loads_quiet : (past : List Entry) (page : Page) (at : Option SlotAt) (f : ℕ) (action : Action) (answer : Answer)
    → load_by page at f ≡ Some action → IsQuiet past (Did action answer)
loads_quiet past page None f action answer h = cc
loads_quiet past page (Some at) f action answer h =
    let same : action ≡ actions.EldStart (frame_at f) page at = cc in
    subst (λ a. IsQuiet past (Did a answer)) (sym same) record { fails = λ done g reason is. cc; for_record = tt; enters = tt }

-- .. and one that finds no version in the slot
empty_quiet : (past : List Entry) (page : Page) (at : Option SlotAt) (f : ℕ) (action : Action) → load_by page at f ≡ Some action
    → IsQuiet past (Refused action why.SlotEmpty)
empty_quiet past page None f action h = cc
empty_quiet past page (Some at) f action h =
    let same : action ≡ actions.EldStart (frame_at f) page at = cc in
    subst (λ a. IsQuiet past (Refused a why.SlotEmpty)) (sym same)
    record { fails = λ done g reason is. false≢true (sym done); for_record = λ is. cc; enters = tt }

-- so is what may come of asking for a page's record
fetch_quiet : (past : List Entry) (page : Page) (fetch : Fetch) (event : Event) → IsFetch page fetch event → IsQuiet past event
fetch_quiet past page fetch (Bus g why) h = bus_quiet past g why
fetch_quiet past page (Asks target at (Some f)) (Did action answer) h = loads_quiet past target at f action answer h
fetch_quiet past page (Asks target at (Some f)) (Refused action why.SlotEmpty) h = empty_quiet past target at f action h
fetch_quiet past page fetch event h = absurd h

-- .. where a page is needed, which was added then
pub record IsOfAway (past : List Entry) (event : Event) (at : Place) : Type 0 where
  pub quiet : IsQuiet past event
  pub there : is_absent at ≡ false

-- what is due then is one
pub due_quiet : (past : List Entry) (frames : ℕ) (page : Page) (at : Place) (event : Event) → IsNext (fetches frames past page at) event
    → IsOfAway past event at
due_quiet past frames page (Away slot) event h =
    record { quiet = fetch_quiet past page (fetch frames past (target_by past page (Away slot))) event h; there = refl }
due_quiet past frames page Absent event h = absurd h
due_quiet past frames page (Here f) event h = absurd h
due_quiet past frames page (Leaving f) event h = absurd h
due_quiet past frames page (Loading f slot) event h = absurd h

-- ---- the end of a load

-- what is so of each end of a load, done or refused
pub record IsEndOfLoad (event : Event) : Type 0 where
  pub enters : EntersApart event
  pub moves : is_move event ≡ true
  -- no load is open behind it
  pub stops : (last : Last) → is_load (last_after event last) ≡ false
  pub kicks : (turns : List CpuTurn) → with_kick event turns ≡ turns

-- a refusal leaves no load open
failed_stops : (o : Option Page) (refusal : Refusal) → is_load (failed_by o refusal) ≡ false
failed_stops None refusal = refl
failed_stops (Some page) (why.MacFail given computed) = refl
failed_stops (Some page) (why.BadHeader enclave address flags) = refl
failed_stops (Some page) refusal = refl

-- each end of a load is one
pub end_of_load : (f : Frame) (event : Event) → action_of event ≡ Some (actions.Eld f) → IsEndOfLoad event
end_of_load f (Did action answer) h =
    let same : action ≡ actions.Eld f = cc in
    subst (λ a. IsEndOfLoad (Did a answer)) (sym same)
    record { enters = tt; moves = refl; stops = λ last. refl; kicks = λ turns. refl }
end_of_load f (Refused action refusal) h =
    let same : action ≡ actions.Eld f = cc in
    subst (λ a. IsEndOfLoad (Refused a refusal)) (sym same)
    record { enters = tt; moves = refl; stops = λ last. failed_stops _ refusal; kicks = λ turns. refl }
end_of_load f (Age page look) h = cc
end_of_load f (Kick cpu) h = cc
end_of_load f (Bus page why) h = cc

-- one that is done refuses no load
pub end_quiet : (past : List Entry) (f : Frame) (event : Event) → action_of event ≡ Some (actions.Eld f) → is_refused event ≡ false
    → IsQuiet past event
end_quiet past f (Did action answer) h done =
    let same : action ≡ actions.Eld f = cc in
    subst (λ a. IsQuiet past (Did a answer)) (sym same) record { fails = λ own g reason is. cc; for_record = tt; enters = tt }
end_quiet past f (Refused action refusal) h done = absurd (false≢true (sym done))
end_quiet past f (Age page look) h done = cc
end_quiet past f (Kick cpu) h done = cc
end_quiet past f (Bus page why) h done = cc

-- one that leaves its processor with a page to be told of is refused for its record
pub fails_for_record : (past : List Entry) (event : Event) (page : Page) (why : BusWhy)
    → last_by event (open_start past) ≡ Fails page why → IsForRecord past event
fails_for_record past (Refused (actions.Eld f) refusal) page why is = λ ended. (let no : Fails page why ≡ WasEnded = sym is ∙ ended in cc)
fails_for_record past (Refused (actions.EldStart f g at) refusal) page why is =
    λ ended. (let no : Fails page why ≡ WasEnded = sym is ∙ ended in cc)
fails_for_record past (Refused action refusal) page why is = tt
fails_for_record past (Did action answer) page why is = tt
fails_for_record past (Age g look) page why is = tt
fails_for_record past (Kick cpu) page why is = tt
fails_for_record past (Bus g reason) page why is = tt

-- ---- open starts

-- a processor has a load open exactly where its last entry started one
pub loading_told : (last : Last) (frame : ℕ) (page : Page) → last_told last ≡ Loads frame page → is_load last ≡ true
loading_told (ways.Loads f g) frame page is = refl
loading_told (ways.Fails g why) frame page is = cc
loading_told ways.WasEnded frame page is = cc
loading_told ways.Other frame page is = cc

-- how many are open where the turn of a processor changes
pub starts_set : (turns : List CpuTurn) (p : ℕ) (turn : CpuTurn) → p < length turns
    → count_by has_open_load (set turns p turn) + one_if (has_open_load (turn_at turns p)) ≡ count_by has_open_load turns
    + one_if (has_open_load turn)
starts_set turns p turn low = sum_by-set (λ (x : CpuTurn). one_if (has_open_load x)) turns p turn first_turn low
