-- By the rule Script loads are processors' alone, and each ends its own.
use Rattle.std.proofs.Common.{◌≡◌, ℕ, Bool, true, false, if◌then◌else◌, refl, sym, ◌∙◌, ap, List, Some, None}
use Rattle.std.proofs.lemmas.Bool.{false≢true}
use Rattle.std.proofs.lemmas.Option.{none-some, same_Some}
use Rattle.sgx_rules.specs.declared.entries.Action.{Action}
use Rattle.sgx_types.specs.declared.names.Actor.{Actor}
use Rattle.sgx_rules.specs.declared.entries.Entry.{Entry}
use Rattle.sgx_rules.specs.declared.entries.Event.{Event}
use Rattle.sgx_rules.specs.declared.entries.Event.TheVariants.{Age, Bus, Did, Kick, Refused}
use Rattle.sgx_types.specs.declared.names.Page.{Page}
use Rattle.job_grammar.specs.Jobs.{JobView}
use Rattle.script_rules.specs.Script.{action_of}
use Rattle.sgx_types.specs.Pages.{frame_at}
use Rattle.driver_rules.specs.Dues.{Asks, Due, Ends, Fetch, Fetches, Finished, IsFetch, IsNext, KicksAll, LooksAt, Makes, Reports}
use Rattle.driver_rules.specs.Dues.{Stopped, TriesOut, Waits}
use Rattle.driver_rules.specs.Scripts.{is_load, IsActors, ScriptRule}
use Rattle.driver_rules.specs.Stops.{is_spent}
use Rattle.driver_rules.specs.Turns.{builder_due, due_after, Fails, is_last, Last, last_of, Loads, Other, turn_due, WasEnded}
use Rattle.driver_laws.specs.inner.Loads.{EndsOwn, IsEndedBy, load_ended, TheirRule}
use Rattle.driver_laws.proofs.OwnLaws.{build_builds, is_paging, is_script, loaded_own, OfBuild, OfTurn, turn_script}
use Rattle.sgx_rules.specs.declared.entries.Action.TheVariants as actions
use Rattle.sgx_types.specs.declared.names.Actor.TheVariants as actors
use Rattle.sgx_rules.specs.declared.refusals.Refusal.TheVariants as why

-- ---- instructions

not_load : (a : Action) → is_paging a ≡ false → (ev : Event) → action_of ev ≡ Some a → is_load ev ≡ false
not_load a h (Age page look) same = refl
not_load a h (Kick cpu) same = refl
not_load a h (Bus page why) same = cc
not_load a h (Did action answer) same = by_action action (let told : action ≡ a = cc in ap is_paging told ∙ h)
  where
    by_action : (x : Action) → is_paging x ≡ false → is_load (Did x answer) ≡ false
    by_action (actions.EldStart f page slot) k = absurd (false≢true (sym k))
    by_action (actions.Eld f) k = absurd (false≢true (sym k))
    by_action _ k = refl
not_load a h (Refused action refusal) same = by_action action (let told : action ≡ a = cc in ap is_paging told ∙ h)
  where
    by_action : (x : Action) → is_paging x ≡ false → is_load (Refused x refusal) ≡ false
    by_action (actions.EldStart f page slot) k = absurd (false≢true (sym k))
    by_action (actions.Eld f) k = absurd (false≢true (sym k))
    by_action _ k = refl

-- an instruction that ends no load
abbrev is_end : Action → Bool
is_end (actions.Eld f) = true
is_end _ = false

no_end : (ev : Event) (a : Action) → is_end a ≡ false → action_of ev ≡ Some a → load_ended ev ≡ None
no_end (Age page look) a h same = refl
no_end (Kick cpu) a h same = refl
no_end (Bus page why) a h same = refl
no_end (Did action answer) a h same = by_action action (let told : action ≡ a = cc in ap is_end told ∙ h)
  where
    by_action : (x : Action) → is_end x ≡ false → load_ended (Did x answer) ≡ None
    by_action (actions.Eld f) k = absurd (false≢true (sym k))
    by_action _ k = refl
no_end (Refused action refusal) a h same = by_action action (let told : action ≡ a = cc in ap is_end told ∙ h)
  where
    by_action : (x : Action) → is_end x ≡ false → load_ended (Refused x refusal) ≡ None
    by_action (actions.Eld f) k = absurd (false≢true (sym k))
    by_action _ k = refl

script_no_end : (a : Action) → is_script a ≡ true → is_end a ≡ false
script_no_end (actions.Eld f) h = absurd (false≢true h)
script_no_end _ h = refl

-- .. and one that ends this one
this_end : (n : ℕ) (ev : Event) → action_of ev ≡ Some (actions.Eld (frame_at n)) → load_ended ev ≡ Some n
this_end n (Did action answer) same =
    let told : action ≡ actions.Eld (frame_at n) = cc in ap (λ x. load_ended (Did x answer)) told
this_end n (Refused action refusal) same =
    let told : action ≡ actions.Eld (frame_at n) = cc in ap (λ x. load_ended (Refused x refusal)) told
this_end n (Age page look) same = cc
this_end n (Kick cpu) same = cc
this_end n (Bus page why) same = cc

-- ---- what is due

fetch_no_end : (g : Page) (fetch : Fetch) (ev : Event) → IsFetch g fetch ev → load_ended ev ≡ None
fetch_no_end g (Asks target slot (Some f)) (Did action answer) n =
    ap (λ x. load_ended (Did x answer)) (loaded_own target slot f action n).2
fetch_no_end g (Asks target slot (Some f)) (Refused action why.SlotEmpty) n =
    ap (λ x. load_ended (Refused x why.SlotEmpty)) (loaded_own target slot f action n).2
fetch_no_end g fetch (Bus page why) n = refl
fetch_no_end g _ ev n = absurd n

turn_no_end : (j : JobView) (past : List Entry) (d : Due) (ev : Event) → OfTurn j past d → IsNext d ev → load_ended ev ≡ None
turn_no_end j past Stopped ev h n = absurd n
turn_no_end j past Finished ev h n = absurd n
turn_no_end j past (Waits why) ev h n = absurd n
turn_no_end j past (Makes action) ev h n = no_end ev action (script_no_end action h) n
turn_no_end j past (Ends action) ev h n = absurd h
turn_no_end j past (Reports page why) ev h n = ap load_ended n
turn_no_end j past (Fetches g fetch) ev h n = fetch_no_end g fetch ev n
turn_no_end j past (LooksAt page held young) ev h n = absurd h
turn_no_end j past (TriesOut g f) ev h n = absurd h
turn_no_end j past (KicksAll cpus) ev h n = absurd h

after_ends : (j : JobView) (past : List Entry) (l : Last) (b : Bool) (d : Due) (ev : Event) → OfTurn j past d → IsNext (due_after l b d) ev
    → EndsOwn l ev
after_ends j past (Loads f page) b d ev h n = this_end f ev n
after_ends j past (Fails page why) true d ev h n = ap load_ended n
after_ends j past (Fails page why) false d ev h n = absurd n
after_ends j past WasEnded b d ev h n = absurd n
after_ends j past Other b d ev h n = turn_no_end j past d ev h n

builder_no_load : (d : Due) (ev : Event) → OfBuild d → IsNext d ev → is_load ev ≡ false
builder_no_load Stopped ev h n = absurd n
builder_no_load Finished ev h n = absurd n
builder_no_load (Waits why) ev h n = absurd n
builder_no_load (Makes action) ev h n = not_load action h ev n
builder_no_load _ ev h n = absurd h

-- who has a load to end ends it, and nobody else ends one
pub their_rule : (j : JobView) (past : List Entry) (e : Entry) → ScriptRule j past e → TheirRule past e.actor e.event
their_rule j past e script = by_actor e.actor script.next
  where
    by_spent : (p : ℕ) (b : Bool)
        → IsNext (if b then Stopped else due_after (last_of past p) (is_last past p) (turn_due j past p)) e.event
        → EndsOwn (last_of past p) e.event
    by_spent p true n = absurd n
    by_spent p false n = after_ends j past (last_of past p) (is_last past p) (turn_due j past p) e.event (turn_script j past p) n

    by_actor : (a : Actor) → IsActors j past a e.event → TheirRule past a e.event
    by_actor actors.Builder n = builder_no_load (builder_due j past) e.event (build_builds j past) n
    by_actor (actors.Cpu p) n = by_spent p.0 (is_spent past) n.1
    by_actor actors.Reclaimer n = n

-- ---- whose a load is that ends

ended_load : (ev : Event) (n : ℕ) → load_ended ev ≡ Some n → is_load ev ≡ true
ended_load (Did action answer) n h = by_action action h
  where
    by_action : (x : Action) → load_ended (Did x answer) ≡ Some n → is_load (Did x answer) ≡ true
    by_action (actions.Eld f) k = refl
    by_action _ k = cc
ended_load (Refused action refusal) n h = by_action action h
  where
    by_action : (x : Action) → load_ended (Refused x refusal) ≡ Some n → is_load (Refused x refusal) ≡ true
    by_action (actions.Eld f) k = refl
    by_action _ k = cc
ended_load (Bus page why) n h = refl
ended_load (Age page look) n h = cc
ended_load (Kick cpu) n h = cc

-- a load that ends is that of the processor that ends it
pub ended_by : (past : List Entry) (a : Actor) (ev : Event) (n : ℕ) → TheirRule past a ev → load_ended ev ≡ Some n → IsEndedBy past a n
ended_by past actors.Builder ev n rule ends = absurd (false≢true (sym rule ∙ ended_load ev n ends))
ended_by past actors.Reclaimer ev n rule ends = absurd (false≢true (sym rule ∙ ended_load ev n ends))
ended_by past (actors.Cpu c) ev n rule ends = by_last (last_of past c.0) refl rule
  where
    by_last : (l : Last) → last_of past c.0 ≡ l → EndsOwn l ev → IsEndedBy past (actors.Cpu c) n
    by_last (Loads m page) is k =
        record { cpu = c; page = page; actor_is = refl; last = is ∙ ap (λ x. Loads x page) (same_Some m n (sym k ∙ ends)) }
    by_last (Fails page why) is k = absurd (none-some n (sym k ∙ ends))
    by_last WasEnded is k = absurd (none-some n (sym k ∙ ends))
    by_last Other is k = absurd (none-some n (sym k ∙ ends))
