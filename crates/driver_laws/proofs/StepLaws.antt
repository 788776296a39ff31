-- Only the builder builds, and by its next step.
use Rattle.std.proofs.Common.{◌≡◌, ℕ, ◌+◌, ◌<◌, Bool, true, false, cond, if◌then◌else◌, refl, sym, ◌∙◌, ap}
use Rattle.std.proofs.Common.{List, Option, Some, None, length, take, get_or, slice_get, arith}
use Rattle.std.proofs.lemmas.Bool.{false≢true}
use Rattle.std.proofs.lemmas.List.Sums.{count_by_more_no, count_by_more_yes}
use Rattle.std.proofs.lemmas.Option.{get_or_from_slice_get, slice_get_within}
use Rattle.std.specs.List.{count_by}
use Rattle.sgx_types.specs.Pages.{page_at}
use Rattle.sgx_rules.specs.Frames.{content, frame_of, least_free}
use Rattle.sgx_rules.specs.declared.entries.Action.{Action}
use Rattle.sgx_types.specs.declared.names.Actor.{Actor}
use Rattle.sgx_rules.specs.declared.entries.Entry.{Entry}
use Rattle.sgx_rules.specs.declared.entries.Event.{Event}
use Rattle.sgx_rules.specs.declared.entries.Event.TheVariants.{Age, Bus, Did, Kick, Refused}
use Rattle.sgx_types.specs.declared.names.Page.{Page}
use Rattle.job_grammar.specs.Jobs.{JobView}
use Rattle.script_rules.specs.Script.{action_of, build_of, built, is_builder, step_action, with_frame}
use Rattle.sgx_types.specs.Pages.{frame_at}
use Rattle.script_rules.specs.declared.steps.BuildStep.{BuildStep}
use Rattle.driver_rules.specs.Ages.{AgeOf, AgeRuleBy, Ahead, ahead, EndsNext, GoesOn, InPass, IsAhead, Looks, TriesNext}
use Rattle.driver_rules.specs.Dues.{Asks, Due, Ends, Fetch, Fetches, Finished, IsFetch, IsNext, KicksAll, LooksAt, Makes, makes_or}
use Rattle.driver_rules.specs.Dues.{Reports, Stopped, TriesOut, Waits}
use Rattle.driver_rules.specs.Passes.{Between, Blocking, Pass, pass, Scan, Tries}
use Rattle.driver_rules.specs.Spares.{Outs}
use Rattle.driver_rules.specs.Scripts.{IsActors, ScriptRule}
use Rattle.driver_rules.specs.Stops.{is_spent}
use Rattle.driver_rules.specs.Turns.{builder_due, cpu_due, due_after, Fails, is_last, Last, last_of, Loads, Other, step_turn, turn_due}
use Rattle.driver_rules.specs.Turns.{WasEnded}
use Rattle.driver_laws.specs.inner.Agrees.{is_add}
use Rattle.driver_laws.specs.inner.Counted.{is_add_step}
use Rattle.driver_laws.specs.inner.Keeps.{is_epa, is_epa_refused, is_va_step}
use Rattle.driver_laws.proofs.OwnLaws.{is_script, loaded_own, OfTurn, turn_script}
use Rattle.sgx_rules.specs.declared.entries.Action.TheVariants as actions
use Rattle.sgx_types.specs.declared.names.Actor.TheVariants as actors
use Rattle.sgx_rules.specs.declared.refusals.Refusal.TheVariants as why
use Rattle.script_rules.specs.declared.steps.BuildStep.TheVariants as builds
use Rattle.driver_rules.specs.declared.waits.Why.TheVariants as waits

-- ---- whose such instructions are

-- an instruction that builds
abbrev is_building : Action → Bool
is_building (actions.Epa f) = true
is_building (actions.Create enclave f base size) = true
is_building (actions.Add enclave number f kind perm init) = true
is_building (actions.Extend f chunk) = true
is_building (actions.Init enclave expect) = true
is_building _ = false

abbrev pub builds_by : Event → Bool
builds_by (Did action answer) = is_building action
builds_by (Refused action refusal) = is_building action
builds_by _ = false

script_builds_none : (a : Action) → is_script a ≡ true → is_building a ≡ false
script_builds_none (actions.Epa f) h = absurd (false≢true h)
script_builds_none (actions.Create enclave f base size) h = absurd (false≢true h)
script_builds_none (actions.Add enclave number f kind perm init) h = absurd (false≢true h)
script_builds_none (actions.Extend f chunk) h = absurd (false≢true h)
script_builds_none (actions.Init enclave expect) h = absurd (false≢true h)
script_builds_none _ h = refl

of_action : (ev : Event) (a : Action) → action_of ev ≡ Some a → is_building a ≡ false → builds_by ev ≡ false
of_action (Did action answer) a same none = let told : action ≡ a = cc in ap is_building told ∙ none
of_action (Refused action refusal) a same none = let told : action ≡ a = cc in ap is_building told ∙ none
of_action _ a same none = refl

fetch_builds_none : (g : Page) (fetch : Fetch) (ev : Event) → IsFetch g fetch ev → builds_by ev ≡ false
fetch_builds_none g (Asks target slot (Some f)) (Did action answer) n = ap is_building (loaded_own target slot f action n).2
fetch_builds_none g (Asks target slot (Some f)) (Refused action why.SlotEmpty) n =
    ap is_building (loaded_own target slot f action n).2
fetch_builds_none g fetch (Bus page why) n = refl
fetch_builds_none g _ ev n = absurd n

turn_builds_none : (j : JobView) (past : List Entry) (d : Due) (ev : Event) → OfTurn j past d → IsNext d ev → builds_by ev ≡ false
turn_builds_none j past Stopped ev h n = absurd n
turn_builds_none j past Finished ev h n = absurd n
turn_builds_none j past (Waits why) ev h n = absurd n
turn_builds_none j past (Makes action) ev h n = of_action ev action n (script_builds_none action h)
turn_builds_none j past (Ends action) ev h n = absurd h
turn_builds_none j past (Reports page why) ev h n = ap builds_by n
turn_builds_none j past (Fetches g fetch) ev h n = fetch_builds_none g fetch ev n
turn_builds_none j past (LooksAt page held young) ev h n = absurd h
turn_builds_none j past (TriesOut g f) ev h n = absurd h
turn_builds_none j past (KicksAll cpus) ev h n = absurd h

after_builds_none : (j : JobView) (past : List Entry) (l : Last) (b : Bool) (d : Due) (ev : Event) → OfTurn j past d
    → IsNext (due_after l b d) ev → builds_by ev ≡ false
after_builds_none j past (Loads f page) b d ev h n = of_action ev (actions.Eld (frame_at f)) n refl
after_builds_none j past (Fails page why) true d ev h n = ap builds_by n
after_builds_none j past (Fails page why) false d ev h n = absurd n
after_builds_none j past WasEnded b d ev h n = absurd n
after_builds_none j past Other b d ev h n = turn_builds_none j past d ev h n

cpu_builds_none : (j : JobView) (past : List Entry) (p : ℕ) (ev : Event) → IsNext (cpu_due j past p) ev → builds_by ev ≡ false
cpu_builds_none j past p ev n = by_spent (is_spent past) n
  where
    by_spent : (b : Bool) → IsNext (if b then Stopped else due_after (last_of past p) (is_last past p) (turn_due j past p)) ev
        → builds_by ev ≡ false
    by_spent true k = absurd k
    by_spent false k = after_builds_none j past (last_of past p) (is_last past p) (turn_due j past p) ev (turn_script j past p) k

pass_builds_none : (past : List Entry) (p : Pass) (ev : Event) → InPass past p ev → builds_by ev ≡ false
pass_builds_none past (Between works) (Age page look) h = refl
pass_builds_none past (Between works) _ h = absurd h
pass_builds_none past (Scan left taken) (Age page look) h = refl
pass_builds_none past (Scan left taken) _ h = absurd h
pass_builds_none past (Blocking due taken) (Did (actions.Block f) answer) h = refl
pass_builds_none past (Blocking due taken) _ h = absurd h
pass_builds_none past (Tries g rest form) (Did (actions.EwbStart f slot) answer) h = refl
pass_builds_none past (Tries g rest form) (Refused (actions.EwbStart f slot) refusal) h = refl
pass_builds_none past (Tries g rest form) (Did (actions.Ewb f) answer) h = refl
pass_builds_none past (Tries g rest form) (Refused (actions.Ewb f) refusal) h = refl
pass_builds_none past (Tries g rest form) (Did (actions.Track enclave) answer) h = refl
pass_builds_none past (Tries g rest form) (Refused (actions.Track enclave) refusal) h = refl
pass_builds_none past (Tries g rest form) (Kick cpu) h = refl
pass_builds_none past (Tries g rest form) _ h = absurd h

ahead_builds_none : (j : JobView) (past : List Entry) (a : Ahead) (ev : Event) → IsAhead j past a ev → builds_by ev ≡ false
ahead_builds_none j past GoesOn ev h = pass_builds_none past (pass j past) ev h.in_pass
ahead_builds_none j past (Looks g) (Age page look) h = refl
ahead_builds_none j past (Looks g) _ h = absurd h
ahead_builds_none j past (TriesNext g) (Did (actions.EwbStart f slot) answer) h = refl
ahead_builds_none j past (TriesNext g) (Refused (actions.EwbStart f slot) refusal) h = refl
ahead_builds_none j past (TriesNext g) _ h = absurd h
ahead_builds_none j past (EndsNext g) (Did (actions.Ewb f) answer) h = refl
ahead_builds_none j past (EndsNext g) _ h = absurd h

-- ---- the builder's next step

-- an entry is the builder's next step
pub record IsStep (j : JobView) (past : List Entry) (ev : Event) : Type 0 where
  pub step : BuildStep
  pub there : slice_get (build_of j) (built past) ≡ Some step
  pub frame : ℕ
  pub made : action_of ev ≡ Some (step_action step frame)

record IsMade (step : BuildStep) (ev : Event) : Type 0 where
  pub frame : ℕ
  pub made : action_of ev ≡ Some (step_action step frame)

by_frame : (step : BuildStep) (o : Option ℕ) (ev : Event) → IsNext (makes_or waits.NoFrame (with_frame step o)) ev → IsMade step ev
by_frame step None ev n = absurd n
by_frame step (Some f) ev n = record { frame = f; made = n }

made_by : (j : JobView) (past : List Entry) (step : BuildStep) (ev : Event) → IsNext (step_turn j past (Some step)) ev → IsMade step ev
made_by j past builds.Va ev n = by_frame builds.Va (least_free j.epc (content past)) ev n
made_by j past (builds.Create e b s) ev n = by_frame (builds.Create e b s) (least_free j.epc (content past)) ev n
made_by j past (builds.Add e n k p i) ev next = by_frame (builds.Add e n k p i) (least_free j.epc (content past)) ev next
made_by j past (builds.Extend e n c) ev next = by_frame (builds.Extend e n c) (frame_of past (page_at e n)) ev next
made_by j past (builds.Init e x) ev n = record { frame = 0; made = n }

build_step : (j : JobView) (past : List Entry) (ev : Event) → IsNext (builder_due j past) ev → IsStep j past ev
build_step j past ev n = by_spent (is_spent past) n
  where
    by_step : (o : Option BuildStep) → slice_get (build_of j) (built past) ≡ o → IsNext (step_turn j past o) ev → IsStep j past ev
    by_step None at k = absurd k
    by_step (Some step) at k =
        let m = made_by j past step ev k in record { step = step; there = at; frame = m.frame; made = m.made }

    by_spent : (b : Bool) → IsNext (if b then Stopped else step_turn j past (slice_get (build_of j) (built past))) ev → IsStep j past ev
    by_spent true k = absurd k
    by_spent false k = by_step (slice_get (build_of j) (built past)) refl k

-- ---- each entry

-- an entry is a step of the builder, or builds nothing
pub data Builds (j : JobView) (past : List Entry) (a : Actor) (ev : Event) : Type 0 where
  ByStep : (a ≡ actors.Builder) → IsStep j past ev → Builds j past a ev
  NoStep : (is_builder a ≡ false) → (builds_by ev ≡ false) → Builds j past a ev

pub builds_or_none : (j : JobView) (past : List Entry) (out : Outs) (e : Entry) → ScriptRule j past e → AgeRuleBy j past out e
    → Builds j past e.actor e.event
builds_or_none j past out e script age = by_actor e.actor script.next age
  where
    by_actor : (a : Actor) → IsActors j past a e.event → AgeOf j past out a e.event → Builds j past a e.event
    by_actor actors.Builder n ag = ByStep refl (build_step j past e.event n)
    by_actor (actors.Cpu p) n ag = NoStep refl (cpu_builds_none j past p.0 e.event n.1)
    by_actor actors.Reclaimer n ag = NoStep refl (ahead_builds_none j past (ahead j past out) e.event ag)

-- ---- what a step makes

pub adds_by : (ev : Event) (step : BuildStep) (f : ℕ) → action_of ev ≡ Some (step_action step f) → is_add ev ≡ true
    → is_add_step step ≡ true
adds_by (Did action answer) step f made add =
    let told : action ≡ step_action step f = cc in by_step step (sym (ap (λ x. is_add (Did x answer)) told) ∙ add)
  where
    by_step : (x : BuildStep) → is_add (Did (step_action x f) answer) ≡ true → is_add_step x ≡ true
    by_step (builds.Add e n k p i) h = refl
    by_step builds.Va h = absurd (false≢true h)
    by_step (builds.Create e b s) h = absurd (false≢true h)
    by_step (builds.Extend e n c) h = absurd (false≢true h)
    by_step (builds.Init e x) h = absurd (false≢true h)
adds_by _ step f made add = absurd (false≢true add)

pub arrays_by : (ev : Event) (step : BuildStep) (f : ℕ) → action_of ev ≡ Some (step_action step f) → is_epa ev ≡ true
    → is_va_step step ≡ true
arrays_by (Did action answer) step f made epa =
    let told : action ≡ step_action step f = cc in by_step step (sym (ap (λ x. is_epa (Did x answer)) told) ∙ epa)
  where
    by_step : (x : BuildStep) → is_epa (Did (step_action x f) answer) ≡ true → is_va_step x ≡ true
    by_step builds.Va h = refl
    by_step (builds.Add e n k p i) h = absurd (false≢true h)
    by_step (builds.Create e b s) h = absurd (false≢true h)
    by_step (builds.Extend e n c) h = absurd (false≢true h)
    by_step (builds.Init e x) h = absurd (false≢true h)
arrays_by _ step f made epa = absurd (false≢true epa)

-- a version array page that is due, and is not refused, is made
pub epa_by : (ev : Event) (step : BuildStep) (f : ℕ) → action_of ev ≡ Some (step_action step f) → is_epa_refused ev ≡ false
    → is_va_step step ≡ true → is_epa ev ≡ true
epa_by ev builds.Va f made done va = by_event ev made done
  where
    by_event : (x : Event) → action_of x ≡ Some (actions.Epa (frame_at f)) → is_epa_refused x ≡ false → is_epa x ≡ true
    by_event (Did action answer) k h = let told : action ≡ actions.Epa (frame_at f) = cc in ap (λ y. is_epa (Did y answer)) told
    by_event (Refused action refusal) k h =
        let told : action ≡ actions.Epa (frame_at f) = cc in
        absurd (false≢true (sym h ∙ ap (λ y. is_epa_refused (Refused y refusal)) told))
    by_event (Age page look) k h = absurd cc
    by_event (Kick cpu) k h = absurd cc
    by_event (Bus page why) k h = absurd cc
epa_by ev (builds.Create e b s) f made done va = absurd (false≢true va)
epa_by ev (builds.Add e n k p i) f made done va = absurd (false≢true va)
epa_by ev (builds.Extend e n c) f made done va = absurd (false≢true va)
epa_by ev (builds.Init e x) f made done va = absurd (false≢true va)

-- ---- how many steps till now are of a kind

abbrev pub counts : (BuildStep → Bool) → JobView → ℕ → ℕ
counts test j n = count_by test (take n (build_of j))

-- a step more
pub step_counts : (test : BuildStep → Bool) (j : JobView) (past : List Entry) (step : BuildStep)
    → slice_get (build_of j) (built past) ≡ Some step
    → counts test j (built past + 1) ≡ counts test j (built past) + cond (test step) 1 0
step_counts test j past step there = by_test (test step) refl
  where
    within : built past < length (build_of j)
    within = slice_get_within (build_of j) (built past) step there

    at : test (get_or (build_of j) (built past) step) ≡ test step
    at = ap test (get_or_from_slice_get (build_of j) (built past) step step there)

    by_test : (b : Bool) → test step ≡ b → counts test j (built past + 1) ≡ counts test j (built past) + cond (test step) 1 0
    by_test true is = rw is (count_by_more_yes test (build_of j) (built past) step within (at ∙ is))
    by_test false is = rw is (count_by_more_no test (build_of j) (built past) step within (at ∙ is) ∙ omega arith)
