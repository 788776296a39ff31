-- Past the frames of the EPC nothing is held: the builder and the processors take the least free frame of it.
use Rattle.std.proofs.Common.{◌≡◌, ℕ, ◌+◌, ◌<◌, ◌≤◌, ◌==◌, Bool, true, false, if◌then◌else◌, zero, suc, refl, sym, ◌∙◌, ap, subst}
use Rattle.std.proofs.Common.{List, ◌∷◌, Option, Some, None, slice_get, arith}
use Rattle.std.proofs.lemmas.Bool.{eqb-true, false≢true}
use Rattle.sgx_rules.proofs.Contents.{free_is}
use Rattle.sgx_rules.specs.declared.entries.Answer.{Answer}
use Rattle.sgx_rules.specs.declared.entries.Answer.TheVariants.{Moved}
use Rattle.sgx_rules.specs.declared.entries.Action.{Action}
use Rattle.sgx_rules.specs.declared.entries.Entry.{Entry}
use Rattle.sgx_rules.specs.declared.entries.Event.{Event}
use Rattle.sgx_rules.specs.declared.entries.Event.TheVariants.{Bus, Did, Refused}
use Rattle.sgx_types.specs.declared.names.Actor.{Actor}
use Rattle.sgx_types.specs.declared.names.Frame.{Frame}
use Rattle.sgx_types.specs.declared.names.Page.{Page}
use Rattle.sgx_types.specs.declared.names.SlotAt.{SlotAt}
use Rattle.sgx_types.specs.declared.names.VaSlot.{VaSlot}
use Rattle.sgx_types.specs.Pages.{is_own_page, page_at, secs_page}
use Rattle.sgx_rules.specs.Frames.{added, Content, content, frame_of, Free, free_from, held_after, Holds, is_child, is_free, IsLoading}
use Rattle.sgx_rules.specs.Frames.{IsVa, least_free, made_before, put_by, reloaded, SecsOf, vas_made}
use Rattle.sgx_rules.specs.Slots.{is_of_va, slot_of}
use Rattle.job_grammar.specs.Jobs.{JobView}
use Rattle.script_rules.specs.Script.{build_of, built, step_action, with_frame}
use Rattle.script_rules.specs.declared.steps.BuildStep.{BuildStep}
use Rattle.driver_rules.specs.Ages.{AgeRule}
use Rattle.driver_rules.specs.Dues.{Asks, Due, Ends, Fetch, Fetches, Finished, IsFetch, IsNext, KicksAll, LooksAt, Makes, makes_or}
use Rattle.driver_rules.specs.Dues.{Reports, Stopped, TriesOut, Waits, WaitsFor}
use Rattle.driver_rules.specs.Places.{Away, is_here, Loading, place}
use Rattle.driver_rules.specs.Scripts.{IsActors, ScriptRule}
use Rattle.driver_rules.specs.Spares.{outs}
use Rattle.driver_rules.specs.Stops.{is_spent}
use Rattle.driver_rules.specs.Targets.{slot_here}
use Rattle.driver_rules.specs.Turns.{builder_due, cpu_due, step_turn}
use Rattle.driver_laws.specs.inner.Kinds.{CanMove}
use Rattle.driver_laws.specs.inner.Sound.{is_load_start, IsSound}
use Rattle.driver_laws.proofs.AloneLaws.{free_none}
use Rattle.driver_laws.proofs.DueLaws.{IsWithin}
use Rattle.driver_laws.proofs.OwnLaws.{build_plain, due_plain, FetchIs, is_paging, IsAsk, Plain}
use Rattle.driver_laws.proofs.SoundLaws.{entry_of}
use Rattle.driver_laws.proofs.StepLaws.{Builds, builds_by, builds_or_none, ByStep, NoStep}
use Rattle.driver_laws.proofs.StillLaws.{load_open}
use Rattle.sgx_rules.specs.declared.entries.Action.TheVariants as actions
use Rattle.sgx_types.specs.declared.names.Actor.TheVariants as actors
use Rattle.script_rules.specs.declared.steps.BuildStep.TheVariants as builds
use Rattle.driver_rules.specs.declared.waits.Why.TheVariants as waits

-- ---- frames that are free

pub record IsFound (held : ℕ → Content) (end f : ℕ) : Type 0 where
  pub free : held f ≡ Free
  pub low : f < end

found_free : (held : ℕ → Content) (n count f end : ℕ) → n + count ≡ end → free_from held n count ≡ Some f → IsFound held end f
found_free held n zero f end all h = cc
found_free held n (suc count) f end all h =
    by_test (is_free (held n)) refl h (found_free held (n + 1) count f end (omega (arith, all)))
  where
    by_test : (b : Bool) → is_free (held n) ≡ b → (if b then Some n else free_from held (n + 1) count) ≡ Some f
        → (free_from held (n + 1) count ≡ Some f → IsFound held end f) → IsFound held end f
    by_test true is k later =
        let same : n ≡ f = cc in
        record { free = free_is (held f) (ap (λ m. is_free (held m)) (sym same) ∙ is); low = omega (arith, all, same) }
    by_test false is k later = later k

-- the least free frame is one of the EPC, and free
pub least_found : (held : ℕ → Content) (frames f : ℕ) → least_free frames held ≡ Some f → IsFound held frames f
least_found held frames f h = found_free held 0 frames f frames (omega arith) h

-- ---- loads

-- a load is of a page that is away, by its slot in a version array page that is here, into a free frame of the EPC; the SECS of a TCS
-- or REG page is here
pub record IsLoad (j : JobView) (past : List Entry) (f : ℕ) (page : Page) (at : SlotAt) : Type 0 where
  pub slot : VaSlot
  pub away : place past page ≡ Away slot
  pub found : slot_here past slot ≡ Some at
  pub low : f < j.epc
  pub secs : is_own_page page ≡ true → is_here (place past (secs_page page.enclave)) ≡ true

asked_load : (j : JobView) (past : List Entry) (g : Page) (slot : Option SlotAt) (free : Option ℕ) (f : Frame) (page : Page)
    (at : SlotAt) (answer : Answer)
    → IsAsk j past g slot free → IsFetch g (Asks g slot free) (Did (actions.EldStart f page at) answer) → IsLoad j past f.0 page at
asked_load j past g slot None f page at answer ask n = absurd n
asked_load j past g None (Some m) f page at answer ask n = cc
asked_load j past g (Some s) (Some m) f page at answer ask n =
    let frame : m ≡ f.0 = cc in
    let same : g ≡ page = cc in
    let slots : s ≡ at = cc in
    record {
      slot = ask.away;
      away = ap (place past) (sym same) ∙ ask.at;
      found = sym ask.slot_is ∙ ap Some slots;
      low = subst (λ n. n < j.epc) frame (least_found (content past) j.epc m (sym ask.free_is)).low;
      secs = subst (λ (x : Page). is_own_page x ≡ true → is_here (place past (secs_page x.enclave)) ≡ true) same ask.secs;
    }

fetched_load : (j : JobView) (past : List Entry) (g : Page) (fetch : Fetch) (f : Frame) (page : Page) (at : SlotAt) (answer : Answer)
    → FetchIs j past fetch → IsFetch g fetch (Did (actions.EldStart f page at) answer) → IsLoad j past f.0 page at
fetched_load j past g (WaitsFor target) f page at answer is n = absurd n
fetched_load j past g (Asks target slot None) f page at answer is n = absurd n
fetched_load j past g (Asks target slot (Some m)) f page at answer is n = asked_load j past target slot (Some m) f page at answer is n

-- what begins a load is the first step for a page that is away
next_load : (j : JobView) (past : List Entry) (d : Due) (f : Frame) (page : Page) (at : SlotAt) (answer : Answer) → Plain j past d
    → IsNext d (Did (actions.EldStart f page at) answer) → IsLoad j past f.0 page at
next_load j past Stopped f page at answer h n = absurd n
next_load j past Finished f page at answer h n = absurd n
next_load j past (Waits why) f page at answer h n = absurd n
next_load j past (Makes action) f page at answer h n =
    let told : action ≡ actions.EldStart f page at = cc in absurd (false≢true (sym h ∙ ap is_paging told))
next_load j past (Ends action) f page at answer h n = absurd (other h.0 (n ∙ ap Some h.1))
  where
    other : (m : Frame) → Some (actions.EldStart f page at) ≡ Some (actions.Eld m) → ⊥
    other m k = cc
next_load j past (Reports g why) f page at answer h n = absurd (other n)
  where
    other : Did (actions.EldStart f page at) answer ≡ Bus g why → ⊥
    other k = cc
next_load j past (Fetches g fetch) f page at answer h n = fetched_load j past g fetch f page at answer h n
next_load j past (LooksAt g held young) f page at answer h n = absurd h
next_load j past (TriesOut g m) f page at answer h n = absurd h
next_load j past (KicksAll cpus) f page at answer h n = absurd h

pub script_load : (j : JobView) (past : List Entry) (a : Actor) (f : Frame) (page : Page) (at : SlotAt) (answer : Answer)
    → IsActors j past a (Did (actions.EldStart f page at) answer) → IsLoad j past f.0 page at
script_load j past actors.Builder f page at answer n = next_load j past (builder_due j past) f page at answer (build_plain j past) n
script_load j past (actors.Cpu p) f page at answer n = next_load j past (cpu_due j past p.0) f page at answer (due_plain j past p.0) n.1
script_load j past actors.Reclaimer f page at answer n = absurd (false≢true (sym n))

-- ---- what the builder takes

-- what an instruction takes is a frame of the EPC
abbrev TakesBelow : ℕ → Action → Type 0
TakesBelow frames (actions.Epa f) = f.0 < frames
TakesBelow frames (actions.Create enclave f base size) = f.0 < frames
TakesBelow frames (actions.Add enclave number f kind perm init) = f.0 < frames
TakesBelow frames (actions.EldStart f page at) = f.0 < frames
TakesBelow frames _ = Unit {0}

below_by : (frames : ℕ) (a b : Action) → TakesBelow frames b → Some a ≡ Some b → TakesBelow frames a
below_by frames a b h same = let told : b ≡ a = cc in subst (TakesBelow frames) told h

-- a step that makes a page
free_step : (j : JobView) (past : List Entry) (step : BuildStep) (o : Option ℕ) (action : Action) (answer : Answer)
    → ((f : ℕ) → o ≡ Some f → TakesBelow j.epc (step_action step f))
    → IsNext (makes_or waits.NoFrame (with_frame step o)) (Did action answer) → TakesBelow j.epc action
free_step j past step None action answer below n = absurd n
free_step j past step (Some f) action answer below n = below_by j.epc action (step_action step f) (below f refl) n

step_below : (j : JobView) (past : List Entry) (step : BuildStep) (action : Action) (answer : Answer)
    → IsNext (step_turn j past (Some step)) (Did action answer) → TakesBelow j.epc action
step_below j past builds.Va action answer n =
    free_step j past builds.Va (least_free j.epc (content past)) action answer (λ f is. (least_found (content past) j.epc f is).low) n
step_below j past (builds.Create e b s) action answer n =
    free_step j past (builds.Create e b s) (least_free j.epc (content past)) action answer
    (λ f is. (least_found (content past) j.epc f is).low) n
step_below j past (builds.Add e m k p i) action answer n =
    free_step j past (builds.Add e m k p i) (least_free j.epc (content past)) action answer
    (λ f is. (least_found (content past) j.epc f is).low) n
step_below j past (builds.Extend e m c) action answer n =
    free_step j past (builds.Extend e m c) (frame_of past (page_at e m)) action answer (λ f is. tt) n
step_below j past (builds.Init e x) action answer n = below_by j.epc action (actions.Init e x) tt n

build_below : (j : JobView) (past : List Entry) (action : Action) (answer : Answer) → IsNext (builder_due j past) (Did action answer)
    → TakesBelow j.epc action
build_below j past action answer n = by_spent (is_spent past) n
  where
    by_step : (o : Option BuildStep) → IsNext (step_turn j past o) (Did action answer) → TakesBelow j.epc action
    by_step None k = absurd k
    by_step (Some step) k = step_below j past step action answer k

    by_spent : (b : Bool) → IsNext (if b then Stopped else step_turn j past (slice_get (build_of j) (built past))) (Did action answer)
        → TakesBelow j.epc action
    by_spent true k = absurd k
    by_spent false k = by_step (slice_get (build_of j) (built past)) k

-- what builds is the builder's
builder_below : (j : JobView) (past : List Entry) (a : Actor) (action : Action) (answer : Answer)
    → ScriptRule j past (entry_of a (Did action answer)) → AgeRule j past (entry_of a (Did action answer))
    → builds_by (Did action answer) ≡ true → TakesBelow j.epc action
builder_below j past a action answer script age is =
    by_step (builds_or_none j past (outs j past) (entry_of a (Did action answer)) script age)
  where
    by_step : Builds j past a (Did action answer) → TakesBelow j.epc action
    by_step (ByStep builder step) =
        build_below j past action answer (subst (λ (x : Actor). IsActors j past x (Did action answer)) builder script.next)
    by_step (NoStep other none) = absurd (false≢true (sym none ∙ is))

-- ---- past the EPC

-- past so many frames nothing is held
abbrev pub HoldsNonePast : ℕ → List Entry → Type 0
HoldsNonePast frames past = (n : ℕ) → frames ≤ n → content past n ≡ Free

pub none_past : (j : JobView) (past : List Entry) (e : Entry) → IsSound past → CanMove past e.event → ScriptRule j past e
    → AgeRule j past e → HoldsNonePast j.epc past → HoldsNonePast j.epc (e ∷ past)
none_past j past e s can script age before n beyond = by_event e.event can script age
  where
    put : (f : ℕ) (c : Content) (b : Bool) → (f == n) ≡ b → f < j.epc → (if b then c else content past n) ≡ Free
    put f c true is low = let same = eqb-true f n is in absurd (omega (arith, same, low, beyond))
    put f c false is low = before n beyond

    freed : (b : Bool) → (if b then Free else content past n) ≡ Free
    freed true = refl
    freed false = before n beyond

    -- a frame with an open load is none past the EPC
    came : (f : ℕ) (page : Page) (slot : VaSlot) → place past page ≡ Loading f slot → (c : Content) (b : Bool) → (f == n) ≡ b
        → (if b then c else content past n) ≡ Free
    came f page slot at c true is =
        let free = ap (content past) (eqb-true f n is) ∙ before n beyond in
        absurd (false≢true (ap is_load_start (sym (free_none past f s free)) ∙ load_open past page f slot s at))
    came f page slot at c false is = before n beyond

    by_event : (ev : Event) → CanMove past ev → ScriptRule j past (entry_of e.actor ev) → AgeRule j past (entry_of e.actor ev)
        → held_after (put_by ev (made_before past)) n (content past n) ≡ Free
    by_event (Did (actions.Epa f) answer) k sc ag =
        put f.0 (IsVa (vas_made past)) (f.0 == n) refl (builder_below j past e.actor (actions.Epa f) answer sc ag refl)
    by_event (Did (actions.Create enclave f base size) answer) k sc ag =
        put f.0 (SecsOf enclave) (f.0 == n) refl (builder_below j past e.actor (actions.Create enclave f base size) answer sc ag refl)
    by_event (Did (actions.Add enclave number f kind perm init) answer) k sc ag =
        put f.0 (Holds (page_at enclave number) kind perm) (f.0 == n) refl
        (builder_below j past e.actor (actions.Add enclave number f kind perm init) answer sc ag refl)
    by_event (Did (actions.EldStart f page at) answer) k sc ag =
        put f.0 (IsLoading page) (f.0 == n) refl (script_load j past e.actor f page at answer sc.next).low
    by_event (Did (actions.Ewb f) answer) k sc ag = freed (f.0 == n)
    by_event (Did (actions.Eld f) (Moved page version tag)) k sc ag =
        came f.0 page k.0 k.1 (reloaded page (added past page)) (f.0 == n) refl
    by_event (Refused (actions.Eld f) refusal) k sc ag = freed (f.0 == n)
    by_event _ k sc ag = before n beyond

-- so no page of an enclave is, and no start is open there
pub within_past : (frames : ℕ) (past : List Entry) → IsSound past → HoldsNonePast frames past → IsWithin frames past
within_past frames past s none = record {
  children = λ n e beyond. ap (λ c. is_child c e) (none n beyond);
  named = λ n va beyond. ap (λ o. is_of_va (slot_of o) va) (free_none past n s (none n beyond));
}
