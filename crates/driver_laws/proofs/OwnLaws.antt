-- By the rule Script looks, kicks, blocks, tracks and write-outs are the reclaimer's alone, and a load is begun for a page that is away.
use Rattle.std.proofs.Common.{◌≡◌, ℕ, not, Bool, true, false, if◌then◌else◌, refl, sym, ◌∙◌, ap, List, Option, Some}
use Rattle.std.proofs.Common.{None, slice_get, subst}
use Rattle.std.proofs.lemmas.Bool.{false≢true}
use Rattle.sgx_rules.specs.declared.entries.AccessOp.{AccessOp}
use Rattle.sgx_rules.specs.declared.entries.Action.{Action}
use Rattle.sgx_types.specs.declared.names.Actor.{Actor}
use Rattle.sgx_rules.specs.declared.entries.Answer.{Answer}
use Rattle.sgx_rules.specs.declared.entries.Entry.{Entry}
use Rattle.sgx_rules.specs.declared.entries.Event.{Event}
use Rattle.sgx_rules.specs.declared.entries.Event.TheVariants.{Age, Bus, Did, Kick, Refused}
use Rattle.sgx_types.specs.declared.names.Page.{Page}
use Rattle.sgx_types.specs.declared.names.SlotAt.{SlotAt}
use Rattle.sgx_types.specs.declared.names.VaSlot.{VaSlot}
use Rattle.sgx_rules.specs.declared.refusals.Refusal.{Refusal}
use Rattle.sgx_rules.specs.Flat.{at_offset}
use Rattle.sgx_types.specs.declared.names.Frame.{Frame}
use Rattle.sgx_rules.specs.Frames.{added, content, frame_of, least_free}
use Rattle.sgx_types.specs.Pages.{is_own_page, page_at, secs_page, va_page}
use Rattle.sgx_rules.specs.Processors.{holds_number, Stay, stay, translations}
use Rattle.sgx_rules.specs.Table.{is_lawful_access}
use Rattle.job_grammar.specs.declared.jobs.Op.{Op}
use Rattle.job_grammar.specs.Jobs.{JobView}
use Rattle.script_rules.specs.declared.steps.BuildStep.{BuildStep}
use Rattle.script_rules.specs.Script.{action_of, build_of, built, enter_with, is_turned_away, resume_with, with_frame}
use Rattle.sgx_types.specs.Pages.{frame_at}
use Rattle.driver_rules.specs.Needs.{Interruption, interruption, needs_after, needs_to_enter, needs_to_resume, next_op, save_to_enter}
use Rattle.driver_rules.specs.Needs.{save_to_resume}
use Rattle.driver_rules.specs.Places.{Absent, Away, frame_here, Here, is_here, Leaving, Loading, Place, place}
use Rattle.driver_rules.specs.Targets.{slot_here, target_by, target_from}
use Rattle.driver_rules.specs.Scripts.{IsActors, ScriptRule}
use Rattle.driver_laws.specs.inner.Tracks.{is_reclaimers, OwnRule}
use Rattle.driver_rules.specs.declared.waits.Why.{Why}
use Rattle.driver_rules.specs.Dues.{Asks, Due, Ends, Fetch, Fetches, Finished, IsFetch, IsNext, KicksAll, load_by, LooksAt, Makes}
use Rattle.driver_rules.specs.Dues.{makes_or, Reports, Stopped, TriesOut, Waits, WaitsFor}
use Rattle.driver_rules.specs.Stops.{is_spent}
use Rattle.driver_rules.specs.Turns.{accesses_by, builder_due, cpu_due, due_after, early_turn, enters, Fails, fetch, fetch_by, fetches}
use Rattle.driver_rules.specs.Turns.{fills, first_away, inside_turn, is_built, is_kicked, is_last, Last, last_of, Loads, op_turn}
use Rattle.driver_rules.specs.Turns.{Other, outside_turn, resumes, save_frame, stay_turn, step_turn, turn_due, WasEnded, with_pages}
use Rattle.driver_rules.proofs.ReclaimLaws.{other_secs}
use Rattle.sgx_rules.specs.declared.entries.AccessOp.TheVariants as accesses
use Rattle.sgx_rules.specs.declared.entries.Action.TheVariants as actions
use Rattle.sgx_types.specs.declared.names.Actor.TheVariants as actors
use Rattle.sgx_rules.specs.declared.refusals.Refusal.TheVariants as why
use Rattle.job_grammar.specs.declared.jobs.Op.TheVariants as ops
use Rattle.script_rules.specs.declared.steps.BuildStep.TheVariants as builds
use Rattle.driver_rules.specs.declared.waits.Why.TheVariants as waits

-- ---- what is due moves no page but by a load

-- an instruction that moves pages
abbrev pub is_paging : Action → Bool
is_paging (actions.Block f) = true
is_paging (actions.Track enclave) = true
is_paging (actions.EwbStart f slot) = true
is_paging (actions.Ewb f) = true
is_paging (actions.EldStart f page slot) = true
is_paging (actions.Eld f) = true
is_paging _ = false

-- .. and one that a processor's script asks for, or what follows from it
abbrev pub is_script : Action → Bool
is_script (actions.Epa f) = false
is_script (actions.Create enclave f base size) = false
is_script (actions.Add enclave number f kind perm init) = false
is_script (actions.Extend f chunk) = false
is_script (actions.Init enclave expect) = false
is_script action = not (is_paging action)

-- a page is asked for that is away, by its slot, into the least free frame; for a TCS or REG page its SECS and the version array page
-- of its slot are here
pub record IsAsk (j : JobView) (past : List Entry) (g : Page) (slot : Option SlotAt) (free : Option ℕ) : Type 0 where
  pub away : VaSlot
  pub at : place past g ≡ Away away
  pub slot_is : slot ≡ slot_here past away
  pub free_is : free ≡ least_free j.epc (content past)
  pub secs : is_own_page g ≡ true → is_here (place past (secs_page g.enclave)) ≡ true
  pub array : is_own_page g ≡ true → is_here (place past (va_page away.va)) ≡ true

abbrev pub FetchIs : JobView → List Entry → Fetch → Type 0
FetchIs j past (WaitsFor target) = Unit {0}
FetchIs j past (Asks target slot free) = IsAsk j past target slot free

-- a processor with no open start makes only such, or begins a load of a page that is away
abbrev pub OfTurn : JobView → List Entry → Due → Type 0
OfTurn j past (Makes action) = is_script action ≡ true
OfTurn j past (Ends action) = ⊥
OfTurn j past (Fetches g fetch) = FetchIs j past fetch
OfTurn j past (LooksAt page held young) = ⊥
OfTurn j past (TriesOut g n) = ⊥
OfTurn j past (KicksAll cpus) = ⊥
OfTurn j past _ = Unit {0}

-- what is due moves no page but by a load, and a load is begun only for a page that is away, by its slot, into the least free frame
abbrev pub Plain : JobView → List Entry → Due → Type 0
Plain j past (Makes action) = is_paging action ≡ false
Plain j past (Ends action) = (f : Frame) × (action ≡ actions.Eld f)
Plain j past (Fetches g fetch) = FetchIs j past fetch
Plain j past (LooksAt page held young) = ⊥
Plain j past (TriesOut g n) = ⊥
Plain j past (KicksAll cpus) = ⊥
Plain j past _ = Unit {0}

either : (P : Due → Type 0) (b : Bool) (x y : Due) → P x → P y → P (if b then x else y)
either P true x y h k = h
either P false x y h k = k

fetch_is : (j : JobView) (past : List Entry) (t : Page) → (is_own_page t ≡ true → is_here (place past (secs_page t.enclave)) ≡ true)
    → ((slot : VaSlot) → place past t ≡ Away slot → is_own_page t ≡ true → is_here (place past (va_page slot.va)) ≡ true)
    → FetchIs j past (fetch j.epc past t)
fetch_is j past t secs array = by_place (place past t) refl
  where
    by_place : (at : Place) → place past t ≡ at → FetchIs j past (fetch_by j.epc past t at)
    by_place (Away slot) is = record {
      away = slot;
      at = is;
      slot_is = refl;
      free_is = refl;
      secs = secs;
      array = array slot is;
    }
    by_place Absent is = tt
    by_place (Here f) is = tt
    by_place (Leaving f) is = tt
    by_place (Loading f slot) is = tt

-- the page that is brought back first has what it needs here
pub target_is : (j : JobView) (past : List Entry) (g : Page) (slot : VaSlot) → place past g ≡ Away slot
    → FetchIs j past (fetch j.epc past (target_by past g (Away slot)))
target_is j past g slot is = by_own (is_own_page g) refl
  where
    none : (t : Page) → is_own_page t ≡ false → FetchIs j past (fetch j.epc past t)
    none t other =
        fetch_is j past t (λ own. absurd (false≢true (sym other ∙ own))) (λ s at own. absurd (false≢true (sym other ∙ own)))

    its_slot : (s : VaSlot) → Away slot ≡ Away s → slot ≡ s
    its_slot s h = cc

    by_array : (c : Bool) → is_here (place past (va_page slot.va)) ≡ c → is_here (place past (secs_page g.enclave)) ≡ true
        → FetchIs j past (fetch j.epc past (if c then g else va_page slot.va))
    by_array true here secs =
        fetch_is j past g (λ own. secs)
        (λ s at own. subst (λ (x : VaSlot). is_here (place past (va_page x.va)) ≡ true) (its_slot s (sym is ∙ at)) here)
    by_array false here secs = none (va_page slot.va) refl

    by_secs : (b : Bool) → is_here (place past (secs_page g.enclave)) ≡ b
        → FetchIs j past (fetch j.epc past (if b then (if is_here (place past (va_page slot.va)) then g else va_page slot.va)
        else secs_page g.enclave))
    by_secs true secs = by_array (is_here (place past (va_page slot.va))) refl secs
    by_secs false secs = none (secs_page g.enclave) (other_secs g.enclave)

    by_own : (b : Bool) → is_own_page g ≡ b
        → FetchIs j past (fetch j.epc past (if b then target_from past g slot else g))
    by_own true own = by_secs (is_here (place past (secs_page g.enclave))) refl
    by_own false other = none g other

fetch_script : (j : JobView) (past : List Entry) (g : Page) → OfTurn j past (fetches j.epc past g (place past g))
fetch_script j past g = by_place (place past g) refl
  where
    by_place : (at : Place) → place past g ≡ at → OfTurn j past (fetches j.epc past g at)
    by_place (Away slot) is = target_is j past g slot is
    by_place Absent is = tt
    by_place (Here f) is = tt
    by_place (Leaving f) is = tt
    by_place (Loading f slot) is = tt

with_script : (j : JobView) (past : List Entry) (o : Option Page) (d : Due) → OfTurn j past d → OfTurn j past (with_pages j past o d)
with_script j past None d h = h
with_script j past (Some g) d h = fetch_script j past g

enter_script : (j : JobView) (past : List Entry) (why : Why) (e t : ℕ) (tf sf : Option ℕ)
    → OfTurn j past (makes_or why (enter_with e t tf sf))
enter_script j past why e t (Some tf) (Some sf) = refl
enter_script j past why e t (Some tf) None = tt
enter_script j past why e t None sf = tt

resume_script : (j : JobView) (past : List Entry) (why : Why) (e t : ℕ) (tf sf : Option ℕ)
    → OfTurn j past (makes_or why (resume_with e t tf sf))
resume_script j past why e t (Some tf) (Some sf) = refl
resume_script j past why e t (Some tf) None = tt
resume_script j past why e t None sf = tt

enters_script : (j : JobView) (past : List Entry) (e t : ℕ) → OfTurn j past (enters j past e t)
enters_script j past e t =
    with_script j past (first_away past (needs_to_enter j past e t)) _ (enter_script j past (waits.Busy (page_at e t)) e t
    (frame_here (place past (page_at e t))) (save_frame past (page_at e t) (save_to_enter j past e t)))

resumes_script : (j : JobView) (past : List Entry) (e t : ℕ) (pages : List Page) → OfTurn j past (resumes j past e t pages)
resumes_script j past e t pages =
    with_script j past (first_away past pages) _
    (resume_script j past (waits.Busy (page_at e t)) e t (frame_here (place past (page_at e t)))
    (save_frame past (page_at e t) (save_to_resume j past e t)))

fills_script : (j : JobView) (past : List Entry) (n : ℕ) (o : Option ℕ) → OfTurn j past (fills n o)
fills_script j past n None = refl
fills_script j past n (Some f) = refl

access_script : (j : JobView) (past : List Entry) (p : ℕ) (o : Option Stay) (op : AccessOp) (off : ℕ) (access : Action)
    → is_script access ≡ true → OfTurn j past (accesses_by past p o op off access)
access_script j past p None op off access h = h
access_script j past p (Some s) op off access h =
    either (OfTurn j past) (not (is_lawful_access (added past (at_offset s.seat.enclave off)) op)) _ _ refl
    (either (OfTurn j past) (holds_number (translations past p) _) (Makes access) _ h
    (fills_script j past _ (frame_here (place past (at_offset s.seat.enclave off)))))

op_script : (j : JobView) (past : List Entry) (p : ℕ) (op : Op) → OfTurn j past (op_turn j past p op)
op_script j past p (ops.Enter e t) = either (OfTurn j past) (is_turned_away past p e) _ (enters j past e t) refl (enters_script j past e t)
op_script j past p (ops.Resume e t) =
    either (OfTurn j past) (is_turned_away past p e) _ (resumes j past e t (needs_to_resume j past e t)) refl
    (resumes_script j past e t (needs_to_resume j past e t))
op_script j past p ops.Exit = refl
op_script j past p ops.Timer = refl
op_script j past p (ops.Load off) = access_script j past p (stay past p) accesses.Load off (actions.Load off) refl
op_script j past p (ops.Store off v) = access_script j past p (stay past p) accesses.Store off (actions.Store off v) refl
op_script j past p (ops.Xadd off v) = access_script j past p (stay past p) accesses.Xadd off (actions.Xadd off v) refl
op_script j past p (ops.Set v) = refl
op_script j past p (ops.Plus v) = refl
op_script j past p (ops.OutLoad e off) = refl
op_script j past p (ops.OutStore e off v) = refl

outside_script : (j : JobView) (past : List Entry) (p : ℕ) (i : Option Interruption) (op : Option Op)
    → OfTurn j past (outside_turn j past p i op)
outside_script j past p i None = tt
outside_script j past p (Some i) (Some op) = resumes_script j past i.enclave i.tcs (needs_after j past p i)
outside_script j past p None (Some op) = op_script j past p op

inside_script : (j : JobView) (past : List Entry) (p : ℕ) (b : Bool) (op : Option Op) → OfTurn j past (inside_turn j past p b op)
inside_script j past p true op = refl
inside_script j past p false None = refl
inside_script j past p false (Some op) = op_script j past p op

stay_script : (j : JobView) (past : List Entry) (p : ℕ) (o : Option Stay) → OfTurn j past (stay_turn j past p o)
stay_script j past p None = outside_script j past p (interruption past p) (next_op j past p)
stay_script j past p (Some s) = inside_script j past p (is_kicked past p) (next_op j past p)

early_script : (j : JobView) (past : List Entry) (o : Option Stay) (op : Option Op) → OfTurn j past (early_turn o op)
early_script j past None None = tt
early_script j past None (Some op) = tt
early_script j past (Some s) op = tt

-- what a processor does next with no open start
pub turn_script : (j : JobView) (past : List Entry) (p : ℕ) → OfTurn j past (turn_due j past p)
turn_script j past p =
    either (OfTurn j past) (is_built j past) (stay_turn j past p (stay past p)) (early_turn (stay past p) (next_op j past p))
    (stay_script j past p (stay past p)) (early_script j past (stay past p) (next_op j past p))

paging_none : (action : Action) → is_script action ≡ true → is_paging action ≡ false
paging_none (actions.Epa f) h = refl
paging_none (actions.Create enclave f base size) h = refl
paging_none (actions.Add enclave number f kind perm init) h = refl
paging_none (actions.Extend f chunk) h = refl
paging_none (actions.Init enclave expect) h = refl
paging_none (actions.Block f) h = cc
paging_none (actions.Track enclave) h = cc
paging_none (actions.EwbStart f slot) h = cc
paging_none (actions.Ewb f) h = cc
paging_none (actions.EldStart f page slot) h = cc
paging_none (actions.Eld f) h = cc
paging_none _ h = refl

plain_of : (j : JobView) (past : List Entry) (d : Due) → OfTurn j past d → Plain j past d
plain_of j past (Makes action) h = paging_none action h
plain_of j past (Ends action) h = absurd h
plain_of j past (Fetches g fetch) h = h
plain_of j past (LooksAt page held young) h = absurd h
plain_of j past (TriesOut g n) h = absurd h
plain_of j past (KicksAll cpus) h = absurd h
plain_of j past _ h = tt

turn_is_plain : (j : JobView) (past : List Entry) (p : ℕ) → Plain j past (turn_due j past p)
turn_is_plain j past p = plain_of j past (turn_due j past p) (turn_script j past p)

after_plain : (j : JobView) (past : List Entry) (l : Last) (b : Bool) (d : Due) → Plain j past d → Plain j past (due_after l b d)
after_plain j past (Loads f page) b d h = (frame_at f, refl)
after_plain j past (Fails page why) true d h = tt
after_plain j past (Fails page why) false d h = tt
after_plain j past WasEnded b d h = tt
after_plain j past Other b d h = h

-- a processor makes no such instruction
pub due_plain : (j : JobView) (past : List Entry) (p : ℕ) → Plain j past (cpu_due j past p)
due_plain j past p =
    either (Plain j past) (is_spent past) Stopped (due_after (last_of past p) (is_last past p) (turn_due j past p)) tt
    (after_plain j past (last_of past p) (is_last past p) (turn_due j past p) (turn_is_plain j past p))

-- what is due to the builder is an instruction, or nothing
abbrev pub OfBuild : Due → Type 0
OfBuild (Makes action) = is_paging action ≡ false
OfBuild Stopped = Unit {0}
OfBuild Finished = Unit {0}
OfBuild (Waits why) = Unit {0}
OfBuild _ = ⊥

step_builds : (step : BuildStep) (o : Option ℕ) → OfBuild (makes_or waits.NoFrame (with_frame step o))
step_builds builds.Va (Some f) = refl
step_builds (builds.Create e b s) (Some f) = refl
step_builds (builds.Add e n k p i) (Some f) = refl
step_builds (builds.Extend e n c) (Some f) = refl
step_builds (builds.Init e x) (Some f) = refl
step_builds step None = tt

turn_builds : (j : JobView) (past : List Entry) (step : Option BuildStep) → OfBuild (step_turn j past step)
turn_builds j past None = tt
turn_builds j past (Some builds.Va) = step_builds builds.Va (least_free j.epc (content past))
turn_builds j past (Some (builds.Create e b s)) = step_builds (builds.Create e b s) (least_free j.epc (content past))
turn_builds j past (Some (builds.Add e n k p i)) = step_builds (builds.Add e n k p i) (least_free j.epc (content past))
turn_builds j past (Some (builds.Extend e n c)) = step_builds (builds.Extend e n c) (frame_of past (page_at e n))
turn_builds j past (Some (builds.Init e x)) = refl

-- what the builder does next
pub build_builds : (j : JobView) (past : List Entry) → OfBuild (builder_due j past)
build_builds j past =
    either OfBuild (is_spent past) Stopped (step_turn j past (slice_get (build_of j) (built past))) tt
    (turn_builds j past (slice_get (build_of j) (built past)))

builds_plain : (j : JobView) (past : List Entry) (d : Due) → OfBuild d → Plain j past d
builds_plain j past (Makes action) h = h
builds_plain j past Stopped h = tt
builds_plain j past Finished h = tt
builds_plain j past (Waits why) h = tt
builds_plain j past _ h = absurd h

-- .. nor does the builder
pub build_plain : (j : JobView) (past : List Entry) → Plain j past (builder_due j past)
build_plain j past = builds_plain j past (builder_due j past) (build_builds j past)

-- ---- whose entries are whose

not_own : (action : Action) → is_paging action ≡ false → (a : Action) → Some a ≡ Some action → is_paging a ≡ false
not_own action h a same = let told : a ≡ action = cc in ap is_paging told ∙ h

done_plain : (a : Action) (answer : Answer) → is_paging a ≡ false → is_reclaimers (Did a answer) ≡ false
done_plain (actions.Block f) answer k = cc
done_plain (actions.Track e) answer k = cc
done_plain (actions.EwbStart f slot) answer k = cc
done_plain (actions.Ewb f) answer k = cc
done_plain _ answer k = refl

refused_plain : (a : Action) (refusal : Refusal) → is_paging a ≡ false → is_reclaimers (Refused a refusal) ≡ false
refused_plain (actions.Block f) refusal k = cc
refused_plain (actions.Track e) refusal k = cc
refused_plain (actions.EwbStart f slot) refusal k = cc
refused_plain (actions.Ewb f) refusal k = cc
refused_plain _ refusal k = refl

-- an entry of this instruction is none of the reclaimer's
made_own : (action : Action) → is_paging action ≡ false → (ev : Event) → action_of ev ≡ Some action → is_reclaimers ev ≡ false
made_own action h (Did a answer) same = done_plain a answer (not_own action h a same)
made_own action h (Refused a refusal) same = refused_plain a refusal (not_own action h a same)
made_own action h (Age page look) same = cc
made_own action h (Kick cpu) same = cc
made_own action h (Bus page why) same = cc

-- .. nor is the end of a load
ended_own : (f : Frame) (ev : Event) → action_of ev ≡ Some (actions.Eld f) → is_reclaimers ev ≡ false
ended_own f (Did a answer) same = let told : a ≡ actions.Eld f = cc in ap (λ y. is_reclaimers (Did y answer)) told
ended_own f (Refused a refusal) same = let told : a ≡ actions.Eld f = cc in ap (λ y. is_reclaimers (Refused y refusal)) told
ended_own f (Age page look) same = cc
ended_own f (Kick cpu) same = cc
ended_own f (Bus page why) same = cc

-- the load of a page is an `eldstart`
pub loaded_own : (target : Page) (slot : Option SlotAt) (f : ℕ) (a : Action) → load_by target slot f ≡ Some a → (g : Frame) × (at : SlotAt)
    × (a ≡ actions.EldStart g target at)
loaded_own target None f a k = cc
loaded_own target (Some at) f a k = let told : actions.EldStart (frame_at f) target at ≡ a = cc in (frame_at f, at, sym told)

fetched_own : (g : Page) (fetch : Fetch) (ev : Event) → IsFetch g fetch ev → is_reclaimers ev ≡ false
fetched_own g fetch (Bus page why) k = refl
fetched_own g (Asks target slot (Some f)) (Did a answer) k =
    let l = loaded_own target slot f a k in ap (λ y. is_reclaimers (Did y answer)) l.2
fetched_own g (Asks target slot (Some f)) (Refused a why.SlotEmpty) k =
    let l = loaded_own target slot f a k in ap (λ y. is_reclaimers (Refused y why.SlotEmpty)) l.2
fetched_own g _ ev k = absurd k

-- what is next of a plain act is no entry of the reclaimer
next_own : (j : JobView) (past : List Entry) (d : Due) (ev : Event) → Plain j past d → IsNext d ev → is_reclaimers ev ≡ false
next_own j past Stopped ev h n = absurd n
next_own j past Finished ev h n = absurd n
next_own j past (Waits why) ev h n = absurd n
next_own j past (Makes action) ev h n = made_own action h ev n
next_own j past (Ends action) ev h n = ended_own h.0 ev (n ∙ ap Some h.1)
next_own j past (Reports page why) ev h n = ap is_reclaimers n
next_own j past (Fetches g fetch) ev h n = fetched_own g fetch ev n
next_own j past (LooksAt page held young) ev h n = absurd h
next_own j past (TriesOut g f) ev h n = absurd h
next_own j past (KicksAll cpus) ev h n = absurd h

-- looks, kicks, blocks, tracks and write-outs are the reclaimer's alone
pub script_own : (j : JobView) (past : List Entry) (e : Entry) → ScriptRule j past e → OwnRule past e
script_own j past e s own = by_actor e.actor s.next
  where
    by_actor : (a : Actor) → IsActors j past a e.event → a ≡ actors.Reclaimer
    by_actor actors.Reclaimer n = refl
    by_actor actors.Builder n = absurd (false≢true (sym (next_own j past (builder_due j past) e.event (build_plain j past) n) ∙ own))
    by_actor (actors.Cpu p) n = absurd (false≢true (sym (next_own j past (cpu_due j past p.0) e.event (due_plain j past p.0) n.1) ∙ own))
