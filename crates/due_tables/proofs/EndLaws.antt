-- Where nobody has anything more to do, the run is ended.
use Rattle.std.proofs.Common.{◌≡◌, ℕ, zero, suc, ◌+◌, ◌/◌, ◌==◌, ◌<◌, ◌≤◌, not, Bool, true, false}
use Rattle.std.proofs.Common.{if◌then◌else◌, List, [], ◌∷◌, Option, Some, None, length, slice_get, refl, sym, ap, subst}
use Rattle.std.proofs.Common.{◌∙◌, arith}
use Rattle.std.proofs.lemmas.Bool.{eq-eqb, eqb-true, false≢true, le-leb}
use Rattle.std.proofs.lemmas.Option.{slice_get_within}
use Rattle.sgx_rules.specs.declared.entries.AccessOp.{AccessOp}
use Rattle.sgx_rules.specs.declared.entries.AccessOp.TheVariants as accesses
use Rattle.sgx_rules.specs.declared.entries.Action.{Action}
use Rattle.sgx_rules.specs.declared.entries.Action.TheVariants as actions
use Rattle.sgx_types.specs.declared.names.Actor.{Actor}
use Rattle.sgx_types.specs.declared.names.Actor.TheVariants as actors
use Rattle.sgx_rules.specs.declared.entries.Answer.{Answer}
use Rattle.sgx_rules.specs.declared.entries.BusWhy.{BusWhy}
use Rattle.sgx_rules.specs.declared.entries.Cause.TheVariants as causes
use Rattle.sgx_rules.specs.declared.entries.Entry.{Entry}
use Rattle.sgx_rules.specs.declared.entries.Event.{Event}
use Rattle.sgx_rules.specs.declared.entries.Event.TheVariants.{Did, Refused, Age, Kick, Bus}
use Rattle.sgx_types.specs.declared.names.Frame.{Frame}
use Rattle.sgx_types.specs.declared.names.Page.{Page}
use Rattle.sgx_rules.specs.declared.refusals.Refusal.{Refusal}
use Rattle.sgx_rules.specs.declared.refusals.Refusal.TheVariants as why
use Rattle.sgx_rules.specs.Flat.{at_offset}
use Rattle.sgx_types.specs.Pages.{page_at}
use Rattle.sgx_rules.specs.Frames.{added}
use Rattle.sgx_rules.specs.Processors.{Stay, holds_number, is_by, stay, translations}
use Rattle.sgx_rules.specs.Rules.{Along}
use Rattle.sgx_rules.specs.Starts.{Start, open_start}
use Rattle.sgx_rules.specs.Table.{is_lawful_access}
use Rattle.job_grammar.specs.declared.jobs.Op.{Op}
use Rattle.job_grammar.specs.declared.jobs.Op.TheVariants as ops
use Rattle.job_grammar.specs.Jobs.{JobView}
use Rattle.script_rules.specs.declared.steps.BuildStep.{BuildStep}
use Rattle.script_rules.specs.Script.{action_of, build_of, built, enter_with, is_interrupted, is_reply, is_turned_away}
use Rattle.sgx_types.specs.Pages.{frame_at}
use Rattle.script_rules.specs.Script.{replied}
use Rattle.script_rules.specs.Script.{resume_with, script_of, step_due}
use Rattle.driver_rules.specs.declared.waits.Why.{Why}
use Rattle.driver_rules.specs.declared.waits.Why.TheVariants as waits
use Rattle.driver_rules.specs.Dues.{Due, Finished, IsNext, Makes, Stopped, makes_or}
use Rattle.driver_rules.specs.Needs.{Interruption, interruption, needs_after, needs_to_enter, needs_to_resume, next_op}
use Rattle.driver_rules.specs.Needs.{save_to_enter}
use Rattle.driver_rules.specs.Needs.{save_to_resume}
use Rattle.driver_rules.specs.Places.{Absent, Away, Here, Leaving, Loading, Place, frame_here, place}
use Rattle.driver_rules.specs.Scripts.{IsActors, IsDone, IsEnded, ScriptRule}
use Rattle.driver_rules.specs.Stops.{has_bus, is_bus, is_spent}
use Rattle.driver_rules.specs.Turns.{start_fails}
use Rattle.driver_rules.specs.Turns.{Fails, Last, Loads, Other, WasEnded, accesses_by, builder_due, cpu_due, due_after}
use Rattle.driver_rules.specs.Turns.{early_turn, enters}
use Rattle.driver_rules.specs.Turns.{fails_with, fetches, fills, first_away, inside_turn, is_built, is_kicked, is_last, last_by}
use Rattle.driver_rules.specs.Turns.{last_of}
use Rattle.driver_rules.specs.Turns.{load_of, op_turn, outside_turn, resumes, save_frame, stay_turn, step_turn, turn_due}
use Rattle.driver_rules.specs.Turns.{with_pages}
use Rattle.driver_laws.specs.inner.Loads.{EndsOwn}
use Rattle.driver_laws.proofs.EndLaws.{their_rule}
use Rattle.driver_laws.proofs.SoundLaws.{entry_of}
use Rattle.due_tables.specs.inner.Ending.{EndsAreTold, IsForRecord, NoneFails}

-- ---- what is never finished

abbrev Goes : Due → Type 0
Goes d = d ≡ Finished → ⊥

goes_either : (b : Bool) (x y : Due) → Goes x → Goes y → Goes (if b then x else y)
goes_either true x y h k = h
goes_either false x y h k = k

goes_makes : (a : Action) → Goes (Makes a)
goes_makes a h = cc

goes_or : (why : Why) (o : Option Action) → Goes (makes_or why o)
goes_or why None h = cc
goes_or why (Some a) h = cc

goes_fetch : (j : JobView) (past : List Entry) (g : Page) (at : Place) → Goes (fetches j.epc past g at)
goes_fetch j past g Absent h = cc
goes_fetch j past g (Here f) h = cc
goes_fetch j past g (Leaving f) h = cc
goes_fetch j past g (Loading f slot) h = cc
goes_fetch j past g (Away slot) h = cc

goes_with : (j : JobView) (past : List Entry) (o : Option Page) (d : Due) → Goes d → Goes (with_pages j past o d)
goes_with j past None d h = h
goes_with j past (Some g) d h = goes_fetch j past g (place past g)

goes_fills : (n : ℕ) (o : Option ℕ) → Goes (fills n o)
goes_fills n None h = cc
goes_fills n (Some f) h = cc

goes_access : (past : List Entry) (p : ℕ) (s : Option Stay) (op : AccessOp) (off : ℕ) (access : Action)
    → Goes (accesses_by past p s op off access)
goes_access past p None op off access = goes_makes access
goes_access past p (Some s) op off access =
    goes_either (not (is_lawful_access (added past (at_offset s.seat.enclave off)) op)) (Makes (actions.Pf op off))
    (if holds_number (translations past p) (off / 4096) then Makes access
    else fills (off / 4096) (frame_here (place past (at_offset s.seat.enclave off)))) (goes_makes (actions.Pf op off))
    (goes_either (holds_number (translations past p) (off / 4096)) (Makes access)
    (fills (off / 4096) (frame_here (place past (at_offset s.seat.enclave off)))) (goes_makes access)
    (goes_fills (off / 4096) (frame_here (place past (at_offset s.seat.enclave off)))))

goes_resumes : (j : JobView) (past : List Entry) (e t : ℕ) (pages : List Page) → Goes (resumes j past e t pages)
goes_resumes j past e t pages =
    goes_with j past (first_away past pages)
    (makes_or (waits.Busy (page_at e t)) (resume_with e t (frame_here (place past (page_at e t)))
    (save_frame past (page_at e t) (save_to_resume j past e t))))
    (goes_or (waits.Busy (page_at e t)) (resume_with e t (frame_here (place past (page_at e t)))
    (save_frame past (page_at e t) (save_to_resume j past e t))))

goes_op : (j : JobView) (past : List Entry) (p : ℕ) (op : Op) → Goes (op_turn j past p op)
goes_op j past p (ops.Enter e t) =
    goes_either (is_turned_away past p e) (Makes (actions.Enter e t (frame_at 0) (frame_at 0))) (enters j past e t)
    (goes_makes (actions.Enter e t (frame_at 0) (frame_at 0)))
    (goes_with j past (first_away past (needs_to_enter j past e t))
    (makes_or (waits.Busy (page_at e t)) (enter_with e t (frame_here (place past (page_at e t)))
    (save_frame past (page_at e t) (save_to_enter j past e t))))
    (goes_or (waits.Busy (page_at e t)) (enter_with e t (frame_here (place past (page_at e t)))
    (save_frame past (page_at e t) (save_to_enter j past e t)))))
goes_op j past p (ops.Resume e t) =
    goes_either (is_turned_away past p e) (Makes (actions.Resume e t (frame_at 0) (frame_at 0)))
    (resumes j past e t (needs_to_resume j past e t)) (goes_makes (actions.Resume e t (frame_at 0) (frame_at 0)))
    (goes_resumes j past e t (needs_to_resume j past e t))
goes_op j past p ops.Exit = goes_makes actions.Exit
goes_op j past p ops.Timer = goes_makes (actions.Aex causes.Timer)
goes_op j past p (ops.Load off) = goes_access past p (stay past p) accesses.Load off (actions.Load off)
goes_op j past p (ops.Store off value) = goes_access past p (stay past p) accesses.Store off (actions.Store off value)
goes_op j past p (ops.Xadd off value) = goes_access past p (stay past p) accesses.Xadd off (actions.Xadd off value)
goes_op j past p (ops.Set value) = goes_makes (actions.Set value)
goes_op j past p (ops.Plus value) = goes_makes (actions.Plus value)
goes_op j past p (ops.OutLoad enclave off) = goes_makes (actions.OutLoad enclave off)
goes_op j past p (ops.OutStore enclave off value) = goes_makes (actions.OutStore enclave off value)

-- ---- no more entries than the build has steps

built_next : (j : JobView) (past : List Entry) (ev : Event) → IsNext (builder_due j past) ev → built past < length (build_of j)
built_next j past ev next = by_spent (is_spent past) next
  where
    by_step : (o : Option BuildStep) → slice_get (build_of j) (built past) ≡ o → IsNext (step_turn j past o) ev
        → built past < length (build_of j)
    by_step None is n = absurd n
    by_step (Some step) is n = slice_get_within (build_of j) (built past) step is

    by_spent : (b : Bool) → IsNext (if b then Stopped else step_turn j past (slice_get (build_of j) (built past))) ev
        → built past < length (build_of j)
    by_spent true n = absurd n
    by_spent false n = by_step (slice_get (build_of j) (built past)) refl n

pub built_few : (j : JobView) (past : List Entry) → Along (ScriptRule j) past → built past ≤ length (build_of j)
built_few j [] along = omega arith
built_few j (e ∷ past) along = by_actor e.actor along.0.next (built_few j past along.1)
  where
    by_actor : (a : Actor) → IsActors j past a e.event → built past ≤ length (build_of j)
        → built (entry_of a e.event ∷ past) ≤ length (build_of j)
    by_actor actors.Builder n few = let low = built_next j past e.event n in omega (arith, low)
    by_actor (actors.Cpu c) n few = few
    by_actor actors.Reclaimer n few = few

-- ---- no more replies than operations

abbrev Pends : JobView → List Entry → ℕ → Type 0
Pends j past p = replied past p < length (script_of j p)

-- an entry that is a reply, or starts a load, is of an operation
abbrev asks : Bool → Event → Bool
asks b (Did (actions.EldStart f page slot) answer) = true
asks b (Refused (actions.EldStart f page slot) refusal) = true
asks b ev = is_reply b ev

abbrev DueAsks : JobView → List Entry → ℕ → Due → Type 0
DueAsks j past p d = (b : Bool) (ev : Event) → IsNext d ev → asks b ev ≡ true → Pends j past p

-- an instruction that is neither
none_asks : (a : Action) → ((b : Bool) (answer : Answer) → asks b (Did a answer) ≡ false)
    → ((b : Bool) (refusal : Refusal) → asks b (Refused a refusal) ≡ false) → (b : Bool) (ev : Event) → action_of ev ≡ Some a
    → asks b ev ≡ true → ⊥
none_asks a did refused b (Did x answer) same h =
    let is : x ≡ a = cc in false≢true (sym (did b answer) ∙ sym (ap (λ y. asks b (Did y answer)) is) ∙ h)
none_asks a did refused b (Refused x refusal) same h =
    let is : x ≡ a = cc in false≢true (sym (refused b refusal) ∙ sym (ap (λ y. asks b (Refused y refusal)) is) ∙ h)
none_asks a did refused b (Age page look) same h = cc
none_asks a did refused b (Kick cpu) same h = cc
none_asks a did refused b (Bus page why) same h = cc

module _ (j : JobView) (past : List Entry) (p : ℕ) where
  asks_outside : (i : Option Interruption) (op : Option Op) → next_op j past p ≡ op → DueAsks j past p (outside_turn j past p i op)
  asks_outside i None is b ev next h = absurd next
  asks_outside i (Some op) is b ev next h = slice_get_within (script_of j p) (replied past p) op is

  asks_inside : (k : Bool) (op : Option Op) → next_op j past p ≡ op → DueAsks j past p (inside_turn j past p k op)
  asks_inside true op is b ev next h =
      absurd (none_asks (actions.Aex causes.Kick) (λ c answer. refl) (λ c refusal. refl) b ev next h)
  asks_inside false None is b ev next h =
      absurd (none_asks (actions.Aex causes.End) (λ c answer. refl) (λ c refusal. refl) b ev next h)
  asks_inside false (Some op) is b ev next h = slice_get_within (script_of j p) (replied past p) op is

  asks_stay : (s : Option Stay) → DueAsks j past p (stay_turn j past p s)
  asks_stay None = asks_outside (interruption past p) (next_op j past p) refl
  asks_stay (Some s) = asks_inside (is_kicked past p) (next_op j past p) refl

  asks_early : (s : Option Stay) (op : Option Op) → DueAsks j past p (early_turn s op)
  asks_early None None b ev next h = absurd next
  asks_early None (Some op) b ev next h = absurd next
  asks_early (Some s) op b ev next h = absurd next

  asks_either : (c : Bool) (x y : Due) → DueAsks j past p x → DueAsks j past p y → DueAsks j past p (if c then x else y)
  asks_either true x y h k = h
  asks_either false x y h k = k

  asks_after : (l : Last) (c : Bool) (d : Due) → ((page : Page) (why : BusWhy) → l ≡ Fails page why → Pends j past p) → DueAsks j past p d
      → DueAsks j past p (due_after l c d)
  asks_after (Loads f page) c d fails h b ev next k =
      absurd (none_asks (actions.Eld (frame_at f)) (λ e answer. refl) (λ e refusal. refl) b ev next k)
  asks_after (Fails page why) true d fails h b ev next k = fails page why refl
  asks_after (Fails page why) false d fails h b ev next k = absurd next
  asks_after WasEnded c d fails h b ev next k = absurd next
  asks_after Other c d fails h b ev next k = h b ev next k

  asks_due : ((page : Page) (why : BusWhy) → last_of past p ≡ Fails page why → Pends j past p) → DueAsks j past p (cpu_due j past p)
  asks_due fails =
      asks_either (is_spent past) Stopped (due_after (last_of past p) (is_last past p) (turn_due j past p)) (λ b ev next h. absurd next)
      (asks_after (last_of past p) (is_last past p) (turn_due j past p) fails
      (asks_either (is_built j past) (stay_turn j past p (stay past p)) (early_turn (stay past p) (next_op j past p))
      (asks_stay (stay past p)) (asks_early (stay past p) (next_op j past p))))

-- how far a processor is
record IsFar (j : JobView) (past : List Entry) (p : ℕ) : Type 0 where
  few : replied past p ≤ length (script_of j p)
  loads : (f : ℕ) (page : Page) → last_of past p ≡ Loads f page → Pends j past p
  fails : (page : Page) (why : BusWhy) → last_of past p ≡ Fails page why → Pends j past p

far_same : (j : JobView) (past now : List Entry) (p : ℕ) → replied now p ≡ replied past p → last_of now p ≡ last_of past p → IsFar j past p
    → IsFar j now p
far_same j past now p same last h = record {
  few = omega (arith, same, h.few);
  loads = λ f page is. (let low = h.loads f page (sym last ∙ is) in omega (arith, same, low));
  fails = λ page why is. (let low = h.fails page why (sym last ∙ is) in omega (arith, same, low));
}

-- .. by these numbers, and how its last entry left it
record After (len n : ℕ) (l : Last) : Type 0 where
  few : n ≤ len
  loads : (f : ℕ) (page : Page) → l ≡ Loads f page → n < len
  fails : (page : Page) (why : BusWhy) → l ≡ Fails page why → n < len

reply_asks : (b : Bool) (ev : Event) → is_reply b ev ≡ true → asks b ev ≡ true
reply_asks b (Did (actions.EldStart f page slot) answer) h = refl
reply_asks b (Refused (actions.EldStart f page slot) refusal) h = refl
reply_asks b (Did action answer) h = h
reply_asks b (Refused action refusal) h = h
reply_asks b (Age page look) h = h
reply_asks b (Kick cpu) h = h
reply_asks b (Bus page why) h = h

reply_few : (c : Bool) (r len : ℕ) → r ≤ len → (c ≡ true → r < len) → (if c then r + 1 else r) ≤ len
reply_few true r len few asked = let low = asked refl in omega (arith, low)
reply_few false r len few asked = few

no_load : (o : Option Page) (refusal : Refusal) (f : ℕ) (page : Page) → fails_with o refusal ≡ Loads f page → ⊥
no_load (Some g) (why.MacFail given computed) f page h = cc
no_load (Some g) (why.BadHeader enclave address flags) f page h = cc
no_load (Some g) refusal f page h = cc
no_load None refusal f page h = cc

no_start : (g : Page) (refusal : Refusal) (f : ℕ) (page : Page) → start_fails g refusal ≡ Loads f page → ⊥
no_start g why.SlotEmpty f page h = cc
no_start g refusal f page h = cc

-- behind an event of its own
after_event : (b : Bool) (ev : Event) (opened : ℕ → Option Start) (r len : ℕ) → r ≤ len → (asks b ev ≡ true → r < len)
    → ((f : Frame) (refusal : Refusal) → ev ≡ Refused (actions.Eld f) refusal → r < len)
    → After len (if is_reply b ev then r + 1 else r) (last_by ev opened)
after_event b (Did (actions.EldStart f page slot) answer) opened r len few asked refused =
    record { few = few; loads = λ g h is. asked refl; fails = λ g reason is. cc }
after_event b (Refused (actions.EldStart f page slot) refusal) opened r len few asked refused = record {
  few = reply_few (is_reply b (Refused (actions.EldStart f page slot) refusal)) r len few (λ h. asked refl);
  loads = λ g h is. absurd (no_start page refusal g h is);
  fails = λ g reason is. asked refl;
}
after_event b (Refused (actions.Eld f) refusal) opened r len few asked refused = record {
  few = few;
  loads = λ g page is. absurd (no_load (load_of (opened f.0)) refusal g page is);
  fails = λ g reason is. refused f refusal refl;
}
after_event b (Did action answer) opened r len few asked refused = record {
  few = reply_few (is_reply b (Did action answer)) r len few (λ h. asked (reply_asks b (Did action answer) h));
  loads = λ f page is. cc;
  fails = λ page reason is. cc;
}
after_event b (Refused action refusal) opened r len few asked refused = record {
  few = reply_few (is_reply b (Refused action refusal)) r len few (λ h. asked (reply_asks b (Refused action refusal) h));
  loads = λ f page is. cc;
  fails = λ page reason is. cc;
}
after_event b (Age page look) opened r len few asked refused =
    record { few = few; loads = λ f g is. cc; fails = λ g reason is. cc }
after_event b (Kick cpu) opened r len few asked refused =
    record { few = few; loads = λ f g is. cc; fails = λ g reason is. cc }
after_event b (Bus page why) opened r len few asked refused = record {
  few = let low = asked refl in omega (arith, low);
  loads = λ f g is. cc;
  fails = λ g reason is. cc;
}

-- who has a refused load was loading
was_loading : (j : JobView) (past : List Entry) (p : ℕ) (f : Frame) (refusal : Refusal) → IsFar j past p
    → EndsOwn (last_of past p) (Refused (actions.Eld f) refusal) → Pends j past p
was_loading j past p f refusal h ends = by_last (last_of past p) refl ends
  where
    by_last : (l : Last) → last_of past p ≡ l → EndsOwn l (Refused (actions.Eld f) refusal) → Pends j past p
    by_last (Loads n page) is k = h.loads n page is
    by_last (Fails page why) is k = cc
    by_last WasEnded is k = cc
    by_last Other is k = cc

far_more : (j : JobView) (past : List Entry) (a : Actor) (ev : Event) → ScriptRule j past (entry_of a ev) → ((p : ℕ) → IsFar j past p)
    → (p : ℕ) → IsFar j (entry_of a ev ∷ past) p
far_more j past actors.Builder ev script h p = far_same j past (entry_of actors.Builder ev ∷ past) p refl refl (h p)
far_more j past actors.Reclaimer ev script h p = far_same j past (entry_of actors.Reclaimer ev ∷ past) p refl refl (h p)
far_more j past (actors.Cpu c) ev script h p = by_test (c.0 == p) refl
  where
    own : After (length (script_of j c.0)) (if is_reply (is_interrupted past c.0) ev then replied past c.0 + 1 else replied past c.0)
        (last_by ev (open_start past))
    own =
        after_event (is_interrupted past c.0) ev (open_start past) (replied past c.0) (length (script_of j c.0)) (h c.0).few
        (asks_due j past c.0 (h c.0).fails (is_interrupted past c.0) ev script.next.1)
        (λ f refusal is. was_loading j past c.0 f refusal (h c.0)
        (subst (EndsOwn (last_of past c.0)) is (their_rule j past (entry_of (actors.Cpu c) ev) script)))

    counted : replied (entry_of (actors.Cpu c) ev ∷ past) c.0
        ≡ (if is_reply (is_interrupted past c.0) ev then replied past c.0 + 1 else replied past c.0)
    counted = rw (eq-eqb c.0 c.0 refl) refl

    left : last_of (entry_of (actors.Cpu c) ev ∷ past) c.0 ≡ last_by ev (open_start past)
    left = rw (eq-eqb c.0 c.0 refl) refl

    far : IsFar j (entry_of (actors.Cpu c) ev ∷ past) c.0
    far = record {
      few = (let few = own.few in omega (arith, counted, few));
      loads = λ f page is. (let low = own.loads f page (sym left ∙ is) in omega (arith, counted, low));
      fails = λ page reason is. (let low = own.fails page reason (sym left ∙ is) in omega (arith, counted, low));
    }

    by_test : (b : Bool) → (c.0 == p) ≡ b → IsFar j (entry_of (actors.Cpu c) ev ∷ past) p
    by_test true same = subst (IsFar j (entry_of (actors.Cpu c) ev ∷ past)) (eqb-true c.0 p same) far
    by_test false other =
        far_same j past (entry_of (actors.Cpu c) ev ∷ past) p (rw other refl) (rw other refl) (h p)

all_far : (j : JobView) (past : List Entry) → Along (ScriptRule j) past → (p : ℕ) → IsFar j past p
all_far j [] along p = record { few = omega arith; loads = λ f page is. cc; fails = λ page reason is. cc }
all_far j (e ∷ past) along p = far_more j past e.actor e.event along.0 (all_far j past along.1) p

-- ---- the end

pub past_all : {X : Type 0} (xs : List X) (n : ℕ) → slice_get xs n ≡ None → length xs ≤ n
past_all [] n h = omega arith
past_all (x ∷ xs) zero h = cc
past_all (x ∷ xs) (suc n) h = let low = past_all xs n h in omega (arith, low)

module _ (j : JobView) (past : List Entry) (along : Along (ScriptRule j) past) (fresh : is_spent past ≡ false) where
  build_done : builder_due j past ≡ Finished → built past ≡ length (build_of j)
  build_done h = by_step (slice_get (build_of j) (built past)) refl told
    where
      told : step_turn j past (slice_get (build_of j) (built past)) ≡ Finished
      told = sym (ap (λ b. if b then Stopped else step_turn j past (slice_get (build_of j) (built past))) fresh) ∙ h

      by_step : (o : Option BuildStep) → slice_get (build_of j) (built past) ≡ o → step_turn j past o ≡ Finished
          → built past ≡ length (build_of j)
      by_step None is k =
          let high = past_all (build_of j) (built past) is in
          let few = built_few j past along in omega (arith, high, few)
      by_step (Some step) is k = absurd (goes_or waits.NoFrame (step_due j.epc past step) k)

  -- who is finished by its turn is outside, with all its replies
  turn_done : (p : ℕ) → is_built j past ≡ true → turn_due j past p ≡ Finished → IsDone j past p
  turn_done p whole h = by_stay (stay past p) refl told
    where
      told : stay_turn j past p (stay past p) ≡ Finished
      told =
          sym (ap (λ b. if b then stay_turn j past p (stay past p) else early_turn (stay past p) (next_op j past p)) whole) ∙ h

      by_outside : (i : Option Interruption) (op : Option Op) → next_op j past p ≡ op → outside_turn j past p i op ≡ Finished
          → replied past p ≡ length (script_of j p)
      by_outside i None is k =
          let high = past_all (script_of j p) (replied past p) is in
          let few = (all_far j past along p).few in omega (arith, high, few)
      by_outside (Some i) (Some op) is k = absurd (goes_resumes j past i.enclave i.tcs (needs_after j past p i) k)
      by_outside None (Some op) is k = absurd (goes_op j past p op k)

      by_inside : (k : Bool) (op : Option Op) → inside_turn j past p k op ≡ Finished → ⊥
      by_inside true op k = cc
      by_inside false None k = cc
      by_inside false (Some op) k = goes_op j past p op k

      by_stay : (s : Option Stay) → stay past p ≡ s → stay_turn j past p s ≡ Finished → IsDone j past p
      by_stay None is k =
          record { replied = by_outside (interruption past p) (next_op j past p) refl k; outside = is }
      by_stay (Some s) is k = absurd (by_inside (is_kicked past p) (next_op j past p) k)

  cpu_done : (p : ℕ) → EndsAreTold past → NoneFails past → is_built j past ≡ true → cpu_due j past p ≡ Finished → has_bus past p ≡ false
      → IsDone j past p
  cpu_done p told none whole h bus = by_last (last_of past p) refl after
    where
      after : due_after (last_of past p) (is_last past p) (turn_due j past p) ≡ Finished
      after =
          sym (ap (λ b. if b then Stopped else due_after (last_of past p) (is_last past p) (turn_due j past p)) fresh) ∙ h

      by_last : (l : Last) → last_of past p ≡ l → due_after l (is_last past p) (turn_due j past p) ≡ Finished → IsDone j past p
      by_last (Loads f page) is k = cc
      by_last (Fails page reason) is k = absurd (none p page reason is)
      by_last WasEnded is k = absurd (false≢true (sym bus ∙ told p is))
      by_last Other is k = turn_done p whole k

pub run_ended : (j : JobView) (past : List Entry) → Along (ScriptRule j) past → EndsAreTold past → NoneFails past
    → builder_due j past ≡ Finished → ((p : ℕ) → p < length j.scripts → cpu_due j past p ≡ Finished) → IsEnded j past
run_ended j past along told none build cpus fresh = record {
  built = whole;
  cpus = λ p low bus. cpu_done j past along fresh p told none (le-leb (length (build_of j)) (built past) (omega (arith, whole)))
      (cpus p low) bus;
}
  where
    whole : built past ≡ length (build_of j)
    whole = build_done j past along fresh build

-- ---- what is told

ends_more : (past : List Entry) (a : Actor) (ev : Event) → IsForRecord past ev → EndsAreTold past → EndsAreTold (entry_of a ev ∷ past)
ends_more past a ev for h p = by_test (is_by p a) (h p)
  where
    own : (x : Event) → IsForRecord past x → last_by x (open_start past) ≡ WasEnded → (if is_bus x then true else has_bus past p) ≡ true
    own (Bus page why) k is = refl
    own (Refused (actions.Eld f) refusal) k is = absurd (k is)
    own (Refused (actions.EldStart f page slot) refusal) k is = absurd (k is)
    own (Did (actions.EldStart f page slot) answer) k is = cc
    own (Did action answer) k is = cc
    own (Refused action refusal) k is = cc
    own (Age page look) k is = cc
    own (Kick cpu) k is = cc

    by_test : (b : Bool) → (last_of past p ≡ WasEnded → has_bus past p ≡ true)
        → (if b then last_by ev (open_start past) else last_of past p) ≡ WasEnded
        → (if b then (if is_bus ev then true else has_bus past p) else has_bus past p) ≡ true
    by_test true k is = own ev for is
    by_test false k is = k is

pub ends_go_on : (past : List Entry) (e : Entry) → IsForRecord past e.event → EndsAreTold past → EndsAreTold (e ∷ past)
ends_go_on past e for h = ends_more past e.actor e.event for h

pub ends_first : EndsAreTold []
ends_first p h = cc
