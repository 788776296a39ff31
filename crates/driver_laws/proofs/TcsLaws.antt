-- Where no two scripts name one TCS page, no other actor changes a processor's count of state save frames.
use Rattle.std.proofs.Common.{◌≡◌, ℕ, ◌/◌, ◌≤◌, ◌==◌, not, Bool, true, false, if◌then◌else◌, refl, sym}
use Rattle.std.proofs.Common.{◌∙◌, ap, subst, List, [], ◌∷◌, Option, Some, None, slice_get}
use Rattle.std.specs.List.{list_any}
use Rattle.std.proofs.lemmas.Bool.{eqb-true, eq-eqb, false≢true}
use Rattle.std.proofs.lemmas.List.Folds.{list_any_at}
use Rattle.std.proofs.lemmas.Option.{get_or_from_slice_get, slice_get_within}
use Rattle.sgx_types.proofs.Pages.{same_page-refl, same_pages}
use Rattle.sgx_types.specs.Making.{Making}
use Rattle.sgx_rules.specs.declared.entries.AccessOp.{AccessOp}
use Rattle.sgx_rules.specs.declared.entries.Action.{Action}
use Rattle.sgx_types.specs.declared.names.Actor.{Actor}
use Rattle.sgx_rules.specs.declared.entries.Answer.{Answer}
use Rattle.sgx_rules.specs.declared.entries.Cause.{Cause}
use Rattle.sgx_rules.specs.declared.entries.Entry.{Entry}
use Rattle.sgx_rules.specs.declared.entries.Event.{Event}
use Rattle.sgx_rules.specs.declared.entries.Event.TheVariants.{Bus, Did}
use Rattle.sgx_types.specs.declared.names.Cpu.{Cpu}
use Rattle.sgx_types.specs.declared.names.Frame.{Frame}
use Rattle.sgx_types.specs.declared.names.Page.{Page}
use Rattle.sgx_rules.specs.Flat.{at_offset}
use Rattle.sgx_types.specs.Pages.{page_at, same_page}
use Rattle.sgx_rules.specs.Frames.{added, content, frame_of, least_free}
use Rattle.sgx_rules.specs.Processors.{holds_number, is_by, move_by, Stay, stay, stay_after, stay_from}
use Rattle.sgx_rules.specs.Processors.{translations}
use Rattle.sgx_rules.specs.Table.{is_lawful_access}
use Rattle.job_grammar.specs.declared.jobs.Op.{Op}
use Rattle.job_grammar.specs.Jobs.{JobView}
use Rattle.script_rules.specs.declared.steps.BuildStep.{BuildStep}
use Rattle.script_rules.specs.Script.{build_of, built, enter_with, is_seated_at, is_turned_away, leaves_by, replied}
use Rattle.sgx_types.specs.Pages.{frame_at}
use Rattle.sgx_types.proofs.Truths.{eqb-refl}
use Rattle.script_rules.specs.Script.{resume_with, saved_frames, saved_after, script_of, with_frame}
use Rattle.driver_rules.specs.Ages.{AgeOf, AgeRuleBy, Ahead, ahead, EndsNext, GoesOn, InPass, IsAhead, Looks, TriesNext}
use Rattle.driver_laws.specs.inner.Driven.{IsDriven}
use Rattle.driver_rules.specs.Needs.{interrupted_by, interrupted_in, Interruption, interruption, interruption_after, needs_after}
use Rattle.driver_rules.specs.Needs.{needs_to_enter, needs_to_resume, next_op, save_to_enter, save_to_resume}
use Rattle.driver_rules.specs.Passes.{Between, Blocking, Pass, pass, Scan, Tries}
use Rattle.driver_rules.specs.Places.{Absent, Away, frame_here, Here, Leaving, Loading, Place, place}
use Rattle.driver_rules.specs.Scripts.{IsActors, ScriptRule}
use Rattle.driver_rules.specs.Spares.{Outs, outs}
use Rattle.driver_laws.specs.inner.Sound.{IsSound}
use Rattle.driver_laws.specs.inner.Three.{is_tcs_of, IsApart, names_tcs, NamesOwn, tcs_by, tcs_of, TcsAreApart}
use Rattle.driver_rules.specs.declared.waits.Why.{Why}
use Rattle.driver_rules.specs.Dues.{Asks, Due, Ends, Fetch, Fetches, Finished, IsFetch, IsNext, KicksAll, LooksAt, Makes, makes_or}
use Rattle.driver_rules.specs.Dues.{Reports, Stopped, TriesOut, Waits}
use Rattle.driver_rules.specs.Stops.{is_spent}
use Rattle.driver_rules.specs.Turns.{accesses_by, builder_due, cpu_due, due_after, early_turn, enters, Fails, fetches, fills}
use Rattle.driver_rules.specs.Turns.{first_away, inside_turn, is_built, is_kicked, is_last, Last, last_of, Loads, op_turn, Other}
use Rattle.driver_rules.specs.Turns.{outside_turn, resumes, save_frame, stay_turn, step_turn, turn_due, WasEnded, with_pages}
use Rattle.driver_laws.proofs.HistoryLaws.{driven_before, driven_sound}
use Rattle.driver_laws.proofs.OwnLaws.{loaded_own}
use Rattle.driver_laws.proofs.SoundLaws.{entry_of}
use Rattle.driver_laws.proofs.ThreeEntryLaws.{three_others, other_stay}
use Rattle.driver_laws.proofs.ThreeLaws.{three_first, three_own}
use Rattle.sgx_rules.specs.declared.entries.AccessOp.TheVariants as accesses
use Rattle.sgx_rules.specs.declared.entries.Action.TheVariants as actions
use Rattle.sgx_types.specs.declared.names.Actor.TheVariants as actors
use Rattle.sgx_rules.specs.declared.entries.Cause.TheVariants as causes
use Rattle.job_grammar.specs.declared.jobs.Op.TheVariants as ops
use Rattle.script_rules.specs.declared.steps.BuildStep.TheVariants as builds
use Rattle.driver_rules.specs.declared.waits.Why.TheVariants as waits

-- ---- an operation of a script names its page

found_op : (test : Op → Bool) (ops : List Op) (n : ℕ) (op : Op) → slice_get ops n ≡ Some op → test op ≡ true → list_any test ops ≡ true
found_op test ops n op at is =
    list_any_at test ops n op (slice_get_within ops n op at) (ap test (get_or_from_slice_get ops n op op at) ∙ is)

named_next : (j : JobView) (past : List Entry) (p : ℕ) (op : Op) (g : Page) → next_op j past p ≡ Some op → is_tcs_of op g ≡ true
    → names_tcs j p g ≡ true
named_next j past p op g next is = found_op (λ o. is_tcs_of o g) (script_of j p) (replied past p) op next is

-- ---- what is due enters and resumes by a page that the script names

-- an instruction that enters does so by such a page
abbrev Own : JobView → ℕ → Action → Type 0
Own j p (actions.Enter e t tf sf) = names_tcs j p (page_at e t) ≡ true
Own j p (actions.Resume e t tf sf) = names_tcs j p (page_at e t) ≡ true
Own j p _ = Unit {0}

abbrev Named : JobView → ℕ → Due → Type 0
Named j p (Makes action) = Own j p action
Named j p (Ends action) = Own j p action
Named j p _ = Unit {0}

named_either : (j : JobView) (p : ℕ) (b : Bool) (x y : Due) → Named j p x → Named j p y → Named j p (if b then x else y)
named_either j p true x y h k = h
named_either j p false x y h k = k

named_fetch : (j : JobView) (past : List Entry) (p : ℕ) (g : Page) (at : Place) → Named j p (fetches j.epc past g at)
named_fetch j past p g (Away slot) = tt
named_fetch j past p g Absent = tt
named_fetch j past p g (Here f) = tt
named_fetch j past p g (Leaving f) = tt
named_fetch j past p g (Loading f slot) = tt

named_with : (j : JobView) (past : List Entry) (p : ℕ) (o : Option Page) (d : Due) → Named j p d → Named j p (with_pages j past o d)
named_with j past p None d h = h
named_with j past p (Some g) d h = named_fetch j past p g (place past g)

named_enter : (j : JobView) (p : ℕ) (why : Why) (e t : ℕ) (tf sf : Option ℕ) → names_tcs j p (page_at e t) ≡ true
    → Named j p (makes_or why (enter_with e t tf sf))
named_enter j p why e t (Some tf) (Some sf) h = h
named_enter j p why e t (Some tf) None h = tt
named_enter j p why e t None sf h = tt

named_resume : (j : JobView) (p : ℕ) (why : Why) (e t : ℕ) (tf sf : Option ℕ) → names_tcs j p (page_at e t) ≡ true
    → Named j p (makes_or why (resume_with e t tf sf))
named_resume j p why e t (Some tf) (Some sf) h = h
named_resume j p why e t (Some tf) None h = tt
named_resume j p why e t None sf h = tt

named_fills : (j : JobView) (p n : ℕ) (o : Option ℕ) → Named j p (fills n o)
named_fills j p n None = tt
named_fills j p n (Some f) = tt

named_access : (j : JobView) (past : List Entry) (p : ℕ) (o : Option Stay) (kind : AccessOp) (off : ℕ) (access : Action) → Own j p access
    → Named j p (accesses_by past p o kind off access)
named_access j past p None kind off access h = h
named_access j past p (Some s) kind off access h =
    named_either j p (not (is_lawful_access (added past (at_offset s.seat.enclave off)) kind)) (Makes (actions.Pf kind off))
    (if holds_number (translations past p) (off / 4096) then Makes access else fills (off / 4096)
    (frame_here (place past (at_offset s.seat.enclave off)))) tt
    (named_either j p (holds_number (translations past p) (off / 4096)) (Makes access)
    (fills (off / 4096) (frame_here (place past (at_offset s.seat.enclave off)))) h
    (named_fills j p (off / 4096) (frame_here (place past (at_offset s.seat.enclave off)))))

named_op : (j : JobView) (past : List Entry) (p : ℕ) (op : Op) → next_op j past p ≡ Some op → Named j p (op_turn j past p op)
named_op j past p (ops.Enter e t) next =
    let own = named_next j past p (ops.Enter e t) (page_at e t) next (same_page-refl (page_at e t)) in
    named_either j p (is_turned_away past p e) (Makes (actions.Enter e t (frame_at 0) (frame_at 0))) (enters j past e t) own
    (named_with j past p (first_away past (needs_to_enter j past e t))
    (makes_or (waits.Busy (page_at e t)) (enter_with e t (frame_here (place past (page_at e t)))
    (save_frame past (page_at e t) (save_to_enter j past e t))))
    (named_enter j p (waits.Busy (page_at e t)) e t (frame_here (place past (page_at e t)))
    (save_frame past (page_at e t) (save_to_enter j past e t)) own))
named_op j past p (ops.Resume e t) next =
    let own = named_next j past p (ops.Resume e t) (page_at e t) next (same_page-refl (page_at e t)) in
    named_either j p (is_turned_away past p e) (Makes (actions.Resume e t (frame_at 0) (frame_at 0)))
    (resumes j past e t (needs_to_resume j past e t)) own
    (named_with j past p (first_away past (needs_to_resume j past e t))
    (makes_or (waits.Busy (page_at e t)) (resume_with e t (frame_here (place past (page_at e t)))
    (save_frame past (page_at e t) (save_to_resume j past e t))))
    (named_resume j p (waits.Busy (page_at e t)) e t (frame_here (place past (page_at e t)))
    (save_frame past (page_at e t) (save_to_resume j past e t)) own))
named_op j past p ops.Exit next = tt
named_op j past p ops.Timer next = tt
named_op j past p (ops.Load off) next = named_access j past p (stay past p) accesses.Load off (actions.Load off) tt
named_op j past p (ops.Store off v) next = named_access j past p (stay past p) accesses.Store off (actions.Store off v) tt
named_op j past p (ops.Xadd off v) next = named_access j past p (stay past p) accesses.Xadd off (actions.Xadd off v) tt
named_op j past p (ops.Set v) next = tt
named_op j past p (ops.Plus v) next = tt
named_op j past p (ops.OutLoad e off) next = tt
named_op j past p (ops.OutStore e off v) next = tt

named_outside : (j : JobView) (past : List Entry) (p : ℕ) (i : Option Interruption) (op : Option Op) → NamesOwn j past p
    → interruption past p ≡ i → next_op j past p ≡ op → Named j p (outside_turn j past p i op)
named_outside j past p i None own broken next = tt
named_outside j past p None (Some op) own broken next = named_op j past p op next
named_outside j past p (Some i) (Some op) own broken next =
    named_with j past p (first_away past (needs_after j past p i)) (makes_or (waits.Busy (page_at i.enclave i.tcs))
    (resume_with i.enclave i.tcs (frame_here (place past (page_at i.enclave i.tcs)))
    (save_frame past (page_at i.enclave i.tcs) (save_to_resume j past i.enclave i.tcs))))
    (named_resume j p (waits.Busy (page_at i.enclave i.tcs)) i.enclave i.tcs (frame_here (place past (page_at i.enclave i.tcs)))
    (save_frame past (page_at i.enclave i.tcs) (save_to_resume j past i.enclave i.tcs)) (own.broken i broken))

named_inside : (j : JobView) (past : List Entry) (p : ℕ) (is_kicked : Bool) (op : Option Op) → next_op j past p ≡ op
    → Named j p (inside_turn j past p is_kicked op)
named_inside j past p true op next = tt
named_inside j past p false None next = tt
named_inside j past p false (Some op) next = named_op j past p op next

named_stay : (j : JobView) (past : List Entry) (p : ℕ) (o : Option Stay) → NamesOwn j past p → Named j p (stay_turn j past p o)
named_stay j past p None own = named_outside j past p (interruption past p) (next_op j past p) own refl refl
named_stay j past p (Some s) own = named_inside j past p (is_kicked past p) (next_op j past p) refl

named_after : (j : JobView) (p : ℕ) (l : Last) (b : Bool) (d : Due) → Named j p d → Named j p (due_after l b d)
named_after j p (Loads f page) b d h = tt
named_after j p (Fails page why) true d h = tt
named_after j p (Fails page why) false d h = tt
named_after j p WasEnded b d h = tt
named_after j p Other b d h = h

named_early : (j : JobView) (p : ℕ) (o : Option Stay) (op : Option Op) → Named j p (early_turn o op)
named_early j p None None = tt
named_early j p None (Some op) = tt
named_early j p (Some s) op = tt

named_due : (j : JobView) (past : List Entry) (p : ℕ) → NamesOwn j past p → Named j p (cpu_due j past p)
named_due j past p own = named_either j p (is_spent past) Stopped (due_after (last_of past p) (is_last past p) (turn_due j past p)) tt
    (named_after j p (last_of past p) (is_last past p) (turn_due j past p)
    (named_either j p (is_built j past) (stay_turn j past p (stay past p)) (early_turn (stay past p) (next_op j past p))
    (named_stay j past p (stay past p) own) (named_early j p (stay past p) (next_op j past p))))

own_fetched : (j : JobView) (p : ℕ) (g : Page) (fetch : Fetch) (a : Action) (answer : Answer) → IsFetch g fetch (Did a answer) → Own j p a
own_fetched j p g (Asks target slot (Some f)) a answer k = subst (Own j p) (sym (loaded_own target slot f a k).2) tt
own_fetched j p g _ a answer k = absurd k

-- so a done entry of a processor is by such a page
own_done : (j : JobView) (p : ℕ) (d : Due) (a : Action) (answer : Answer) → Named j p d → IsNext d (Did a answer) → Own j p a
own_done j p Stopped a answer h n = absurd n
own_done j p Finished a answer h n = absurd n
own_done j p (Waits why) a answer h n = absurd n
own_done j p (Makes action) a answer h n = let told : action ≡ a = cc in subst (Own j p) told h
own_done j p (Ends action) a answer h n = let told : action ≡ a = cc in subst (Own j p) told h
own_done j p (Reports page why) a answer h n = absurd (other n)
  where
    other : Did a answer ≡ Bus page why → ⊥
    other k = cc
own_done j p (Fetches g fetch) a answer h n = own_fetched j p g fetch a answer n
own_done j p (LooksAt page held young) a answer h n = absurd n
own_done j p (TriesOut g f) (actions.EwbStart frame slot) answer h n = tt
own_done j p (TriesOut g f) _ answer h n = absurd n
own_done j p (KicksAll []) a answer h n = absurd n
own_done j p (KicksAll (q ∷ qs)) a answer h n = absurd n

-- ---- its own entries

-- who was inside or enters now
own_seat : (j : JobView) (past : List Entry) (p : ℕ) (ev : Event) → NamesOwn j past p
    → ((a : Action) (answer : Answer) → ev ≡ Did a answer → Own j p a) → (s : Stay)
    → stay_after (move_by ev) true past (stay past p) ≡ Some s
    → names_tcs j p (page_at s.seat.enclave s.seat.tcs) ≡ true
own_seat j past p (Did (actions.Enter e t tf sf) answer) own does s at =
    let same : stay_from past (record { enclave = e; tcs = t; tcs_frame = tf.0; ssa_frame = sf.0 }) ≡ s = cc in
    subst (λ (x : Stay). names_tcs j p (page_at x.seat.enclave x.seat.tcs) ≡ true) same (does (actions.Enter e t tf sf) answer refl)
own_seat j past p (Did (actions.Resume e t tf sf) answer) own does s at =
    let same : stay_from past (record { enclave = e; tcs = t; tcs_frame = tf.0; ssa_frame = sf.0 }) ≡ s = cc in
    subst (λ (x : Stay). names_tcs j p (page_at x.seat.enclave x.seat.tcs) ≡ true) same (does (actions.Resume e t tf sf) answer refl)
own_seat j past p (Did actions.Exit answer) own does s at = cc
own_seat j past p (Did (actions.Aex cause) answer) own does s at = cc
own_seat j past p _ own does s at = own.seat s at

-- who has still to resume, or is taken out now
own_broken : (j : JobView) (past : List Entry) (p : ℕ) (ev : Event) → NamesOwn j past p → (i : Interruption)
    → interruption_after ev (stay past p) (interruption past p) ≡ Some i → names_tcs j p (page_at i.enclave i.tcs) ≡ true
own_broken j past p (Did (actions.Enter e t tf sf) answer) own i at = cc
own_broken j past p (Did (actions.Resume e t tf sf) answer) own i at = cc
own_broken j past p (Did actions.Exit answer) own i at = cc
own_broken j past p (Did (actions.Aex cause) answer) own i at = by_cause cause (stay past p) refl at
  where
    from : (for_page : Bool) (o : Option Stay) → stay past p ≡ o → interrupted_in o for_page ≡ Some i
        → names_tcs j p (page_at i.enclave i.tcs) ≡ true
    from for_page None is k = cc
    from for_page (Some s) is k =
        let same : record { enclave = s.seat.enclave; tcs = s.seat.tcs; for_page = for_page } ≡ i = cc in
        subst (λ (x : Interruption). names_tcs j p (page_at x.enclave x.tcs) ≡ true) same (own.seat s is)

    by_cause : (k : Cause) (o : Option Stay) → stay past p ≡ o → interrupted_by k o ≡ Some i
        → names_tcs j p (page_at i.enclave i.tcs) ≡ true
    by_cause causes.Fault o is k = from true o is k
    by_cause causes.Kick o is k = from false o is k
    by_cause causes.Timer o is k = cc
    by_cause causes.End o is k = cc
own_broken j past p _ own i at = own.broken i at

names_stay : (j : JobView) (past : List Entry) (c : Cpu) (ev : Event) → ScriptRule j past (entry_of (actors.Cpu c) ev) → NamesOwn j past c.0
    → NamesOwn j (entry_of (actors.Cpu c) ev ∷ past) c.0
names_stay j past c ev script own = record {
  seat = λ s at. own_seat j past c.0 ev own does s (subst (λ b. stay_after (move_by ev) b past (stay past c.0) ≡ Some s) (eqb-refl c.0) at);
  broken =
      λ i at. own_broken j past c.0 ev own i (subst
      (λ b. (if b then interruption_after ev (stay past c.0) (interruption past c.0) else interruption past c.0) ≡ Some i)
      (eqb-refl c.0) at);
}
  where
    does : (a : Action) (answer : Answer) → ev ≡ Did a answer → Own j c.0 a
    does a answer is =
        own_done j c.0 (cpu_due j past c.0) a answer (named_due j past c.0 own) (subst (IsNext (cpu_due j past c.0)) is script.next.1)

-- ---- entries of others

names_others : (j : JobView) (past : List Entry) (e : Entry) (p : ℕ) → is_by p e.actor ≡ false → NamesOwn j past p → NamesOwn j (e ∷ past) p
names_others j past e p other own = record {
  seat =
      λ s at. own.seat s (sym (other_stay (move_by e.event) past (stay past p)) ∙ subst
      (λ b. stay_after (move_by e.event) b past (stay past p) ≡ Some s) other at);
  broken =
      λ i at. own.broken i (subst
      (λ b. (if b then interruption_after e.event (stay past p) (interruption past p) else interruption past p) ≡ Some i) other at);
}

-- the page at stake is named by the script
tcs_own : (j : JobView) (past : List Entry) (p : ℕ) → NamesOwn j past p → (g : Page) → tcs_of j past p ≡ Some g → names_tcs j p g ≡ true
tcs_own j past p own g at = by_state (stay past p) (interruption past p) (next_op j past p) refl refl refl at
  where
    by_state : (s : Option Stay) (i : Option Interruption) (op : Option Op) → stay past p ≡ s → interruption past p ≡ i
        → next_op j past p ≡ op → tcs_by s i op ≡ Some g → names_tcs j p g ≡ true
    by_state (Some s) i op is broken next k =
        let same : page_at s.seat.enclave s.seat.tcs ≡ g = cc in subst (λ x. names_tcs j p x ≡ true) same (own.seat s is)
    by_state None (Some i) op is broken next k =
        let same : page_at i.enclave i.tcs ≡ g = cc in subst (λ x. names_tcs j p x ≡ true) same (own.broken i broken)
    by_state None None (Some (ops.Enter e t)) is broken next k =
        let same : page_at e t ≡ g =
        cc in subst (λ x. names_tcs j p x ≡ true) same (named_next j past p (ops.Enter e t) (page_at e t) next
        (same_page-refl (page_at e t)))
    by_state None None (Some (ops.Resume e t)) is broken next k =
        let same : page_at e t ≡ g =
        cc in subst (λ x. names_tcs j p x ≡ true) same (named_next j past p (ops.Resume e t) (page_at e t) next
        (same_page-refl (page_at e t)))
    by_state None None (Some _) is broken next k = cc
    by_state None None None is broken next k = cc

-- a page is not another's
apart_page : (j : JobView) (p q : ℕ) (g h : Page) → TcsAreApart j → names_tcs j p g ≡ true → names_tcs j q h ≡ true → (q == p) ≡ false
    → same_page h g ≡ false
apart_page j p q g h apart mine other differ = by_test (same_page h g) refl
  where
    by_test : (b : Bool) → same_page h g ≡ b → same_page h g ≡ false
    by_test true is =
        let same : q ≡ p = apart q p g (subst (λ x. names_tcs j q x ≡ true) (same_pages h g is) other) mine in
        absurd (false≢true (sym differ ∙ eq-eqb q p same))
    by_test false is = is

-- by the rule Age the reclaimer resumes nothing
no_resume : (j : JobView) (past : List Entry) (p : Pass) (e t : ℕ) (tf sf : Frame) (answer : Answer)
    → InPass past p (Did (actions.Resume e t tf sf) answer) → ⊥
no_resume j past (Between works) e t tf sf answer h = h
no_resume j past (Scan left taken) e t tf sf answer h = h
no_resume j past (Blocking todo taken) e t tf sf answer h = h
no_resume j past (Tries g rest form) e t tf sf answer h = h

ahead_no_resume : (j : JobView) (past : List Entry) (a : Ahead) (e t : ℕ) (tf sf : Frame) (answer : Answer)
    → IsAhead j past a (Did (actions.Resume e t tf sf) answer) → ⊥
ahead_no_resume j past GoesOn e t tf sf answer h = no_resume j past (pass j past) e t tf sf answer h.in_pass
ahead_no_resume j past (Looks g) e t tf sf answer h = h
ahead_no_resume j past (TriesNext g) e t tf sf answer h = h
ahead_no_resume j past (EndsNext g) e t tf sf answer h = h

-- .. nor does the builder
abbrev NoResume : Due → Type 0
NoResume (Makes (actions.Resume e t tf sf)) = ⊥
NoResume (Makes action) = Unit {0}
NoResume Stopped = Unit {0}
NoResume Finished = Unit {0}
NoResume (Waits why) = Unit {0}
NoResume _ = ⊥

step_no_resume : (step : BuildStep) (o : Option ℕ) → NoResume (makes_or waits.NoFrame (with_frame step o))
step_no_resume builds.Va (Some f) = tt
step_no_resume (builds.Create e b s) (Some f) = tt
step_no_resume (builds.Add e n k p i) (Some f) = tt
step_no_resume (builds.Extend e n c) (Some f) = tt
step_no_resume (builds.Init e x) (Some f) = tt
step_no_resume step None = tt

turn_no_resume : (j : JobView) (past : List Entry) (step : Option BuildStep) → NoResume (step_turn j past step)
turn_no_resume j past None = tt
turn_no_resume j past (Some builds.Va) = step_no_resume builds.Va (least_free j.epc (content past))
turn_no_resume j past (Some (builds.Create e b s)) = step_no_resume (builds.Create e b s) (least_free j.epc (content past))
turn_no_resume j past (Some (builds.Add e n k p i)) = step_no_resume (builds.Add e n k p i) (least_free j.epc (content past))
turn_no_resume j past (Some (builds.Extend e n c)) = step_no_resume (builds.Extend e n c) (frame_of past (page_at e n))
turn_no_resume j past (Some (builds.Init e x)) = tt

build_no_resume : (j : JobView) (past : List Entry) → NoResume (builder_due j past)
build_no_resume j past = by_spent (is_spent past)
  where
    by_spent : (b : Bool) → NoResume (if b then Stopped else step_turn j past (slice_get (build_of j) (built past)))
    by_spent true = tt
    by_spent false = turn_no_resume j past (slice_get (build_of j) (built past))

next_no_resume : (d : Due) (e t : ℕ) (tf sf : Frame) (answer : Answer) → NoResume d → IsNext d (Did (actions.Resume e t tf sf) answer) → ⊥
next_no_resume (Makes a) e t tf sf answer h n = let told : a ≡ actions.Resume e t tf sf = cc in subst (λ x. NoResume (Makes x)) told h
next_no_resume Stopped e t tf sf answer h n = n
next_no_resume Finished e t tf sf answer h n = n
next_no_resume (Waits why) e t tf sf answer h n = n
next_no_resume (Ends a) e t tf sf answer h n = h
next_no_resume (Reports page why) e t tf sf answer h n = h
next_no_resume (Fetches g fetch) e t tf sf answer h n = h
next_no_resume (LooksAt page held young) e t tf sf answer h n = h
next_no_resume (TriesOut g f) e t tf sf answer h n = h
next_no_resume (KicksAll cpus) e t tf sf answer h n = h

-- an entry of another actor leaves the count of the page at stake
counted : (j : JobView) (past : List Entry) (out : Outs) (e : Entry) (p : ℕ) → TcsAreApart j → ((q : ℕ) → NamesOwn j past q)
    → ScriptRule j past e → AgeRuleBy j past out e → is_by p e.actor ≡ false → (g : Page) → tcs_of j past p ≡ Some g
    → saved_frames (e ∷ past) g ≡ saved_frames past g
counted j past out e p apart own script age other g at = by_event e.actor e.event other script.next age
  where
    mine : names_tcs j p g ≡ true
    mine = tcs_own j past p (own p) g at

    by_left : (a : Actor) → is_by p a ≡ false → leaves_by a past g ≡ false
    by_left actors.Builder k = refl
    by_left actors.Reclaimer k = refl
    by_left (actors.Cpu c) k = by_stay (stay past c.0) refl
      where
        by_stay : (o : Option Stay) → stay past c.0 ≡ o → is_seated_at g o ≡ false
        by_stay None is = refl
        by_stay (Some s) is = apart_page j p c.0 g (page_at s.seat.enclave s.seat.tcs) apart mine ((own c.0).seat s is) k

    by_resume : (a : Actor) (n t : ℕ) (tf sf : Frame) (answer : Answer) → is_by p a ≡ false
        → IsActors j past a (Did (actions.Resume n t tf sf) answer) → AgeOf j past out a (Did (actions.Resume n t tf sf) answer)
        → same_page (page_at n t) g ≡ false
    by_resume actors.Builder n t tf sf answer k next ag =
        absurd (next_no_resume (builder_due j past) n t tf sf answer (build_no_resume j past) next)
    by_resume actors.Reclaimer n t tf sf answer k next ag = absurd (ahead_no_resume j past (ahead j past out) n t tf sf answer ag)
    by_resume (actors.Cpu c) n t tf sf answer k next ag =
        apart_page j p c.0 g (page_at n t) apart mine (own_done j c.0 (cpu_due j past c.0) (actions.Resume n t tf sf) answer
        (named_due j past c.0 (own c.0)) next.1) k

    by_event : (a : Actor) (ev : Event) → is_by p a ≡ false → IsActors j past a ev → AgeOf j past out a ev
        → saved_after ev (leaves_by a past g) g (saved_frames past g) ≡ saved_frames past g
    by_event a (Did (actions.Aex cause) answer) k next ag = rw (by_left a k) refl
    by_event a (Did (actions.Resume n t tf sf) answer) k next ag = rw (by_resume a n t tf sf answer k next ag) refl
    by_event a _ k next ag = refl

-- ---- everyone's entries

pub apart_stay : (j : JobView) (past : List Entry) (out : Outs) (e : Entry) → TcsAreApart j → IsSound past → ScriptRule j past e
    → AgeRuleBy j past out e → ((p : ℕ) → IsApart j past p) → (p : ℕ) → IsApart j (e ∷ past) p
apart_stay j past out e apart s script age before p = by_actor e.actor script age
  where
    others : (a : Actor) → ScriptRule j past (entry_of a e.event) → AgeRuleBy j past out (entry_of a e.event) → is_by p a ≡ false
        → IsApart j (entry_of a e.event ∷ past) p
    others a sc ag other = record {
      three =
          three_others j past (entry_of a e.event) p other
          (counted j past out (entry_of a e.event) p apart (λ q. (before q).own) sc ag other) (before p).three;
      own = names_others j past (entry_of a e.event) p other (before p).own;
    }

    by_cpu : (c : Cpu) (b : Bool) → (c.0 == p) ≡ b → ScriptRule j past (entry_of (actors.Cpu c) e.event)
        → AgeRuleBy j past out (entry_of (actors.Cpu c) e.event) → IsApart j (entry_of (actors.Cpu c) e.event ∷ past) p
    by_cpu c true is sc ag = subst (IsApart j (entry_of (actors.Cpu c) e.event ∷ past)) (eqb-true c.0 p is)
        (record { three = three_own j past c e.event s sc (before c.0).three; own = names_stay j past c e.event sc (before c.0).own })
    by_cpu c false is sc ag = others (actors.Cpu c) sc ag is

    by_actor : (a : Actor) → ScriptRule j past (entry_of a e.event) → AgeRuleBy j past out (entry_of a e.event)
        → IsApart j (entry_of a e.event ∷ past) p
    by_actor actors.Builder sc ag = others actors.Builder sc ag refl
    by_actor actors.Reclaimer sc ag = others actors.Reclaimer sc ag refl
    by_actor (actors.Cpu c) sc ag = by_cpu c (c.0 == p) refl sc ag

pub apart_first : (j : JobView) (p : ℕ) → IsApart j [] p
apart_first j p = record { three = three_first j p; own = record { seat = λ s at. cc; broken = λ i at. cc } }

-- in a history in which no two scripts name one TCS page each processor holds at most three pages
pub driven_apart : (k : Making) (j : JobView) (past : List Entry) → 1 ≤ k.first_version → TcsAreApart j → IsDriven k j past → (p : ℕ)
    → IsApart j past p
driven_apart k j [] positive apart d = apart_first j
driven_apart k j (e ∷ past) positive apart d =
    let before = driven_before k j e past d in
    apart_stay j past (outs j past) e apart (driven_sound k j past positive before).0 d.script.0 d.age.0
    (driven_apart k j past positive apart before)
