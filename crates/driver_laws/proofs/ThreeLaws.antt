-- What a processor holds is of the three pages that it needs at once, or a version array page that it brought back.
use Rattle.std.proofs.Common.{◌≡◌, ℕ, ◌+◌, ◌/◌, ◌≤◌, ◌<◌, ◌==◌, ◌&&◌, ◌||◌, not, nat_lt, inr, Bool, true, false, if◌then◌else◌, refl, sym}
use Rattle.std.proofs.Common.{◌∙◌, ap, subst, List, [], ◌∷◌, ◌++◌, Option, Some, None, is_some, length, arith}
use Rattle.std.proofs.lemmas.Bool.{false≢true, ltb-true, or_left, or_right}
use Rattle.sgx_types.proofs.Pages.{same_page-refl, same_pages}
use Rattle.sgx_rules.specs.declared.entries.AccessOp.{AccessOp}
use Rattle.sgx_rules.specs.declared.entries.Action.{Action}
use Rattle.sgx_rules.specs.declared.entries.Answer.{Answer}
use Rattle.sgx_rules.specs.declared.entries.BusWhy.{BusWhy}
use Rattle.sgx_rules.specs.declared.entries.Entry.{Entry}
use Rattle.sgx_rules.specs.declared.entries.Event.{Event}
use Rattle.sgx_rules.specs.declared.entries.Event.TheVariants.{Age, Bus, Did, Kick, Refused}
use Rattle.sgx_types.specs.declared.names.Cpu.{Cpu}
use Rattle.sgx_types.specs.declared.names.Frame.{Frame}
use Rattle.sgx_types.specs.declared.names.Page.{Page}
use Rattle.sgx_types.specs.declared.names.SlotAt.{SlotAt}
use Rattle.sgx_types.specs.declared.names.VaSlot.{VaSlot}
use Rattle.sgx_rules.specs.Flat.{at_offset}
use Rattle.sgx_types.specs.Pages.{is_own_page, is_va_page, page_at, same_page, secs_page, va_page}
use Rattle.sgx_rules.specs.Frames.{added, content, least_free, stands, vas_made}
use Rattle.sgx_rules.specs.Processors.{holds_number, Stay, stay, translations}
use Rattle.sgx_rules.specs.Table.{is_lawful_access}
use Rattle.job_grammar.specs.declared.jobs.Op.{Op}
use Rattle.job_grammar.specs.Jobs.{JobView, lines_at, tcs_line}
use Rattle.script_rules.specs.Script.{action_of, enter_with, is_interrupted, is_reply, is_reply_action, is_turned_away}
use Rattle.sgx_types.specs.Pages.{frame_at}
use Rattle.script_rules.specs.Script.{resume_with, saved_frames}
use Rattle.driver_rules.specs.Holds.{access_of_stay, brought_with, holds_by, is_among, pages_there, page_of_stay, those_here, up_to}
use Rattle.driver_rules.specs.Needs.{access_page, Interruption, interruption, last_save, listed, needs, needs_after, needs_of}
use Rattle.driver_rules.specs.Needs.{needs_to_enter, needs_to_resume, next_op, save_to_enter, save_to_resume}
use Rattle.driver_rules.specs.Places.{Absent, Away, frame_here, Here, is_here, Leaving, Loading, Place, place}
use Rattle.driver_rules.specs.Scripts.{ScriptRule}
use Rattle.driver_laws.specs.inner.Sound.{is_absent, IsSound}
use Rattle.driver_laws.specs.inner.Three.{AreAmong, HoldsThree, IsLaterArray, pages_by, three, three_by}
use Rattle.driver_rules.specs.declared.waits.Why.{Why}
use Rattle.driver_rules.specs.Dues.{Asks, Due, Ends, Fetches, Finished, IsNext, Makes, makes_or, Reports, Stopped, Waits, WaitsFor}
use Rattle.driver_rules.specs.Stops.{is_spent}
use Rattle.driver_rules.specs.Targets.{slot_here, target_by}
use Rattle.driver_rules.specs.Turns.{accesses_by, cpu_due, due_after, early_turn, enters, Fails, fetch, fetch_by, fetches, fills}
use Rattle.driver_rules.specs.Turns.{first_away, inside_turn, is_built, is_kicked, is_last, Last, last_of, Loads, op_turn, Other}
use Rattle.driver_rules.specs.Turns.{outside_turn, resumes, save_frame, stay_turn, turn_due, WasEnded, with_pages}
use Rattle.driver_rules.proofs.ReclaimLaws.{other_secs}
use Rattle.driver_laws.proofs.OwnLaws.{loaded_own}
use Rattle.driver_laws.proofs.PlaceLaws.{stands_there}
use Rattle.driver_laws.proofs.SoundLaws.{entry_of}
use Rattle.driver_laws.proofs.ThreeEntryLaws.{access_in, all_append, all_refl, among_held, AreHeld, away_among, Held, held_append, IsStill}
use Rattle.driver_laws.proofs.ThreeEntryLaws.{listed_in, more_among, none_among, none_held, or_true, own_end, own_fault, own_kick}
use Rattle.driver_laws.proofs.ThreeEntryLaws.{own_past, own_reply, own_resume, own_still, page_in_among, refused_still, three_held}
use Rattle.driver_laws.proofs.ThreeEntryLaws.{up_to_among}
use Rattle.sgx_rules.specs.declared.entries.AccessOp.TheVariants as accesses
use Rattle.sgx_rules.specs.declared.entries.Action.TheVariants as actions
use Rattle.sgx_types.specs.declared.names.Actor.TheVariants as actors
use Rattle.sgx_rules.specs.declared.entries.Cause.TheVariants as causes
use Rattle.sgx_rules.specs.declared.refusals.Refusal.TheVariants as refusals
use Rattle.job_grammar.specs.declared.jobs.Op.TheVariants as ops
use Rattle.driver_rules.specs.declared.waits.Why.TheVariants as waits

-- ---- what is due keeps it

-- whatever entry of the processor's is next
abbrev Good : JobView → List Entry → Cpu → Due → Type 0
Good j past c d = (ev : Event) → IsNext d ev → is_reply (is_interrupted past c.0) ev ≡ false → HoldsThree j (own_past past c ev) c.0

good_either : (j : JobView) (past : List Entry) (c : Cpu) (b : Bool) (x y : Due) → Good j past c x → Good j past c y
    → Good j past c (if b then x else y)
good_either j past c true x y h k = h
good_either j past c false x y h k = k

good_stopped : (j : JobView) (past : List Entry) (c : Cpu) → Good j past c Stopped
good_stopped j past c ev n k = absurd n

good_finished : (j : JobView) (past : List Entry) (c : Cpu) → Good j past c Finished
good_finished j past c ev n k = absurd n

good_waits : (j : JobView) (past : List Entry) (c : Cpu) (why : Why) → Good j past c (Waits why)
good_waits j past c why ev n k = absurd n

-- an instruction, done or refused
good_makes : (j : JobView) (past : List Entry) (c : Cpu) (action : Action) → HoldsThree j past c.0
    → ((answer : Answer) → is_reply_action (is_interrupted past c.0) action ≡ false
    → HoldsThree j (own_past past c (Did action answer)) c.0)
    → (is_reply_action (is_interrupted past c.0) action ≡ false → AreAmong (holds_by j past c.0 (Some action)) (three j past c.0))
    → Good j past c (Makes action)
good_makes j past c action h done new ev n k = by_event ev n k
  where
    by_event : (x : Event) → action_of x ≡ Some action → is_reply (is_interrupted past c.0) x ≡ false → HoldsThree j (own_past past c x) c.0
    by_event (Did a answer) same r =
        let told : a ≡ action = cc in
        subst (λ y. HoldsThree j (own_past past c (Did y answer)) c.0) (sym told)
        (done answer (ap (is_reply_action (is_interrupted past c.0)) (sym told) ∙ r))
    by_event (Refused a refusal) same r =
        let told : a ≡ action = cc in
        own_still j past c (Refused a refusal) (refused_still a refusal) h r
        (subst (λ y. AreHeld past (holds_by j past c.0 (Some y)) (three j past c.0)) (sym told)
        (among_held past (holds_by j past c.0 (Some action)) (three j past c.0)
        (new (ap (is_reply_action (is_interrupted past c.0)) (sym told) ∙ r))))
    by_event (Age page look) same r = cc
    by_event (Kick cpu) same r = cc
    by_event (Bus page why) same r = cc

-- one that is a reply
good_reply : (j : JobView) (past : List Entry) (c : Cpu) (action : Action) → HoldsThree j past c.0
    → is_reply_action (is_interrupted past c.0) action ≡ true → Good j past c (Makes action)
good_reply j past c action h reply =
    good_makes j past c action h (λ answer r. absurd (false≢true (sym r ∙ reply))) (λ r. absurd (false≢true (sym r ∙ reply)))

fill_still : (n : ℕ) (f : Frame) (answer : Answer) → IsStill (Did (actions.Fill n f) answer)
fill_still n f answer = record { moves = refl; breaks = λ s i. refl; interrupts = λ b. refl; counts = λ l g k. refl }

load_still : (f : Frame) (page : Page) (slot : SlotAt) (answer : Answer) → IsStill (Did (actions.EldStart f page slot) answer)
load_still f page slot answer = record { moves = refl; breaks = λ s i. refl; interrupts = λ b. refl; counts = λ l g k. refl }

eld_still : (f : Frame) (answer : Answer) → IsStill (Did (actions.Eld f) answer)
eld_still f answer = record { moves = refl; breaks = λ s i. refl; interrupts = λ b. refl; counts = λ l g k. refl }

-- ---- the first step for a page

needs_in : (j : JobView) (past : List Entry) (p : ℕ) (op : Op) (i : Option Interruption) → interruption past p ≡ i
    → next_op j past p ≡ Some op → AreAmong (needs j past p) (three_by j past None i (Some op))
needs_in j past p op None broken next =
    subst (λ pages. AreAmong pages (needs_of j past (Some op))) (sym same) (all_refl (needs_of j past (Some op)))
  where
    same : needs j past p ≡ needs_of j past (Some op)
    same = rw (broken, next) refl
needs_in j past p op (Some i) broken next =
    subst (λ pages. AreAmong pages (three_by j past None (Some i) (Some op))) (sym same) (by_page i.for_page)
  where
    same : needs j past p ≡ needs_to_resume j past i.enclave i.tcs ++ (if i.for_page then listed (access_page i.enclave (Some op)) else [])
    same = rw (broken, next) refl

    by_page : (b : Bool)
        → AreAmong (needs_to_resume j past i.enclave i.tcs ++ (if b then listed (access_page i.enclave (Some op)) else []))
        (pages_by j i.enclave i.tcs (saved_frames past (page_at i.enclave i.tcs)) op)
    by_page true = all_refl (pages_by j i.enclave i.tcs (saved_frames past (page_at i.enclave i.tcs)) op)
    by_page false =
        all_append (needs_to_resume j past i.enclave i.tcs) [] (pages_by j i.enclave i.tcs (saved_frames past (page_at i.enclave i.tcs)) op)
        (more_among (page_at i.enclave i.tcs) (listed (save_to_resume j past i.enclave i.tcs))
        (listed (save_to_resume j past i.enclave i.tcs) ++ listed (access_page i.enclave (Some op)))
        (listed_in (save_to_resume j past i.enclave i.tcs) (listed (access_page i.enclave (Some op)))))
        (none_among (pages_by j i.enclave i.tcs (saved_frames past (page_at i.enclave i.tcs)) op))

-- a version array page that is outside was made, and is not the first
later_array : (past : List Entry) (g : Page) (slot : VaSlot) → IsSound past → place past g ≡ Away slot → is_va_page g ≡ true
    → IsLaterArray past g
later_array past g slot s at va = record { va = va; later = by_first (g.number == 0) refl; made = made }
  where
    by_va : (b x : Bool) → b ≡ true → (if b then nat_lt g.number (vas_made past) else x) ≡ true → nat_lt g.number (vas_made past) ≡ true
    by_va true x h k = k
    by_va false x h k = absurd (false≢true h)

    made : g.number < vas_made past
    made =
        ltb-true g.number (vas_made past)
        (by_va (is_va_page g) _ va (s.made g ∙ ap (λ p. not (is_absent p)) at))

    by_first : (b : Bool) → (g.number == 0) ≡ b → (g.number == 0) ≡ false
    by_first false is = is
    by_first true is =
        let same : same_page g (va_page 0) ≡ true = ap (λ b. b && (g.number == 0)) va ∙ is in
        let some : 0 < vas_made past = let below = made in omega (arith, below) in
        let here : is_here (place past g) ≡ true =
        ap (λ (h : Page). is_here (place past h)) (same_pages g (va_page 0) same) ∙ s.arrays.first some in
        absurd (false≢true (sym (ap is_here at) ∙ here))

-- the page that is brought back first is the page itself, or none of TCS and REG
target_needed : (past : List Entry) (g : Page) (slot : VaSlot) (pages : List Page) → is_among pages g ≡ true
    → is_own_page (target_by past g (Away slot)) ≡ true → is_among pages (target_by past g (Away slot)) ≡ true
target_needed past g slot pages there =
    by_tests (is_own_page g) (is_here (place past (secs_page g.enclave))) (is_here (place past (va_page slot.va)))
  where
    by_tests : (a b c : Bool)
        → is_own_page (if a then (if b then (if c then g else va_page slot.va) else secs_page g.enclave) else g) ≡ true
        → is_among pages (if a then (if b then (if c then g else va_page slot.va) else secs_page g.enclave) else g) ≡ true
    by_tests false b c own = there
    by_tests true true true own = there
    by_tests true true false own = absurd (false≢true own)
    by_tests true false c own = absurd (false≢true (sym (other_secs g.enclave) ∙ own))

-- pages that are needed before another one are needed
here_among : (past : List Entry) (pages : List Page) → AreAmong (those_here past pages) pages
here_among past [] g h = h
here_among past (x ∷ xs) g h = by_test (is_here (place past x)) (here_among past xs) g h
  where
    by_test : (b : Bool) → AreAmong (those_here past xs) xs → AreAmong (if b then x ∷ those_here past xs else []) (x ∷ xs)
    by_test true rest = more_among x (those_here past xs) xs rest
    by_test false rest = none_among (x ∷ xs)

-- a page that is brought back, with those before it
brought_held : (past : List Entry) (t : Page) (slot : VaSlot) (pages others : List Page) → IsSound past → place past t ≡ Away slot
    → (is_own_page t ≡ true → is_among pages t ≡ true) → AreAmong pages others
    → AreHeld past (brought_with past t pages) others
brought_held past t slot pages others s at needed among = by_own (is_own_page t) refl
  where
    array : (b : Bool) → is_va_page t ≡ b → AreHeld past (if b then t ∷ [] else []) others
    array false is g k = none_held past others g k
    array true is g k =
        or_true (same_page t g) false (Held past others g) k
        (λ m. inr (subst (IsLaterArray past) (same_pages t g m) (later_array past t slot s at is))) (λ m. absurd (false≢true m))

    by_own : (b : Bool) → is_own_page t ≡ b
        → AreHeld past (if b then up_to t pages else those_here past pages ++ (if is_va_page t then t ∷ [] else [])) others
    by_own true own = among_held past (up_to t pages) others (λ g k. among g (up_to_among t pages (needed own) g k))
    by_own false other =
        held_append past (those_here past pages) (if is_va_page t then t ∷ [] else []) others
        (among_held past (those_here past pages) others (λ g k. among g (here_among past pages g k))) (array (is_va_page t) refl)

-- the load of a page
good_asks : (j : JobView) (past : List Entry) (c : Cpu) (g t : Page) (slot : Option SlotAt) (free : Option ℕ) → HoldsThree j past c.0
    → AreHeld past (brought_with past t (needs j past c.0)) (three j past c.0) → Good j past c (Fetches g (Asks t slot free))
good_asks j past c g t slot free h new (Bus page reason) n k = absurd (false≢true (sym k))
good_asks j past c g t slot (Some f) h new (Did a answer) n k =
    let l = loaded_own t slot f a n in
    subst (λ y. HoldsThree j (own_past past c (Did y answer)) c.0) (sym l.2)
    (own_still j past c (Did (actions.EldStart l.0 t l.1) answer) (load_still l.0 t l.1 answer) h refl new)
good_asks j past c g t slot (Some f) h new (Refused a refusals.SlotEmpty) n k =
    let l = loaded_own t slot f a n in
    subst (λ y. HoldsThree j (own_past past c (Refused y refusals.SlotEmpty)) c.0) (sym l.2)
    (own_still j past c (Refused (actions.EldStart l.0 t l.1) refusals.SlotEmpty)
    (refused_still (actions.EldStart l.0 t l.1) refusals.SlotEmpty) h refl new)
good_asks j past c g t slot free h new _ n k = absurd n

good_waiting : (j : JobView) (past : List Entry) (c : Cpu) (g t : Page) → Good j past c (Fetches g (WaitsFor t))
good_waiting j past c g t (Bus page reason) n k = absurd (false≢true (sym k))
good_waiting j past c g t _ n k = absurd n

good_fetches : (j : JobView) (past : List Entry) (c : Cpu) (g t : Page) → IsSound past → HoldsThree j past c.0
    → AreAmong (needs j past c.0) (three j past c.0) → (is_own_page t ≡ true → is_among (needs j past c.0) t ≡ true)
    → Good j past c (Fetches g (fetch j.epc past t))
good_fetches j past c g t s h needed there = by_place (place past t) refl
  where
    by_place : (at : Place) → place past t ≡ at → Good j past c (Fetches g (fetch_by j.epc past t at))
    by_place (Away slot) is =
        good_asks j past c g t (slot_here past slot) (least_free j.epc (content past)) h
        (brought_held past t slot (needs j past c.0) (three j past c.0) s is there needed)
    by_place Absent is = good_waiting j past c g t
    by_place (Here f) is = good_waiting j past c g t
    by_place (Leaving f) is = good_waiting j past c g t
    by_place (Loading f slot) is = good_waiting j past c g t

good_fetch : (j : JobView) (past : List Entry) (c : Cpu) (g : Page) (op : Op) (at : Place) → IsSound past → HoldsThree j past c.0
    → stay past c.0 ≡ None → next_op j past c.0 ≡ Some op → is_among (needs j past c.0) g ≡ true
    → Good j past c (fetches j.epc past g at)
good_fetch j past c g op (Away slot) s h outside next there =
    good_fetches j past c g (target_by past g (Away slot)) s h needed (target_needed past g slot (needs j past c.0) there)
  where
    now : three j past c.0 ≡ three_by j past None (interruption past c.0) (Some op)
    now = rw (outside, next) refl

    needed : AreAmong (needs j past c.0) (three j past c.0)
    needed = subst (AreAmong (needs j past c.0)) (sym now) (needs_in j past c.0 op (interruption past c.0) refl next)
good_fetch j past c g op Absent s h outside next there = good_waits j past c (waits.Busy g)
good_fetch j past c g op (Here f) s h outside next there = good_waits j past c (waits.Busy g)
good_fetch j past c g op (Leaving f) s h outside next there = good_waits j past c (waits.Busy g)
good_fetch j past c g op (Loading f slot) s h outside next there = good_waits j past c (waits.Busy g)

good_with : (j : JobView) (past : List Entry) (c : Cpu) (pages : List Page) (op : Op) (d : Due) → IsSound past → HoldsThree j past c.0
    → stay past c.0 ≡ None → next_op j past c.0 ≡ Some op → needs j past c.0 ≡ pages → Good j past c d
    → Good j past c (with_pages j past (first_away past pages) d)
good_with j past c pages op d s h outside next same good = by_away (first_away past pages) refl
  where
    by_away : (o : Option Page) → first_away past pages ≡ o → Good j past c (with_pages j past o d)
    by_away None is = good
    by_away (Some g) is =
        good_fetch j past c g op (place past g) s h outside next (subst (λ x. is_among x g ≡ true) (sym same) (away_among past pages g is))

-- ---- entries and resumptions

good_enter : (j : JobView) (past : List Entry) (c : Cpu) (why : Why) (e t : ℕ) (tf sf : Option ℕ) → HoldsThree j past c.0
    → Good j past c (makes_or why (enter_with e t tf sf))
good_enter j past c why e t (Some tf) (Some sf) h = good_reply j past c (actions.Enter e t (frame_at tf) (frame_at sf)) h refl
good_enter j past c why e t (Some tf) None h = good_waits j past c why
good_enter j past c why e t None sf h = good_waits j past c why

here_holds : (past : List Entry) (g : Page) (f : ℕ) → IsSound past → frame_here (place past g) ≡ Some f → stands (content past f) g ≡ true
here_holds past g f s here = s.places.frames g f ∙ stands_there (place past g) f here

good_resume : (j : JobView) (past : List Entry) (c : Cpu) (why : Why) (i : Interruption) (op : Op) (tf sf : Option ℕ)
    → HoldsThree j past c.0 → stay past c.0 ≡ None → interruption past c.0 ≡ Some i → next_op j past c.0 ≡ Some op
    → ((f : ℕ) → sf ≡ Some f → AreAmong (pages_there (content past f)) (three j past c.0))
    → Good j past c (makes_or why (resume_with i.enclave i.tcs tf sf))
good_resume j past c why i op (Some tf) (Some sf) h outside broken next used =
    good_makes j past c (actions.Resume i.enclave i.tcs (frame_at tf) (frame_at sf)) h
    (λ answer r. own_resume j past c i (frame_at tf) (frame_at sf) answer op h outside broken next (used sf refl)) (λ r. new)
  where
    now : three j past c.0 ≡ pages_by j i.enclave i.tcs (saved_frames past (page_at i.enclave i.tcs)) op
    now = rw (outside, broken, next) refl

    tcs_in : is_among (three j past c.0) (page_at i.enclave i.tcs) ≡ true
    tcs_in =
        subst (λ pages. is_among pages (page_at i.enclave i.tcs) ≡ true) (sym now)
        (or_left (same_page (page_at i.enclave i.tcs) (page_at i.enclave i.tcs)) _ (same_page-refl (page_at i.enclave i.tcs)))

    new : AreAmong (page_at i.enclave i.tcs ∷ pages_there (content past sf)) (three j past c.0)
    new g among =
        or_true (same_page (page_at i.enclave i.tcs) g) (is_among (pages_there (content past sf)) g)
        (is_among (three j past c.0) g ≡ true) among
        (λ k. subst (λ y. is_among (three j past c.0) y ≡ true) (same_pages (page_at i.enclave i.tcs) g k) tcs_in) (used sf refl g)
good_resume j past c why i op (Some tf) None h outside broken next used = good_waits j past c why
good_resume j past c why i op None sf h outside broken next used = good_waits j past c why

-- the frame of the state save page holds one of the three
save_used : (j : JobView) (past : List Entry) (c : Cpu) (i : Interruption) (op : Op) → IsSound past → stay past c.0 ≡ None
    → interruption past c.0 ≡ Some i → next_op j past c.0 ≡ Some op
    → (f : ℕ) → save_frame past (page_at i.enclave i.tcs) (save_to_resume j past i.enclave i.tcs) ≡ Some f
    → AreAmong (pages_there (content past f)) (three j past c.0)
save_used j past c i op s outside broken next f at = by_save (save_to_resume j past i.enclave i.tcs) refl at
  where
    now : three j past c.0 ≡ pages_by j i.enclave i.tcs (saved_frames past (page_at i.enclave i.tcs)) op
    now = rw (outside, broken, next) refl

    in_three : (g : Page) → is_among (pages_by j i.enclave i.tcs (saved_frames past (page_at i.enclave i.tcs)) op) g ≡ true
        → is_among (three j past c.0) g ≡ true
    in_three g k = subst (λ pages. is_among pages g ≡ true) (sym now) k

    by_save : (o : Option Page) → save_to_resume j past i.enclave i.tcs ≡ o → save_frame past (page_at i.enclave i.tcs) o ≡ Some f
        → AreAmong (pages_there (content past f)) (three j past c.0)
    by_save None is k =
        page_in_among (content past f) (page_at i.enclave i.tcs) (three j past c.0) (here_holds past (page_at i.enclave i.tcs) f s k)
        (in_three (page_at i.enclave i.tcs) (or_left (same_page (page_at i.enclave i.tcs) (page_at i.enclave i.tcs)) _
        (same_page-refl (page_at i.enclave i.tcs))))
    by_save (Some g) is k = page_in_among (content past f) g (three j past c.0) (here_holds past g f s k)
        (in_three g (or_right (same_page (page_at i.enclave i.tcs) g) _
        (listed_in (save_to_resume j past i.enclave i.tcs) (listed (access_page i.enclave (Some op))) g
        (subst (λ o. is_among (listed o) g ≡ true) (sym is) (or_left (same_page g g) false (same_page-refl g))))))

-- ---- operations

none_inside : (s : Option Stay) → is_some s ≡ false → s ≡ None
none_inside None h = refl
none_inside (Some s) h = cc

neither_one : (a b : Bool) → (a || b) ≡ false → a ≡ false
neither_one true b h = cc
neither_one false b h = refl

good_resumes_op : (j : JobView) (past : List Entry) (c : Cpu) (why : Why) (e t : ℕ) (tf sf : Option ℕ) → HoldsThree j past c.0
    → interruption past c.0 ≡ None → Good j past c (makes_or why (resume_with e t tf sf))
good_resumes_op j past c why e t (Some tf) (Some sf) h broken =
    good_reply j past c (actions.Resume e t (frame_at tf) (frame_at sf)) h (ap not (h.interrupted ∙ ap is_some broken))
good_resumes_op j past c why e t (Some tf) None h broken = good_waits j past c why
good_resumes_op j past c why e t None sf h broken = good_waits j past c why

-- a fill, or an exit for the page
good_fills : (j : JobView) (past : List Entry) (c : Cpu) (s : Stay) (op : Op) (off : ℕ) (o : Option ℕ) → HoldsThree j past c.0
    → stay past c.0 ≡ Some s → next_op j past c.0 ≡ Some op
    → access_page s.seat.enclave (Some op) ≡ Some (at_offset s.seat.enclave off) → Good j past c (fills (off / 4096) o)
good_fills j past c s op off None h inside next page =
    good_makes j past c (actions.Aex causes.Fault) h (λ answer r. own_fault j past c answer s h inside) (λ r. fault_new)
  where
    fault_new : AreAmong (access_of_stay j past c.0 (stay past c.0)) (three j past c.0)
    fault_new =
        subst (λ x. AreAmong (access_of_stay j past c.0 x) (three_by j past x (interruption past c.0) (next_op j past c.0))) (sym inside)
        (access_in j past s (interruption past c.0) (next_op j past c.0))
good_fills j past c s op off (Some f) h inside next page = good_makes j past c (actions.Fill (off / 4096) (frame_at f)) h
    (λ answer r. own_still j past c (Did (actions.Fill (off / 4096) (frame_at f)) answer)
    (fill_still (off / 4096) (frame_at f) answer) h refl
    (among_held past (page_of_stay (stay past c.0) (off / 4096)) (three j past c.0) new)) (λ r. new)
  where
    listed_page : AreAmong (listed (Some (at_offset s.seat.enclave off))) (three_by j past (Some s) (interruption past c.0) (Some op))
    listed_page =
        subst (λ o. AreAmong (listed o) (three_by j past (Some s) (interruption past c.0) (Some op))) page
        (access_in j past s (interruption past c.0) (Some op))

    now : three j past c.0 ≡ three_by j past (Some s) (interruption past c.0) (Some op)
    now = rw (inside, next) refl

    filled : page_of_stay (stay past c.0) (off / 4096) ≡ listed (Some (at_offset s.seat.enclave off))
    filled = rw inside refl

    new : AreAmong (page_of_stay (stay past c.0) (off / 4096)) (three j past c.0)
    new g k = subst (λ pages. is_among pages g ≡ true) (sym now) (listed_page g (subst (λ pages. is_among pages g ≡ true) filled k))

good_access : (j : JobView) (past : List Entry) (c : Cpu) (o : Option Stay) (kind : AccessOp) (op : Op) (off : ℕ) (access : Action)
    → HoldsThree j past c.0 → stay past c.0 ≡ o → next_op j past c.0 ≡ Some op
    → ((e : ℕ) → access_page e (Some op) ≡ Some (at_offset e off)) → ((b : Bool) → is_reply_action b access ≡ true)
    → Good j past c (accesses_by past c.0 o kind off access)
good_access j past c None kind op off access h at next page reply = good_reply j past c access h (reply (is_interrupted past c.0))
good_access j past c (Some s) kind op off access h at next page reply =
    good_either j past c (not (is_lawful_access (added past (at_offset s.seat.enclave off)) kind)) (Makes (actions.Pf kind off))
    (if holds_number (translations past c.0) (off / 4096) then Makes access else fills (off / 4096)
    (frame_here (place past (at_offset s.seat.enclave off))))
    (good_reply j past c (actions.Pf kind off) h refl)
    (good_either j past c (holds_number (translations past c.0) (off / 4096)) (Makes access)
    (fills (off / 4096) (frame_here (place past (at_offset s.seat.enclave off))))
    (good_reply j past c access h (reply (is_interrupted past c.0)))
    (good_fills j past c s op off (frame_here (place past (at_offset s.seat.enclave off))) h at next (page s.seat.enclave)))

good_op : (j : JobView) (past : List Entry) (c : Cpu) (op : Op) → IsSound past → HoldsThree j past c.0 → next_op j past c.0 ≡ Some op
    → interruption past c.0 ≡ None → Good j past c (op_turn j past c.0 op)
good_op j past c (ops.Enter e t) s h next broken = by_mode (is_turned_away past c.0 e) refl
  where
    by_mode : (b : Bool) → is_turned_away past c.0 e ≡ b
        → Good j past c (if b then Makes (actions.Enter e t (frame_at 0) (frame_at 0)) else enters j past e t)
    by_mode true is = good_reply j past c (actions.Enter e t (frame_at 0) (frame_at 0)) h refl
    by_mode false is =
        let outside = none_inside (stay past c.0) (neither_one (is_some (stay past c.0)) _ is) in
        good_with j past c (needs_to_enter j past e t) (ops.Enter e t)
        (makes_or (waits.Busy (page_at e t)) (enter_with e t (frame_here (place past (page_at e t)))
        (save_frame past (page_at e t) (save_to_enter j past e t)))) s h outside next (rw (broken, next) refl)
        (good_enter j past c (waits.Busy (page_at e t)) e t (frame_here (place past (page_at e t)))
        (save_frame past (page_at e t) (save_to_enter j past e t)) h)
good_op j past c (ops.Resume e t) s h next broken = by_mode (is_turned_away past c.0 e) refl
  where
    reply : is_reply_action (is_interrupted past c.0) (actions.Resume e t (frame_at 0) (frame_at 0)) ≡ true
    reply = ap not (h.interrupted ∙ ap is_some broken)

    by_mode : (b : Bool) → is_turned_away past c.0 e ≡ b
        → Good j past c (if b then Makes (actions.Resume e t (frame_at 0) (frame_at 0)) else resumes j past e t
        (needs_to_resume j past e t))
    by_mode true is = good_reply j past c (actions.Resume e t (frame_at 0) (frame_at 0)) h reply
    by_mode false is =
        let outside = none_inside (stay past c.0) (neither_one (is_some (stay past c.0)) _ is) in
        good_with j past c (needs_to_resume j past e t) (ops.Resume e t)
        (makes_or (waits.Busy (page_at e t)) (resume_with e t (frame_here (place past (page_at e t)))
        (save_frame past (page_at e t) (save_to_resume j past e t)))) s h outside next (rw (broken, next) refl)
        (good_resumes_op j past c (waits.Busy (page_at e t)) e t (frame_here (place past (page_at e t)))
        (save_frame past (page_at e t) (save_to_resume j past e t)) h broken)
good_op j past c ops.Exit s h next broken = good_reply j past c actions.Exit h refl
good_op j past c ops.Timer s h next broken = good_reply j past c (actions.Aex causes.Timer) h refl
good_op j past c (ops.Load off) s h next broken =
    good_access j past c (stay past c.0) accesses.Load (ops.Load off) off (actions.Load off) h refl next (λ e. refl) (λ b. refl)
good_op j past c (ops.Store off v) s h next broken =
    good_access j past c (stay past c.0) accesses.Store (ops.Store off v) off (actions.Store off v) h refl next (λ e. refl) (λ b. refl)
good_op j past c (ops.Xadd off v) s h next broken =
    good_access j past c (stay past c.0) accesses.Xadd (ops.Xadd off v) off (actions.Xadd off v) h refl next (λ e. refl) (λ b. refl)
good_op j past c (ops.Set v) s h next broken = good_reply j past c (actions.Set v) h refl
good_op j past c (ops.Plus v) s h next broken = good_reply j past c (actions.Plus v) h refl
good_op j past c (ops.OutLoad e off) s h next broken = good_reply j past c (actions.OutLoad e off) h refl
good_op j past c (ops.OutStore e off v) s h next broken = good_reply j past c (actions.OutStore e off v) h refl

-- ---- turns

good_outside : (j : JobView) (past : List Entry) (c : Cpu) (i : Option Interruption) (op : Option Op) → IsSound past → HoldsThree j past c.0
    → stay past c.0 ≡ None → interruption past c.0 ≡ i → next_op j past c.0 ≡ op
    → Good j past c (outside_turn j past c.0 i op)
good_outside j past c i None s h outside broken next = good_finished j past c
good_outside j past c None (Some op) s h outside broken next = good_op j past c op s h next broken
good_outside j past c (Some i) (Some op) s h outside broken next =
    good_with j past c (needs_after j past c.0 i) op (makes_or (waits.Busy (page_at i.enclave i.tcs))
    (resume_with i.enclave i.tcs (frame_here (place past (page_at i.enclave i.tcs)))
    (save_frame past (page_at i.enclave i.tcs) (save_to_resume j past i.enclave i.tcs)))) s h outside next (rw broken refl)
    (good_resume j past c (waits.Busy (page_at i.enclave i.tcs)) i op (frame_here (place past (page_at i.enclave i.tcs)))
    (save_frame past (page_at i.enclave i.tcs) (save_to_resume j past i.enclave i.tcs)) h outside broken next
    (save_used j past c i op s outside broken next))

good_inside : (j : JobView) (past : List Entry) (c : Cpu) (s : Stay) (is_kicked : Bool) (op : Option Op) → IsSound past
    → HoldsThree j past c.0
    → stay past c.0 ≡ Some s → next_op j past c.0 ≡ op → Good j past c (inside_turn j past c.0 is_kicked op)
good_inside j past c s true op sound h inside next =
    good_makes j past c (actions.Aex causes.Kick) h (λ answer r. own_kick j past c answer s h inside) (λ r. none_among (three j past c.0))
good_inside j past c s false None sound h inside next =
    good_makes j past c (actions.Aex causes.End) h (λ answer r. own_end j past c answer h next) (λ r. none_among (three j past c.0))
good_inside j past c s false (Some op) sound h inside next = good_op j past c op sound h next (h.apart (ap is_some inside))

good_stay : (j : JobView) (past : List Entry) (c : Cpu) (o : Option Stay) → IsSound past → HoldsThree j past c.0 → stay past c.0 ≡ o
    → Good j past c (stay_turn j past c.0 o)
good_stay j past c None s h at = good_outside j past c (interruption past c.0) (next_op j past c.0) s h at refl refl
good_stay j past c (Some t) s h at = good_inside j past c t (is_kicked past c.0) (next_op j past c.0) s h at refl

good_ends : (j : JobView) (past : List Entry) (c : Cpu) (f : ℕ) → HoldsThree j past c.0 → Good j past c (Ends (actions.Eld (frame_at f)))
good_ends j past c f h ev n k = good_makes j past c (actions.Eld (frame_at f)) h
    (λ answer r. own_still j past c (Did (actions.Eld (frame_at f)) answer) (eld_still (frame_at f) answer) h r
    (none_held past (three j past c.0))) (λ r. none_among (three j past c.0)) ev n k

good_reports : (j : JobView) (past : List Entry) (c : Cpu) (page : Page) (why : BusWhy) → Good j past c (Reports page why)
good_reports j past c page why ev n k = absurd (false≢true (sym k ∙ ap (is_reply (is_interrupted past c.0)) n))

good_after : (j : JobView) (past : List Entry) (c : Cpu) (l : Last) (b : Bool) (d : Due) → HoldsThree j past c.0 → Good j past c d
    → Good j past c (due_after l b d)
good_after j past c (Loads f page) b d h good = good_ends j past c f h
good_after j past c (Fails page why) true d h good = good_reports j past c page why
good_after j past c (Fails page why) false d h good = good_finished j past c
good_after j past c WasEnded b d h good = good_finished j past c
good_after j past c Other b d h good = good

good_early : (j : JobView) (past : List Entry) (c : Cpu) (o : Option Stay) (op : Option Op) → Good j past c (early_turn o op)
good_early j past c None None = good_finished j past c
good_early j past c None (Some op) = good_waits j past c waits.Building
good_early j past c (Some s) op = good_waits j past c waits.Building

good_due : (j : JobView) (past : List Entry) (c : Cpu) → IsSound past → HoldsThree j past c.0 → Good j past c (cpu_due j past c.0)
good_due j past c s h =
    good_either j past c (is_spent past) Stopped (due_after (last_of past c.0) (is_last past c.0) (turn_due j past c.0))
    (good_stopped j past c)
    (good_after j past c (last_of past c.0) (is_last past c.0) (turn_due j past c.0) h
    (good_either j past c (is_built j past) (stay_turn j past c.0 (stay past c.0)) (early_turn (stay past c.0) (next_op j past c.0))
    (good_stay j past c (stay past c.0) s h refl) (good_early j past c (stay past c.0) (next_op j past c.0))))

-- an entry of its own that is due keeps what it holds among the three
pub three_own : (j : JobView) (past : List Entry) (c : Cpu) (ev : Event) → IsSound past → ScriptRule j past (entry_of (actors.Cpu c) ev)
    → HoldsThree j past c.0 → HoldsThree j (own_past past c ev) c.0
three_own j past c ev s script h = by_reply (is_reply (is_interrupted past c.0) ev) refl
  where
    by_reply : (b : Bool) → is_reply (is_interrupted past c.0) ev ≡ b → HoldsThree j (own_past past c ev) c.0
    by_reply true k = own_reply j past c ev h k
    by_reply false k = good_due j past c s h ev script.next.1 k

-- they are three at most
pub three_most : (j : JobView) (past : List Entry) (p : ℕ) → length (three j past p) ≤ 3
three_most j past p = by_state (stay past p) (interruption past p) (next_op j past p)
  where
    by_two : (x : Page) (a b : Option Page) → length (x ∷ listed a ++ listed b) ≤ 3
    by_two x None None = omega arith
    by_two x None (Some b) = omega arith
    by_two x (Some a) None = omega arith
    by_two x (Some a) (Some b) = omega arith

    by_one : (x : Page) (a : Option Page) → length (x ∷ listed a) ≤ 3
    by_one x None = omega arith
    by_one x (Some a) = omega arith

    by_state : (s : Option Stay) (i : Option Interruption) (op : Option Op) → length (three_by j past s i op) ≤ 3
    by_state s i None = omega arith
    by_state (Some s) i (Some op) =
        by_two (page_at s.seat.enclave s.seat.tcs) (last_save s.seat.enclave (saved_frames past (page_at s.seat.enclave s.seat.tcs) + 1)
        (tcs_line (lines_at j.enclaves s.seat.enclave) s.seat.tcs)) (access_page s.seat.enclave (Some op))
    by_state None (Some i) (Some op) =
        by_two (page_at i.enclave i.tcs) (last_save i.enclave (saved_frames past (page_at i.enclave i.tcs))
        (tcs_line (lines_at j.enclaves i.enclave) i.tcs)) (access_page i.enclave (Some op))
    by_state None None (Some (ops.Enter e t)) = by_one (page_at e t) (save_to_enter j past e t)
    by_state None None (Some (ops.Resume e t)) = by_one (page_at e t) (save_to_resume j past e t)
    by_state None None (Some _) = omega arith

-- before the first entry
pub three_first : (j : JobView) (p : ℕ) → HoldsThree j [] p
three_first j p = three_held j [] p (none_held [] (three j [] p)) refl (λ k. refl)
