-- What is due to the reclaimer, and the rules Age and Kick: an entry that keeps them is what is due, unless that is to wait; and one that
-- is due and is not refused keeps them.
use Rattle.std.proofs.Common.{◌≡◌, ℕ, ◌==◌, ◌&&◌, not, Bool, true, false, if◌then◌else◌, refl, sym, ◌∙◌, ap, subst, ◌⊎◌, inl, inr}
use Rattle.std.proofs.Common.{List, [], ◌∷◌, Option, Some, None, length}
use Rattle.sgx_rules.specs.declared.entries.Action.{Action}
use Rattle.sgx_rules.specs.declared.entries.Answer.{Answer}
use Rattle.sgx_rules.specs.declared.entries.Answer.TheVariants.{Moved}
use Rattle.sgx_rules.specs.declared.entries.Entry.{Entry}
use Rattle.sgx_rules.specs.declared.entries.Event.{Event}
use Rattle.sgx_rules.specs.declared.entries.Event.TheVariants.{Age, Bus, Did, Kick, Refused}
use Rattle.sgx_rules.specs.declared.entries.Look.{Look}
use Rattle.sgx_types.specs.declared.names.Cpu.{Cpu}
use Rattle.sgx_types.specs.declared.names.Frame.{Frame}
use Rattle.sgx_types.specs.declared.names.Page.{Page}
use Rattle.sgx_types.specs.declared.names.SlotAt.{SlotAt}
use Rattle.sgx_types.specs.Pages.{is_own_page, is_secs_page, secs_page, va_page}
use Rattle.sgx_rules.specs.Frames.{vas_made}
use Rattle.job_grammar.specs.Jobs.{JobView}
use Rattle.script_rules.specs.Script.{action_of}
use Rattle.sgx_types.specs.Pages.{frame_at}
use Rattle.driver_rules.specs.declared.waits.Why.{Why}
use Rattle.driver_rules.specs.Ages.{AgeRuleBy, ahead_by, FormOf, FormUnless, head_of, InForm, InPass, IsAhead, IsEndAhead, IsInTries}
use Rattle.driver_rules.specs.Ages.{IsKickOrTry, IsLastTry, IsLookAhead, IsLookAt, IsTry, IsTryAhead, KickRule, LookOf}
use Rattle.driver_rules.specs.Dues.{Due, Ends, is_look, IsKickOf, IsNext, KicksAll, LooksAt, Makes, TriesOut, Waits}
use Rattle.driver_rules.specs.Holds.{is_held}
use Rattle.driver_rules.specs.Passes.{Aside, aside, Between, Blocking, First, Form, is_aside, IsGoing, IsToGo, keepers, Kicks}
use Rattle.driver_rules.specs.Passes.{NoneAside, Pass, pass, Scan, Sealing, Second, Third, ToKick, ToTrack, Tries}
use Rattle.driver_rules.specs.Places.{Absent, active, Away, frame_leaving, Here, is_young, Leaving, Loading, Place, place}
use Rattle.driver_rules.specs.inner.Reclaims.{ahead_gives, are_held, form_due, going_due, in_frame, is_refused, leaving_due, look_at}
use Rattle.driver_rules.specs.inner.Reclaims.{look_due, pass_due, third_due, tries_out}
use Rattle.driver_rules.specs.Spares.{array_at, due_behind, due_by, due_with, is_alone, is_spare, least_from, Outs, spare}
use Rattle.driver_rules.specs.Stops.{last_event}
use Rattle.sgx_rules.specs.declared.entries.Action.TheVariants as actions
use Rattle.sgx_types.specs.declared.names.Actor.TheVariants as actors
use Rattle.sgx_rules.specs.declared.entries.Look.TheVariants as looks
use Rattle.sgx_rules.specs.declared.refusals.Refusal.TheVariants as why
use Rattle.driver_rules.specs.declared.waits.Why.TheVariants as waits

-- ---- an entry that keeps the rules is what is due

abbrev pub IsWait : Due → Type 0
IsWait due = (reason : Why) × (due ≡ Waits reason)

abbrev pub Allowed : Due → Event → Type 0
Allowed due ev = IsNext due ev ⊎ IsWait due

look_next : (j : JobView) (past : List Entry) (o : Option Page) (page : Page) (look : Look) → o ≡ Some page
    → is_look (is_held j past page) (is_young past page) look ≡ true → IsNext (look_at j past o) (Age page look)
look_next j past None page look is told = cc
look_next j past (Some g) page look is told =
    let same : g ≡ page = cc in
    (sym same, subst (λ x. is_look (is_held j past x) (is_young past x) look ≡ true) (sym same) told)

leaving_next : (past : List Entry) (g : Page) (f : ℕ) (to : ℕ → Due) (ev : Event) → place past g ≡ Leaving f → IsNext (to f) ev
    → IsNext (leaving_due past g to) ev
leaving_next past g f to ev at next = subst (λ p. IsNext (in_frame g (frame_leaving p) to) ev) (sym at) next

try_next : (past : List Entry) (g : Page) (ev : Event) → IsInTries past g ev → IsTry ev → IsNext (tries_out past g) ev
try_next past g (Did (actions.EwbStart f slot) answer) at kick =
    leaving_next past g f.0 (TriesOut g) (Did (actions.EwbStart f slot) answer) at refl
try_next past g (Refused (actions.EwbStart f slot) why.VersionSpent) at kick =
    leaving_next past g f.0 (TriesOut g) (Refused (actions.EwbStart f slot) why.VersionSpent) at refl
try_next past g (Refused (actions.EwbStart f slot) (why.NotTracked epoch older)) at kick =
    leaving_next past g f.0 (TriesOut g) (Refused (actions.EwbStart f slot) (why.NotTracked epoch older)) at refl
try_next past g (Refused (actions.EwbStart f slot) (why.SlotOccupied version)) at kick =
    leaving_next past g f.0 (TriesOut g) (Refused (actions.EwbStart f slot) (why.SlotOccupied version)) at refl
try_next past g _ at kick = absurd kick

last_next : (past : List Entry) (g : Page) (ev : Event) → IsInTries past g ev → IsLastTry ev → IsNext (tries_out past g) ev
last_next past g (Did (actions.EwbStart f slot) answer) at kick =
    leaving_next past g f.0 (TriesOut g) (Did (actions.EwbStart f slot) answer) at refl
last_next past g (Refused (actions.EwbStart f slot) why.VersionSpent) at kick =
    leaving_next past g f.0 (TriesOut g) (Refused (actions.EwbStart f slot) why.VersionSpent) at refl
last_next past g (Refused (actions.EwbStart f slot) (why.SlotOccupied version)) at kick =
    leaving_next past g f.0 (TriesOut g) (Refused (actions.EwbStart f slot) (why.SlotOccupied version)) at refl
last_next past g _ at kick = absurd kick

-- behind the second refusal the turn of kicks was made where there is nobody to kick
kick_next : (past : List Entry) (g : Page) (all : List ℕ) (ev : Event) → IsInTries past g ev → IsKickOrTry all ev
    → (is_kicked : Bool) × Allowed (if is_kicked then third_due past g all else KicksAll all) ev
kick_next past g [] ev at kick = (true, inl (last_next past g ev at kick))
kick_next past g (p ∷ ps) ev at kick = (false, inl kick)

third_next : (past : List Entry) (g : Page) (all : List ℕ) (ev : Event) → IsInTries past g ev → IsLastTry ev
    → Allowed (third_due past g all) ev
third_next past g [] ev at kick = inl (last_next past g ev at kick)
third_next past g (p ∷ ps) ev at kick = inr (waits.Older g.enclave (length (p ∷ ps)), refl)

form_next : (past : List Entry) (g : Page) (form : Form) (ev : Event) → IsInTries past g ev → InForm past g form ev
    → (is_kicked : Bool) × Allowed (form_due past g is_kicked form) ev
form_next past g First ev at kick = (false, inl (try_next past g ev at kick))
form_next past g ToTrack (Did (actions.Track n) answer) at kick = (false, inl (ap (λ x. Some (actions.Track x)) kick))
form_next past g ToTrack (Refused (actions.Track n) why.EpochSpent) at kick = (false, inl (ap (λ x. Some (actions.Track x)) kick))
form_next past g ToTrack _ at kick = absurd kick
form_next past g Second ev at kick = (false, inl (try_next past g ev at kick))
form_next past g ToKick ev at kick = kick_next past g (keepers past g) ev at kick
form_next past g (Kicks rest) ev at kick = (false, inl kick)
form_next past g Third ev at kick = (false, third_next past g (keepers past g) ev at kick)
form_next past g Sealing (Did (actions.Ewb f) answer) at kick =
    (false, inl (leaving_next past g f.0 (λ n. Ends (actions.Ewb (frame_at n))) (Did (actions.Ewb f) answer) at refl))
form_next past g Sealing _ at kick = absurd kick

-- the form of a page's tries, where the pass has one
abbrev InFormOf : List Entry → Pass → Event → Type 0
InFormOf past (Tries g rest form) ev = InForm past g form ev
InFormOf past _ ev = Unit {0}

pass_next : (j : JobView) (past : List Entry) (p : Pass) (ev : Event) → LookOf j past ev → InPass past p ev
    → InFormOf past p ev → (is_kicked : Bool) × Allowed (pass_due j past is_kicked p) ev
pass_next j past (Between true) (Age page look) at within kick = (false, by_held (are_held j past))
  where
    by_held : (b : Bool) → Allowed (if b then Waits waits.AllHeld else look_due j past) (Age page look)
    by_held true = inr (waits.AllHeld, refl)
    by_held false = inl (look_next j past (head_of (active past)) page look at.head at.told)
pass_next j past (Between false) (Age page look) at within kick = cc
pass_next j past (Scan left taken) (Age page look) at within kick =
    (false, inl (look_next j past (head_of (active past)) page look at.head at.told))
pass_next j past (Blocking [] taken) (Did (actions.Block f) answer) at within kick = absurd within
pass_next j past (Blocking (g ∷ gs) taken) (Did (actions.Block f) answer) at within kick =
    (false, inl (leaving_next past g f.0 (λ n. Makes (actions.Block (frame_at n))) (Did (actions.Block f) answer) within refl))
pass_next j past (Tries g rest form) ev at within kick = form_next past g form ev within kick
pass_next j past _ ev at within kick = absurd within

-- where nothing is set aside, no entry within the tries of a page is
form_within : (past : List Entry) (p : Pass) (ev : Event) → aside past ≡ NoneAside → InPass past p ev → FormOf past p actors.Reclaimer ev
    → InFormOf past p ev
form_within past (Tries g rest form) ev none within kick =
    by_event ev within (subst (λ a. FormUnless past (is_aside a ev) g form ev) none kick)
  where
    by_event : (x : Event) → IsInTries past g x → FormUnless past (is_aside NoneAside x) g form x → InForm past g form x
    by_event (Did action answer) fine h = h
    by_event (Refused action refusal) fine h = h
    by_event (Kick cpu) fine h = h
    by_event (Bus page reason) fine h = h
    by_event (Age page look) fine h = absurd fine
form_within past (Between works) ev none within kick = tt
form_within past (Scan left taken) ev none within kick = tt
form_within past (Blocking todo taken) ev none within kick = tt

look_ahead_next : (g : Page) (ev : Event) → IsLookAhead g ev → IsNext (LooksAt g false false) ev
look_ahead_next g (Age page looks.NoRoom) h = (h, refl)
look_ahead_next g (Age page looks.Taken) h = (h, refl)
look_ahead_next g _ h = absurd h

try_ahead_next : (past : List Entry) (g : Page) (ev : Event) → IsTryAhead past g ev → IsNext (tries_out past g) ev
try_ahead_next past g (Did (actions.EwbStart f slot) answer) at =
    leaving_next past g f.0 (TriesOut g) (Did (actions.EwbStart f slot) answer) at refl
try_ahead_next past g (Refused (actions.EwbStart f slot) why.VersionSpent) at =
    leaving_next past g f.0 (TriesOut g) (Refused (actions.EwbStart f slot) why.VersionSpent) at refl
try_ahead_next past g _ at = absurd at

end_ahead_next : (past : List Entry) (g : Page) (ev : Event) → IsEndAhead past g ev
    → IsNext (leaving_due past g (λ n. Ends (actions.Ewb (frame_at n)))) ev
end_ahead_next past g (Did (actions.Ewb f) answer) at =
    leaving_next past g f.0 (λ n. Ends (actions.Ewb (frame_at n))) (Did (actions.Ewb f) answer) at refl
end_ahead_next past g _ at = absurd at

pub due_of_rules : (j : JobView) (past : List Entry) (out : Outs) (ev : Event)
    → AgeRuleBy j past out (record { actor = actors.Reclaimer; event = ev })
    → KickRule j past (record { actor = actors.Reclaimer; event = ev })
    → (is_kicked : Bool) × (IsNext (going_due j past out is_kicked) ev ⊎ (reason : Why) × (going_due j past out is_kicked ≡ Waits reason))
due_of_rules j past out ev age kick = by_aside (aside past) (due_with j past out) refl age
  where
    by_aside : (a : Aside) (o : Option Page) → aside past ≡ a → IsAhead j past (ahead_by a o) ev
        → (is_kicked : Bool) × Allowed (ahead_gives j past is_kicked (ahead_by a o)) ev
    by_aside NoneAside None none h =
        pass_next j past (pass j past) ev h.look h.in_pass (form_within past (pass j past) ev none h.in_pass kick.form)
    by_aside NoneAside (Some g) none h = (false, inl (look_ahead_next g ev h))
    by_aside (IsToGo g) o is h = (false, inl (try_ahead_next past g ev h))
    by_aside (IsGoing g) o is h = (false, inl (end_ahead_next past g ev h))

-- ---- an entry that is due keeps the rules

abbrev Keeps : JobView → List Entry → Pass → Event → Type 0
Keeps j past p ev = LookOf j past ev × InPass past p ev × InFormOf past p ev

look_keeps : (j : JobView) (past : List Entry) (o : Option Page) (ev : Event) → head_of (active past) ≡ o → IsNext (look_at j past o) ev
    → (page : Page) × (look : Look) × (ev ≡ Age page look) × IsLookAt j past page look
look_keeps j past None ev is next = absurd next
look_keeps j past (Some g) (Age page look) is next = (
  page,
  look,
  refl,
  record {
    head = is ∙ ap Some (sym next.0);
    told = subst (λ x. is_look (is_held j past x) (is_young past x) look ≡ true) (sym next.0) next.1;
  },
)
look_keeps j past (Some g) (Did action answer) is next = absurd next
look_keeps j past (Some g) (Refused action refusal) is next = absurd next
look_keeps j past (Some g) (Kick cpu) is next = absurd next
look_keeps j past (Some g) (Bus page reason) is next = absurd next

leaving_is : (g : Page) (p : Place) (to : ℕ → Due) (ev : Event) → IsNext (in_frame g (frame_leaving p) to) ev
    → (f : ℕ) × (p ≡ Leaving f) × IsNext (to f) ev
leaving_is g (Leaving f) to ev next = (f, refl, next)
leaving_is g Absent to ev next = absurd next
leaving_is g (Here f) to ev next = absurd next
leaving_is g (Loading f slot) to ev next = absurd next
leaving_is g (Away slot) to ev next = absurd next

-- a try that is not refused starts
record IsStarted (past : List Entry) (g : Page) (ev : Event) : Type 0 where
  frame : Frame
  slot : SlotAt
  answer : Answer
  is : ev ≡ Did (actions.EwbStart frame slot) answer
  leaving : place past g ≡ Leaving frame.0

try_starts : (past : List Entry) (g : Page) (ev : Event) → is_refused ev ≡ false → IsNext (tries_out past g) ev
    → IsStarted past g ev
try_starts past g ev taken next = by_event ev taken (leaving_is g (place past g) (TriesOut g) ev next)
  where
    by_event : (x : Event) → is_refused x ≡ false → (f : ℕ) × (place past g ≡ Leaving f) × IsNext (TriesOut g f) x → IsStarted past g x
    by_event (Did (actions.EwbStart frame slot) answer) fine k =
        record { frame = frame; slot = slot; answer = answer; is = refl; leaving = k.1 ∙ ap Leaving (sym k.2) }
    by_event (Refused action refusal) fine k = cc
    by_event _ fine k = absurd k.2

-- an instruction that is not refused is done
done_is : (action : Action) (ev : Event) → is_refused ev ≡ false → action_of ev ≡ Some action → (answer : Answer) × (ev ≡ Did action answer)
done_is action (Did a answer) fine same = let told : a ≡ action = cc in (answer, ap (λ x. Did x answer) told)
done_is action (Refused a refusal) fine same = cc
done_is action (Age page look) fine same = cc
done_is action (Kick cpu) fine same = cc
done_is action (Bus page reason) fine same = cc

started_keeps : (j : JobView) (past : List Entry) (g : Page) (rest : List Page) (form : Form) (ev : Event)
    → ((frame : Frame) (slot : SlotAt) (answer : Answer) → InForm past g form (Did (actions.EwbStart frame slot) answer))
    → IsStarted past g ev
    → Keeps j past (Tries g rest form) ev
started_keeps j past g rest form ev fits s =
    subst (Keeps j past (Tries g rest form)) (sym s.is) (tt, s.leaving, fits s.frame s.slot s.answer)

kicks_keep : (j : JobView) (past : List Entry) (g : Page) (rest : List Page) (form : Form) (ps : List ℕ) (ev : Event)
    → ((cpu : Cpu) → IsKickOf ps (Kick cpu) → InForm past g form (Kick cpu)) → IsKickOf ps ev → Keeps j past (Tries g rest form) ev
kicks_keep j past g rest form [] ev fits next = absurd next
kicks_keep j past g rest form (p ∷ ps) (Kick cpu) fits next = (tt, tt, fits cpu next)
kicks_keep j past g rest form (p ∷ ps) (Did action answer) fits next = absurd next
kicks_keep j past g rest form (p ∷ ps) (Refused action refusal) fits next = absurd next
kicks_keep j past g rest form (p ∷ ps) (Age page look) fits next = absurd next
kicks_keep j past g rest form (p ∷ ps) (Bus page reason) fits next = absurd next

to_kick_keeps : (j : JobView) (past : List Entry) (g : Page) (rest : List Page) (is_kicked : Bool) (all : List ℕ) (ev : Event)
    → keepers past g ≡ all
    → is_refused ev ≡ false → IsNext (if is_kicked then third_due past g all else KicksAll all) ev → Keeps j past (Tries g rest ToKick) ev
to_kick_keeps j past g rest true [] ev is fine next =
    started_keeps j past g rest ToKick ev (λ frame slot answer. rw is tt) (try_starts past g ev fine next)
to_kick_keeps j past g rest true (p ∷ ps) ev is fine next = absurd next
to_kick_keeps j past g rest false all ev is fine next = kicks_keep j past g rest ToKick all ev (λ cpu k. by_all all cpu is k) next
  where
    by_all : (ps : List ℕ) (cpu : Cpu) → keepers past g ≡ ps → IsKickOf ps (Kick cpu) → IsKickOrTry (keepers past g) (Kick cpu)
    by_all [] cpu same k = absurd k
    by_all (p ∷ ps) cpu same k = rw same k

third_keeps : (j : JobView) (past : List Entry) (g : Page) (rest : List Page) (all : List ℕ) (ev : Event) → is_refused ev ≡ false
    → IsNext (third_due past g all) ev → Keeps j past (Tries g rest Third) ev
third_keeps j past g rest [] ev fine next = started_keeps j past g rest Third ev (λ frame slot answer. tt) (try_starts past g ev fine next)
third_keeps j past g rest (p ∷ ps) ev fine next = absurd next

form_keeps : (j : JobView) (past : List Entry) (g : Page) (rest : List Page) (is_kicked : Bool) (form : Form) (ev : Event)
    → is_refused ev ≡ false
    → IsNext (form_due past g is_kicked form) ev → Keeps j past (Tries g rest form) ev
form_keeps j past g rest is_kicked First ev fine next =
    started_keeps j past g rest First ev (λ frame slot answer. tt) (try_starts past g ev fine next)
form_keeps j past g rest is_kicked ToTrack ev fine next =
    let k = done_is (actions.Track g.enclave) ev fine next in
    subst (Keeps j past (Tries g rest ToTrack)) (sym k.1) (tt, tt, refl)
form_keeps j past g rest is_kicked Second ev fine next =
    started_keeps j past g rest Second ev (λ frame slot answer. tt) (try_starts past g ev fine next)
form_keeps j past g rest is_kicked ToKick ev fine next = to_kick_keeps j past g rest is_kicked (keepers past g) ev refl fine next
form_keeps j past g rest is_kicked (Kicks due) ev fine next = kicks_keep j past g rest (Kicks due) due ev (λ cpu k. k) next
form_keeps j past g rest is_kicked Third ev fine next = third_keeps j past g rest (keepers past g) ev fine next
form_keeps j past g rest is_kicked Sealing ev fine next =
    let at = leaving_is g (place past g) (λ n. Ends (actions.Ewb (frame_at n))) ev next in
    let k = done_is (actions.Ewb (frame_at at.0)) ev fine at.2 in
    subst (Keeps j past (Tries g rest Sealing)) (sym k.1) (tt, at.1, tt)

pass_keeps : (j : JobView) (past : List Entry) (is_kicked : Bool) (p : Pass) (ev : Event) → is_refused ev ≡ false
    → IsNext (pass_due j past is_kicked p) ev → Keeps j past p ev
pass_keeps j past is_kicked (Between false) ev fine next = absurd next
pass_keeps j past is_kicked (Between true) ev fine next = by_held (are_held j past) next
  where
    by_held : (b : Bool) → IsNext (if b then Waits waits.AllHeld else look_due j past) ev → Keeps j past (Between true) ev
    by_held true k = absurd k
    by_held false k =
        let l = look_keeps j past (head_of (active past)) ev refl k in
        subst (Keeps j past (Between true)) (sym l.2) (l.3, refl, tt)
pass_keeps j past is_kicked (Scan left taken) ev fine next =
    let l = look_keeps j past (head_of (active past)) ev refl next in
    subst (Keeps j past (Scan left taken)) (sym l.2) (l.3, tt, tt)
pass_keeps j past is_kicked (Blocking [] taken) ev fine next = absurd next
pass_keeps j past is_kicked (Blocking (g ∷ gs) taken) ev fine next =
    let at = leaving_is g (place past g) (λ n. Makes (actions.Block (frame_at n))) ev next in
    let k = done_is (actions.Block (frame_at at.0)) ev fine at.2 in
    subst (Keeps j past (Blocking (g ∷ gs) taken)) (sym k.1) (tt, at.1, tt)
pass_keeps j past is_kicked (Tries g rest form) ev fine next = form_keeps j past g rest is_kicked form ev fine next

-- an entry that keeps the form of a page's tries keeps it where nothing is set aside, and all the more where something is
form_kept : (past : List Entry) (p : Pass) (ev : Event) → InFormOf past p ev → FormOf past p actors.Reclaimer ev
form_kept past (Tries g rest form) ev h = by_aside (is_aside (aside past) ev)
  where
    by_aside : (b : Bool) → FormUnless past b g form ev
    by_aside true = tt
    by_aside false = h
form_kept past (Between works) ev h = tt
form_kept past (Scan left taken) ev h = tt
form_kept past (Blocking todo taken) ev h = tt

-- .. and one that is set aside keeps it
pub aside_kept : (past : List Entry) (p : Pass) (ev : Event) → is_aside (aside past) ev ≡ true → FormOf past p actors.Reclaimer ev
aside_kept past (Tries g rest form) ev is = rw is tt
aside_kept past (Between works) ev is = tt
aside_kept past (Scan left taken) ev is = tt
aside_kept past (Blocking todo taken) ev is = tt

-- no TCS or REG page is due
pub other_secs : (enclave : ℕ) → is_own_page (secs_page enclave) ≡ false
other_secs enclave = by_test (enclave == 0)
  where
    by_test : (b : Bool) → (not b && false) ≡ false
    by_test true = refl
    by_test false = refl

other_array : (o : Option ℕ) (g : Page) → array_at o ≡ Some g → is_own_page g ≡ false
other_array None g is = cc
other_array (Some va) g is = subst (λ (x : Page). is_own_page x ≡ false) (told is) refl
  where
    told : array_at (Some va) ≡ Some g → va_page va ≡ g
    told h = cc

other_spare : (j : JobView) (past : List Entry) (out : Outs) (g : Page) → spare j past out ≡ Some g → is_own_page g ≡ false
other_spare j past out g is = other_array (least_from (is_spare j past out) 0 (vas_made past)) g is

other_behind : (j : JobView) (past : List Entry) (out : Outs) (page g : Page) → due_behind j past out page ≡ Some g
    → is_own_page g ≡ false
other_behind j past out page g is = by_test (is_own_page page && is_alone j past page.enclave) is
  where
    by_test : (b : Bool) → (if b then Some (secs_page page.enclave) else spare j past out) ≡ Some g → is_own_page g ≡ false
    by_test false h = other_spare j past out g h
    by_test true h = subst (λ (x : Page). is_own_page x ≡ false) (told h) (other_secs page.enclave)
      where
        told : Some (secs_page page.enclave) ≡ Some g → secs_page page.enclave ≡ g
        told k = cc

pub due_is_other : (j : JobView) (past : List Entry) (out : Outs) (o : Option Event) (g : Page) → due_by j past out o ≡ Some g
    → is_own_page g ≡ false
due_is_other j past out (Some (Did (actions.Ewb f) (Moved page version tag))) g is = other_behind j past out page g is
due_is_other j past out (Some (Age page looks.NoRoom)) g is = by_test (is_secs_page page) is
  where
    by_test : (b : Bool) → (if b then spare j past out else None) ≡ Some g → is_own_page g ≡ false
    by_test true h = other_spare j past out g h
    by_test false h = cc
due_is_other j past out _ g is = cc

-- a look at a page that is due
record IsRoomLook (g : Page) (ev : Event) : Type 0 where
  look : Look
  is : ev ≡ Age g look
  allowed : IsLookAhead g (Age g look)

room_look : (g : Page) (ev : Event) → IsNext (LooksAt g false false) ev → IsRoomLook g ev
room_look g (Age page look) h = record {
  look = look;
  is = ap (λ x. Age x look) h.0;
  allowed = by_look look h.1;
}
  where
    by_look : (l : Look) → is_look false false l ≡ true → IsLookAhead g (Age g l)
    by_look looks.NoRoom k = refl
    by_look looks.Taken k = refl
    by_look looks.Held k = cc
    by_look looks.Young k = cc
room_look g (Did action answer) h = absurd h
room_look g (Refused action refusal) h = absurd h
room_look g (Kick cpu) h = absurd h
room_look g (Bus page reason) h = absurd h

pub rules_of_due : (j : JobView) (past : List Entry) (out : Outs) (is_kicked : Bool) (ev : Event) → is_refused ev ≡ false
    → IsNext (going_due j past out is_kicked) ev
    → AgeRuleBy j past out (record { actor = actors.Reclaimer; event = ev }) × KickRule j past
    (record { actor = actors.Reclaimer; event = ev })
rules_of_due j past out is_kicked ev fine next =
    let k = by_aside (aside past) (due_with j past out) refl refl next in (k.0, record { form = k.1; beside = tt })
  where
    by_aside : (a : Aside) (o : Option Page) → aside past ≡ a → due_with j past out ≡ o
        → IsNext (ahead_gives j past is_kicked (ahead_by a o)) ev
        → IsAhead j past (ahead_by a o) ev × FormOf past (pass j past) actors.Reclaimer ev
    by_aside NoneAside None none due h =
        let k = pass_keeps j past is_kicked (pass j past) ev fine h in
        (record { look = k.0; in_pass = k.1 }, form_kept past (pass j past) ev k.2)
    by_aside NoneAside (Some g) none due h =
        let l = room_look g ev h in
        let other = due_is_other j past out (last_event past actors.Reclaimer) g due in
        let is : is_aside (aside past) (Age g l.look) ≡ true = rw (none, other) refl in (
          subst (IsLookAhead g) (sym l.is) l.allowed,
          subst (FormOf past (pass j past) actors.Reclaimer) (sym l.is)
              (aside_kept past (pass j past) (Age g l.look) is),
        )
    by_aside (IsToGo g) o is due h =
        let s = try_starts past g ev fine h in
        (subst (IsTryAhead past g) (sym s.is) s.leaving, aside_kept past (pass j past) ev (ap (λ a. is_aside a ev) is))
    by_aside (IsGoing g) o is due h =
        let at = leaving_is g (place past g) (λ n. Ends (actions.Ewb (frame_at n))) ev h in
        let k = done_is (actions.Ewb (frame_at at.0)) ev fine at.2 in
        (subst (IsEndAhead past g) (sym k.1) at.1, aside_kept past (pass j past) ev (ap (λ a. is_aside a ev) is))
