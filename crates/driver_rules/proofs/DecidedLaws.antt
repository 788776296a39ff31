-- The tests pass exactly where the rules hold.
use Rattle.std.proofs.Common.{◌≡◌, ℕ, ◌<◌, ◌==◌, ◌&&◌, not, Bool, true, false, refl, sym, ap, subst, List, []}
use Rattle.std.proofs.Common.{◌∷◌, Option, Some, None, length, nat_lt, arith, zero, suc, ◌||◌, ◌⊎◌, inl, inr}
use Rattle.std.proofs.lemmas.Bool.{eqb-true, eq-eqb, false≢true}
use Rattle.sgx_types.proofs.Truths.{both_true}
use Rattle.sgx_types.proofs.Pages.{same_page-refl, same_pages}
use Rattle.sgx_rules.specs.declared.entries.Action.{Action}
use Rattle.sgx_rules.specs.declared.entries.Action.TheVariants.{Block, Ewb, EwbStart, Track}
use Rattle.sgx_types.specs.declared.names.Actor.{Actor}
use Rattle.sgx_rules.specs.declared.entries.BusWhy.{BusWhy}
use Rattle.sgx_rules.specs.declared.entries.Entry.{Entry}
use Rattle.sgx_rules.specs.declared.entries.Event.{Event}
use Rattle.sgx_rules.specs.declared.entries.Event.TheVariants.{Age, Bus, Did, Kick, Refused}
use Rattle.sgx_rules.specs.declared.entries.Look.{Look}
use Rattle.sgx_types.specs.declared.names.Page.{Page}
use Rattle.sgx_types.specs.Pages.{same_page}
use Rattle.job_grammar.specs.Jobs.{JobView}
use Rattle.script_rules.specs.Script.{action_of, build_of, built, replied, script_of}
use Rattle.driver_rules.specs.Ages.{AgeOf, AgeRuleBy, Ahead, ahead, BesideOf, EndsNext, FormOf, FormUnless, GoesOn, head_of, InForm}
use Rattle.driver_rules.specs.Ages.{InPass, IsAhead, IsBeside, IsEnd, IsEndAhead, IsInTries, IsKickOrTry, IsLastTry, IsLookAhead}
use Rattle.driver_rules.specs.Ages.{IsLookAt, IsNextBlock, IsOfPass, IsTrackOf, IsTry, IsTryAhead, KickRule, LookOf, Looks, TriesNext}
use Rattle.driver_rules.specs.inner.Decided.{age_of, are_done, beside_of, form_of, is_action, is_actors, is_ahead, is_beside, is_done}
use Rattle.driver_rules.specs.inner.Decided.{is_end, is_end_ahead, is_ended, is_fetch, is_in_form, is_in_pass, is_in_tries, is_kick_of}
use Rattle.driver_rules.specs.inner.Decided.{is_kick_or_try, is_last_try, is_leaving_in, is_look_ahead, is_look_of, is_lost, is_next}
use Rattle.driver_rules.specs.inner.Decided.{is_next_block, is_of_pass, is_outside, is_some_page, is_stop, is_track_of, is_try}
use Rattle.driver_rules.specs.inner.Decided.{is_try_ahead, is_try_of, keeps_age_by, keeps_kick, keeps_script, looks_at, looks_of}
use Rattle.driver_rules.specs.inner.Decided.{same_reason, TellsIf}
use Rattle.driver_rules.specs.Holds.{is_held}
use Rattle.driver_rules.specs.Passes.{aside, Between, Blocking, First, Form, is_aside, keepers, Kicks, Pass, pass, Scan, Sealing}
use Rattle.driver_rules.specs.Passes.{Second, Third, ToKick, ToTrack, Tries}
use Rattle.driver_rules.specs.Places.{Absent, active, Away, Here, is_young, Leaving, Loading, Place, place}
use Rattle.driver_rules.specs.inner.Same.{same_action}
use Rattle.driver_rules.specs.Scripts.{is_load, IsActors, IsDone, IsEnded, IsWhole, ScriptRule}
use Rattle.driver_rules.specs.Spares.{Outs}
use Rattle.driver_rules.specs.Stops.{has_bus, is_spent}
use Rattle.driver_rules.specs.Dues.{Asks, Due, Ends, Fetch, Fetches, Finished, is_look, IsFetch, IsKickOf, IsLook, IsLost, IsNext}
use Rattle.driver_rules.specs.Dues.{IsTryOf, KicksAll, load_by, LooksAt, Makes, Reports, Stopped, TriesOut, Waits, WaitsFor}
use Rattle.driver_rules.specs.Turns.{builder_due, cpu_due}
use Rattle.driver_rules.proofs.SameLaws.{action-refl, action-true}
use Rattle.sgx_rules.specs.Processors.{Stay, stay}
use Rattle.sgx_types.specs.declared.names.Actor.TheVariants as actors
use Rattle.sgx_rules.specs.declared.entries.BusWhy.TheVariants as reasons
use Rattle.sgx_rules.specs.declared.entries.Look.TheVariants as looks
use Rattle.sgx_rules.specs.declared.refusals.Refusal.TheVariants as why

never : TellsIf false ⊥
never = (λ h. false≢true h, λ h. absurd h)

always : TellsIf true (Unit {0})
always = (λ h. tt, λ h. refl)

both : (a b : Bool) (A B : Type 0) → TellsIf a A → TellsIf b B → TellsIf (a && b) (A × B)
both a b A B s t = (λ h. let k = both_true a b h in (s.0 k.0, t.0 k.1), λ h. rw (s.1 h.0, t.1 h.1) refl)

either : (a b : Bool) (A B : Type 0) → TellsIf a A → TellsIf b B → TellsIf (a || b) (A ⊎ B)
either true b A B s t = (λ h. inl (s.0 refl), λ h. refl)
either false b A B s t = (λ h. inr (t.0 h), by_side)
  where
    by_side : A ⊎ B → b ≡ true
    by_side (inl x) = absurd (false≢true (s.1 x))
    by_side (inr y) = t.1 y

numbers : (m n : ℕ) → TellsIf (m == n) (m ≡ n)
numbers m n = (λ h. eqb-true m n h, λ h. eq-eqb m n h)

pages : (a b : Page) → TellsIf (same_page a b) (a ≡ b)
pages a b = (λ h. same_pages a b h, λ h. subst (λ c. same_page a c ≡ true) h (same_page-refl a))

actions_same : (a b : Action) → TellsIf (same_action a b) (a ≡ b)
actions_same a b = (λ h. action-true a b h, λ h. subst (λ c. same_action a c ≡ true) h (action-refl a))

-- ---- Age

is_truth : (b : Bool) → TellsIf b (b ≡ true)
is_truth b = (λ h. h, λ h. h)

head_is : (o : Option Page) (g : Page) → TellsIf (is_some_page o g) (o ≡ Some g)
head_is None g = (λ h. absurd (false≢true h), λ h. cc)
head_is (Some page) g = (λ h. ap Some (same_pages page g h), λ h. (pages page g).1 (told h))
  where
    told : Some page ≡ Some g → page ≡ g
    told h = cc

looks_tell : (j : JobView) (past : List Entry) (page : Page) (look : Look) → TellsIf (looks_at j past page look) (IsLookAt j past page look)
looks_tell j past page look =
    let t = head_is (head_of (active past)) page in (
      λ h. let k =
          both_true (is_some_page (head_of (active past)) page) (is_look (is_held j past page)
          (is_young past page) look) h in record { head = t.0 k.0; told = k.1 },
      λ h. rw (t.1 h.head, h.told) refl,
    )

frame_tells : (p : Place) (f : ℕ) → TellsIf (is_leaving_in p f) (p ≡ Leaving f)
frame_tells (Leaving n) f = (λ h. ap Leaving (eqb-true n f h), λ h. eq-eqb n f (told h))
  where
    told : Leaving n ≡ Leaving f → n ≡ f
    told h = cc
frame_tells Absent f = (λ h. absurd (false≢true h), λ h. cc)
frame_tells (Here n) f = (λ h. absurd (false≢true h), λ h. cc)
frame_tells (Loading n slot) f = (λ h. absurd (false≢true h), λ h. cc)
frame_tells (Away slot) f = (λ h. absurd (false≢true h), λ h. cc)

block_tells : (past : List Entry) (due : List Page) (f : ℕ) → TellsIf (is_next_block past due f) (IsNextBlock past due f)
block_tells past [] f = never
block_tells past (g ∷ gs) f = frame_tells (place past g) f

tries_tell : (past : List Entry) (g : Page) (ev : Event) → TellsIf (is_in_tries past g ev) (IsInTries past g ev)
tries_tell past g (Did (EwbStart f slot) answer) = frame_tells (place past g) f.0
tries_tell past g (Refused (EwbStart f slot) refusal) = frame_tells (place past g) f.0
tries_tell past g (Did (Ewb f) answer) = frame_tells (place past g) f.0
tries_tell past g (Refused (Ewb f) refusal) = frame_tells (place past g) f.0
tries_tell past g (Did (Track enclave) answer) = always
tries_tell past g (Refused (Track enclave) refusal) = always
tries_tell past g (Kick cpu) = always
tries_tell past g _ = never

pass_tells : (past : List Entry) (p : Pass) (ev : Event) → TellsIf (is_in_pass past p ev) (InPass past p ev)
pass_tells past (Between works) (Age page look) = is_truth works
pass_tells past (Scan left taken) (Age page look) = always
pass_tells past (Blocking todo taken) (Did (Block f) answer) = block_tells past todo f.0
pass_tells past (Tries g rest form) ev = tries_tell past g ev
pass_tells past _ ev = never

looks_of_tells : (j : JobView) (past : List Entry) (ev : Event) → TellsIf (looks_of j past ev) (LookOf j past ev)
looks_of_tells j past (Age page look) = looks_tell j past page look
looks_of_tells j past _ = always

of_pass_tells : (j : JobView) (past : List Entry) (ev : Event) → TellsIf (is_of_pass j past ev) (IsOfPass j past ev)
of_pass_tells j past ev =
    let s = looks_of_tells j past ev in
    let t = pass_tells past (pass j past) ev in (
      λ h. let k = both_true (looks_of j past ev) (is_in_pass past (pass j past) ev) h in record { look = s.0 k.0; in_pass = t.0 k.1 },
      λ h. rw (s.1 h.look, t.1 h.in_pass) refl,
    )

look_ahead_tells : (g : Page) (ev : Event) → TellsIf (is_look_ahead g ev) (IsLookAhead g ev)
look_ahead_tells g (Age page looks.NoRoom) = pages page g
look_ahead_tells g (Age page looks.Taken) = pages page g
look_ahead_tells g _ = never

try_ahead_tells : (past : List Entry) (g : Page) (ev : Event) → TellsIf (is_try_ahead past g ev) (IsTryAhead past g ev)
try_ahead_tells past g (Did (EwbStart f slot) answer) = frame_tells (place past g) f.0
try_ahead_tells past g (Refused (EwbStart f slot) why.VersionSpent) = frame_tells (place past g) f.0
try_ahead_tells past g _ = never

end_ahead_tells : (past : List Entry) (g : Page) (ev : Event) → TellsIf (is_end_ahead past g ev) (IsEndAhead past g ev)
end_ahead_tells past g (Did (Ewb f) answer) = frame_tells (place past g) f.0
end_ahead_tells past g _ = never

ahead_tells : (j : JobView) (past : List Entry) (a : Ahead) (ev : Event) → TellsIf (is_ahead j past a ev) (IsAhead j past a ev)
ahead_tells j past GoesOn ev = of_pass_tells j past ev
ahead_tells j past (Looks g) ev = look_ahead_tells g ev
ahead_tells j past (TriesNext g) ev = try_ahead_tells past g ev
ahead_tells j past (EndsNext g) ev = end_ahead_tells past g ev

age_of_tells : (j : JobView) (past : List Entry) (out : Outs) (a : Actor) (ev : Event)
    → TellsIf (age_of j past out a ev) (AgeOf j past out a ev)
age_of_tells j past out actors.Reclaimer ev = ahead_tells j past (ahead j past out) ev
age_of_tells j past out _ ev = always

pub age_tells : (j : JobView) (past : List Entry) (out : Outs) (e : Entry) → TellsIf (keeps_age_by j past out e) (AgeRuleBy j past out e)
age_tells j past out e = age_of_tells j past out e.actor e.event

-- ---- Kick

last_try_tells : (ev : Event) → TellsIf (is_last_try ev) (IsLastTry ev)
last_try_tells (Did (EwbStart f slot) answer) = always
last_try_tells (Refused (EwbStart f slot) why.VersionSpent) = always
last_try_tells (Refused (EwbStart f slot) (why.SlotOccupied version)) = always
last_try_tells _ = never

try_tells : (ev : Event) → TellsIf (is_try ev) (IsTry ev)
try_tells (Refused (EwbStart f slot) (why.NotTracked epoch older)) = always
try_tells ev = last_try_tells ev

track_tells : (enclave : ℕ) (ev : Event) → TellsIf (is_track_of enclave ev) (IsTrackOf enclave ev)
track_tells enclave (Did (Track e) answer) = numbers e enclave
track_tells enclave (Refused (Track e) why.EpochSpent) = numbers e enclave
track_tells enclave _ = never

kick_of_tells : (ps : List ℕ) (ev : Event) → TellsIf (is_kick_of ps ev) (IsKickOf ps ev)
kick_of_tells (p ∷ ps) (Kick cpu) = numbers cpu.0 p
kick_of_tells _ _ = never

kick_or_try_tells : (ps : List ℕ) (ev : Event) → TellsIf (is_kick_or_try ps ev) (IsKickOrTry ps ev)
kick_or_try_tells [] ev = last_try_tells ev
kick_or_try_tells (p ∷ ps) ev = kick_of_tells (p ∷ ps) ev

end_tells : (ev : Event) → TellsIf (is_end ev) (IsEnd ev)
end_tells (Did (Ewb f) answer) = always
end_tells _ = never

form_tells : (past : List Entry) (g : Page) (form : Form) (ev : Event) → TellsIf (is_in_form past g form ev) (InForm past g form ev)
form_tells past g First ev = try_tells ev
form_tells past g ToTrack ev = track_tells g.enclave ev
form_tells past g Second ev = try_tells ev
form_tells past g ToKick ev = kick_or_try_tells (keepers past g) ev
form_tells past g (Kicks rest) ev = kick_of_tells rest ev
form_tells past g Third ev = last_try_tells ev
form_tells past g Sealing ev = end_tells ev

beside_tells : (form : Form) → TellsIf (is_beside form) (IsBeside form)
beside_tells (Kicks rest) = never
beside_tells _ = always

unless_tells : (past : List Entry) (b : Bool) (g : Page) (form : Form) (ev : Event)
    → TellsIf (b || is_in_form past g form ev) (FormUnless past b g form ev)
unless_tells past true g form ev = always
unless_tells past false g form ev = form_tells past g form ev

form_of_tells : (past : List Entry) (p : Pass) (a : Actor) (ev : Event) → TellsIf (form_of past p a ev) (FormOf past p a ev)
form_of_tells past (Tries g rest form) actors.Reclaimer ev = unless_tells past (is_aside (aside past) ev) g form ev
form_of_tells past _ _ ev = always

beside_of_tells : (p : Pass) (a : Actor) → TellsIf (beside_of p a) (BesideOf p a)
beside_of_tells p actors.Reclaimer = always
beside_of_tells (Tries g rest form) _ = beside_tells form
beside_of_tells _ _ = always

pub kick_tells : (j : JobView) (past : List Entry) (e : Entry) → TellsIf (keeps_kick j past e) (KickRule j past e)
kick_tells j past e =
    let s = form_of_tells past (pass j past) e.actor e.event in
    let t = beside_of_tells (pass j past) e.actor in (
      λ h. let k =
          both_true (form_of past (pass j past) e.actor e.event) (beside_of
          (pass j past) e.actor) h in record { form = s.0 k.0; beside = t.0 k.1 },
      λ h. rw (s.1 h.form, t.1 h.beside) refl,
    )

-- ---- Script

action_tells : (o : Option Action) (action : Action) → TellsIf (is_action o action) (o ≡ Some action)
action_tells None action = (λ h. absurd (false≢true h), λ h. cc)
action_tells (Some done) action = (λ h. ap Some (action-true done action h), λ h. (actions_same done action).1 (told h))
  where
    told : Some done ≡ Some action → done ≡ action
    told h = cc

reason-refl : (a : BusWhy) → same_reason a a ≡ true
reason-refl reasons.GetFailed = refl
reason-refl reasons.NoRecord = refl
reason-refl reasons.PutFailed = refl
reason-refl reasons.Mac = refl
reason-refl reasons.Header = refl
reason-refl reasons.Slot = refl

reason-true : (a b : BusWhy) → same_reason a b ≡ true → a ≡ b
reason-true reasons.GetFailed reasons.GetFailed h = refl
reason-true reasons.NoRecord reasons.NoRecord h = refl
reason-true reasons.PutFailed reasons.PutFailed h = refl
reason-true reasons.Mac reasons.Mac h = refl
reason-true reasons.Header reasons.Header h = refl
reason-true reasons.Slot reasons.Slot h = refl
reason-true _ _ h = absurd (false≢true h)

stop_tells : (page : Page) (reason : BusWhy) (ev : Event) → TellsIf (is_stop page reason ev) (ev ≡ Bus page reason)
stop_tells page reason (Bus g other) = (
  λ h. let k =
      both_true (same_page g page) (same_reason other reason) h in λ i. Bus (same_pages g page k.0 i) (reason-true other reason k.1 i),
  λ h. rw (page_told h, reason_told h, same_page-refl page, reason-refl reason) refl,
)
  where
    page_told : Bus g other ≡ Bus page reason → g ≡ page
    page_told h = cc

    reason_told : Bus g other ≡ Bus page reason → other ≡ reason
    reason_told h = cc
stop_tells page reason (Did action answer) = (λ h. absurd (false≢true h), λ h. cc)
stop_tells page reason (Refused action refusal) = (λ h. absurd (false≢true h), λ h. cc)
stop_tells page reason (Age g look) = (λ h. absurd (false≢true h), λ h. cc)
stop_tells page reason (Kick cpu) = (λ h. absurd (false≢true h), λ h. cc)

lost_tells : (g : Page) (fetch : Fetch) (page : Page) → TellsIf (is_lost g fetch page) (IsLost g fetch page)
lost_tells g (WaitsFor target) page = pages page g
lost_tells g (Asks target slot free) page =
    either (same_page page g) (same_page page target) (page ≡ g) (page ≡ target) (pages page g) (pages page target)

fetch_tells : (g : Page) (fetch : Fetch) (ev : Event) → TellsIf (is_fetch g fetch ev) (IsFetch g fetch ev)
fetch_tells g fetch (Bus page reasons.PutFailed) = lost_tells g fetch page
fetch_tells g (Asks target slot (Some f)) (Bus page reasons.GetFailed) = pages page target
fetch_tells g (Asks target slot (Some f)) (Bus page reasons.NoRecord) = pages page target
fetch_tells g (Asks target slot (Some f)) (Did action answer) = action_tells (load_by target slot f) action
fetch_tells g (Asks target slot (Some f)) (Refused action why.SlotEmpty) = action_tells (load_by target slot f) action
fetch_tells g _ ev = never

look_of_tells : (page : Page) (held young : Bool) (ev : Event) → TellsIf (is_look_of page held young ev) (IsLook page held young ev)
look_of_tells page held young (Age g look) =
    both (same_page g page) (is_look held young look) (g ≡ page) (is_look held young look ≡ true) (pages g page)
    (is_truth (is_look held young look))
look_of_tells page held young _ = never

try_of_tells : (n : ℕ) (ev : Event) → TellsIf (is_try_of n ev) (IsTryOf n ev)
try_of_tells n (Did (EwbStart f slot) answer) = numbers f.0 n
try_of_tells n (Refused (EwbStart f slot) refusal) = numbers f.0 n
try_of_tells n _ = never

pub next_tells : (d : Due) (ev : Event) → TellsIf (is_next d ev) (IsNext d ev)
next_tells Stopped ev = never
next_tells Finished ev = never
next_tells (Waits reason) ev = never
next_tells (Ends action) ev = action_tells (action_of ev) action
next_tells (Makes action) ev = action_tells (action_of ev) action
next_tells (Reports page reason) ev = stop_tells page reason ev
next_tells (Fetches g fetch) ev = fetch_tells g fetch ev
next_tells (LooksAt page held young) ev = look_of_tells page held young ev
next_tells (TriesOut g n) ev = try_of_tells n ev
next_tells (KicksAll cpus) ev = kick_of_tells cpus ev

below : (m n : ℕ) → TellsIf (nat_lt m n) (m < n)
below m n = (λ h. grind arith, λ h. grind arith)

load_tells : (b : Bool) → TellsIf (not b) (b ≡ false)
load_tells true = (λ h. cc, λ h. cc)
load_tells false = (λ h. refl, λ h. refl)

actors_tell : (j : JobView) (past : List Entry) (a : Actor) (ev : Event) → TellsIf (is_actors j past a ev) (IsActors j past a ev)
actors_tell j past actors.Builder ev = next_tells (builder_due j past) ev
actors_tell j past (actors.Cpu p) ev =
    both (nat_lt p.0 (length j.scripts)) (is_next (cpu_due j past p.0) ev) (p.0 < length j.scripts) (IsNext (cpu_due j past p.0) ev)
    (below p.0 (length j.scripts)) (next_tells (cpu_due j past p.0) ev)
actors_tell j past actors.Reclaimer ev = load_tells (is_load ev)

pub script_tells : (j : JobView) (past : List Entry) (e : Entry) → TellsIf (keeps_script j past e) (ScriptRule j past e)
script_tells j past e =
    let s = load_tells (is_spent past) in
    let t = actors_tell j past e.actor e.event in (
      λ h. let k = both_true (not (is_spent past)) (is_actors j past e.actor e.event) h in record { not_spent = s.0 k.0; next = t.0 k.1 },
      λ h. rw (s.1 h.not_spent, t.1 h.next) refl,
    )

-- ---- the end

outside_tells : (o : Option Stay) → TellsIf (is_outside o) (o ≡ None)
outside_tells None = (λ h. refl, λ h. refl)
outside_tells (Some s) = (λ h. absurd (false≢true h), λ h. cc)

-- .. where the page that it needed came back
done_tells : (j : JobView) (past : List Entry) (p : ℕ) → TellsIf (is_done j past p) (has_bus past p ≡ false → IsDone j past p)
done_tells j past p = by_bus (has_bus past p)
  where
    replies : TellsIf (replied past p == length (script_of j p)) (replied past p ≡ length (script_of j p))
    replies = numbers (replied past p) (length (script_of j p))

    outside : TellsIf (is_outside (stay past p)) (stay past p ≡ None)
    outside = outside_tells (stay past p)

    by_bus : (b : Bool) → TellsIf (b || ((replied past p == length (script_of j p)) && is_outside (stay past p))) (b ≡ false
        → IsDone j past p)
    by_bus true = (λ h k. cc, λ h. refl)
    by_bus false = (
      λ h k. let both_hold =
          both_true (replied past p == length (script_of j p)) (is_outside
          (stay past p)) h in record { replied = replies.0 both_hold.0; outside = outside.0 both_hold.1 },
      λ h. let d = h refl in rw (replies.1 d.replied, outside.1 d.outside) refl,
    )

all_done : (j : JobView) (past : List Entry) (n : ℕ) → TellsIf (are_done j past n) ((p : ℕ) → p < n → has_bus past p ≡ false
    → IsDone j past p)
all_done j past zero = (λ h p low. absurd (omega arith), λ h. refl)
all_done j past (suc n) =
    let before = all_done j past n in
    let last = done_tells j past n in (
      λ h p low. let k = both_true (is_done j past n) (are_done j past n) h in by_last p low (p == n) refl (last.0 k.0) (before.0 k.1),
      λ h. rw (last.1 (h n (omega arith)), before.1 (λ p low. h p (omega (arith, low)))) refl,
    )
  where
    by_last : (p : ℕ) → p < suc n → (b : Bool) → (p == n) ≡ b → (has_bus past n ≡ false → IsDone j past n)
        → ((q : ℕ) → q < n → has_bus past q ≡ false → IsDone j past q) → has_bus past p ≡ false → IsDone j past p
    by_last p low true same last before = subst (λ q. has_bus past q ≡ false → IsDone j past q) (sym (eqb-true p n same)) last
    by_last p low false other last before = before p (grind arith)

pub ended_tells : (j : JobView) (past : List Entry) → TellsIf (is_ended j past) (IsEnded j past)
ended_tells j past = by_spent (is_spent past)
  where
    builds : TellsIf (built past == length (build_of j)) (built past ≡ length (build_of j))
    builds = numbers (built past) (length (build_of j))

    cpus : TellsIf (are_done j past (length j.scripts)) ((p : ℕ) → p < length j.scripts → has_bus past p ≡ false → IsDone j past p)
    cpus = all_done j past (length j.scripts)

    by_spent : (b : Bool) → TellsIf (b || ((built past == length (build_of j)) && are_done j past (length j.scripts))) (b ≡ false
        → IsWhole j past)
    by_spent true = (λ h k. cc, λ h. refl)
    by_spent false = (
      λ h k. let both_hold =
          both_true (built past == length (build_of j)) (are_done j past
          (length j.scripts)) h in record { built = builds.0 both_hold.0; cpus = cpus.0 both_hold.1 },
      λ h. let w = h refl in rw (builds.1 w.built, cpus.1 w.cpus) refl,
    )
