-- A pass keeps what it says of tracks, one entry longer.
use Rattle.std.proofs.Common.{◌≡◌, ℕ, ◌-◌, ◌==◌, not, if◌then◌else◌, Bool, true, false, zero, suc, refl, sym, ◌∙◌, ap, subst, List, []}
use Rattle.std.proofs.Common.{◌∷◌, ◌++◌, drop, Option, Some, None, length, is_some, min, nat_lt, arith}
use Rattle.std.proofs.lemmas.Bool.{eqb-true, eq-eqb, false≢true}
use Rattle.sgx_types.proofs.Truths.{eqb-swap}
use Rattle.sgx_rules.specs.declared.entries.Action.TheVariants.{Block, Ewb, EwbStart, Track}
use Rattle.sgx_types.specs.declared.names.Actor.{Actor}
use Rattle.sgx_rules.specs.declared.entries.Answer.{Answer}
use Rattle.sgx_rules.specs.declared.entries.Entry.{Entry}
use Rattle.sgx_rules.specs.declared.entries.Event.{Event}
use Rattle.sgx_rules.specs.declared.entries.Event.TheVariants.{Age, Did, Kick, Refused}
use Rattle.sgx_types.specs.declared.names.Page.{Page}
use Rattle.sgx_rules.specs.Epochs.{is_track}
use Rattle.sgx_rules.specs.Eviction.{block_place, is_drained}
use Rattle.sgx_rules.specs.declared.entries.Look.{Look}
use Rattle.sgx_types.proofs.Pages.{same_pages}
use Rattle.sgx_rules.specs.Frames.{Content, content, Free, Holds, is_blocked, IsLoading, IsVa, SecsOf, stands}
use Rattle.sgx_types.specs.Pages.{is_own_page, same_page, secs_page, va_page}
use Rattle.job_grammar.specs.Jobs.{JobView}
use Rattle.driver_rules.specs.Ages.{AgeOf, AgeRuleBy, ahead_by, FormOf, FormUnless, InPass, IsAhead, IsFrame, KickRule}
use Rattle.driver_laws.specs.inner.Kinds.{CanMove}
use Rattle.driver_rules.specs.Passes.{Aside, aside, aside_after, aside_by, aside_with, Between, block_on, Blocking, decided, First}
use Rattle.driver_rules.specs.Passes.{Form, free_count, is_aside, IsGoing, IsToGo, keepers, Kicks, kicks_on, next_tries, NoneAside}
use Rattle.driver_rules.specs.Passes.{Pass, pass, pass_after, pass_by, Scan, scan_on, scanned, Sealing, Second, taken_by, Third}
use Rattle.driver_rules.specs.Passes.{ToKick, ToTrack, Tries}
use Rattle.driver_rules.specs.Spares.{due_with, Outs}
use Rattle.driver_rules.specs.Places.{active, Leaving, place}
use Rattle.driver_rules.proofs.ReclaimLaws.{other_secs}
use Rattle.sgx_rules.specs.Table.{is_own}
use Rattle.driver_laws.specs.inner.Counted.{is_own_there}
use Rattle.driver_laws.specs.inner.Sound.{IsSound}
use Rattle.driver_laws.specs.inner.Tracks.{AllCalm, StandsInForm, is_reclaimers, IsCalm, IsTracked, IsUntracked, KeepsTracks, moves_from}
use Rattle.driver_laws.specs.inner.Tracks.{OwnRule, TryTells}
use Rattle.driver_laws.proofs.SoundLaws.{entry_of}
use Rattle.driver_laws.proofs.TrackLaws.{behind_kept, block_low, blocked_place, calm_drained, calm_kept, last_kept, none_since}
use Rattle.driver_laws.proofs.TrackLaws.{waiting_kept}
use Rattle.driver_laws.proofs.StillLaws.{frames_apart, holds_here}
use Rattle.sgx_types.specs.declared.names.Actor.TheVariants as actors
use Rattle.sgx_rules.specs.declared.refusals.Refusal.TheVariants as why
use Rattle.sgx_rules.specs.declared.entries.Look.TheVariants as looks
use Rattle.driver_rules.specs.Ages as ages

-- ---- entries that track nothing

abbrev NoTrack : Event → Type 0
NoTrack ev = (n : ℕ) → is_track ev n ≡ false

-- .. and that move no such page out of its frame
abbrev Stays : List Entry → Event → Page → Type 0
Stays past ev g = (n : ℕ) → place past g ≡ Leaving n → is_own_page g ≡ true → moves_from ev n ≡ false

at_all : (ev : Event) → ((n : ℕ) → moves_from ev n ≡ false) → (past : List Entry) (g : Page) → Stays past ev g
at_all ev h past g n at own = h n

calm_all : (past : List Entry) (e : Entry) → NoTrack e.event → AllCalm past → AllCalm (e ∷ past)
calm_all past e none calm n = calm_kept past e n (none n) (calm n)

untracked_kept : (past : List Entry) (e : Entry) (g : Page) → IsSound past → CanMove past e.event → Stays past e.event g
    → NoTrack e.event → IsUntracked past g → IsUntracked (e ∷ past) g
untracked_kept past e g s can stays none u = record {
  frame = u.frame;
  block = u.block;
  waiting = waiting_kept past e g u.frame u.block s can (stays u.frame u.waiting.leaving u.waiting.own) u.waiting;
  none = behind_kept past e g.enclave u.block (none g.enclave) ∙ u.none;
  calm = calm_all past e none u.calm;
}

tracked_kept : (past : List Entry) (e : Entry) (g : Page) → IsSound past → CanMove past e.event → Stays past e.event g
    → NoTrack e.event → IsTracked past g → IsTracked (e ∷ past) g
tracked_kept past e g s can stays none t = record {
  frame = t.frame;
  block = t.block;
  track = t.track;
  waiting = waiting_kept past e g t.frame t.block s can (stays t.frame t.waiting.leaving t.waiting.own) t.waiting;
  first = behind_kept past e g.enclave t.block (none g.enclave) ∙ t.first;
  last = last_kept past e g.enclave (none g.enclave) ∙ t.last;
  calm = λ n other. calm_kept past e n (none n) (t.calm n other);
}

form_kept : (past : List Entry) (e : Entry) (g : Page) (form : Form) → IsSound past → CanMove past e.event → Stays past e.event g
    → NoTrack e.event → StandsInForm past g form → StandsInForm (e ∷ past) g form
form_kept past e g First s can stays none k = calm_all past e none k
form_kept past e g Sealing s can stays none k = calm_all past e none k
form_kept past e g ToTrack s can stays none k = untracked_kept past e g s can stays none k
form_kept past e g Second s can stays none k = tracked_kept past e g s can stays none k
form_kept past e g ToKick s can stays none k = tracked_kept past e g s can stays none k
form_kept past e g (Kicks rest) s can stays none k = tracked_kept past e g s can stays none k
form_kept past e g Third s can stays none k = tracked_kept past e g s can stays none k

pass_kept : (past : List Entry) (e : Entry) (p : Pass) → IsSound past → CanMove past e.event → ((g : Page) → Stays past e.event g)
    → NoTrack e.event
    → KeepsTracks past p → KeepsTracks (e ∷ past) p
pass_kept past e (Between works) s can stays none k = calm_all past e none k
pass_kept past e (Scan left taken) s can stays none k = calm_all past e none k
pass_kept past e (Blocking due taken) s can stays none k = calm_all past e none k
pass_kept past e (Tries g rest form) s can stays none k = form_kept past e g form s can (stays g) none k

-- an entry that is not the reclaimer's
others_track : (ev : Event) → is_reclaimers ev ≡ false → NoTrack ev
others_track (Did (Track n) answer) h m = cc
others_track _ h m = refl

others_stay : (ev : Event) → is_reclaimers ev ≡ false → (n : ℕ) → moves_from ev n ≡ false
others_stay (Did (Ewb f) answer) h n = cc
others_stay (Did (Block f) answer) h n = cc
others_stay _ h n = refl

-- ---- what a pass goes on to

calm_scanned : (past : List Entry) (taken : List Page) → AllCalm past → KeepsTracks past (scanned taken)
calm_scanned past [] k = k
calm_scanned past (g ∷ gs) k = k

calm_scan : (past : List Entry) (left : ℕ) (taken : List Page) → AllCalm past → KeepsTracks past (scan_on left taken)
calm_scan past zero taken k = calm_scanned past taken k
calm_scan past (suc left) taken k = k

calm_tries : (past : List Entry) (rest : List Page) → AllCalm past → KeepsTracks past (next_tries rest)
calm_tries past [] k = k
calm_tries past (g ∷ gs) k = k

calm_block : (past : List Entry) (due taken : List Page) → AllCalm past → KeepsTracks past (block_on due taken)
calm_block past [] taken k = calm_tries past taken k
calm_block past (g ∷ gs) taken k = k

tracked_kicks : (past : List Entry) (g : Page) (ps : List ℕ) → IsTracked past g → StandsInForm past g (kicks_on ps)
tracked_kicks past g [] k = k
tracked_kicks past g (p ∷ ps) k = k

-- ---- the tries of a page

-- a page that stands in a frame that holds a page by its kind is a TCS or REG page
own_of : (past : List Entry) (g : Page) (f : ℕ) → IsSound past → IsFrame past g f → is_own (content past f) ≡ true → is_own_page g ≡ true
own_of past g f s at own = by_content (content past f) refl (holds_here past g (Leaving f) f s at (eq-eqb f f refl)) own
  where
    by_content : (c : Content) → content past f ≡ c → stands c g ≡ true → is_own c ≡ true → is_own_page g ≡ true
    by_content (Holds page kind perm) is h k = ap is_own_page (sym (same_pages page g h)) ∙ s.held f page kind perm is
    by_content Free is h k = absurd (false≢true k)
    by_content (IsLoading page) is h k = absurd (false≢true k)
    by_content (IsVa n) is h k = absurd (false≢true k)
    by_content (SecsOf e) is h k = absurd (false≢true k)

own_there : (c : Content) (g : Page) → stands c g ≡ true → is_own_page g ≡ true → is_own_there c ≡ true
own_there (Holds page kind perm) g h own = ap is_own_page (same_pages page g h) ∙ own
own_there Free g h own = absurd (false≢true h)
own_there (IsLoading page) g h own = absurd (false≢true h)
own_there (IsVa n) g h own = absurd (false≢true (ap is_own_page (same_pages (va_page n) g h) ∙ own))
own_there (SecsOf e) g h own = absurd (false≢true (sym (other_secs e) ∙ ap is_own_page (same_pages (secs_page e) g h) ∙ own))

drained_by : (past : List Entry) (g : Page) (f : ℕ) → IsSound past → IsFrame past g f
    → (is_own_there (content past f) ≡ true → is_drained past f ≡ true) → IsTracked past g → is_drained past f ≡ true
drained_by past g f s at tells t =
    tells (own_there (content past f) g (holds_here past g (Leaving f) f s at (eq-eqb f f refl)) t.waiting.own)

-- all is calm once a page is drained
all_calm : (past : List Entry) (g : Page) (f : ℕ) → IsSound past → IsFrame past g f → is_drained past f ≡ true → IsTracked past g
    → AllCalm past
all_calm past g f s at drained t n = by_enclave (n == g.enclave) refl
  where
    same : Leaving t.frame ≡ Leaving f
    same = sym t.waiting.leaving ∙ at

    frame : t.frame ≡ f
    frame = cc

    by_enclave : (b : Bool) → (n == g.enclave) ≡ b → IsCalm past n
    by_enclave true is =
        subst (λ m. IsCalm past m) (sym (eqb-true n g.enclave is)) (calm_drained past g t s
        (subst (λ m. is_drained past m ≡ true) (sym frame) drained))
    by_enclave false is = t.calm n is

-- a first try that is refused
untracked : (past : List Entry) (g : Page) (f : ℕ) → IsSound past → IsFrame past g f → is_blocked past f ≡ true → is_drained past f ≡ false
    → is_own_page g ≡ true → AllCalm past → IsUntracked past g
untracked past g f s at blocked not_drained own calm = by_place (block_place past f) refl (sym (blocked_place past f) ∙ blocked)
  where
    by_place : (o : Option ℕ) → block_place past f ≡ o → is_some o ≡ true → IsUntracked past g
    by_place None is k = cc
    by_place (Some b) is k = record {
      frame = f;
      block = b;
      waiting = record { leaving = at; blocked = is; own = own };
      none = none_since past g f b s (calm g.enclave) (record { leaving = at; blocked = is; own = own }) not_drained;
      calm = calm;
    }

-- the track behind it
tracks : (past : List Entry) (a : Actor) (n : ℕ) (answer : Answer) (g : Page) → IsSound past → n ≡ g.enclave → IsUntracked past g
    → IsTracked (entry_of a (Did (Track n) answer) ∷ past) g
tracks past a n answer g s same u = record {
  frame = u.frame;
  block = u.block;
  track = length past;
  waiting = waiting_kept past (entry_of a (Did (Track n) answer)) g u.frame u.block s tt refl u.waiting;
  first = rw (u.none, here) (rw behind refl);
  last = rw here refl;
  calm = λ m other. calm_kept past (entry_of a (Did (Track n) answer)) m (apart m other) (u.calm m);
}
  where
    here : (n == g.enclave) ≡ true
    here = eq-eqb n g.enclave same

    behind : nat_lt u.block (length past) ≡ true
    behind = let low = block_low past u.frame u.block u.waiting.blocked in grind arith

    apart : (m : ℕ) → (m == g.enclave) ≡ false → (n == m) ≡ false
    apart m other = ap (λ k. k == m) same ∙ eqb-swap g.enclave m ∙ other

-- ---- an entry of the reclaimer

abbrev by_reclaimer : List Entry → Event → List Entry
by_reclaimer past ev = entry_of actors.Reclaimer ev ∷ past

-- a start ends the tries: all is calm where the page is drained
sealing : (past : List Entry) (ev : Event) (g : Page) (f : ℕ) → NoTrack ev → IsSound past → IsFrame past g f → is_drained past f ≡ true
    → IsTracked past g → AllCalm (by_reclaimer past ev)
sealing past ev g f none s at drained t = calm_all past (entry_of actors.Reclaimer ev) none (all_calm past g f s at drained t)

-- behind the second refusal: the first kick, or the last try where nobody keeps the page back
to_kick : (j : JobView) (past : List Entry) (g : Page) (rest : List Page) (all : List ℕ) (ev : Event) → IsSound past → CanMove past ev
    → TryTells past ev → ages.IsInTries past g ev → ages.IsKickOrTry all ev → IsTracked past g
    → KeepsTracks (by_reclaimer past ev) (pass_by j past ev (Tries g rest ToKick))
to_kick j past g rest (p ∷ ps) (Kick cpu) s can tells at kick k =
    tracked_kicks (by_reclaimer past (Kick cpu)) g (drop 1 (keepers past g))
    (tracked_kept past (entry_of actors.Reclaimer (Kick cpu)) g s can (λ n at own. refl) (λ n. refl) k)
to_kick j past g rest (p ∷ ps) _ s can tells at kick k = absurd kick
to_kick j past g rest [] (Did (EwbStart f slot) answer) s can tells at kick k =
    sealing past (Did (EwbStart f slot) answer) g f.0 (λ n. refl) s at (drained_by past g f.0 s at tells k) k
to_kick j past g rest [] (Refused (EwbStart f slot) why.VersionSpent) s can tells at kick k =
    tracked_kept past (entry_of actors.Reclaimer (Refused (EwbStart f slot) why.VersionSpent)) g s can (λ n at own. refl) (λ n. refl) k
to_kick j past g rest [] (Refused (EwbStart f slot) (why.SlotOccupied version)) s can tells at kick k =
    tracked_kept past (entry_of actors.Reclaimer (Refused (EwbStart f slot) (why.SlotOccupied version))) g s can (λ n at own. refl)
    (λ n. refl) k
to_kick j past g rest [] _ s can tells at kick k = absurd kick

in_tries : (j : JobView) (past : List Entry) (g : Page) (rest : List Page) (form : Form) (ev : Event) → IsSound past → CanMove past ev
    → TryTells past ev → ages.IsInTries past g ev → ages.InForm past g form ev → StandsInForm past g form
    → KeepsTracks (by_reclaimer past ev) (pass_by j past ev (Tries g rest form))
in_tries j past g rest First (Did (EwbStart f slot) answer) s can tells at kick k =
    calm_all past (entry_of actors.Reclaimer (Did (EwbStart f slot) answer)) (λ n. refl) k
in_tries j past g rest First (Refused (EwbStart f slot) why.VersionSpent) s can tells at kick k =
    calm_all past (entry_of actors.Reclaimer (Refused (EwbStart f slot) why.VersionSpent)) (λ n. refl) k
in_tries j past g rest First (Refused (EwbStart f slot) (why.NotTracked epoch older)) s can tells at kick k =
    untracked_kept past (entry_of actors.Reclaimer (Refused (EwbStart f slot) (why.NotTracked epoch older))) g s can
    (λ n at own. refl) (λ n. refl)
    (untracked past g f.0 s at tells.0 tells.1 (own_of past g f.0 s at tells.2) k)
in_tries j past g rest First (Refused (EwbStart f slot) (why.SlotOccupied version)) s can tells at kick k =
    calm_all past (entry_of actors.Reclaimer (Refused (EwbStart f slot) (why.SlotOccupied version))) (λ n. refl) k
in_tries j past g rest First _ s can tells at kick k = absurd kick
in_tries j past g rest ToTrack (Did (Track n) answer) s can tells at kick k = tracks past actors.Reclaimer n answer g s kick k
in_tries j past g rest ToTrack (Refused (Track n) why.EpochSpent) s can tells at kick k =
    untracked_kept past (entry_of actors.Reclaimer (Refused (Track n) why.EpochSpent)) g s can (λ n at own. refl) (λ m. refl) k
in_tries j past g rest ToTrack _ s can tells at kick k = absurd kick
in_tries j past g rest Second (Did (EwbStart f slot) answer) s can tells at kick k =
    sealing past (Did (EwbStart f slot) answer) g f.0 (λ n. refl) s at (drained_by past g f.0 s at tells k) k
in_tries j past g rest Second (Refused (EwbStart f slot) why.VersionSpent) s can tells at kick k =
    tracked_kept past (entry_of actors.Reclaimer (Refused (EwbStart f slot) why.VersionSpent)) g s can (λ n at own. refl) (λ n. refl) k
in_tries j past g rest Second (Refused (EwbStart f slot) (why.NotTracked epoch older)) s can tells at kick k =
    tracked_kept past (entry_of actors.Reclaimer (Refused (EwbStart f slot) (why.NotTracked epoch older))) g s can (λ n at own. refl)
    (λ n. refl) k
in_tries j past g rest Second (Refused (EwbStart f slot) (why.SlotOccupied version)) s can tells at kick k =
    tracked_kept past (entry_of actors.Reclaimer (Refused (EwbStart f slot) (why.SlotOccupied version))) g s can (λ n at own. refl)
    (λ n. refl) k
in_tries j past g rest Second _ s can tells at kick k = absurd kick
in_tries j past g rest ToKick ev s can tells at kick k = to_kick j past g rest (keepers past g) ev s can tells at kick k
in_tries j past g rest (Kicks (p ∷ ps)) (Kick cpu) s can tells at kick k =
    tracked_kicks (by_reclaimer past (Kick cpu)) g ps
    (tracked_kept past (entry_of actors.Reclaimer (Kick cpu)) g s can (λ n at own. refl) (λ n. refl) k)
in_tries j past g rest (Kicks ps) _ s can tells at kick k = absurd kick
in_tries j past g rest Third (Did (EwbStart f slot) answer) s can tells at kick k =
    sealing past (Did (EwbStart f slot) answer) g f.0 (λ n. refl) s at (drained_by past g f.0 s at tells k) k
in_tries j past g rest Third (Refused (EwbStart f slot) why.VersionSpent) s can tells at kick k =
    tracked_kept past (entry_of actors.Reclaimer (Refused (EwbStart f slot) why.VersionSpent)) g s can (λ n at own. refl) (λ n. refl) k
in_tries j past g rest Third (Refused (EwbStart f slot) (why.SlotOccupied version)) s can tells at kick k =
    tracked_kept past (entry_of actors.Reclaimer (Refused (EwbStart f slot) (why.SlotOccupied version))) g s can (λ n at own. refl)
    (λ n. refl) k
in_tries j past g rest Third _ s can tells at kick k = absurd kick
in_tries j past g rest Sealing (Did (Ewb f) answer) s can tells at kick k =
    calm_tries (by_reclaimer past (Did (Ewb f) answer)) rest (calm_all past (entry_of actors.Reclaimer (Did (Ewb f) answer)) (λ n. refl) k)
in_tries j past g rest Sealing _ s can tells at kick k = absurd kick

-- what the form of the tries asks of an entry of the pass
abbrev FormIn : List Entry → Pass → Event → Type 0
FormIn past (Tries g rest form) ev = ages.InForm past g form ev
FormIn past _ ev = Unit {0}

in_pass : (j : JobView) (past : List Entry) (p : Pass) (ev : Event) → IsSound past → CanMove past ev → TryTells past ev → InPass past p ev
    → FormIn past p ev → KeepsTracks past p
    → KeepsTracks (by_reclaimer past ev) (pass_by j past ev p)
in_pass j past (Between works) (Age page look) s can tells at kick k =
    calm_scan (by_reclaimer past (Age page look)) (min j.marks.scan (length (active past)) - 1) (taken_by look page)
    (calm_all past (entry_of actors.Reclaimer (Age page look)) (λ n. refl) k)
in_pass j past (Scan left taken) (Age page look) s can tells at kick k =
    calm_scan (by_reclaimer past (Age page look)) (left - 1) (taken ++ taken_by look page)
    (calm_all past (entry_of actors.Reclaimer (Age page look)) (λ n. refl) k)
in_pass j past (Blocking due taken) (Did (Block f) answer) s can tells at kick k =
    calm_block (by_reclaimer past (Did (Block f) answer)) (drop 1 due) taken
    (calm_all past (entry_of actors.Reclaimer (Did (Block f) answer)) (λ n. refl) k)
in_pass j past (Tries g rest form) ev s can tells at kick k = in_tries j past g rest form ev s can tells at kick k
in_pass j past _ ev s can tells at kick k = absurd at

-- ---- an entry of anyone

decided_keeps : (j : JobView) (past : List Entry) (free : ℕ) (p : Pass) → KeepsTracks past p → KeepsTracks past (decided j free p)
decided_keeps j past free (Between works) k = k
decided_keeps j past free (Scan left taken) k = k
decided_keeps j past free (Blocking due taken) k = k
decided_keeps j past free (Tries g rest form) k = k

-- a page that goes out beside the passes is no TCS or REG page
abbrev IsOther : Aside → Type 0
IsOther NoneAside = Unit {0}
IsOther (IsToGo g) = is_own_page g ≡ false
IsOther (IsGoing g) = is_own_page g ≡ false

aside_other : (past : List Entry) → IsOther (aside past)
aside_other [] = tt
aside_other (e ∷ past) = by_actor e.actor (aside_other past)
  where
    by_look : (look : Look) (g : Page) (b : Bool) → is_own_page g ≡ b → IsOther (if b then NoneAside else aside_with look g)
    by_look look g true is = tt
    by_look looks.Taken g false is = is
    by_look looks.Young g false is = tt
    by_look looks.Held g false is = tt
    by_look looks.NoRoom g false is = tt

    by_event : (ev : Event) (a : Aside) → IsOther a → IsOther (aside_by ev a)
    by_event (Age page look) a h = by_look look page (is_own_page page) refl
    by_event (Did (EwbStart f slot) answer) NoneAside h = tt
    by_event (Did (EwbStart f slot) answer) (IsToGo g) h = h
    by_event (Did (EwbStart f slot) answer) (IsGoing g) h = h
    by_event (Did (Ewb f) answer) a h = tt
    by_event _ a h = h

    by_actor : (a : Actor) → IsOther (aside past) → IsOther (aside_after a e.event (aside past))
    by_actor actors.Reclaimer h = by_event e.event (aside past) h
    by_actor actors.Builder h = h
    by_actor (actors.Cpu p) h = h

-- a look leaves all calm, whatever a pass is at
looked : (j : JobView) (past : List Entry) (p : Pass) (page : Page) (look : Look) → IsSound past → CanMove past (Age page look)
    → KeepsTracks past p → KeepsTracks (by_reclaimer past (Age page look)) (pass_by j past (Age page look) p)
looked j past (Between works) page look s can k =
    calm_scan (by_reclaimer past (Age page look)) (min j.marks.scan (length (active past)) - 1) (taken_by look page)
    (calm_all past (entry_of actors.Reclaimer (Age page look)) (λ n. refl) k)
looked j past (Scan left taken) page look s can k =
    calm_scan (by_reclaimer past (Age page look)) (left - 1) (taken ++ taken_by look page)
    (calm_all past (entry_of actors.Reclaimer (Age page look)) (λ n. refl) k)
looked j past (Blocking due taken) page look s can k =
    pass_kept past (entry_of actors.Reclaimer (Age page look)) (Blocking due taken) s can (λ g n at own. refl) (λ n. refl) k
looked j past (Tries g rest form) page look s can k =
    pass_kept past (entry_of actors.Reclaimer (Age page look)) (Tries g rest form) s can (λ h n at own. refl) (λ n. refl) k

abbrev FormBeside : List Entry → Aside → Pass → Event → Type 0
FormBeside past a (Tries g rest form) ev = FormUnless past (is_aside a ev) g form ev
FormBeside past a _ ev = Unit {0}

form_beside : (past : List Entry) (p : Pass) (ev : Event) → FormOf past p actors.Reclaimer ev → FormBeside past (aside past) p ev
form_beside past (Tries g rest form) ev k = k
form_beside past (Between works) ev k = tt
form_beside past (Scan left taken) ev k = tt
form_beside past (Blocking due taken) ev k = tt

beside_in : (past : List Entry) (p : Pass) (ev : Event) → is_aside NoneAside ev ≡ false → FormBeside past NoneAside p ev → FormIn past p ev
beside_in past (Tries g rest form) ev none k = subst (λ b. FormUnless past b g form ev) none k
beside_in past (Between works) ev none k = tt
beside_in past (Scan left taken) ev none k = tt
beside_in past (Blocking due taken) ev none k = tt

-- an entry of the reclaimer, of its pass or beside it
by_aside : (j : JobView) (past : List Entry) (a : Aside) (due : Option Page) (ev : Event) → IsOther a → IsSound past → CanMove past ev
    → TryTells past ev → IsAhead j past (ahead_by a due) ev → FormBeside past a (pass j past) ev → KeepsTracks past (pass j past)
    → KeepsTracks (by_reclaimer past ev) (if is_aside a ev then pass j past else pass_by j past ev (pass j past))
by_aside j past NoneAside due (Age page look) other s can tells age kick k = by_own (is_own_page page)
  where
    by_own : (b : Bool) → KeepsTracks (by_reclaimer past (Age page look))
        (if not b then pass j past else pass_by j past (Age page look) (pass j past))
    by_own true = looked j past (pass j past) page look s can k
    by_own false = pass_kept past (entry_of actors.Reclaimer (Age page look)) (pass j past) s can (λ g n at own. refl) (λ n. refl) k
by_aside j past NoneAside None ev other s can tells age kick k =
    in_pass j past (pass j past) ev s can tells age.in_pass (beside_in past (pass j past) ev refl kick) k
by_aside j past NoneAside (Some g) _ other s can tells age kick k = absurd age
by_aside j past (IsToGo g) due (Did (EwbStart f slot) answer) other s can tells age kick k =
    pass_kept past (entry_of actors.Reclaimer (Did (EwbStart f slot) answer)) (pass j past) s can (λ h n at own. refl) (λ n. refl) k
by_aside j past (IsToGo g) due (Refused (EwbStart f slot) why.VersionSpent) other s can tells age kick k =
    pass_kept past (entry_of actors.Reclaimer (Refused (EwbStart f slot) why.VersionSpent)) (pass j past) s can (λ h n at own. refl)
    (λ n. refl) k
by_aside j past (IsToGo g) due _ other s can tells age kick k = absurd age
by_aside j past (IsGoing g) due (Did (Ewb f) answer) other s can tells age kick k =
    pass_kept past (entry_of actors.Reclaimer (Did (Ewb f) answer)) (pass j past) s can
    (λ h n at own. frames_apart past g h (Leaving f.0) (Leaving n) f.0 n s age (eq-eqb f.0 f.0 refl) at (eq-eqb n n refl)
    (apart h (same_page g h) refl own)) (λ n. refl) k
  where
    apart : (h : Page) (b : Bool) → same_page g h ≡ b → is_own_page h ≡ true → same_page g h ≡ false
    apart h true is own = absurd (false≢true (sym other ∙ ap is_own_page (same_pages g h is) ∙ own))
    apart h false is own = is
by_aside j past (IsGoing g) due _ other s can tells age kick k = absurd age

of_actor : (j : JobView) (past : List Entry) (out : Outs) (a : Actor) (ev : Event) → IsSound past → CanMove past ev → TryTells past ev
    → (is_reclaimers ev ≡ true → a ≡ actors.Reclaimer) → AgeOf j past out a ev → FormOf past (pass j past) a ev
    → KeepsTracks past (pass j past) → KeepsTracks (entry_of a ev ∷ past) (pass_after j past a ev (pass j past))
of_actor j past out actors.Reclaimer ev s can tells own age kick k =
    by_aside j past (aside past) (due_with j past out) ev (aside_other past) s can tells age (form_beside past (pass j past) ev kick) k
of_actor j past out actors.Builder ev s can tells own age kick k = by_own (is_reclaimers ev) refl
  where
    by_own : (b : Bool) → is_reclaimers ev ≡ b → KeepsTracks (entry_of actors.Builder ev ∷ past) (pass j past)
    by_own true is = let other : actors.Builder ≡ actors.Reclaimer = own is in absurd cc
    by_own false is = pass_kept past (entry_of actors.Builder ev) (pass j past) s can (at_all ev (others_stay ev is) past)
        (others_track ev is) k
of_actor j past out (actors.Cpu p) ev s can tells own age kick k = by_own (is_reclaimers ev) refl
  where
    by_own : (b : Bool) → is_reclaimers ev ≡ b → KeepsTracks (entry_of (actors.Cpu p) ev ∷ past) (pass j past)
    by_own true is = let other : actors.Cpu p ≡ actors.Reclaimer = own is in absurd cc
    by_own false is = pass_kept past (entry_of (actors.Cpu p) ev) (pass j past) s can (at_all ev (others_stay ev is) past)
        (others_track ev is) k

-- one entry more keeps what a pass says of tracks, whichever slots are out
pub tracks_stay : (j : JobView) (past : List Entry) (out : Outs) (e : Entry) → IsSound past → CanMove past e.event → TryTells past e.event
    → OwnRule past e → AgeRuleBy j past out e → KickRule j past e
    → KeepsTracks past (pass j past) → KeepsTracks (e ∷ past) (pass j (e ∷ past))
tracks_stay j past out e s can tells own age kick k =
    decided_keeps j (e ∷ past) (free_count j.epc (e ∷ past)) (pass_after j past e.actor e.event (pass j past))
    (of_actor j past out e.actor e.event s can tells own age kick.form k)

-- ---- what it gives

-- a first try that is refused for want of a track: there is no track since the block
pub first_refusal : (j : JobView) (past : List Entry) (g : Page) (rest : List Page) (f : ℕ) → IsSound past → KeepsTracks past (pass j past)
    → pass j past ≡ Tries g rest First
    → place past g ≡ Leaving f → is_blocked past f ≡ true → is_drained past f ≡ false → is_own_page g ≡ true → IsUntracked past g
first_refusal j past g rest f s k is at blocked not_drained own =
    untracked past g f s at blocked not_drained own (subst (KeepsTracks past) is k)
