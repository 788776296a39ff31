-- The pages of a pass stand as before, one entry longer.
use Rattle.std.proofs.Common.{◌≡◌, ℕ, ◌≤◌, ◌==◌, ◌||◌, ◌&&◌, not, Bool, true, false}
use Rattle.std.proofs.Common.{if◌then◌else◌, refl, sym, ◌∙◌, ap, subst, List, [], ◌∷◌, length}
use Rattle.std.proofs.Common.{Option, Some, None, arith}
use Rattle.std.proofs.lemmas.Bool.{eqb-true, eq-eqb, false≢true, and_right}
use Rattle.sgx_types.proofs.Truths.{eqb-refl}
use Rattle.sgx_rules.specs.declared.entries.Action.TheVariants.{Add, Block, Create, Eld, EldStart, Epa, Ewb, EwbStart}
use Rattle.sgx_types.specs.declared.names.Actor.{Actor}
use Rattle.sgx_rules.specs.declared.entries.Answer.TheVariants.{Moved}
use Rattle.sgx_rules.specs.declared.entries.Entry.{Entry}
use Rattle.sgx_rules.specs.declared.entries.Event.{Event}
use Rattle.sgx_rules.specs.declared.entries.Event.TheVariants.{Age, Did, Refused}
use Rattle.sgx_rules.specs.declared.entries.Look.{Look}
use Rattle.sgx_types.specs.declared.names.Page.{Page}
use Rattle.sgx_types.specs.declared.names.VaSlot.{VaSlot}
use Rattle.sgx_types.specs.Pages.{is_own_page, same_page, secs_page, va_page}
use Rattle.sgx_types.proofs.Pages.{same_pages}
use Rattle.sgx_rules.specs.Frames.{content, Free, is_block, is_blocked, is_sealing, stands, vas_made}
use Rattle.sgx_rules.specs.Slots.{slot_of}
use Rattle.sgx_rules.specs.Starts.{open_start, slot_found, Start, started}
use Rattle.job_grammar.specs.Jobs.{JobView}
use Rattle.driver_rules.specs.Ages.{AgeOf, AgeRuleBy, Ahead, ahead, ahead_by, EndsNext, FormOf, GoesOn, InPass}
use Rattle.driver_rules.specs.Ages.{IsAhead, IsFrame, KickRule, Looks, TriesNext}
use Rattle.driver_laws.specs.inner.Kinds.{CanMove}
use Rattle.driver_rules.specs.Passes.{Aside, aside, Between, Blocking, decided}
use Rattle.driver_rules.specs.Passes.{free_count, is_aside, IsToGo, NoneAside, Pass, pass}
use Rattle.driver_rules.specs.Passes.{pass_after, pass_by, Scan}
use Rattle.driver_rules.specs.Passes.{Tries}
use Rattle.driver_rules.specs.Spares.{due_with, Outs}
use Rattle.driver_rules.specs.Stops.{last_event}
use Rattle.driver_rules.specs.Places.{Absent, active, Away, back_from, comes_into, gone_to, Here, leaves, Leaving}
use Rattle.driver_rules.specs.Places.{Loading, looked_at, Place, place}
use Rattle.driver_rules.proofs.ReclaimLaws.{due_is_other}
use Rattle.driver_laws.specs.inner.Sound.{is_load_start, is_write_start, IsSound}
use Rattle.driver_laws.specs.inner.Tracks.{is_reclaimers, OwnRule}
use Rattle.driver_laws.proofs.MarkLaws.{head_own}
use Rattle.driver_laws.proofs.SoundLaws.{entry_of}
use Rattle.driver_laws.specs.inner.Stages.{HasAside, HasPages, KeepsPages}
use Rattle.driver_laws.specs.inner.Stages.{touches}
use Rattle.driver_laws.proofs.StillLaws.{frames_apart, holds_here, load_open, place_apart}
use Rattle.driver_laws.proofs.WaitLaws.{by_reclaimer, in_pass}
use Rattle.driver_laws.proofs.OwnPassLaws.{TouchesNoOwn, others_calm, others_list, pass_kept, pass_own}
use Rattle.driver_laws.proofs.AsideLaws.{aside_stays}
use Rattle.sgx_types.specs.declared.names.Actor.TheVariants as actors
use Rattle.sgx_rules.specs.declared.entries.Look.TheVariants as looks
use Rattle.sgx_rules.specs.declared.refusals.Refusal.TheVariants as why
use Rattle.driver_rules.specs.Ages as ages
use Rattle.driver_rules.specs.Passes as goes

-- ---- an entry of anyone

decided_has : (j : JobView) (past : List Entry) (free : ℕ) (p : Pass) → HasPages past p → HasPages past (decided j free p)
decided_has j past free (Between works) k = tt
decided_has j past free (Scan left taken) k = k
decided_has j past free (Blocking due taken) k = k
decided_has j past free (Tries g rest form) k = k

-- an entry on the frame of a page that goes out beside the passes touches no frame of a page of theirs
aside_apart : (past : List Entry) (ev : Event) (g : Page) (f : ℕ) → IsSound past → is_own_page g ≡ false → IsFrame past g f
    → ((n : ℕ) → (f == n) ≡ false → touches ev n ≡ false) → TouchesNoOwn past ev
aside_apart past ev g f s other at only h own n leaving =
    only n (frames_apart past g h (Leaving f) (Leaving n) f n s at (eqb-refl f) leaving (eqb-refl n) (apart (same_page g h) refl))
  where
    apart : (b : Bool) → same_page g h ≡ b → same_page g h ≡ false
    apart true is = absurd (false≢true (sym other ∙ ap is_own_page (same_pages g h is) ∙ own))
    apart false is = is

of_reclaimer : (j : JobView) (past : List Entry) (a : Aside) (due : Option Page) (ev : Event) → aside past ≡ a
    → ((g : Page) → due ≡ Some g → is_own_page g ≡ false) → IsSound past → CanMove past ev → IsAhead j past (ahead_by a due) ev
    → FormOf past (pass j past) actors.Reclaimer ev
    → ((g : Page) (f : ℕ) → place past g ≡ Here f → is_blocked past f ≡ false) → HasAside past a → HasPages past (pass j past)
    → HasPages (by_reclaimer past ev) (if is_aside a ev then pass j past else pass_by j past ev (pass j past))
of_reclaimer j past NoneAside None (Age page look) is other s can age kick here beside k =
    let own = head_own past page s age.look.head in
    subst (λ b. HasPages (by_reclaimer past (Age page look)) (if not b then pass j past else pass_by j past (Age page look) (pass j past)))
    (sym own)
    (in_pass j past (pass j past) (Age page look) s can age.look age.in_pass
    (ap (λ x. is_aside x (Age page look)) is ∙ ap not own) kick here k)
of_reclaimer j past NoneAside None ev is other s can age kick here beside k =
    in_pass j past (pass j past) ev s can age.look age.in_pass (ap (λ x. is_aside x ev) is) kick here k
of_reclaimer j past NoneAside (Some g) (Age page look) is other s can age kick here beside k =
    subst (λ b. HasPages (by_reclaimer past (Age page look)) (if not b then pass j past else pass_by j past (Age page look) (pass j past)))
    (sym not_own)
    (pass_kept past (entry_of actors.Reclaimer (Age page look)) (pass j past) s can grown (λ h own n at. refl) (pass_own j past) k)
  where
    by_look : (l : Look) → ages.IsLookAhead g (Age page l) → page ≡ g
    by_look looks.NoRoom h = h
    by_look looks.Taken h = h
    by_look looks.Young h = absurd h
    by_look looks.Held h = absurd h

    not_own : is_own_page page ≡ false
    not_own = ap is_own_page (by_look look age) ∙ other g refl

    grown : length (active past) ≤ length (active (by_reclaimer past (Age page look)))
    grown = subst (λ b. length (active past) ≤ length (if b then looked_at look (active past) else active past)) (sym not_own) (omega arith)
of_reclaimer j past NoneAside (Some g) _ is other s can age kick here beside k = absurd age
of_reclaimer j past (IsToGo g) due (Did (EwbStart f slot) answer) is other s can age kick here beside k =
    pass_kept past (entry_of actors.Reclaimer (Did (EwbStart f slot) answer)) (pass j past) s can (omega arith)
    (aside_apart past (Did (EwbStart f slot) answer) g f.0 s beside.0.0 age (λ n x. x)) (pass_own j past) k
of_reclaimer j past (IsToGo g) due (Refused (EwbStart f slot) why.VersionSpent) is other s can age kick here beside k =
    pass_kept past (entry_of actors.Reclaimer (Refused (EwbStart f slot) why.VersionSpent)) (pass j past) s can (omega arith)
    (λ h own n at. refl) (pass_own j past) k
of_reclaimer j past (IsToGo g) due _ is other s can age kick here beside k = absurd age
of_reclaimer j past (goes.IsGoing g) due (Did (Ewb f) answer) is other s can age kick here beside k =
    pass_kept past (entry_of actors.Reclaimer (Did (Ewb f) answer)) (pass j past) s can (omega arith)
    (aside_apart past (Did (Ewb f) answer) g f.0 s beside.0.0 age (λ n x. x)) (pass_own j past) k
of_reclaimer j past (goes.IsGoing g) due _ is other s can age kick here beside k = absurd age

of_actor : (j : JobView) (past : List Entry) (out : Outs) (a : Actor) (ev : Event) → IsSound past → CanMove past ev
    → (is_reclaimers ev ≡ true → a ≡ actors.Reclaimer) → AgeOf j past out a ev
    → FormOf past (pass j past) a ev
    → ((g : Page) (f : ℕ) → place past g ≡ Here f → is_blocked past f ≡ false) → HasAside past (aside past) → HasPages past (pass j past)
    → HasPages (entry_of a ev ∷ past) (pass_after j past a ev (pass j past))
of_actor j past out actors.Reclaimer ev s can own age kick here beside k =
    of_reclaimer j past (aside past) (due_with j past out) ev refl
    (λ g is. due_is_other j past out (last_event past actors.Reclaimer) g is) s can age kick here beside k
of_actor j past out actors.Builder ev s can own age kick here beside k = by_own (is_reclaimers ev) refl
  where
    by_own : (b : Bool) → is_reclaimers ev ≡ b → HasPages (entry_of actors.Builder ev ∷ past) (pass j past)
    by_own true is = let other : actors.Builder ≡ actors.Reclaimer = own is in absurd cc
    by_own false is =
        pass_kept past (entry_of actors.Builder ev) (pass j past) s can (others_list ev (active past) is)
        (λ g mine n at. others_calm ev is n) (pass_own j past) k
of_actor j past out (actors.Cpu p) ev s can own age kick here beside k = by_own (is_reclaimers ev) refl
  where
    by_own : (b : Bool) → is_reclaimers ev ≡ b → HasPages (entry_of (actors.Cpu p) ev ∷ past) (pass j past)
    by_own true is = let other : actors.Cpu p ≡ actors.Reclaimer = own is in absurd cc
    by_own false is =
        pass_kept past (entry_of (actors.Cpu p) ev) (pass j past) s can (others_list ev (active past) is)
        (λ g mine n at. others_calm ev is n) (pass_own j past) k

-- ---- pages that are here

-- a block is of a page that is leaving
blocks_leaving : (j : JobView) (past : List Entry) (p : Pass) (ev : Event) (f : ℕ) → InPass past p ev → is_block ev f ≡ true
    → (x : Page) × (place past x ≡ Leaving f)
blocks_leaving j past (Blocking (g ∷ gs) taken) (Did (Block n) answer) f at is = (g, at ∙ ap Leaving (eqb-true n.0 f is))
blocks_leaving j past (Blocking [] taken) (Did (Block n) answer) f at is = absurd at
blocks_leaving j past (Tries g rest form) (Did (Block n) answer) f at is = absurd at
blocks_leaving j past (Between works) (Did (Block n) answer) f at is = absurd at
blocks_leaving j past (Scan left taken) (Did (Block n) answer) f at is = absurd at
blocks_leaving j past p _ f at is = cc

ahead_leaving : (j : JobView) (past : List Entry) (ahead : Ahead) (ev : Event) (f : ℕ) → IsAhead j past ahead ev → is_block ev f ≡ true
    → (x : Page) × (place past x ≡ Leaving f)
ahead_leaving j past GoesOn ev f age is = blocks_leaving j past (pass j past) ev f age.in_pass is
ahead_leaving j past (Looks g) (Did (Block n) answer) f age is = absurd age
ahead_leaving j past (TriesNext g) (Did (Block n) answer) f age is = absurd age
ahead_leaving j past (EndsNext g) (Did (Block n) answer) f age is = absurd age
ahead_leaving j past a _ f age is = cc

block_leaving : (j : JobView) (past : List Entry) (out : Outs) (a : Actor) (ev : Event) (f : ℕ)
    → (is_reclaimers ev ≡ true → a ≡ actors.Reclaimer) → AgeOf j past out a ev → is_block ev f ≡ true
    → (x : Page) × (place past x ≡ Leaving f)
block_leaving j past out actors.Reclaimer ev f own age is = ahead_leaving j past (ahead j past out) ev f age is
block_leaving j past out a (Did (Block n) answer) f own age is =
    let mine : a ≡ actors.Reclaimer = own refl in
    ahead_leaving j past (ahead j past out) (Did (Block n) answer) f
    (subst (λ b. AgeOf j past out b (Did (Block n) answer)) mine age) is
block_leaving j past out a _ f own age is = cc

not_here : (p : Place) (f : ℕ) → leaves p ≡ Here f → ⊥
not_here Absent f h = cc
not_here (Here n) f h = cc
not_here (Leaving n) f h = cc
not_here (Loading n slot) f h = cc
not_here (Away slot) f h = cc

here_kept : (past : List Entry) (e : Entry) → IsSound past → CanMove past e.event
    → ((n : ℕ) → is_block e.event n ≡ true → (x : Page) × (place past x ≡ Leaving n))
    → ((g : Page) (f : ℕ) → place past g ≡ Here f → is_blocked past f ≡ false)
    → (g : Page) (f : ℕ) → place (e ∷ past) g ≡ Here f → is_blocked (e ∷ past) f ≡ false
here_kept past e s can blocks here g f at = by_event e.event can blocks at
  where
    left_here : place past g ≡ Here f → (b : Bool) → (b && is_blocked past f) ≡ false
    left_here k b = and_right b (is_blocked past f) (here g f k)

    put_here : (n : ℕ) → Here n ≡ Here f → (not (n == f) && is_blocked past f) ≡ false
    put_here n h = let same : n ≡ f = cc in rw (eq-eqb n f same) refl

    put_at : (n : ℕ) (b : Bool) → (if b then Here n else place past g) ≡ Here f → (not (n == f) && is_blocked past f) ≡ false
    put_at n true x = put_here n x
    put_at n false x = left_here x (not (n == f))

    back : (n : ℕ) (p : Place) → back_from n p ≡ Here f → p ≡ Here f
    back n Absent x = x
    back n (Here m) x = x
    back n (Leaving m) x = x
    back n (Away slot) x = x
    back n (Loading m slot) x = by_frame (m == n) x
      where
        by_frame : (b : Bool) → (if b then Away slot else Loading m slot) ≡ Here f → Loading m slot ≡ Here f
        by_frame true y = cc
        by_frame false y = y

    came : (n : ℕ) (p : Place) → comes_into n p ≡ Here f → p ≡ Here f
    came n Absent x = x
    came n (Here m) x = x
    came n (Leaving m) x = x
    came n (Loading m slot) x = x
    came n (Away slot) x = cc

    by_event : (ev : Event) → CanMove past ev → ((n : ℕ) → is_block ev n ≡ true → (x : Page) × (place past x ≡ Leaving n))
        → place (entry_of e.actor ev ∷ past) g ≡ Here f → is_blocked (entry_of e.actor ev ∷ past) f ≡ false
    by_event (Did (Add enclave number n kind perm init) answer) k bl h = put_at n.0 (same_page _ g) h
    by_event (Did (Epa n) answer) k bl h = put_at n.0 (same_page (va_page (vas_made past)) g) h
    by_event (Did (Create enclave n base size) answer) k bl h = put_at n.0 (same_page (secs_page enclave) g) h
    by_event (Did (Eld n) (Moved page version tag)) k bl h = put_at n.0 (same_page page g) h
    by_event (Did (Ewb n) (Moved page version tag)) k bl h = by_page (same_page page g) (slot_of (open_start past n.0)) h
      where
        by_page : (b : Bool) (o : Option VaSlot) → (if b then gone_to o (place past g) else place past g) ≡ Here f
            → (not (n.0 == f) && is_blocked past f) ≡ false
        by_page true None x = left_here x (not (n.0 == f))
        by_page true (Some slot) x = cc
        by_page false o x = left_here x (not (n.0 == f))
    by_event (Did (EldStart n page slot) answer) k bl h = by_page (same_page page g) h
      where
        by_page : (b : Bool) → (if b then comes_into n.0 (place past g) else place past g) ≡ Here f
            → (not (n.0 == f) && is_blocked past f) ≡ false
        by_page true x = left_here (came n.0 (place past g) x) (not (n.0 == f))
        by_page false x = left_here x (not (n.0 == f))
    by_event (Refused (Eld n) refusal) k bl h = left_here (back n.0 (place past g) h) (not (n.0 == f))
    by_event (Age page looks.Taken) k bl h = by_page (same_page page g) (place past g) refl h
      where
        by_page : (b : Bool) (p : Place) → place past g ≡ p → (if b then leaves p else p) ≡ Here f → is_blocked past f ≡ false
        by_page true p is x = absurd (not_here p f x)
        by_page false p is x = here g f (is ∙ x)
    by_event (Age page looks.Young) k bl h = here g f (by_page (same_page page g) h)
      where
        by_page : (b : Bool) → (if b then place past g else place past g) ≡ Here f → place past g ≡ Here f
        by_page true x = x
        by_page false x = x
    by_event (Age page looks.Held) k bl h = here g f (by_page (same_page page g) h)
      where
        by_page : (b : Bool) → (if b then place past g else place past g) ≡ Here f → place past g ≡ Here f
        by_page true x = x
        by_page false x = x
    by_event (Age page looks.NoRoom) k bl h = here g f (by_page (same_page page g) h)
      where
        by_page : (b : Bool) → (if b then place past g else place past g) ≡ Here f → place past g ≡ Here f
        by_page true x = x
        by_page false x = x
    by_event (Did (Block n) answer) k bl h = by_test (n.0 == f) refl
      where
        by_test : (b : Bool) → (n.0 == f) ≡ b → (b || is_blocked past f) ≡ false
        by_test true is =
            let x = bl f is in
            absurd (false≢true (sym
            (frames_apart past g x.0 (Here f) (Leaving f) f f s h (eqb-refl f) x.1 (eqb-refl f)
            (place_apart past g x.0 (Here f) (Leaving f) h x.1 (λ y. cc))) ∙ eqb-refl f))
        by_test false is = here g f h
    by_event (Did (Ewb n) answer) k bl h = absurd k
    by_event (Did (Eld n) answer) k bl h = absurd k
    by_event _ k bl h = here g f h

-- ---- what is on its way out

free_no_write : (past : List Entry) (n : ℕ) → IsSound past → content past n ≡ Free → is_write_start (open_start past n) ≡ false
free_no_write past n s free = by_test (is_write_start (open_start past n)) refl
  where
    by_test : (b : Bool) → is_write_start (open_start past n) ≡ b → b ≡ false
    by_test true is =
        let x = s.places.writes n is in
        absurd (false≢true (sym (ap (λ c. stands c x.0) free) ∙ holds_here past x.0 (Leaving n) n s x.1 (eqb-refl n)))
    by_test false is = refl

load_no_write : (o : Option Start) → is_load_start o ≡ true → is_write_start o ≡ false
load_no_write None h = refl
load_no_write (Some start) h = rw h refl

sealing_kept : (past : List Entry) (e : Entry) → IsSound past → CanMove past e.event
    → ((n : ℕ) → is_sealing past n ≡ is_write_start (open_start past n)) → (n : ℕ)
    → is_sealing (e ∷ past) n ≡ is_write_start (open_start (e ∷ past) n)
sealing_kept past e s can h n = by_event e.event can
  where
    at_other : (f : ℕ) → is_write_start (open_start past f) ≡ false → (o : Option Start) → is_write_start o ≡ false → (b : Bool)
        → (f == n) ≡ b → is_sealing past n ≡ is_write_start (if b then o else open_start past n)
    at_other f none o now true is = h n ∙ ap (λ m. is_write_start (open_start past m)) (sym (eqb-true f n is)) ∙ none ∙ sym now
    at_other f none o now false is = h n

    by_event : (ev : Event) → CanMove past ev
        → is_sealing (entry_of e.actor ev ∷ past) n ≡ is_write_start (open_start (entry_of e.actor ev ∷ past) n)
    by_event (Did (EwbStart f to) answer) k = by_test (f.0 == n)
      where
        by_test : (b : Bool)
            → (if b then true else is_sealing past n) ≡ is_write_start
            (if b then started e.actor (length past) to answer None (slot_found (content past) to) else open_start past n)
        by_test true = sym (ap (λ o. is_write_start (started e.actor (length past) to answer None o)) k.2)
        by_test false = h n
    by_event (Did (Ewb f) (Moved page version tag)) k = by_test (f.0 == n)
      where
        by_test : (b : Bool) → (if b then false else is_sealing past n) ≡ is_write_start (if b then None else open_start past n)
        by_test true = refl
        by_test false = h n
    by_event (Did (EldStart f page to) answer) k =
        at_other f.0 (free_no_write past f.0 s k.0) (started e.actor (length past) to answer (Some page) (slot_found (content past) to))
        (ap (λ o. is_write_start (started e.actor (length past) to answer (Some page) o)) k.3)
        (f.0 == n) refl
    by_event (Did (Eld f) (Moved page version tag)) k =
        at_other f.0 (load_no_write (open_start past f.0) (load_open past page f.0 k.0 s k.1)) None refl (f.0 == n) refl
    by_event (Refused (Eld f) refusal) k =
        at_other f.0 (load_no_write (open_start past f.0) (load_open past k.0 f.0 k.1 s k.2)) None refl (f.0 == n) refl
    by_event (Did (Ewb f) answer) k = absurd k
    by_event (Did (Eld f) answer) k = absurd k
    by_event _ k = h n

-- ---- all of it

pub pages_kept : (j : JobView) (past : List Entry) (out : Outs) (e : Entry) → IsSound past → CanMove past e.event → OwnRule past e
    → AgeRuleBy j past out e → KickRule j past e → KeepsPages past (pass j past) → KeepsPages (e ∷ past) (pass j (e ∷ past))
pages_kept j past out e s can own age kick k = record {
  aside = aside_stays j past out e.actor e.event s can own age k.here k.aside;
  here = here_kept past e s can (λ n is. block_leaving j past out e.actor e.event n own age is) k.here;
  sealing = sealing_kept past e s can k.sealing;
  pages =
      decided_has j (e ∷ past) (free_count j.epc (e ∷ past)) (pass_after j past e.actor e.event (pass j past))
      (of_actor j past out e.actor e.event s can own age kick.form k.here k.aside k.pages);
}

pub first_pages : (j : JobView) → KeepsPages [] (pass j [])
first_pages j = record { aside = λ g f h. cc; here = λ g f h. cc; sealing = λ n. refl; pages = tt }
