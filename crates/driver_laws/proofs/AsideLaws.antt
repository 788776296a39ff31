-- A page that goes out beside the passes: which it is, and that it is alone.
use Rattle.std.proofs.Common.{◌≡◌, ℕ, ◌==◌, Bool, true, false}
use Rattle.std.proofs.Common.{if◌then◌else◌, refl, sym, ◌∙◌, ap, subst, List, ◌∷◌}
use Rattle.std.proofs.Common.{Option, Some, None, ◌⊎◌, inl, inr}
use Rattle.std.proofs.lemmas.Bool.{false≢true}
use Rattle.sgx_types.proofs.Truths.{eqb-refl}
use Rattle.sgx_rules.specs.declared.entries.Action.TheVariants.{Add, Create, Eld, EldStart, Epa, Ewb, EwbStart}
use Rattle.sgx_types.specs.declared.names.Actor.{Actor}
use Rattle.sgx_rules.specs.declared.entries.Answer.TheVariants.{Moved}
use Rattle.sgx_rules.specs.declared.entries.Entry.{Entry}
use Rattle.sgx_rules.specs.declared.entries.Event.{Event}
use Rattle.sgx_rules.specs.declared.entries.Event.TheVariants.{Age, Did, Refused}
use Rattle.sgx_rules.specs.declared.entries.Look.{Look}
use Rattle.sgx_types.specs.declared.names.Frame.{Frame}
use Rattle.sgx_types.specs.declared.names.Page.{Page}
use Rattle.sgx_types.specs.declared.names.VaSlot.{VaSlot}
use Rattle.sgx_types.specs.Pages.{is_own_page, same_page, secs_page, va_page}
use Rattle.sgx_types.proofs.Pages.{same_pages}
use Rattle.sgx_rules.specs.Frames.{content, is_blocked, vas_made}
use Rattle.sgx_rules.specs.Slots.{slot_of}
use Rattle.sgx_rules.specs.Starts.{open_start}
use Rattle.job_grammar.specs.Jobs.{JobView}
use Rattle.driver_rules.specs.Ages.{AgeOf, ahead_by}
use Rattle.driver_rules.specs.Ages.{IsAhead, IsFrame}
use Rattle.driver_laws.specs.inner.Kinds.{CanMove}
use Rattle.driver_rules.specs.Passes.{Aside, aside, aside_after, aside_by, aside_with}
use Rattle.driver_rules.specs.Passes.{IsToGo, NoneAside}
use Rattle.driver_rules.specs.Spares.{due_with, Outs}
use Rattle.driver_rules.specs.Stops.{last_event}
use Rattle.driver_rules.specs.Places.{Absent, Away, back_from, comes_into, gone_to, Here, leaves, Leaving}
use Rattle.driver_rules.specs.Places.{Loading, Place, place}
use Rattle.driver_rules.proofs.ReclaimLaws.{due_is_other}
use Rattle.driver_laws.specs.inner.Sound.{IsSound}
use Rattle.driver_laws.specs.inner.Tracks.{is_reclaimers}
use Rattle.driver_laws.proofs.MarkLaws.{head_own}
use Rattle.driver_laws.proofs.MoveLaws.{place-ewb, place-taken}
use Rattle.driver_laws.proofs.SlotLaws.{none_open}
use Rattle.driver_laws.proofs.SoundLaws.{entry_of, frame_of_here}
use Rattle.driver_laws.specs.inner.Stages.{HasAside, IsOnly}
use Rattle.driver_laws.proofs.StillLaws.{frames_apart}
use Rattle.driver_laws.proofs.WaitLaws.{IsCalm, by_reclaimer, going_kept, started_now, waits_kept}
use Rattle.driver_laws.proofs.OwnPassLaws.{others_calm}
use Rattle.sgx_types.specs.declared.names.Actor.TheVariants as actors
use Rattle.sgx_rules.specs.declared.entries.Look.TheVariants as looks
use Rattle.sgx_rules.specs.declared.refusals.Refusal.TheVariants as why
use Rattle.driver_rules.specs.Passes as goes

-- ---- a page that goes out beside the passes

-- the page that a look takes
abbrev pub takes : Event → Page → Bool
takes (Age page looks.Taken) g = same_page page g
takes _ g = false

-- a page that is leaving was so before, or is taken
pub left_before : (past : List Entry) (e : Entry) (g : Page) (f : ℕ) → place (e ∷ past) g ≡ Leaving f
    → (place past g ≡ Leaving f) ⊎ (takes e.event g ≡ true)
left_before past e g f at = by_event e.event at
  where
    put : (n : ℕ) (b : Bool) → (if b then Here n else place past g) ≡ Leaving f → place past g ≡ Leaving f
    put n true h = cc
    put n false h = h

    came : (n : ℕ) (p : Place) → comes_into n p ≡ Leaving f → p ≡ Leaving f
    came n Absent h = h
    came n (Here m) h = h
    came n (Leaving m) h = h
    came n (Loading m slot) h = h
    came n (Away slot) h = cc

    loads : (n : ℕ) (b : Bool) → (if b then comes_into n (place past g) else place past g) ≡ Leaving f → place past g ≡ Leaving f
    loads n true h = came n (place past g) h
    loads n false h = h

    gone : (o : Option VaSlot) (b : Bool) → (if b then gone_to o (place past g) else place past g) ≡ Leaving f → place past g ≡ Leaving f
    gone None true h = h
    gone (Some slot) true h = cc
    gone o false h = h

    back : (n : ℕ) (p : Place) → back_from n p ≡ Leaving f → p ≡ Leaving f
    back n Absent h = h
    back n (Here m) h = h
    back n (Leaving m) h = h
    back n (Away slot) h = h
    back n (Loading m slot) h = by_frame (m == n) h
      where
        by_frame : (b : Bool) → (if b then Away slot else Loading m slot) ≡ Leaving f → Loading m slot ≡ Leaving f
        by_frame true k = cc
        by_frame false k = k

    taken : (b : Bool) → (if b then leaves (place past g) else place past g) ≡ Leaving f → (place past g ≡ Leaving f) ⊎ (b ≡ true)
    taken true h = inr refl
    taken false h = inl h

    looked : (b : Bool) → (if b then place past g else place past g) ≡ Leaving f → place past g ≡ Leaving f
    looked true h = h
    looked false h = h

    by_event : (ev : Event) → place (entry_of e.actor ev ∷ past) g ≡ Leaving f → (place past g ≡ Leaving f) ⊎ (takes ev g ≡ true)
    by_event (Did (Epa n) answer) h = inl (put n.0 (same_page (va_page (vas_made past)) g) h)
    by_event (Did (Create enclave n base size) answer) h = inl (put n.0 (same_page (secs_page enclave) g) h)
    by_event (Did (Add enclave number n kind perm init) answer) h = inl (put n.0 (same_page _ g) h)
    by_event (Did (Eld n) (Moved page version tag)) h = inl (put n.0 (same_page page g) h)
    by_event (Did (Ewb n) (Moved page version tag)) h = inl (gone (slot_of (open_start past n.0)) (same_page page g) h)
    by_event (Did (EldStart n page slot) answer) h = inl (loads n.0 (same_page page g) h)
    by_event (Refused (Eld n) refusal) h = inl (back n.0 (place past g) h)
    by_event (Age page looks.Taken) h = taken (same_page page g) h
    by_event (Age page looks.Young) h = inl (looked (same_page page g) h)
    by_event (Age page looks.Held) h = inl (looked (same_page page g) h)
    by_event (Age page looks.NoRoom) h = inl (looked (same_page page g) h)
    by_event _ h = inl h

abbrev TakesNone : Event → Type 0
TakesNone ev = (g : Page) → takes ev g ≡ false

was_leaving : (past : List Entry) (e : Entry) (g : Page) (f : ℕ) → TakesNone e.event → place (e ∷ past) g ≡ Leaving f
    → place past g ≡ Leaving f
was_leaving past e g f none at = by_case (left_before past e g f at)
  where
    by_case : (place past g ≡ Leaving f) ⊎ (takes e.event g ≡ true) → place past g ≡ Leaving f
    by_case (inl was) = was
    by_case (inr is) = absurd (false≢true (sym (none g) ∙ is))

only_kept : (past : List Entry) (e : Entry) (g : Page) → TakesNone e.event → IsOnly past g → IsOnly (e ∷ past) g
only_kept past e g none k = (k.0, λ h f at other. k.1 h f (was_leaving past e h f none at) other)

-- an entry that takes nothing and does not touch its frame
aside_kept : (past : List Entry) (e : Entry) (a : Aside) → IsSound past → CanMove past e.event → IsCalm e.event → TakesNone e.event
    → HasAside past a → HasAside (e ∷ past) a
aside_kept past e NoneAside s can calm none k = λ g f at. k g f (was_leaving past e g f none at)
aside_kept past e (IsToGo g) s can calm none k = (only_kept past e g none k.0, waits_kept past e false g s can k.1 (calm k.1.frame))
aside_kept past e (goes.IsGoing g) s can calm none k =
    (only_kept past e g none k.0, going_kept past e g s can (λ n at. calm n) k.1)

others_take : (ev : Event) → is_reclaimers ev ≡ false → TakesNone ev
others_take (Age page look) h g = cc
others_take _ h g = refl

-- a page that is taken beside the passes
taken_aside : (past : List Entry) (page : Page) → IsSound past → CanMove past (Age page looks.Taken) → is_own_page page ≡ false
    → ((g : Page) (f : ℕ) → place past g ≡ Here f → is_blocked past f ≡ false)
    → HasAside past NoneAside → HasAside (by_reclaimer past (Age page looks.Taken)) (IsToGo page)
taken_aside past page s can other here k = (
  (other, λ g f at not_own. by_case g f not_own (left_before past (entry_of actors.Reclaimer (Age page looks.Taken)) g f at)),
  record {
    frame = stands_at.0;
    leaving = place-taken past actors.Reclaimer page stands_at.0 stands_at.1;
    block = here page stands_at.0 stands_at.1;
    start = none_open (place past) (content past) (open_start past) page stands_at.0 s.places stands_at.1;
  },
)
  where
    stands_at : (f : ℕ) × (place past page ≡ Here f)
    stands_at = frame_of_here (place past page) (can.1 other).here

    by_case : (g : Page) (f : ℕ) → is_own_page g ≡ false → (place past g ≡ Leaving f) ⊎ (same_page page g ≡ true) → g ≡ page
    by_case g f not_own (inl was) = absurd (false≢true (sym not_own ∙ k g f was))
    by_case g f not_own (inr is) = sym (same_pages page g is)

-- a look of a pass
looked_aside : (past : List Entry) (page : Page) (look : Look) → is_own_page page ≡ true → HasAside past NoneAside
    → HasAside (by_reclaimer past (Age page look)) NoneAside
looked_aside past page look own k = λ g f at. by_case g f look (left_before past (entry_of actors.Reclaimer (Age page look)) g f at)
  where
    by_case : (g : Page) (f : ℕ) (l : Look) → (place past g ≡ Leaving f) ⊎ (takes (Age page l) g ≡ true) → is_own_page g ≡ true
    by_case g f l (inl was) = k g f was
    by_case g f looks.Taken (inr is) = subst (λ (x : Page). is_own_page x ≡ true) (same_pages page g is) own
    by_case g f looks.Young (inr is) = cc
    by_case g f looks.Held (inr is) = cc
    by_case g f looks.NoRoom (inr is) = cc

-- a page that has gone out beside the passes: none is leaving any more
gone_aside : (past : List Entry) (f : Frame) (page g : Page) (version : ℕ) (tag : List ℕ) → IsSound past
    → CanMove past (Did (Ewb f) (Moved page version tag)) → IsFrame past g f.0 → IsOnly past g
    → HasAside (by_reclaimer past (Did (Ewb f) (Moved page version tag))) NoneAside
gone_aside past f page g version tag s can at only h n now = by_own (is_own_page h) refl
  where
    after : List Entry
    after = by_reclaimer past (Did (Ewb f) (Moved page version tag))

    same : (b : Bool) → same_page page g ≡ b → page ≡ g
    same true is = same_pages page g is
    same false is =
        absurd (false≢true (sym
        (frames_apart past page g (Leaving f.0) (Leaving f.0) f.0 f.0 s can.0 (eqb-refl f.0) at (eqb-refl f.0) is) ∙ eqb-refl f.0))

    apart : (slot : VaSlot) → Away slot ≡ Leaving n → ⊥
    apart slot x = cc

    by_own : (b : Bool) → is_own_page h ≡ b → is_own_page h ≡ true
    by_own true is = is
    by_own false is =
        let was = was_leaving past (entry_of actors.Reclaimer (Did (Ewb f) (Moved page version tag))) h n (λ x. refl) now in
        let itself : page ≡ h = same (same_page page g) refl ∙ sym (only.1 h n was is) in
        let away = place-ewb past actors.Reclaimer f page version tag can.1.0 can.1.1 in
        absurd (apart can.1.0.slot (sym away ∙ ap (place after) itself ∙ now))

-- an entry of the reclaimer
aside_by_own : (j : JobView) (past : List Entry) (a : Aside) (due : Option Page) (ev : Event)
    → ((g : Page) → due ≡ Some g → is_own_page g ≡ false) → IsSound past → CanMove past ev → IsAhead j past (ahead_by a due) ev
    → ((g : Page) (f : ℕ) → place past g ≡ Here f → is_blocked past f ≡ false)
    → HasAside past a → HasAside (by_reclaimer past ev) (aside_by ev a)
aside_by_own j past NoneAside None (Age page look) other s can age here k =
    let own = head_own past page s age.look.head in
    subst (λ b. HasAside (by_reclaimer past (Age page look)) (if b then NoneAside else aside_with look page)) (sym own)
    (looked_aside past page look own k)
aside_by_own j past NoneAside None (Did (EwbStart f slot) answer) other s can age here k =
    λ g n at. k g n (was_leaving past (entry_of actors.Reclaimer (Did (EwbStart f slot) answer)) g n (λ x. refl) at)
aside_by_own j past NoneAside None (Did (Ewb f) answer) other s can age here k =
    λ g n at. k g n (was_leaving past (entry_of actors.Reclaimer (Did (Ewb f) answer)) g n (λ x. refl) at)
aside_by_own j past NoneAside None ev other s can age here k =
    λ g n at. k g n (was_leaving past (entry_of actors.Reclaimer ev) g n (λ x. refl) at)
aside_by_own j past NoneAside (Some g) (Age page looks.NoRoom) other s can age here k =
    subst (λ b. HasAside (by_reclaimer past (Age page looks.NoRoom)) (if b then NoneAside else NoneAside))
    (sym (ap is_own_page age ∙ other g refl))
    (λ h n at. k h n (was_leaving past (entry_of actors.Reclaimer (Age page looks.NoRoom)) h n (λ x. refl) at))
aside_by_own j past NoneAside (Some g) (Age page looks.Taken) other s can age here k =
    let not_own = ap is_own_page age ∙ other g refl in
    subst (λ b. HasAside (by_reclaimer past (Age page looks.Taken)) (if b then NoneAside else IsToGo page)) (sym not_own)
    (taken_aside past page s can not_own here k)
aside_by_own j past NoneAside (Some g) _ other s can age here k = absurd age
aside_by_own j past (IsToGo g) due (Did (EwbStart f slot) answer) other s can age here k = (
  only_kept past (entry_of actors.Reclaimer (Did (EwbStart f slot) answer)) g (λ x. refl) k.0,
  started_now past actors.Reclaimer f slot answer g can age,
)
aside_by_own j past (IsToGo g) due (Refused (EwbStart f slot) why.VersionSpent) other s can age here k =
    aside_kept past (entry_of actors.Reclaimer (Refused (EwbStart f slot) why.VersionSpent)) (IsToGo g) s can (λ n. refl) (λ x. refl) k
aside_by_own j past (IsToGo g) due _ other s can age here k = absurd age
aside_by_own j past (goes.IsGoing g) due (Did (Ewb f) (Moved page version tag)) other s can age here k =
    gone_aside past f page g version tag s can age k.0
aside_by_own j past (goes.IsGoing g) due (Did (Ewb f) answer) other s can age here k = absurd can
aside_by_own j past (goes.IsGoing g) due _ other s can age here k = absurd age

pub aside_stays : (j : JobView) (past : List Entry) (out : Outs) (a : Actor) (ev : Event) → IsSound past → CanMove past ev
    → (is_reclaimers ev ≡ true → a ≡ actors.Reclaimer) → AgeOf j past out a ev
    → ((g : Page) (f : ℕ) → place past g ≡ Here f → is_blocked past f ≡ false)
    → HasAside past (aside past) → HasAside (entry_of a ev ∷ past) (aside_after a ev (aside past))
aside_stays j past out actors.Reclaimer ev s can own age here k =
    aside_by_own j past (aside past) (due_with j past out) ev (due_is_other j past out (last_event past actors.Reclaimer)) s can
    age here k
aside_stays j past out actors.Builder ev s can own age here k = by_own (is_reclaimers ev) refl
  where
    by_own : (b : Bool) → is_reclaimers ev ≡ b → HasAside (entry_of actors.Builder ev ∷ past) (aside past)
    by_own true is = let other : actors.Builder ≡ actors.Reclaimer = own is in absurd cc
    by_own false is = aside_kept past (entry_of actors.Builder ev) (aside past) s can (others_calm ev is) (others_take ev is) k
aside_stays j past out (actors.Cpu p) ev s can own age here k = by_own (is_reclaimers ev) refl
  where
    by_own : (b : Bool) → is_reclaimers ev ≡ b → HasAside (entry_of (actors.Cpu p) ev ∷ past) (aside past)
    by_own true is = let other : actors.Cpu p ≡ actors.Reclaimer = own is in absurd cc
    by_own false is = aside_kept past (entry_of (actors.Cpu p) ev) (aside past) s can (others_calm ev is) (others_take ev is) k
