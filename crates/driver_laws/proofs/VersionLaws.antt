-- Each version stands for a page, one entry longer.
use Rattle.std.proofs.Common.{◌≡◌, ℕ, ◌==◌, Bool, true, false, if◌then◌else◌, refl, sym, ◌∙◌, ap, subst}
use Rattle.std.proofs.Common.{List, [], ◌∷◌, Option, Some, None}
use Rattle.std.proofs.lemmas.Bool.{false≢true}
use Rattle.std.proofs.lemmas.Option.{none-some, same_Some}
use Rattle.sgx_types.proofs.Pages.{same_pages, same_slots}
use Rattle.sgx_rules.specs.declared.entries.Action.TheVariants.{Add, Create, Eld, EldStart, Epa, Ewb, EwbStart}
use Rattle.sgx_types.specs.declared.names.Actor.{Actor}
use Rattle.sgx_rules.specs.declared.entries.Answer.{Answer}
use Rattle.sgx_rules.specs.declared.entries.Answer.TheVariants.{Moved}
use Rattle.sgx_rules.specs.declared.entries.Entry.{Entry}
use Rattle.sgx_rules.specs.declared.entries.Event.{Event}
use Rattle.sgx_rules.specs.declared.entries.Event.TheVariants.{Age, Did, Refused}
use Rattle.sgx_types.specs.declared.names.Frame.{Frame}
use Rattle.sgx_types.specs.declared.names.Page.{Page}
use Rattle.sgx_types.specs.declared.names.SlotAt.{SlotAt}
use Rattle.sgx_types.specs.declared.names.VaSlot.{VaSlot}
use Rattle.sgx_types.specs.Pages.{same_page, same_slot}
use Rattle.sgx_rules.specs.Slots.{names_slot, open_slot, slot_of as slot_of_start, version_in}
use Rattle.sgx_rules.specs.Starts.{open_start, Start}
use Rattle.driver_rules.specs.Places.{place}
use Rattle.driver_laws.specs.inner.Kinds.{CanMove}
use Rattle.driver_laws.specs.inner.Sound.{IsSound, slot_at, slot_of}
use Rattle.driver_laws.specs.inner.Used.{StartTells, VersionsStand}
use Rattle.driver_laws.proofs.SlotLaws.{same_slot-refl}
use Rattle.driver_laws.proofs.SoundLaws.{entry_of, load_start, named}
use Rattle.driver_laws.proofs.SlotMoves.{same_add, same_age, same_create, same_eldstart, same_epa, same_ewb, same_refused, SameSlots}
use Rattle.driver_laws.proofs.SlotMoves.{slot_back_other, slot_started_other}

pub none_stand : VersionsStand []
none_stand s some = absurd (false≢true (sym some))

-- an entry by which no page gets a slot or loses it, and no slot a version
by_same : (past : List Entry) (e : Entry) → SameSlots past e → ((s : VaSlot) → version_in (e ∷ past) s ≡ version_in past s)
    → VersionsStand past → VersionsStand (e ∷ past)
by_same past e same kept h s some =
    let owner = h s (ap (λ v. v == 0) (sym (kept s)) ∙ some) in (owner.0, same owner.0 ∙ owner.1)

-- the page of another slot is another page
apart : (past : List Entry) (page g : Page) (mine : Option VaSlot) (s : VaSlot) → slot_of past page ≡ mine → slot_of past g ≡ Some s
    → (mine ≡ Some s → ⊥) → same_page page g ≡ false
apart past page g mine s its at other = by_test (same_page page g) refl
  where
    by_test : (b : Bool) → same_page page g ≡ b → same_page page g ≡ false
    by_test true is = absurd (other (sym its ∙ ap (slot_of past) (same_pages page g is) ∙ at))
    by_test false is = is

stand_starting : (past : List Entry) (a : Actor) (f : Frame) (to : SlotAt) (answer : Answer)
    → CanMove past (Did (EwbStart f to) answer) → StartTells past (Did (EwbStart f to) answer) → IsSound past → VersionsStand past
    → VersionsStand (entry_of a (Did (EwbStart f to) answer) ∷ past)
stand_starting past a f to answer can told sound h s some =
    let page = can.0.0 in
    let owner = h s some in
    let none : slot_of past page ≡ None = ap (slot_at (open_start past)) can.0.1 ∙ ap slot_of_start told.0 in
    let other = apart past page owner.0 None s none owner.1 (λ k. none-some s k) in
    (owner.0, slot_started_other past a f to answer page owner.0 sound can.0.1 other ∙ owner.1)

stand_out : (past : List Entry) (a : Actor) (f : Frame) (page : Page) (version : ℕ) (tag : List ℕ)
    → CanMove past (Did (Ewb f) (Moved page version tag)) → IsSound past → VersionsStand past
    → VersionsStand (entry_of a (Did (Ewb f) (Moved page version tag)) ∷ past)
stand_out past a f page version tag can sound h s some =
    by_slot (same_slot x.slot s) refl (sym (ap (λ o. (if names_slot o s then version else version_in past s) == 0) names) ∙ some)
  where
    x : Start
    x = can.1.0

    names : open_slot past f.0 ≡ Some x.slot
    names = named past f.0 x can.1.1

    mine : slot_of past page ≡ Some x.slot
    mine = ap (slot_at (open_start past)) can.0 ∙ ap slot_of_start can.1.1

    by_slot : (b : Bool) → same_slot x.slot s ≡ b → ((if b then version else version_in past s) == 0) ≡ false
        → (g : Page) × (slot_of (entry_of a (Did (Ewb f) (Moved page version tag)) ∷ past) g ≡ Some s)
    by_slot true is k = (page, same_ewb past a f page version tag can sound page ∙ mine ∙ ap Some (same_slots x.slot s is))
    by_slot false is k = let owner = h s k in (owner.0, same_ewb past a f page version tag can sound owner.0 ∙ owner.1)

stand_back : (past : List Entry) (a : Actor) (f : Frame) (page : Page) (version : ℕ) (tag : List ℕ)
    → CanMove past (Did (Eld f) (Moved page version tag)) → IsSound past → VersionsStand past
    → VersionsStand (entry_of a (Did (Eld f) (Moved page version tag)) ∷ past)
stand_back past a f page version tag can sound h s some =
    by_slot (same_slot slot s) refl (sym (ap (λ o. (if names_slot o s then 0 else version_in past s) == 0) names) ∙ some)
  where
    slot : VaSlot
    slot = can.0

    start : (x : Start) × (open_start past f.0 ≡ Some x) × (x.slot ≡ slot)
    start = load_start past f.0 page slot sound can.1

    names : open_slot past f.0 ≡ Some slot
    names = named past f.0 start.0 start.1 ∙ ap Some start.2

    mine : slot_of past page ≡ Some slot
    mine = ap (slot_at (open_start past)) can.1

    by_slot : (b : Bool) → same_slot slot s ≡ b → ((if b then 0 else version_in past s) == 0) ≡ false
        → (g : Page) × (slot_of (entry_of a (Did (Eld f) (Moved page version tag)) ∷ past) g ≡ Some s)
    by_slot true is k = absurd (false≢true (sym k))
    by_slot false is k =
        let owner = h s k in
        let same : Some slot ≡ Some s → ⊥ =
        λ e. false≢true (sym is ∙ subst (λ t. same_slot slot t ≡ true) (same_Some slot s e) (same_slot-refl slot)) in
        let other = apart past page owner.0 (Some slot) s mine owner.1 same in
        (owner.0, slot_back_other past a f page owner.0 version tag slot sound can.1 other ∙ owner.1)

pub stays_standing : (past : List Entry) (e : Entry) → IsSound past → CanMove past e.event → StartTells past e.event → VersionsStand past
    → VersionsStand (e ∷ past)
stays_standing past e s can told h = by_event e.event can told
  where
    by_event : (ev : Event) → CanMove past ev → StartTells past ev → VersionsStand (entry_of e.actor ev ∷ past)
    by_event (Did (Epa f) answer) c t =
        by_same past (entry_of e.actor (Did (Epa f) answer)) (same_epa past e.actor f answer c) (λ s. refl) h
    by_event (Did (Create n f base size) answer) c t =
        by_same past (entry_of e.actor (Did (Create n f base size) answer)) (same_create past e.actor n f base size answer c) (λ s. refl) h
    by_event (Did (Add n number f kind perm init) answer) c t =
        by_same past (entry_of e.actor (Did (Add n number f kind perm init) answer))
        (same_add past e.actor n number f kind perm init answer c) (λ s. refl) h
    by_event (Age page look) c t = by_same past (entry_of e.actor (Age page look)) (same_age past e.actor page look s) (λ s. refl) h
    by_event (Did (EwbStart f to) answer) c t = stand_starting past e.actor f to answer c t s h
    by_event (Did (Ewb f) (Moved page version tag)) c t = stand_out past e.actor f page version tag c s h
    by_event (Did (EldStart f page to) answer) c t =
        by_same past (entry_of e.actor (Did (EldStart f page to) answer)) (same_eldstart past e.actor f page to answer c s) (λ s. refl) h
    by_event (Did (Eld f) (Moved page version tag)) c t = stand_back past e.actor f page version tag c s h
    by_event (Refused (Eld f) refusal) c t =
        by_same past (entry_of e.actor (Refused (Eld f) refusal)) (same_refused past e.actor f refusal c s) (λ s. refl) h
    by_event (Did (Ewb f) answer) c t = absurd c
    by_event (Did (Eld f) answer) c t = absurd c
    by_event _ c t = h
