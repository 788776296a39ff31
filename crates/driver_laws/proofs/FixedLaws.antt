-- Whose slot each slot is: a page's is one for pages, and a SECS's and a version array page's is that page's own.
use Rattle.std.proofs.Common.{◌≡◌, ℕ, ◌==◌, ◌||◌, not, Bool, true, false, if◌then◌else◌, refl, sym, ◌∙◌, ap, subst}
use Rattle.std.proofs.Common.{List, [], ◌∷◌, Option, Some, None, arith}
use Rattle.std.specs.Prelude.{nat_le, ◌+◌, ◌-◌, ◌<◌, length}
use Rattle.std.proofs.lemmas.Bool.{eq-eqb, eqb-true, false≢true, leb-true}
use Rattle.std.proofs.lemmas.Option.{none-some, same_Some}
use Rattle.sgx_types.proofs.Pages.{same_pages}
use Rattle.sgx_rules.proofs.Contents.{there_is}
use Rattle.sgx_rules.specs.declared.entries.Action.TheVariants.{Add, Create, Eld, EldStart, Epa, Ewb, EwbStart}
use Rattle.sgx_types.specs.declared.names.Actor.{Actor}
use Rattle.sgx_rules.specs.declared.entries.Answer.{Answer}
use Rattle.sgx_rules.specs.declared.entries.Answer.TheVariants.{Moved}
use Rattle.sgx_rules.specs.declared.entries.Entry.{Entry}
use Rattle.sgx_rules.specs.declared.entries.Event.{Event}
use Rattle.sgx_rules.specs.declared.entries.Event.TheVariants.{Age, Did, Refused}
use Rattle.sgx_types.specs.declared.names.Frame.{Frame}
use Rattle.sgx_types.specs.declared.names.Page.{Page}
use Rattle.sgx_types.specs.declared.names.SlotAt.{SlotAt}
use Rattle.sgx_types.specs.declared.names.VaSlot.{VaSlot}
use Rattle.sgx_rules.specs.Frames.{content, stands}
use Rattle.sgx_types.specs.Pages.{is_own_page, is_va_page, same_page}
use Rattle.sgx_rules.specs.Starts.{open_start, slot_found}
use Rattle.sgx_rules.specs.Slots.{version_in}
use Rattle.job_grammar.specs.Jobs.{JobView}
use Rattle.driver_rules.specs.Places.{Leaving, place}
use Rattle.driver_rules.specs.inner.Slotted.{fixed_count, fixed_slot, is_page_slot, SlotRule, SlotTells}
use Rattle.driver_laws.specs.inner.Kinds.{CanMove}
use Rattle.driver_laws.specs.inner.Fixed.{IsInJob, IsItsSlot, SlotsAreTheirs}
use Rattle.driver_laws.specs.inner.Sound.{IsSound, slot_of}
use Rattle.driver_laws.specs.inner.Used.{VersionsStand}
use Rattle.driver_laws.proofs.PlaceLaws.{holds_one}
use Rattle.driver_laws.proofs.SoundLaws.{entry_of}
use Rattle.driver_laws.proofs.SlotMoves.{same_add, same_age, same_create, same_eldstart, same_epa, same_ewb, same_refused, SameSlots}
use Rattle.driver_laws.proofs.SlotMoves.{slot_back, slot_back_other, slot_started, slot_started_other}
use Rattle.driver_laws.proofs.StillLaws.{holds_here}

pub first_theirs : (j : JobView) → SlotsAreTheirs j []
first_theirs j g s at = absurd (none-some s at)

by_same : (j : JobView) (past : List Entry) (e : Entry) → SameSlots past e → SlotsAreTheirs j past → SlotsAreTheirs j (e ∷ past)
by_same j past e same h g s at = h g s (sym (same g) ∙ at)

theirs_starting : (j : JobView) (past : List Entry) (a : Actor) (f : Frame) (to : SlotAt) (answer : Answer)
    → CanMove past (Did (EwbStart f to) answer) → SlotTells j past (Did (EwbStart f to) answer) → IsSound past → SlotsAreTheirs j past
    → SlotsAreTheirs j (entry_of a (Did (EwbStart f to) answer) ∷ past)
theirs_starting j past a f to answer can told sound h g s at = by_test (same_page page g) refl
  where
    page : Page
    page = can.0.0

    -- the page that leaves is the one that stands there
    there : page ≡ told.page
    there =
        same_pages page told.page
        (sym (holds_one (content past f.0) page told.page
        (holds_here past page (Leaving f.0) f.0 sound can.0.1 (eq-eqb f.0 f.0 refl)))
        ∙ there_is (content past f.0) told.page told.there)

    its : IsItsSlot j page told.slot
    its = subst (λ p. IsItsSlot j p told.slot) (sym there) (record { own = told.for_page.own; fixed = told.for_page.fixed })

    now : slot_of (entry_of a (Did (EwbStart f to) answer) ∷ past) page ≡ Some told.slot
    now = slot_started past a f to told.slot answer page told.found can.0.1

    by_test : (b : Bool) → same_page page g ≡ b → IsItsSlot j g s
    by_test true is =
        let same : told.slot ≡ s =
        same_Some told.slot s (sym now ∙ ap (slot_of (entry_of a (Did (EwbStart f to) answer) ∷ past)) (same_pages page g is) ∙ at) in
        subst (λ p. IsItsSlot j p s) (same_pages page g is) (subst (λ t. IsItsSlot j page t) same its)
    by_test false is = h g s (sym (slot_started_other past a f to answer page g sound can.0.1 is) ∙ at)

theirs_back : (j : JobView) (past : List Entry) (a : Actor) (f : Frame) (page : Page) (version : ℕ) (tag : List ℕ)
    → CanMove past (Did (Eld f) (Moved page version tag)) → IsSound past → SlotsAreTheirs j past
    → SlotsAreTheirs j (entry_of a (Did (Eld f) (Moved page version tag)) ∷ past)
theirs_back j past a f page version tag can sound h g s at = by_test (same_page page g) refl
  where
    entry : Entry
    entry = entry_of a (Did (Eld f) (Moved page version tag))

    by_test : (b : Bool) → same_page page g ≡ b → IsItsSlot j g s
    by_test true is =
        absurd (none-some s (sym (slot_back past a f page version tag) ∙ ap (slot_of (entry ∷ past)) (same_pages page g is) ∙ at))
    by_test false is = h g s (sym (slot_back_other past a f page g version tag can.0 sound can.1 is) ∙ at)

pub stays_theirs : (j : JobView) (past : List Entry) (e : Entry) → IsSound past → CanMove past e.event → SlotRule j past e
    → SlotsAreTheirs j past → SlotsAreTheirs j (e ∷ past)
stays_theirs j past e s can told h = by_event e.event can told
  where
    by_event : (ev : Event) → CanMove past ev → SlotTells j past ev → SlotsAreTheirs j (entry_of e.actor ev ∷ past)
    by_event (Did (Epa f) answer) c t =
        by_same j past (entry_of e.actor (Did (Epa f) answer)) (same_epa past e.actor f answer c) h
    by_event (Did (Create n f base size) answer) c t =
        by_same j past (entry_of e.actor (Did (Create n f base size) answer)) (same_create past e.actor n f base size answer c) h
    by_event (Did (Add n number f kind perm init) answer) c t =
        by_same j past (entry_of e.actor (Did (Add n number f kind perm init) answer))
        (same_add past e.actor n number f kind perm init answer c) h
    by_event (Age page look) c t = by_same j past (entry_of e.actor (Age page look)) (same_age past e.actor page look s) h
    by_event (Did (EwbStart f to) answer) c t = theirs_starting j past e.actor f to answer c t s h
    by_event (Did (Ewb f) (Moved page version tag)) c t =
        by_same j past (entry_of e.actor (Did (Ewb f) (Moved page version tag))) (same_ewb past e.actor f page version tag c s) h
    by_event (Did (EldStart f page to) answer) c t =
        by_same j past (entry_of e.actor (Did (EldStart f page to) answer)) (same_eldstart past e.actor f page to answer c s) h
    by_event (Did (Eld f) (Moved page version tag)) c t = theirs_back j past e.actor f page version tag c s h
    by_event (Refused (Eld f) refusal) c t =
        by_same j past (entry_of e.actor (Refused (Eld f) refusal)) (same_refused past e.actor f refusal c s) h
    by_event (Did (Ewb f) answer) c t = absurd c
    by_event (Did (Eld f) answer) c t = absurd c
    by_event _ c t = h

-- ---- the slot of a page that is here is empty

not_le : (a b : ℕ) → b < a → nat_le a b ≡ false
not_le a b low = by_test (nat_le a b) refl
  where
    by_test : (c : Bool) → nat_le a b ≡ c → nat_le a b ≡ false
    by_test true is = absurd (omega (arith, leb-true a b is, low))
    by_test false is = is

abbrev index_by : JobView → Page → Bool → ℕ
index_by j g true = length j.enclaves + g.number
index_by j g false = g.enclave - 1

index_is : (j : JobView) (g : Page) (b : Bool) → is_va_page g ≡ b → (fixed_slot j g).index ≡ index_by j g b
index_is j g true is = rw is refl
index_is j g false is = rw is refl

-- two pages of the job have two slots
pub fixed_apart : (j : JobView) (g h : Page) → IsInJob j g → IsInJob j h → fixed_slot j g ≡ fixed_slot j h → same_page g h ≡ true
fixed_apart j g h in_g in_h same = by_kinds (is_va_page g) refl (is_va_page h) refl
  where
    index : (b c : Bool) → is_va_page g ≡ b → is_va_page h ≡ c → index_by j g b ≡ index_by j h c
    index b c va_g va_h = sym (index_is j g b va_g) ∙ ap (λ (s : VaSlot). s.index) same ∙ index_is j h c va_h

    both : g.enclave ≡ h.enclave → g.number ≡ h.number → same_page g h ≡ true
    both e n = rw (eq-eqb g.enclave h.enclave e, eq-eqb g.number h.number n) refl

    by_kinds : (b : Bool) → is_va_page g ≡ b → (c : Bool) → is_va_page h ≡ c → same_page g h ≡ true
    by_kinds true va_g true va_h =
        both (eqb-true g.enclave 0 va_g ∙ sym (eqb-true h.enclave 0 va_h)) (omega (arith, index true true va_g va_h))
    by_kinds true va_g false va_h = absurd (omega (arith, index true false va_g va_h, in_h.secs va_h, in_h.least va_h))
    by_kinds false va_g true va_h = absurd (omega (arith, index false true va_g va_h, in_g.secs va_g, in_g.least va_g))
    by_kinds false va_g false va_h =
        both (omega (arith, index false false va_g va_h, in_g.least va_g, in_h.least va_h)) (in_g.number va_g ∙ sym (in_h.number va_h))

-- none of them is a slot for pages
fixed_is_none : (j : JobView) (g : Page) → IsInJob j g → is_page_slot j (fixed_slot j g) ≡ false
fixed_is_none j g in_g = by_kind (is_va_page g) refl
  where
    va : (b : Bool) → is_va_page g ≡ b → (fixed_slot j g).va ≡ 0
    va true is = rw is refl
    va false is = rw is refl

    low : (b : Bool) → is_va_page g ≡ b → nat_le (fixed_count j) (index_by j g b) ≡ false
    low true is = not_le (fixed_count j) (length j.enclaves + g.number) (omega (arith, in_g.array is))
    low false is = not_le (fixed_count j) (g.enclave - 1) (omega (arith, in_g.secs is, in_g.least is))

    by_kind : (b : Bool) → is_va_page g ≡ b → is_page_slot j (fixed_slot j g) ≡ false
    by_kind b is =
        ap (λ v. not (v == 0) || nat_le (fixed_count j) (fixed_slot j g).index) (va b is)
        ∙ ap (λ i. nat_le (fixed_count j) i) (index_is j g b is) ∙ low b is

-- .. so the slot of a page of the job that has no slot now holds no version
pub fixed_is_empty : (j : JobView) (past : List Entry) (g : Page) → VersionsStand past → SlotsAreTheirs j past
    → ((h : Page) (s : VaSlot) → slot_of past h ≡ Some s → is_own_page h ≡ false → IsInJob j h) → IsInJob j g → slot_of past g ≡ None
    → version_in past (fixed_slot j g) ≡ 0
fixed_is_empty j past g stand theirs placed in_g none = by_version (version_in past (fixed_slot j g) == 0) refl
  where
    mine : VaSlot
    mine = fixed_slot j g

    by_owner : (h : Page) (b : Bool) → is_own_page h ≡ b → slot_of past h ≡ Some mine → ⊥
    by_owner h true own at = false≢true (sym (fixed_is_none j g in_g) ∙ (theirs h mine at).own own)
    by_owner h false own at =
        let same = fixed_apart j g h in_g (placed h mine at own) ((theirs h mine at).fixed own) in
        none-some mine (sym none ∙ ap (slot_of past) (same_pages g h same) ∙ at)

    by_version : (b : Bool) → (version_in past mine == 0) ≡ b → version_in past mine ≡ 0
    by_version true is = eqb-true (version_in past mine) 0 is
    by_version false is = let owner = stand mine is in absurd (by_owner owner.0 (is_own_page owner.0) refl owner.1)
