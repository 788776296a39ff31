-- Which slot each page has behind each kind of entry.
use Rattle.std.proofs.Common.{◌≡◌, ℕ, ◌==◌, Bool, true, false, if◌then◌else◌, refl, sym, ◌∙◌, ap, List, ◌∷◌}
use Rattle.std.proofs.Common.{Option, Some, None, length}
use Rattle.std.proofs.lemmas.Bool.{eqb-true, eq-eqb, false≢true}
use Rattle.sgx_types.proofs.Pages.{same_page-refl, same_pages}
use Rattle.sgx_rules.specs.declared.entries.Action.TheVariants.{Add, Create, Eld, EldStart, Epa, Ewb, EwbStart}
use Rattle.sgx_types.specs.declared.names.Actor.{Actor}
use Rattle.sgx_rules.specs.declared.entries.Answer.{Answer}
use Rattle.sgx_rules.specs.declared.entries.Answer.TheVariants.{Moved}
use Rattle.sgx_rules.specs.declared.entries.Entry.{Entry}
use Rattle.sgx_rules.specs.declared.entries.Event.TheVariants.{Age, Did, Refused}
use Rattle.sgx_rules.specs.declared.entries.Look.{Look}
use Rattle.sgx_types.specs.declared.lawful.PageInit.{PageInit}
use Rattle.sgx_types.specs.declared.names.Frame.{Frame}
use Rattle.sgx_types.specs.declared.names.Kind.{Kind}
use Rattle.sgx_types.specs.declared.names.Perm.{Perm}
use Rattle.sgx_types.specs.declared.names.Page.{Page}
use Rattle.sgx_types.specs.declared.names.SlotAt.{SlotAt}
use Rattle.sgx_types.specs.declared.names.VaSlot.{VaSlot}
use Rattle.sgx_rules.specs.declared.refusals.Refusal.{Refusal}
use Rattle.sgx_rules.specs.Frames.{content, stands as stands_by, vas_made}
use Rattle.sgx_types.specs.Pages.{page_at, same_page, secs_page, va_page}
use Rattle.sgx_rules.specs.Starts.{open_start, slot_found, Start, started}
use Rattle.driver_laws.specs.inner.Kinds.{CanMove}
use Rattle.driver_rules.specs.Places.{Absent, after_look, Away, back_from, comes_into, gone_to, Here, Leaving, Loading, Place, place}
use Rattle.sgx_rules.specs.Slots.{open_slot, slot_of as starts_slot}
use Rattle.driver_laws.specs.inner.Sound.{IsSound, slot_at, slot_of, stands_in}
use Rattle.driver_laws.proofs.PlaceLaws.{holds_one, loads_no_page}
use Rattle.driver_laws.proofs.SlotLaws.{back-slot, none_open}
use Rattle.driver_laws.proofs.SoundLaws.{entry_of, named}
use Rattle.driver_laws.proofs.StillLaws.{load_open}
use Rattle.sgx_rules.specs.declared.entries.Look.TheVariants as looks

-- each page has the slot that it had
abbrev pub SameSlots : List Entry → Entry → Type 0
SameSlots past e = (g : Page) → slot_of (e ∷ past) g ≡ slot_of past g

-- ---- in general

-- a page's place by a test on the page
by_page : (past : List Entry) (opened : ℕ → Option Start) (a g : Page) (to : Place) (slot : Option VaSlot) → slot_of past a ≡ slot
    → slot_at opened to ≡ slot → ((h : Page) → same_page a h ≡ false → slot_at opened (place past h) ≡ slot_of past h)
    → slot_at opened (if same_page a g then to else place past g) ≡ slot_of past g
by_page past opened a g to slot before after others = by_test (same_page a g) refl
  where
    by_test : (b : Bool) → same_page a g ≡ b → slot_at opened (if b then to else place past g) ≡ slot_of past g
    by_test true is = after ∙ sym before ∙ ap (slot_of past) (same_pages a g is)
    by_test false is = others g is

-- the slot of a page of another frame is by another start
pub frame_apart : (past : List Entry) (now : ℕ → Option Start) (f : ℕ) (h : Page)
    → ((n : ℕ) → (f == n) ≡ false → now n ≡ open_start past n) → (place past h ≡ Leaving f → ⊥)
    → slot_at now (place past h) ≡ slot_of past h
frame_apart past now f h kept other = by_place (place past h) refl
  where
    by_frame : (n : ℕ) (b : Bool) → (f == n) ≡ b → place past h ≡ Leaving n → starts_slot (now n) ≡ starts_slot (open_start past n)
    by_frame n true is at = absurd (other (at ∙ ap Leaving (sym (eqb-true f n is))))
    by_frame n false is at = ap starts_slot (kept n is)

    by_place : (p : Place) → place past h ≡ p → slot_at now p ≡ slot_at (open_start past) p
    by_place (Leaving n) at = by_frame n (f == n) refl at
    by_place (Away t) at = refl
    by_place (Loading n t) at = refl
    by_place (Here n) at = refl
    by_place Absent at = refl

-- a page that leaves from a frame stands there
stands : (past : List Entry) (g : Page) (f : ℕ) → IsSound past → place past g ≡ Leaving f → stands_by (content past f) g ≡ true
stands past g f s at = s.places.frames g f ∙ ap (λ q. stands_in q f) at ∙ eq-eqb f f refl

-- .. and is the only one that does
same_leaving : (past : List Entry) (g h : Page) (f : ℕ) → IsSound past → place past g ≡ Leaving f → place past h ≡ Leaving f
    → same_page g h ≡ true
same_leaving past g h f s at_g at_h = sym (holds_one (content past f) g h (stands past g f s at_g)) ∙ stands past h f s at_h

-- no page leaves from a frame into which one comes
loading_apart : (past : List Entry) (f : ℕ) (page h : Page) (slot : VaSlot) → IsSound past → place past page ≡ Loading f slot
    → place past h ≡ Leaving f → ⊥
loading_apart past f page h slot s loading here =
    false≢true (sym (loads_no_page (content past f) h (sym (s.places.loading f) ∙ load_open past page f slot s loading))
    ∙ stands past h f s here)

-- the end of a load leaves the slots of the others
pub closed_load : (past : List Entry) (f : ℕ) (page h : Page) (slot : VaSlot) → IsSound past → place past page ≡ Loading f slot
    → slot_at (λ n. if f == n then None else open_start past n) (place past h) ≡ slot_of past h
closed_load past f page h slot s loading =
    frame_apart past (λ n. if f == n then None else open_start past n) f h (λ n other. rw other refl)
    (loading_apart past f page h slot s loading)

-- ---- entries by which no page gets a slot or loses it

pub same_epa : (past : List Entry) (a : Actor) (f : Frame) (answer : Answer)
    → CanMove past (Did (Epa f) answer) → SameSlots past (entry_of a (Did (Epa f) answer))
same_epa past a f answer can g =
    by_page past (open_start past) (va_page (vas_made past)) g (Here f.0) None (ap (slot_at (open_start past)) can.1) refl (λ h other. refl)

pub same_create : (past : List Entry) (a : Actor) (e : ℕ) (f : Frame) (base size : ℕ) (answer : Answer)
    → CanMove past (Did (Create e f base size) answer) → SameSlots past (entry_of a (Did (Create e f base size) answer))
same_create past a e f base size answer can g =
    by_page past (open_start past) (secs_page e) g (Here f.0) None (ap (slot_at (open_start past)) can.1) refl (λ h other. refl)

pub same_add : (past : List Entry) (a : Actor) (e n : ℕ) (f : Frame) (kind : Kind) (perm : Perm) (init : PageInit) (answer : Answer)
    → CanMove past (Did (Add e n f kind perm init) answer) → SameSlots past (entry_of a (Did (Add e n f kind perm init) answer))
same_add past a e n f kind perm init answer can g =
    by_page past (open_start past) (page_at e n) g (Here f.0) None (ap (slot_at (open_start past)) can.1) refl (λ h other. refl)

pub same_age : (past : List Entry) (a : Actor) (page : Page) (look : Look) → IsSound past → SameSlots past (entry_of a (Age page look))
same_age past a page look sound g = by_look (same_page page g)
  where
    looked : (l : Look) (p : Place) → place past g ≡ p → slot_at (open_start past) (after_look l p) ≡ slot_at (open_start past) p
    looked looks.Taken (Here n) at = ap starts_slot (none_open (place past) (content past) (open_start past) g n sound.places at)
    looked looks.Taken Absent at = refl
    looked looks.Taken (Leaving n) at = refl
    looked looks.Taken (Loading n t) at = refl
    looked looks.Taken (Away t) at = refl
    looked looks.Young p at = refl
    looked looks.Held p at = refl
    looked looks.NoRoom p at = refl

    by_look : (b : Bool) → slot_at (open_start past) (if b then after_look look (place past g) else place past g) ≡ slot_of past g
    by_look true = looked look (place past g) refl
    by_look false = refl

pub same_ewb : (past : List Entry) (a : Actor) (f : Frame) (page : Page) (version : ℕ) (tag : List ℕ)
    → CanMove past (Did (Ewb f) (Moved page version tag)) → IsSound past
    → SameSlots past (entry_of a (Did (Ewb f) (Moved page version tag)))
same_ewb past a f page version tag can sound g = by_test (same_page page g) refl
  where
    now : ℕ → Option Start
    now n = if f.0 == n then None else open_start past n

    before : slot_of past page ≡ Some can.1.0.slot
    before = ap (slot_at (open_start past)) can.0 ∙ ap starts_slot can.1.1

    by_test : (b : Bool) → same_page page g ≡ b
        → slot_at now (if b then gone_to (open_slot past f.0) (place past g) else place past g) ≡ slot_of past g
    by_test true is =
        ap (λ o. slot_at now (gone_to o (place past g))) (named past f.0 can.1.0 can.1.1) ∙ sym before
        ∙ ap (slot_of past) (same_pages page g is)
    by_test false is =
        frame_apart past now f.0 g (λ n other. rw other refl) (λ here. false≢true (sym is ∙ same_leaving past page g f.0 sound can.0 here))

pub same_eldstart : (past : List Entry) (a : Actor) (f : Frame) (page : Page) (to : SlotAt) (answer : Answer)
    → CanMove past (Did (EldStart f page to) answer) → IsSound past → SameSlots past (entry_of a (Did (EldStart f page to) answer))
same_eldstart past a f page to answer can sound g = by_test (same_page page g) refl
  where
    now : ℕ → Option Start
    now n = if f.0 == n then started a (length past) to answer (Some page) (slot_found (content past) to) else open_start past n

    apart : (h : Page) → place past h ≡ Leaving f.0 → ⊥
    apart h here = false≢true (sym (ap (λ c. stands_by c h) can.0) ∙ stands past h f.0 sound here)

    by_test : (b : Bool) → same_page page g ≡ b
        → slot_at now (if b then comes_into f.0 (place past g) else place past g) ≡ slot_of past g
    by_test true is =
        ap (λ p. slot_at now (comes_into f.0 p)) there ∙ sym (ap (slot_at (open_start past)) there)
      where
        there : place past g ≡ Away can.1
        there = ap (place past) (sym (same_pages page g is)) ∙ can.2
    by_test false is = frame_apart past now f.0 g (λ n k. rw k refl) (apart g)

pub same_refused : (past : List Entry) (a : Actor) (f : Frame) (refusal : Refusal) → CanMove past (Refused (Eld f) refusal) → IsSound past
    → SameSlots past (entry_of a (Refused (Eld f) refusal))
same_refused past a f refusal can sound g =
    back-slot (λ n. if f.0 == n then None else open_start past n) f.0 (place past g) ∙ closed_load past f.0 can.0 g can.1 sound can.2

-- ---- a page gets a slot, and loses it

pub slot_started : (past : List Entry) (a : Actor) (f : Frame) (to : SlotAt) (slot : VaSlot) (answer : Answer) (page : Page)
    → slot_found (content past) to ≡ Some slot → place past page ≡ Leaving f.0
    → slot_of (entry_of a (Did (EwbStart f to) answer) ∷ past) page ≡ Some slot
slot_started past a f to slot answer page found at = rw (at, found, eq-eqb f.0 f.0 refl) refl

pub slot_started_other : (past : List Entry) (a : Actor) (f : Frame) (to : SlotAt) (answer : Answer) (page g : Page) → IsSound past
    → place past page ≡ Leaving f.0 → same_page page g ≡ false
    → slot_of (entry_of a (Did (EwbStart f to) answer) ∷ past) g ≡ slot_of past g
slot_started_other past a f to answer page g sound at other =
    frame_apart past (open_start (entry_of a (Did (EwbStart f to) answer) ∷ past)) f.0 g (λ n k. rw k refl)
    (λ here. false≢true (sym other ∙ same_leaving past page g f.0 sound at here))

pub slot_back : (past : List Entry) (a : Actor) (f : Frame) (page : Page) (version : ℕ) (tag : List ℕ)
    → slot_of (entry_of a (Did (Eld f) (Moved page version tag)) ∷ past) page ≡ None
slot_back past a f page version tag = rw (same_page-refl page) refl

pub slot_back_other : (past : List Entry) (a : Actor) (f : Frame) (page g : Page) (version : ℕ) (tag : List ℕ) (slot : VaSlot)
    → IsSound past → place past page ≡ Loading f.0 slot → same_page page g ≡ false
    → slot_of (entry_of a (Did (Eld f) (Moved page version tag)) ∷ past) g ≡ slot_of past g
slot_back_other past a f page g version tag slot sound loading other = rw other (closed_load past f.0 page g slot sound loading)
