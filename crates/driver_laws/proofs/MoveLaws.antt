-- Where each kind of entry leaves a page and the list, as equations to rewrite by.
use Rattle.std.proofs.Common.{◌≡◌, ℕ, ◌==◌, Bool, true, false, if◌then◌else◌, refl, ◌∙◌, ap, List, [], ◌∷◌, ◌++◌}
use Rattle.std.proofs.Common.{drop, None, Some, sym}
use Rattle.std.proofs.lemmas.Bool.{eq-eqb}
use Rattle.sgx_rules.specs.declared.entries.Action.TheVariants.{Add, Create, Eld, EldStart, Epa, Ewb}
use Rattle.sgx_types.specs.declared.names.Actor.{Actor}
use Rattle.sgx_rules.specs.declared.entries.Answer.{Answer}
use Rattle.sgx_rules.specs.declared.entries.Answer.TheVariants.{Moved}
use Rattle.sgx_rules.specs.declared.entries.Entry.{Entry}
use Rattle.sgx_rules.specs.declared.entries.Event.{Event}
use Rattle.sgx_rules.specs.declared.entries.Event.TheVariants.{Age, Did, Refused}
use Rattle.sgx_rules.specs.declared.entries.Look.{Look}
use Rattle.sgx_types.specs.declared.lawful.PageInit.{PageInit}
use Rattle.sgx_types.specs.declared.names.Cpu.{Cpu}
use Rattle.sgx_types.specs.declared.names.Frame.{Frame}
use Rattle.sgx_rules.specs.Processors.{is_by}
use Rattle.driver_rules.specs.Turns.{last_of, Loads, Other}
use Rattle.sgx_types.specs.declared.names.Kind.{Kind}
use Rattle.sgx_types.specs.declared.names.Page.{Page}
use Rattle.sgx_types.specs.declared.names.Perm.{Perm}
use Rattle.sgx_types.specs.declared.names.SlotAt.{SlotAt}
use Rattle.sgx_types.specs.declared.names.VaSlot.{VaSlot}
use Rattle.sgx_rules.specs.declared.refusals.Refusal.{Refusal}
use Rattle.sgx_types.specs.Pages.{is_own_page, page_at, same_page, secs_page, va_page}
use Rattle.sgx_rules.specs.Frames.{vas_made}
use Rattle.sgx_rules.specs.Starts.{open_start, Start}
use Rattle.sgx_types.proofs.Pages.{same_page-refl}
use Rattle.driver_laws.specs.inner.Kinds.{is_quiet}
use Rattle.driver_rules.specs.Places.{Absent, active, Away, back_from, Here, is_young, Leaving, Loading, Place, place, to_tail}
use Rattle.driver_laws.specs.inner.Sound.{IsSound, load_slot, slot_if, slot_loading}
use Rattle.driver_laws.proofs.PlaceLaws.{loads_no_other}
use Rattle.driver_laws.proofs.SoundLaws.{entry_of}
use Rattle.sgx_types.specs.declared.names.Actor.TheVariants as actors
use Rattle.sgx_rules.specs.declared.entries.Look.TheVariants as looks

-- ---- places

-- a page that an entry adds is here, and no other moves
pub place-add : (past : List Entry) (a : Actor) (e n : ℕ) (f : Frame) (kind : Kind) (perm : Perm) (init : PageInit) (answer : Answer)
    → place (entry_of a (Did (Add e n f kind perm init) answer) ∷ past) (page_at e n) ≡ Here f.0
place-add past a e n f kind perm init answer = rw (same_page-refl (page_at e n)) refl

pub place-add-other : (past : List Entry) (a : Actor) (e n : ℕ) (f : Frame) (kind : Kind) (perm : Perm) (init : PageInit) (answer : Answer)
    (g : Page) → same_page (page_at e n) g ≡ false
    → place (entry_of a (Did (Add e n f kind perm init) answer) ∷ past) g ≡ place past g
place-add-other past a e n f kind perm init answer g other = rw other refl

-- a version array page that is made is here, and so is the SECS of an enclave that is created
pub place-epa : (past : List Entry) (a : Actor) (f : Frame) (answer : Answer)
    → place (entry_of a (Did (Epa f) answer) ∷ past) (va_page (vas_made past)) ≡ Here f.0
place-epa past a f answer = rw (same_page-refl (va_page (vas_made past))) refl

pub place-epa-other : (past : List Entry) (a : Actor) (f : Frame) (answer : Answer) (g : Page)
    → same_page (va_page (vas_made past)) g ≡ false
    → place (entry_of a (Did (Epa f) answer) ∷ past) g ≡ place past g
place-epa-other past a f answer g other = rw other refl

pub place-create : (past : List Entry) (a : Actor) (e : ℕ) (f : Frame) (base size : ℕ) (answer : Answer)
    → place (entry_of a (Did (Create e f base size) answer) ∷ past) (secs_page e) ≡ Here f.0
place-create past a e f base size answer = rw (same_page-refl (secs_page e)) refl

pub place-create-other : (past : List Entry) (a : Actor) (e : ℕ) (f : Frame) (base size : ℕ) (answer : Answer) (g : Page)
    → same_page (secs_page e) g ≡ false
    → place (entry_of a (Did (Create e f base size) answer) ∷ past) g ≡ place past g
place-create-other past a e f base size answer g other = rw other refl

-- a page that is taken is leaving
pub place-taken : (past : List Entry) (a : Actor) (g : Page) (f : ℕ) → place past g ≡ Here f
    → place (entry_of a (Age g looks.Taken) ∷ past) g ≡ Leaving f
place-taken past a g f here = rw (same_page-refl g, here) refl

pub place-taken-other : (past : List Entry) (a : Actor) (page g : Page) → same_page page g ≡ false
    → place (entry_of a (Age page looks.Taken) ∷ past) g ≡ place past g
place-taken-other past a page g other = rw other refl

-- .. and another look moves none
either : {X : Type 0} (b : Bool) (x : X) → (if b then x else x) ≡ x
either true x = refl
either false x = refl

pub place-young : (past : List Entry) (a : Actor) (page g : Page) → place (entry_of a (Age page looks.Young) ∷ past) g ≡ place past g
place-young past a page g = either (same_page page g) (place past g)

pub place-held : (past : List Entry) (a : Actor) (page g : Page) → place (entry_of a (Age page looks.Held) ∷ past) g ≡ place past g
place-held past a page g = either (same_page page g) (place past g)

pub place-noroom : (past : List Entry) (a : Actor) (page g : Page) → place (entry_of a (Age page looks.NoRoom) ∷ past) g ≡ place past g
place-noroom past a page g = either (same_page page g) (place past g)

-- a page that went out is away in the slot of the start that ended
pub place-ewb : (past : List Entry) (a : Actor) (f : Frame) (g : Page) (version : ℕ) (tag : List ℕ) (x : Start)
    → open_start past f.0 ≡ Some x → place (entry_of a (Did (Ewb f) (Moved g version tag)) ∷ past) g ≡ Away x.slot
place-ewb past a f g version tag x now = rw (same_page-refl g, now) refl

pub place-ewb-other : (past : List Entry) (a : Actor) (f : Frame) (page g : Page) (version : ℕ) (tag : List ℕ) → same_page page g ≡ false
    → place (entry_of a (Did (Ewb f) (Moved page version tag)) ∷ past) g ≡ place past g
place-ewb-other past a f page g version tag other = rw other refl

-- a page whose load begins is loading from the slot in which it is
pub place-eldstart : (past : List Entry) (a : Actor) (f : Frame) (g : Page) (to : SlotAt) (answer : Answer) (slot : VaSlot)
    → place past g ≡ Away slot
    → place (entry_of a (Did (EldStart f g to) answer) ∷ past) g ≡ Loading f.0 slot
place-eldstart past a f g to answer slot away = rw (same_page-refl g, away) refl

pub place-eldstart-other : (past : List Entry) (a : Actor) (f : Frame) (page g : Page) (to : SlotAt) (answer : Answer)
    → same_page page g ≡ false → place (entry_of a (Did (EldStart f page to) answer) ∷ past) g ≡ place past g
place-eldstart-other past a f page g to answer other = rw other refl

-- a page that came back is here
pub place-eld : (past : List Entry) (a : Actor) (f : Frame) (g : Page) (version : ℕ) (tag : List ℕ)
    → place (entry_of a (Did (Eld f) (Moved g version tag)) ∷ past) g ≡ Here f.0
place-eld past a f g version tag = rw (same_page-refl g) refl

pub place-eld-other : (past : List Entry) (a : Actor) (f : Frame) (page g : Page) (version : ℕ) (tag : List ℕ) → same_page page g ≡ false
    → place (entry_of a (Did (Eld f) (Moved page version tag)) ∷ past) g ≡ place past g
place-eld-other past a f page g version tag other = rw other refl

-- a page whose load was refused is away in its slot
pub place-eld-refused : (past : List Entry) (a : Actor) (f : Frame) (refusal : Refusal) (g : Page) (slot : VaSlot)
    → place past g ≡ Loading f.0 slot
    → place (entry_of a (Refused (Eld f) refusal) ∷ past) g ≡ Away slot
place-eld-refused past a f refusal g slot loading = rw (loading, eq-eqb f.0 f.0 refl) refl

pub place-eld-refused-other : (past : List Entry) (a : Actor) (f : Frame) (refusal : Refusal) (page g : Page) (slot : VaSlot) → IsSound past
    → place past page ≡ Loading f.0 slot → same_page page g ≡ false
    → place (entry_of a (Refused (Eld f) refusal) ∷ past) g ≡ place past g
place-eld-refused-other past a f refusal page g slot s loading other = by_place (place past g) none
  where
    load : load_slot (open_start past f.0) page ≡ Some slot
    load = s.places.loads page f.0 ∙ ap (λ y. slot_loading y f.0) loading ∙ rw (eq-eqb f.0 f.0 refl) refl

    none : slot_loading (place past g) f.0 ≡ None
    none = sym (s.places.loads g f.0) ∙ loads_no_other (open_start past f.0) page g slot load other

    by_place : (p : Place) → slot_loading p f.0 ≡ None → back_from f.0 p ≡ p
    by_place Absent h = refl
    by_place (Here n) h = refl
    by_place (Leaving n) h = refl
    by_place (Away t) h = refl
    by_place (Loading n t) h = by_frame (n == f.0) h
      where
        by_frame : (b : Bool) → slot_if b t ≡ None → (if b then Away t else Loading n t) ≡ Loading n t
        by_frame true k = cc
        by_frame false k = refl

-- every other entry moves no page
pub place-quiet : (past : List Entry) (e : Entry) (g : Page) → is_quiet e.event ≡ true → place (e ∷ past) g ≡ place past g
place-quiet past e g quiet = by_event e.event quiet
  where
    by_event : (ev : Event) → is_quiet ev ≡ true → place (entry_of e.actor ev ∷ past) g ≡ place past g
    by_event (Did (Epa f) answer) k = cc
    by_event (Did (Create enclave f base size) answer) k = cc
    by_event (Did (Add n number f kind perm init) answer) k = cc
    by_event (Did (Ewb f) (Moved page version tag)) k = cc
    by_event (Did (EldStart f page slot) answer) k = cc
    by_event (Did (Eld f) (Moved page version tag)) k = cc
    by_event (Refused (Eld f) refusal) k = cc
    by_event (Age page look) k = cc
    by_event _ k = refl

-- ---- the list

pub active-add : (past : List Entry) (a : Actor) (e n : ℕ) (f : Frame) (kind : Kind) (perm : Perm) (init : PageInit) (answer : Answer)
    → active (entry_of a (Did (Add e n f kind perm init) answer) ∷ past) ≡ active past ++ page_at e n ∷ []
active-add past a e n f kind perm init answer = refl

pub active-eld : (past : List Entry) (a : Actor) (f : Frame) (page : Page) (version : ℕ) (tag : List ℕ) → is_own_page page ≡ true
    → active (entry_of a (Did (Eld f) (Moved page version tag)) ∷ past) ≡ active past ++ page ∷ []
active-eld past a f page version tag own = rw own refl

-- a SECS or a version array page that comes back does not come into the list
pub active-eld-other : (past : List Entry) (a : Actor) (f : Frame) (page : Page) (version : ℕ) (tag : List ℕ) → is_own_page page ≡ false
    → active (entry_of a (Did (Eld f) (Moved page version tag)) ∷ past) ≡ active past
active-eld-other past a f page version tag other = rw other refl

pub active-taken : (past : List Entry) (a : Actor) (page : Page) → is_own_page page ≡ true
    → active (entry_of a (Age page looks.Taken) ∷ past) ≡ drop 1 (active past)
active-taken past a page own = rw own refl

pub active-young : (past : List Entry) (a : Actor) (page : Page) → is_own_page page ≡ true
    → active (entry_of a (Age page looks.Young) ∷ past) ≡ to_tail (active past)
active-young past a page own = rw own refl

pub active-held : (past : List Entry) (a : Actor) (page : Page) → is_own_page page ≡ true
    → active (entry_of a (Age page looks.Held) ∷ past) ≡ to_tail (active past)
active-held past a page own = rw own refl

pub active-noroom : (past : List Entry) (a : Actor) (page : Page) → is_own_page page ≡ true
    → active (entry_of a (Age page looks.NoRoom) ∷ past) ≡ to_tail (active past)
active-noroom past a page own = rw own refl

-- .. and a look at one leaves the list
pub active-aside : (past : List Entry) (a : Actor) (page : Page) (look : Look) → is_own_page page ≡ false
    → active (entry_of a (Age page look) ∷ past) ≡ active past
active-aside past a page look other = rw other refl

pub active-quiet : (past : List Entry) (e : Entry) → is_quiet e.event ≡ true → active (e ∷ past) ≡ active past
active-quiet past e quiet = by_event e.event quiet
  where
    by_event : (ev : Event) → is_quiet ev ≡ true → active (entry_of e.actor ev ∷ past) ≡ active past
    by_event (Did (Add n number f kind perm init) answer) k = cc
    by_event (Did (Eld f) (Moved page version tag)) k = cc
    by_event (Age page look) k = cc
    by_event _ k = refl

-- ---- marks

-- a look clears the mark of its page, and no other mark
pub young-look : (past : List Entry) (a : Actor) (page : Page) (look : Look) → is_young (entry_of a (Age page look) ∷ past) page ≡ false
young-look past a page look = rw (same_page-refl page) refl

pub young-look-other : (past : List Entry) (a : Actor) (page g : Page) (look : Look) → same_page page g ≡ false
    → is_young (entry_of a (Age page look) ∷ past) g ≡ is_young past g
young-look-other past a page g look other = rw other refl

-- a page comes without a mark
pub young-eld : (past : List Entry) (a : Actor) (f : Frame) (page : Page) (version : ℕ) (tag : List ℕ)
    → is_young (entry_of a (Did (Eld f) (Moved page version tag)) ∷ past) page ≡ false
young-eld past a f page version tag = rw (same_page-refl page) refl

pub young-add : (past : List Entry) (a : Actor) (e n : ℕ) (f : Frame) (kind : Kind) (perm : Perm) (init : PageInit) (answer : Answer)
    → is_young (entry_of a (Did (Add e n f kind perm init) answer) ∷ past) (page_at e n) ≡ false
young-add past a e n f kind perm init answer = rw (same_page-refl (page_at e n)) refl

-- ---- loads

-- a processor loads the page whose load it began last
pub loads-start : (past : List Entry) (c : Cpu) (f : Frame) (page : Page) (slot : SlotAt) (answer : Answer)
    → last_of (entry_of (actors.Cpu c) (Did (EldStart f page slot) answer) ∷ past) c.0 ≡ Loads f.0 page
loads-start past c f page slot answer = rw (eq-eqb c.0 c.0 refl) refl

-- .. until its commit
pub loads-end : (past : List Entry) (c : Cpu) (f : Frame) (page : Page) (version : ℕ) (tag : List ℕ)
    → last_of (entry_of (actors.Cpu c) (Did (Eld f) (Moved page version tag)) ∷ past) c.0 ≡ Other
loads-end past c f page version tag = rw (eq-eqb c.0 c.0 refl) refl

-- other actors' entries leave that
pub loads-other : (past : List Entry) (e : Entry) (p : ℕ) → is_by p e.actor ≡ false → last_of (e ∷ past) p ≡ last_of past p
loads-other past e p other = rw other refl
