-- The open start that an entry ends or opens, as it is asked of the machine, and the slot that a start names.
use Rattle.std.proofs.Common.{Bool, List, ◌∷◌, None, Option, Some, ap, false, refl, sym, true, ℕ, ◌∙◌, ◌≡◌, arith, length, nat_le, nat_lt}
use Rattle.std.proofs.Common.{not}
use Rattle.std.proofs.Common.{inl, inr, ◌⊎◌}
use Rattle.std.proofs.lemmas.Bool.{eq-eqb, false≢true}
use Rattle.sgx_types.proofs.Pages.{same_pages}
use Rattle.sgx_rules.specs.declared.entries.Action.TheVariants.{EldStart, EwbStart}
use Rattle.sgx_types.specs.declared.names.Actor.{Actor}
use Rattle.sgx_rules.specs.declared.entries.Answer.{Answer}
use Rattle.sgx_rules.specs.declared.entries.Entry.{Entry}
use Rattle.sgx_types.specs.declared.names.Frame.{Frame}
use Rattle.sgx_types.specs.declared.names.Page.{Page}
use Rattle.sgx_types.specs.declared.names.SlotAt.{SlotAt}
use Rattle.sgx_types.specs.declared.names.VaSlot.{VaSlot}
use Rattle.sgx_types.specs.Pages.{same_page, va_page}
use Rattle.sgx_rules.specs.Frames.{content, is_this, vas_made}
use Rattle.sgx_rules.specs.Starts.{Start, open_start, slot_found, version_told}
use Rattle.sgx_rules.specs.inner.Starts.{BareStart, bare_start, without_place}
use Rattle.job_grammar.specs.Jobs.{JobView}
use Rattle.driver_slots.specs.inner.Keeper.{Gives, Keeper, Takes, is_ours, is_out}
use Rattle.machine_laws.specs.inner.Steps.{did_by}
use Rattle.sgx_machine.specs.declared.starts.Start as starts
use Rattle.sgx_machine.specs.inner.Parts.{start_of}
use Rattle.driver_rules.specs.Places.{Absent, Away, Here, Leaving, Loading, Place, is_here, place}
use Rattle.driver_laws.specs.inner.Agrees.{ShowsSlots, auditors, stays}
use Rattle.driver_laws.specs.inner.Keeps.{GivesIf, TakesIf}
use Rattle.driver_laws.specs.inner.Sound.{IsSound, is_absent, load_slot, slot_if, slot_loading, slot_of}
use Rattle.audit_tables.specs.inner.Following.{IsLeft}

-- ---- the start that ends

-- where one is open there is one
pub opened_as : (s : Option starts.Start) (o : Option Start) (x : Start) → start_of s ≡ bare_start o → o ≡ Some x
    → (y : starts.Start) × (s ≡ Some y) × (y.slot ≡ x.slot)
opened_as None o x same is = absurd (let bad : None ≡ Some (without_place x) = same ∙ ap bare_start is in cc)
opened_as (Some y) o x same is =
    let both : start_of (Some y) ≡ Some (without_place x) = same ∙ ap bare_start is in (y, refl, slots both)
  where
    slots : start_of (Some y) ≡ Some (without_place x) → y.slot ≡ x.slot
    slots h = ap (λ (o : Option BareStart). slot_or o) h
      where
        slot_or : Option BareStart → VaSlot
        slot_or None = x.slot
        slot_or (Some z) = z.slot

-- the start that an entry has opened in a frame, by the slot that it found
pub begun_out : (past : List Entry) (a : Actor) (f : Frame) (at : SlotAt) (answer : Answer) (slot : VaSlot) (s : Option starts.Start)
    → slot_found (content past) at ≡ Some slot → start_of s ≡ bare_start (open_start (did_by a (EwbStart f at) answer ∷ past) f.0)
    → (y : starts.Start) × (s ≡ Some y) × (y.slot ≡ slot)
begun_out past a f at answer slot s found same =
    opened_as s (open_start (did_by a (EwbStart f at) answer ∷ past) f.0) x same (rw (eq-eqb f.0 f.0 refl, found) refl)
  where
    x : Start
    x = record { at = at; slot = slot; version = version_told answer; loads = None; place = length past; actor = a }

pub begun_load : (past : List Entry) (a : Actor) (f : Frame) (page : Page) (at : SlotAt) (answer : Answer) (slot : VaSlot)
    (s : Option starts.Start) → slot_found (content past) at ≡ Some slot
    → start_of s ≡ bare_start (open_start (did_by a (EldStart f page at) answer ∷ past) f.0)
    → (y : starts.Start) × (s ≡ Some y) × (y.slot ≡ slot)
begun_load past a f page at answer slot s found same =
    opened_as s (open_start (did_by a (EldStart f page at) answer ∷ past) f.0) x same (rw (eq-eqb f.0 f.0 refl, found) refl)
  where
    x : Start
    x = record { at = at; slot = slot; version = version_told answer; loads = Some page; place = length past; actor = a }

-- the slot of a start that loads this page, without its place and its actor
abbrev bare_slot : Option BareStart → Page → Option VaSlot
bare_slot None g = None
bare_slot (Some x) g = slot_if (is_this x.loads g) x.slot

-- the start of a load: the page comes back from its slot
pub record IsOfLoad (past : List Entry) (f : ℕ) (page : Page) (s : Option starts.Start) : Type 0 where
  pub start : starts.Start
  pub is : s ≡ Some start
  pub at : place past page ≡ Loading f start.slot
  pub loads : start.loads ≡ Some page

pub open_load : (past : List Entry) (f : ℕ) (page : Page) (slot : VaSlot) (s : Option starts.Start) → IsSound past
    → place past page ≡ Loading f slot → start_of s ≡ bare_start (open_start past f) → IsOfLoad past f page s
open_load past f page slot s sound at opened = by_start s refl named
  where
    same_slot_of : (o : Option Start) → bare_slot (bare_start o) page ≡ load_slot o page
    same_slot_of None = refl
    same_slot_of (Some x) = refl

    named : bare_slot (start_of s) page ≡ Some slot
    named =
        ap (λ o. bare_slot o page) opened ∙ same_slot_of (open_start past f) ∙ sound.places.loads page f ∙ ap (λ p. slot_loading p f) at
        ∙ ap (λ b. slot_if b slot) (eq-eqb f f refl)

    by_test : (x : starts.Start) (g : Page) (b : Bool) → s ≡ Some x → x.loads ≡ Some g → same_page g page ≡ b
        → slot_if b x.slot ≡ Some slot → IsOfLoad past f page s
    by_test x g true is loads same k =
        let slots : slot ≡ x.slot = cc in
        record { start = x; is = is; at = at ∙ ap (Loading f) slots; loads = loads ∙ ap Some (same_pages g page same) }
    by_test x g false is loads same k = absurd cc

    by_loads : (x : starts.Start) (o : Option Page) → s ≡ Some x → x.loads ≡ o → slot_if (is_this o page) x.slot ≡ Some slot
        → IsOfLoad past f page s
    by_loads x None is loads k = absurd cc
    by_loads x (Some g) is loads k = by_test x g (same_page g page) is loads refl k

    by_start : (o : Option starts.Start) → s ≡ o → bare_slot (start_of o) page ≡ Some slot → IsOfLoad past f page s
    by_start None is k = absurd cc
    by_start (Some x) is k = by_loads x x.loads is refl k

-- ---- the slots of an auditor's keeper

from_zero : (n : ℕ) → nat_le 0 n ≡ true
from_zero n = grind (arith)

-- a page that is here is not absent
pub here_there : (p : Place) → is_here p ≡ true → is_absent p ≡ false
here_there (Here f) h = refl
here_there Absent h = absurd (false≢true h)
here_there (Leaving f) h = refl
here_there (Loading f slot) h = refl
here_there (Away slot) h = refl

module _ (j : JobView) (keeper : Keeper) (past : List Entry) (shows : ShowsSlots auditors j keeper past) where
  -- it has all slots of the version array pages that were made
  ours_by : (slot : VaSlot) → nat_lt slot.va (vas_made past) ≡ true → nat_lt slot.index 512 ≡ true → is_ours keeper slot ≡ true
  ours_by slot made within = shows.ours slot ∙ rw (made, from_zero slot.index, within) refl

  pub ours_of : (g : Page) (slot : VaSlot) → slot_of past g ≡ Some slot → is_ours keeper slot ≡ true
  ours_of g slot mine = ours_by slot (shows.placed g slot mine) (shows.within g slot mine)

  -- the slot of a start that was done could be taken
  pub slot_left : (slot : VaSlot) → IsSound past → is_here (place past (va_page slot.va)) ≡ true → nat_lt slot.index 512 ≡ true
      → ((g : Page) → slot_of past g ≡ Some slot → ⊥) → IsLeft keeper slot
  slot_left slot sound here within none = record {
    ours = ours_by slot (sound.made (va_page slot.va) ∙ ap not (here_there (place past (va_page slot.va)) here)) within;
    free = by_test (is_out keeper slot) refl;
  }
    where
      by_out : ((g : Page) × (slot_of past g ≡ Some slot)) ⊎ (stays auditors past slot ≡ true) → ⊥
      by_out (inl whose) = none whose.0 whose.1
      by_out (inr stayed) = false≢true stayed

      by_test : (b : Bool) → is_out keeper slot ≡ b → b ≡ false
      by_test true is = absurd (by_out (shows.out slot is))
      by_test false is = refl

pub takes_if : (old new : Keeper) (slot : VaSlot) → Takes old slot new → TakesIf old slot new
takes_if old new slot takes = (λ ours. takes, λ other. absurd (false≢true (sym other ∙ takes.ours)))

pub gives_if : (old new : Keeper) (slot : VaSlot) → is_ours old slot ≡ true → Gives old slot new → GivesIf old slot new
gives_if old new slot ours gives = (λ mine. gives, λ other. absurd (false≢true (sym other ∙ ours)))
