-- No two open starts name one slot, none names that of a page that is away, and none is of a free frame.
use Rattle.std.proofs.Common.{◌≡◌, ◌==◌, ℕ, Bool, true, false, not, refl, sym, ◌∙◌, ap, List, Option, Some, None, is_some}
use Rattle.std.proofs.lemmas.Bool.{eq-eqb, eqb-true, false≢true}
use Rattle.std.proofs.lemmas.Option.{none-some, same_Some}
use Rattle.sgx_rules.specs.declared.entries.Entry.{Entry}
use Rattle.sgx_types.specs.declared.names.Page.{Page}
use Rattle.sgx_types.specs.declared.names.VaSlot.{VaSlot}
use Rattle.sgx_rules.specs.Frames.{content, Free, stands}
use Rattle.sgx_rules.specs.Slots.{slot_of as slot_of_start}
use Rattle.sgx_rules.specs.Starts.{open_start, Start}
use Rattle.sgx_types.proofs.Pages.{same_page-refl}
use Rattle.sgx_rules.specs.Table.{is_loading}
use Rattle.driver_rules.specs.Places.{Absent, Away, Here, Leaving, Loading, Place, place}
use Rattle.driver_laws.specs.inner.Sound.{is_load_start, is_write_start, IsSound, load_slot, slot_at, slot_if, slot_loading, slot_of}
use Rattle.driver_laws.specs.inner.Sound.{stands_in}
use Rattle.driver_laws.specs.inner.Used.{StartsAlone}

pub loading_is : (p : Place) (f : ℕ) (slot : VaSlot) → slot_loading p f ≡ Some slot → p ≡ Loading f slot
loading_is (Loading n s) f slot h = by_frame (n == f) refl h
  where
    by_frame : (b : Bool) → (n == f) ≡ b → slot_if b s ≡ Some slot → Loading n s ≡ Loading f slot
    by_frame true is k = let same : s ≡ slot = cc in λ i. Loading (eqb-true n f is i) (same i)
    by_frame false is k = cc
loading_is Absent f slot h = cc
loading_is (Here n) f slot h = cc
loading_is (Leaving n) f slot h = cc
loading_is (Away s) f slot h = cc

-- the frame from which a page goes, or into which it comes
abbrev pub frame_moving : Place → Option ℕ
frame_moving (Leaving n) = Some n
frame_moving (Loading n slot) = Some n
frame_moving _ = None

-- a page with a start, by its slot
pub record IsStarted (past : List Entry) (n : ℕ) (slot : VaSlot) : Type 0 where
  pub page : Page
  pub moving : frame_moving (place past page) ≡ Some n
  pub names : slot_of past page ≡ Some slot

-- an open start is that of a page
pub started : (past : List Entry) (n : ℕ) (x : Start) → IsSound past → open_start past n ≡ Some x → IsStarted past n x.slot
started past n x s is_open = by_loads x.loads refl
  where
    by_loads : (o : Option Page) → x.loads ≡ o → IsStarted past n x.slot
    by_loads None is =
        let w = s.places.writes n (ap is_write_start is_open ∙ ap (λ y. not (is_some y)) is) in
        record { page = w.0; moving = ap frame_moving w.1; names = ap (slot_at (open_start past)) w.1 ∙ ap slot_of_start is_open }
    by_loads (Some g) is =
        let load : load_slot (Some x) g ≡ Some x.slot = rw (is, same_page-refl g) refl in
        let at = loading_is (place past g) n x.slot (sym (s.places.loads g n) ∙ ap (λ o. load_slot o g) is_open ∙ load) in
        record { page = g; moving = ap frame_moving at; names = ap (slot_at (open_start past)) at }

pub alone : (past : List Entry) → IsSound past → StartsAlone past
alone past s = record { apart = apart; away = away }
  where
    apart : (m n : ℕ) (x y : Start) → open_start past m ≡ Some x → open_start past n ≡ Some y → x.slot ≡ y.slot → m ≡ n
    apart m n x y open_x open_y same =
        let a = started past m x s open_x in
        let b = started past n y s open_y in
        let one = s.apart a.page b.page y.slot (a.names ∙ ap Some same) b.names in
        same_Some m n (sym a.moving ∙ ap (λ g. frame_moving (place past g)) one ∙ b.moving)

    away : (n : ℕ) (x : Start) (g : Page) → open_start past n ≡ Some x → place past g ≡ Away x.slot → ⊥
    away n x g is_open at =
        let a = started past n x s is_open in
        let one = s.apart a.page g x.slot a.names (ap (slot_at (open_start past)) at) in
        none-some n (sym (ap frame_moving at) ∙ ap (λ h. frame_moving (place past h)) (sym one) ∙ a.moving)

-- no start of a free frame is open
pub free_none : (past : List Entry) (n : ℕ) → IsSound past → content past n ≡ Free → open_start past n ≡ None
free_none past n s free = by_start (open_start past n) refl
  where
    no_page : (x : Start) → x.loads ≡ None → open_start past n ≡ Some x → ⊥
    no_page x is is_open =
        let w = s.places.writes n (ap is_write_start is_open ∙ ap (λ y. not (is_some y)) is) in
        false≢true (sym (ap (λ c. stands c w.0) free) ∙ s.places.frames w.0 n ∙ ap (λ p. stands_in p n) w.1 ∙ eq-eqb n n refl)

    no_load : (x : Start) (g : Page) → x.loads ≡ Some g → open_start past n ≡ Some x → ⊥
    no_load x g is is_open = false≢true (sym (s.places.loading n ∙ ap is_loading free) ∙ ap is_load_start is_open ∙ ap is_some is)

    by_loads : (x : Start) (o : Option Page) → x.loads ≡ o → open_start past n ≡ Some x → ⊥
    by_loads x None = no_page x
    by_loads x (Some g) = no_load x g

    by_start : (o : Option Start) → open_start past n ≡ o → open_start past n ≡ None
    by_start None is_open = is_open
    by_start (Some x) is_open = absurd (by_loads x x.loads refl is_open)
