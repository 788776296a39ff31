-- What each kind of entry leaves of the slots of pages, and of the versions in them.
use Rattle.std.proofs.Common.{◌≡◌, ℕ, ◌==◌, ◌⊎◌, inl, inr, not, Bool, true, false, if◌then◌else◌, refl, sym}
use Rattle.std.proofs.Common.{◌∙◌, ap, subst, List, Option, Some, None, is_some}
use Rattle.std.proofs.lemmas.Bool.{eqb-true, eq-eqb, false≢true}
use Rattle.std.proofs.lemmas.Option.{none-some}
use Rattle.sgx_types.proofs.Pages.{same_page-refl, same_slots}
use Rattle.sgx_rules.specs.Fresh.{Out}
use Rattle.sgx_types.specs.declared.names.Page.{Page}
use Rattle.sgx_types.specs.declared.names.VaSlot.{VaSlot}
use Rattle.sgx_rules.specs.Frames.{Content, Free, stands}
use Rattle.sgx_types.specs.Pages.{same_page, same_slot}
use Rattle.sgx_types.specs.declared.names.SlotAt.{SlotAt}
use Rattle.sgx_rules.specs.Slots.{names_slot, slot_of as slot_of_start}
use Rattle.sgx_rules.specs.Starts.{Start}
use Rattle.sgx_rules.specs.inner.Starts.{is_load_of}
use Rattle.driver_rules.specs.Places.{Absent, Away, back_from, comes_into, gone_to, Here, leaves, Leaving, Loading, Place}
use Rattle.sgx_types.specs.declared.names.Actor.{Actor}
use Rattle.sgx_rules.proofs.Contents.{one_there}
use Rattle.driver_laws.specs.inner.Sound.{is_load_start, is_write_start, PlacesAreFrames, slot_at, slot_outside, SlotsAreApart}
use Rattle.driver_laws.specs.inner.Sound.{SlotsHaveVersions, stands_in, version_out}
use Rattle.driver_laws.proofs.PlaceLaws.{holds_no_load, holds_one, of_same}

-- ---- in general

abbrev Slots : Type 0
Slots = Page → Option VaSlot

abbrev Apart : Slots → Type 0
Apart of = (g h : Page) (slot : VaSlot) → of g ≡ Some slot → of h ≡ Some slot → g ≡ h

-- pages keep their slots or lose them
less : (of now : Slots) → ((g : Page) (slot : VaSlot) → now g ≡ Some slot → of g ≡ Some slot) → Apart of → Apart now
less of now back h g k slot at_g at_k = h g k slot (back g slot at_g) (back k slot at_k)

-- .. and one gets a slot that no other has
more : (of now : Slots) (a : Page) (new : VaSlot)
    → ((g : Page) (slot : VaSlot) → now g ≡ Some slot → (of g ≡ Some slot) ⊎ ((a ≡ g) × (new ≡ slot)))
    → ((g : Page) → of g ≡ Some new → ⊥) → Apart of → Apart now
more of now a new back fresh h g k slot at_g at_k = by_cases (back g slot at_g) (back k slot at_k)
  where
    by_cases : (of g ≡ Some slot) ⊎ ((a ≡ g) × (new ≡ slot)) → (of k ≡ Some slot) ⊎ ((a ≡ k) × (new ≡ slot)) → g ≡ k
    by_cases (inl x) (inl y) = h g k slot x y
    by_cases (inl x) (inr y) = absurd (fresh g (x ∙ ap Some (sym y.1)))
    by_cases (inr x) (inl y) = absurd (fresh k (y ∙ ap Some (sym x.1)))
    by_cases (inr x) (inr y) = sym x.0 ∙ y.0

-- a page that is outside has its slot
pub outside_slot : (opened : ℕ → Option Start) (p : Place) (slot : VaSlot) → slot_outside p ≡ Some slot → slot_at opened p ≡ Some slot
outside_slot opened (Away s) slot h = h
outside_slot opened (Loading n s) slot h = h
outside_slot opened (Leaving n) slot h = cc
outside_slot opened (Here n) slot h = cc
outside_slot opened Absent slot h = cc

-- no start is open of the frame of a page that is here
pub none_open : (at : Page → Place) (held : ℕ → Content) (opened : ℕ → Option Start) (a : Page) (f : ℕ) → PlacesAreFrames at held opened
    → at a ≡ Here f → opened f ≡ None
none_open at held opened a f s here = by_start (opened f) refl
  where
    holds : stands (held f) a ≡ true
    holds = s.frames a f ∙ ap (λ y. stands_in y f) here ∙ eq-eqb f f refl

    by_loads : (start : Start) (loads : Option Page) → start.loads ≡ loads → opened f ≡ Some start → opened f ≡ None
    by_loads start (Some g) is now =
        absurd (false≢true (sym (s.loading f ∙ holds_no_load (held f) a holds) ∙ ap is_load_start now ∙ ap is_some is))
    by_loads start None is now =
        let w = s.writes f (ap is_write_start now ∙ ap (λ y. not (is_some y)) is) in
        let other : stands (held f) w.0 ≡ true = s.frames w.0 f ∙ ap (λ y. stands_in y f) w.1 ∙ eq-eqb f f refl in
        absurd (here_no_leaving (sym (of_same at (Here f) a w.0 here (sym (holds_one (held f) a w.0 holds) ∙ other)) ∙ w.1))
      where
        here_no_leaving : Here f ≡ Leaving f → ⊥
        here_no_leaving k = cc

    by_start : (o : Option Start) → opened f ≡ o → opened f ≡ None
    by_start None now = now
    by_start (Some start) now = by_loads start start.loads refl now

-- ---- no two pages have one slot

-- a page that had no slot has none
pub apart_here : (at : Page → Place) (opened : ℕ → Option Start) (a : Page) (f : ℕ) → SlotsAreApart at opened
    → SlotsAreApart (λ g. if same_page a g then Here f else at g) opened
apart_here at opened a f h =
    less (λ g. slot_at opened (at g)) (λ g. slot_at opened (if same_page a g then Here f else at g))
    (λ g slot. by_page g slot (same_page a g)) h
  where
    by_page : (g : Page) (slot : VaSlot) (b : Bool) → slot_at opened (if b then Here f else at g) ≡ Some slot
        → slot_at opened (at g) ≡ Some slot
    by_page g slot true k = cc
    by_page g slot false k = k

-- a page that is here leaves
pub apart_taken : (at : Page → Place) (opened : ℕ → Option Start) (a : Page) (f : ℕ) → SlotsAreApart at opened → at a ≡ Here f
    → opened f ≡ None → SlotsAreApart (λ g. if same_page a g then leaves (at g) else at g) opened
apart_taken at opened a f h here none =
    less (λ g. slot_at opened (at g)) (λ g. slot_at opened (if same_page a g then leaves (at g) else at g))
    (λ g slot. by_page g slot (same_page a g) refl) h
  where
    by_page : (g : Page) (slot : VaSlot) (b : Bool) → same_page a g ≡ b → slot_at opened (if b then leaves (at g) else at g) ≡ Some slot
        → slot_at opened (at g) ≡ Some slot
    by_page g slot true is k =
        absurd (none-some slot
        (sym (ap slot_of_start none) ∙ sym (ap (λ y. slot_at opened (leaves y)) (of_same at (Here f) a g here is)) ∙ k))
    by_page g slot false is k = k

-- the write-out of a page starts, by a slot that is no other page's
pub apart_starting : (at : Page → Place) (held : ℕ → Content) (opened : ℕ → Option Start) (f : ℕ) (a : Page) (slot : VaSlot)
    (to : SlotAt) (v q : ℕ) (who : Actor)
    → PlacesAreFrames at held opened → at a ≡ Leaving f
    → ((g : Page) → slot_at opened (at g) ≡ Some slot → ⊥) → SlotsAreApart at opened
    → SlotsAreApart at (λ n. if f == n then Some (record { at = to; slot = slot; version = v; loads = None; place = q; actor = who })
    else opened n)
apart_starting at held opened f a slot to v q who s leaving fresh h =
    more (λ g. slot_at opened (at g)) (λ g. slot_at now (at g)) a slot (λ g t. by_place g t (at g) refl) fresh h
  where
    now : ℕ → Option Start
    now n = if f == n then Some (record { at = to; slot = slot; version = v; loads = None; place = q; actor = who }) else opened n

    here : stands (held f) a ≡ true
    here = s.frames a f ∙ ap (λ y. stands_in y f) leaving ∙ eq-eqb f f refl

    by_frame : (g : Page) (t : VaSlot) (n : ℕ) (b : Bool) → (f == n) ≡ b → at g ≡ Leaving n
        → slot_of_start (if b then Some (record { at = to; slot = slot; version = v; loads = None; place = q; actor = who }) else opened n)
        ≡ Some t
        → (slot_at opened (at g) ≡ Some t) ⊎ ((a ≡ g) × (slot ≡ t))
    by_frame g t n true is it k =
        let other : stands (held f) g ≡ true = s.frames g f ∙ ap (λ y. stands_in y f) it ∙ rw (eqb-true f n is) (eq-eqb n n refl) in
        inr (one_there (held f) a g here other, cc)
    by_frame g t n false is it k = inl (ap (slot_at opened) it ∙ k)

    by_place : (g : Page) (t : VaSlot) (p : Place) → at g ≡ p → slot_at now (at g) ≡ Some t
        → (slot_at opened (at g) ≡ Some t) ⊎ ((a ≡ g) × (slot ≡ t))
    by_place g t (Leaving n) it k = by_frame g t n (f == n) refl it (sym (ap (slot_at now) it) ∙ k)
    by_place g t (Away u) it k = inl (ap (slot_at opened) it ∙ sym (ap (slot_at now) it) ∙ k)
    by_place g t (Loading n u) it k = inl (ap (slot_at opened) it ∙ sym (ap (slot_at now) it) ∙ k)
    by_place g t (Here n) it k = absurd (none-some t (sym (ap (slot_at now) it) ∙ k))
    by_place g t Absent it k = absurd (none-some t (sym (ap (slot_at now) it) ∙ k))

-- a frame's start ends
abbrev closed : (ℕ → Option Start) → ℕ → ℕ → Option Start
closed opened f n = if f == n then None else opened n

closed-slot : (opened : ℕ → Option Start) (f : ℕ) (p : Place) (slot : VaSlot) → slot_at (closed opened f) p ≡ Some slot
    → slot_at opened p ≡ Some slot
closed-slot opened f (Away s) slot k = k
closed-slot opened f (Loading n s) slot k = k
closed-slot opened f (Here n) slot k = cc
closed-slot opened f Absent slot k = cc
closed-slot opened f (Leaving n) slot k = by_frame (f == n) k
  where
    by_frame : (b : Bool) → slot_of_start (if b then None else opened n) ≡ Some slot → slot_of_start (opened n) ≡ Some slot
    by_frame true e = cc
    by_frame false e = e

-- a page went out
pub apart_out : (at : Page → Place) (opened : ℕ → Option Start) (f : ℕ) (a : Page) (x : Start) → at a ≡ Leaving f → opened f ≡ Some x
    → SlotsAreApart at opened
    → SlotsAreApart (λ g. if same_page a g then gone_to (slot_of_start (opened f)) (at g) else at g)
    (λ n. if f == n then None else opened n)
apart_out at opened f a x leaving now h =
    less (λ g. slot_at opened (at g))
    (λ g. slot_at (closed opened f) (if same_page a g then gone_to (slot_of_start (opened f)) (at g) else at g))
    (λ g slot. by_page g slot (same_page a g) refl) h
  where
    by_page : (g : Page) (slot : VaSlot) (b : Bool) → same_page a g ≡ b
        → slot_at (closed opened f) (if b then gone_to (slot_of_start (opened f)) (at g) else at g) ≡ Some slot
        → slot_at opened (at g) ≡ Some slot
    by_page g slot true is k =
        ap (slot_at opened) (of_same at (Leaving f) a g leaving is) ∙ ap slot_of_start now ∙ sym
        (ap (λ y. slot_at (closed opened f) (gone_to (slot_of_start y) (at g))) now) ∙ k
    by_page g slot false is k = closed-slot opened f (at g) slot k

-- a load starts
pub apart_loading : (at : Page → Place) (held : ℕ → Content) (opened : ℕ → Option Start) (f : ℕ) (a : Page) (slot : VaSlot)
    (to : SlotAt) (v q : ℕ) (who : Actor)
    → PlacesAreFrames at held opened → held f ≡ Free → at a ≡ Away slot → SlotsAreApart at opened
    → SlotsAreApart (λ g. if same_page a g then comes_into f (at g) else at g)
    (λ n. if f == n then Some (record { at = to; slot = slot; version = v; loads = Some a; place = q; actor = who }) else opened n)
apart_loading at held opened f a slot to v q who s free away h =
    less (λ g. slot_at opened (at g)) (λ g. slot_at now (if same_page a g then comes_into f (at g) else at g))
    (λ g t. by_page g t (same_page a g) refl) h
  where
    now : ℕ → Option Start
    now n = if f == n then Some (record { at = to; slot = slot; version = v; loads = Some a; place = q; actor = who }) else opened n

    by_frame : (g : Page) (t : VaSlot) (n : ℕ) (b : Bool) → (f == n) ≡ b → at g ≡ Leaving n
        → slot_of_start (if b then Some (record { at = to; slot = slot; version = v; loads = Some a; place = q; actor = who })
        else opened n)
        ≡ Some t
        → slot_of_start (opened n) ≡ Some t
    by_frame g t n true is it k =
        let other : stands (held f) g ≡ true = s.frames g f ∙ ap (λ y. stands_in y f) it ∙ rw (eqb-true f n is) (eq-eqb n n refl) in
        absurd (false≢true (sym (ap (λ c. stands c g) free) ∙ other))
    by_frame g t n false is it k = k

    by_place : (g : Page) (t : VaSlot) (p : Place) → at g ≡ p → slot_at now p ≡ Some t → slot_at opened p ≡ Some t
    by_place g t (Leaving n) it k = by_frame g t n (f == n) refl it k
    by_place g t (Away u) it k = k
    by_place g t (Loading n u) it k = k
    by_place g t (Here n) it k = k
    by_place g t Absent it k = k

    by_page : (g : Page) (t : VaSlot) (b : Bool) → same_page a g ≡ b → slot_at now (if b then comes_into f (at g) else at g) ≡ Some t
        → slot_at opened (at g) ≡ Some t
    by_page g t true is k =
        ap (slot_at opened) (of_same at (Away slot) a g away is) ∙ sym
        (ap (λ y. slot_at now (comes_into f y)) (of_same at (Away slot) a g away is)) ∙ k
    by_page g t false is k = by_place g t (at g) refl k

-- a page came back
pub apart_back : (at : Page → Place) (opened : ℕ → Option Start) (f : ℕ) (a : Page) → SlotsAreApart at opened
    → SlotsAreApart (λ g. if same_page a g then Here f else at g) (λ n. if f == n then None else opened n)
apart_back at opened f a h =
    less (λ g. slot_at opened (at g)) (λ g. slot_at (closed opened f) (if same_page a g then Here f else at g))
    (λ g slot. by_page g slot (same_page a g)) h
  where
    by_page : (g : Page) (slot : VaSlot) (b : Bool) → slot_at (closed opened f) (if b then Here f else at g) ≡ Some slot
        → slot_at opened (at g) ≡ Some slot
    by_page g slot true k = cc
    by_page g slot false k = closed-slot opened f (at g) slot k

pub back-slot : (opened : ℕ → Option Start) (f : ℕ) (p : Place) → slot_at opened (back_from f p) ≡ slot_at opened p
back-slot opened f Absent = refl
back-slot opened f (Here n) = refl
back-slot opened f (Leaving n) = refl
back-slot opened f (Away slot) = refl
back-slot opened f (Loading n slot) = by_test (n == f)
  where
    by_test : (b : Bool) → slot_at opened (if b then Away slot else Loading n slot) ≡ Some slot
    by_test true = refl
    by_test false = refl

-- a reload was refused
pub apart_refused : (at : Page → Place) (opened : ℕ → Option Start) (f : ℕ) → SlotsAreApart at opened
    → SlotsAreApart (λ g. back_from f (at g)) (λ n. if f == n then None else opened n)
apart_refused at opened f h =
    less (λ g. slot_at opened (at g)) (λ g. slot_at (closed opened f) (back_from f (at g)))
    (λ g slot k. closed-slot opened f (at g) slot (sym (back-slot (closed opened f) f (at g)) ∙ k)) h

-- ---- versions

abbrev pub Versions : Type 0
Versions = VaSlot → ℕ

outside-leaves : (p : Place) → slot_outside (leaves p) ≡ slot_outside p
outside-leaves Absent = refl
outside-leaves (Here n) = refl
outside-leaves (Leaving n) = refl
outside-leaves (Loading n slot) = refl
outside-leaves (Away slot) = refl

outside-back : (f : ℕ) (p : Place) → slot_outside (back_from f p) ≡ slot_outside p
outside-back f Absent = refl
outside-back f (Here n) = refl
outside-back f (Leaving n) = refl
outside-back f (Away slot) = refl
outside-back f (Loading n slot) = by_test (n == f)
  where
    by_test : (b : Bool) → slot_outside (if b then Away slot else Loading n slot) ≡ Some slot
    by_test true = refl
    by_test false = refl

-- places change, but no page is outside in another slot
pub versions_less : (at now : Page → Place) (out : Page → Option Out) (version : Versions) → SlotsHaveVersions at out version
    → ((g : Page) (slot : VaSlot) → slot_outside (now g) ≡ Some slot → slot_outside (at g) ≡ Some slot) → SlotsHaveVersions now out version
versions_less at now out version h back g slot k = h g slot (back g slot k)

pub outside_here : (at : Page → Place) (a : Page) (f : ℕ) (g : Page) (slot : VaSlot)
    → slot_outside (if same_page a g then Here f else at g) ≡ Some slot → slot_outside (at g) ≡ Some slot
outside_here at a f g slot = by_page (same_page a g)
  where
    by_page : (b : Bool) → slot_outside (if b then Here f else at g) ≡ Some slot → slot_outside (at g) ≡ Some slot
    by_page true k = cc
    by_page false k = k

pub outside_taken : (at : Page → Place) (a : Page) (g : Page) (slot : VaSlot)
    → slot_outside (if same_page a g then leaves (at g) else at g) ≡ Some slot → slot_outside (at g) ≡ Some slot
outside_taken at a g slot = by_page (same_page a g)
  where
    by_page : (b : Bool) → slot_outside (if b then leaves (at g) else at g) ≡ Some slot → slot_outside (at g) ≡ Some slot
    by_page true k = sym (outside-leaves (at g)) ∙ k
    by_page false k = k

pub outside_loading : (at : Page → Place) (a : Page) (f : ℕ) (slot : VaSlot) → at a ≡ Away slot → (g : Page) (t : VaSlot)
    → slot_outside (if same_page a g then comes_into f (at g) else at g) ≡ Some t → slot_outside (at g) ≡ Some t
outside_loading at a f slot away g t = by_page (same_page a g) refl
  where
    by_page : (b : Bool) → same_page a g ≡ b → slot_outside (if b then comes_into f (at g) else at g) ≡ Some t
        → slot_outside (at g) ≡ Some t
    by_page true is k =
        ap slot_outside (of_same at (Away slot) a g away is)
        ∙ sym (ap (λ y. slot_outside (comes_into f y)) (of_same at (Away slot) a g away is))
        ∙ k
    by_page false is k = k

pub outside_refused : (at : Page → Place) (f : ℕ) (g : Page) (slot : VaSlot)
    → slot_outside (back_from f (at g)) ≡ Some slot → slot_outside (at g) ≡ Some slot
outside_refused at f g slot k = sym (outside-back f (at g)) ∙ k

-- the slot of another page that is outside is another slot
pub other_slot : (at : Page → Place) (opened : ℕ → Option Start) (a g : Page) (mine slot : VaSlot) → SlotsAreApart at opened
    → slot_at opened (at a) ≡ Some mine → same_page a g ≡ false → slot_outside (at g) ≡ Some slot
    → same_slot mine slot ≡ false
other_slot at opened a g mine slot h at_a other k = by_slot (same_slot mine slot) refl
  where
    by_slot : (b : Bool) → same_slot mine slot ≡ b → same_slot mine slot ≡ false
    by_slot true is =
        let same : a ≡ g = h a g mine at_a (outside_slot opened (at g) slot k ∙ ap Some (sym (same_slots mine slot is))) in
        absurd (false≢true (sym other ∙ subst (λ y. same_page a y ≡ true) same (same_page-refl a)))
    by_slot false is = is

pub same_slot-refl : (slot : VaSlot) → same_slot slot slot ≡ true
same_slot-refl slot = rw (eq-eqb slot.va slot.va refl, eq-eqb slot.index slot.index refl) refl

-- a page went out under a version
pub versions_out : (at : Page → Place) (opened : ℕ → Option Start) (out : Page
    → Option Out) (version : Versions) (f : ℕ) (a : Page) (x : Start) (named : Option VaSlot) (v : ℕ) (tag : List ℕ)
    → at a ≡ Leaving f → opened f ≡ Some x → named ≡ Some x.slot → SlotsAreApart at opened → SlotsHaveVersions at out version
    → SlotsHaveVersions (λ g. if same_page a g then gone_to (slot_of_start (opened f)) (at g) else at g)
    (λ g. if same_page a g then Some (record { version = v; tag = tag }) else out g) (λ s. if names_slot named s then v else version s)
versions_out at opened out version f a x named v tag leaving now names apart h g slot = by_page (same_page a g) refl
  where
    at_a : slot_at opened (at a) ≡ Some x.slot
    at_a = ap (slot_at opened) leaving ∙ ap slot_of_start now

    its_own : slot_outside (gone_to (slot_of_start (opened f)) (at g)) ≡ Some slot → x.slot ≡ slot
    its_own k = told (sym (ap (λ y. slot_outside (gone_to (slot_of_start y) (at g))) now) ∙ k)
      where
        told : Some x.slot ≡ Some slot → x.slot ≡ slot
        told e = cc

    by_page : (b : Bool) → same_page a g ≡ b → slot_outside (if b then gone_to (slot_of_start (opened f)) (at g) else at g) ≡ Some slot
        → version_out (if b then Some (record { version = v; tag = tag }) else out g) ≡ Some
        (if names_slot named slot then v else version slot)
    by_page true is k = rw (names, its_own k, same_slot-refl slot) refl
    by_page false is k = rw (names, other_slot at opened a g x.slot slot apart at_a is k) (h g slot k)

-- a page came back from its slot
pub versions_back : (at : Page → Place) (opened : ℕ → Option Start) (out : Page
    → Option Out) (version : Versions) (f : ℕ) (a : Page) (mine : VaSlot) (named : Option VaSlot)
    → slot_at opened (at a) ≡ Some mine → named ≡ Some mine → SlotsAreApart at opened → SlotsHaveVersions at out version
    → SlotsHaveVersions (λ g. if same_page a g then Here f else at g) (λ g. if same_page a g then None else out g)
    (λ s. if names_slot named s then 0 else version s)
versions_back at opened out version f a mine named at_a names apart h g slot = by_page (same_page a g) refl
  where
    by_page : (b : Bool) → same_page a g ≡ b → slot_outside (if b then Here f else at g) ≡ Some slot
        → version_out (if b then None else out g) ≡ Some (if names_slot named slot then 0 else version slot)
    by_page true is k = cc
    by_page false is k = rw (names, other_slot at opened a g mine slot apart at_a is k) (h g slot k)
