-- What an entry leaves of a page that was taken, where it does not touch its frame.
use Rattle.std.proofs.Common.{◌≡◌, ℕ, ◌==◌, Bool, true, false, if◌then◌else◌, refl, sym, ◌∙◌, ap, subst, List}
use Rattle.std.proofs.Common.{◌∷◌, Some}
use Rattle.std.proofs.lemmas.Bool.{eqb-true, eq-eqb, false≢true}
use Rattle.sgx_rules.specs.declared.entries.Action.TheVariants.{Add, Block, Create, Eld, EldStart, Epa, Ewb, EwbStart}
use Rattle.sgx_rules.specs.declared.entries.Answer.TheVariants.{Moved}
use Rattle.sgx_rules.specs.declared.entries.Entry.{Entry}
use Rattle.sgx_rules.specs.declared.entries.Event.{Event}
use Rattle.sgx_rules.specs.declared.entries.Event.TheVariants.{Age, Did, Refused}
use Rattle.sgx_rules.specs.declared.entries.Look.{Look}
use Rattle.sgx_types.specs.declared.names.Page.{Page}
use Rattle.sgx_types.specs.declared.names.VaSlot.{VaSlot}
use Rattle.sgx_rules.specs.Frames.{content, Free, is_blocked, stands}
use Rattle.sgx_types.specs.Pages.{same_page}
use Rattle.sgx_types.proofs.Truths.{eqb-refl}
use Rattle.sgx_rules.specs.Starts.{open_start}
use Rattle.driver_laws.specs.inner.Kinds.{CanMove}
use Rattle.driver_rules.specs.Places.{Absent, after_look, Away, back_from, Leaving, Loading, Place, place}
use Rattle.driver_laws.specs.inner.Sound.{is_load_start, IsSound, load_slot, slot_loading, stands_in}
use Rattle.driver_laws.proofs.PlaceLaws.{holds_one, load_slot_is, loads_no_page, of_same}
use Rattle.driver_laws.proofs.SoundLaws.{entry_of}
use Rattle.driver_laws.specs.inner.Stages.{touches}
use Rattle.sgx_rules.specs.declared.entries.Look.TheVariants as looks

-- ---- frames

-- a frame holds the page that stands in it
pub holds_here : (past : List Entry) (g : Page) (p : Place) (f : ℕ) → IsSound past → place past g ≡ p → stands_in p f ≡ true
    → stands (content past f) g ≡ true
holds_here past g p f s at there = s.places.frames g f ∙ ap (λ y. stands_in y f) at ∙ there

-- a frame that is free is another
pub free_apart : (past : List Entry) (g : Page) (f n : ℕ) → stands (content past f) g ≡ true → content past n ≡ Free → (n == f) ≡ false
free_apart past g f n holds free = by_test (n == f) refl
  where
    by_test : (b : Bool) → (n == f) ≡ b → (n == f) ≡ false
    by_test true is = absurd (false≢true (sym (ap (λ c. stands c g) (subst (λ m. content past m ≡ Free) (eqb-true n f is) free)) ∙ holds))
    by_test false is = is

-- the start of a page that is loading is a load's
pub load_open : (past : List Entry) (page : Page) (n : ℕ) (slot : VaSlot) → IsSound past → place past page ≡ Loading n slot
    → is_load_start (open_start past n) ≡ true
load_open past page n slot s loading =
    let load : load_slot (open_start past n) page ≡ Some slot =
    s.places.loads page n ∙ ap (λ y. slot_loading y n) loading ∙ rw (eqb-refl n) refl in
    load_slot_is (open_start past n) page slot load

-- .. and so is one that loads
pub load_apart : (past : List Entry) (g page : Page) (f n : ℕ) (slot : VaSlot) → IsSound past → stands (content past f) g ≡ true
    → place past page ≡ Loading n slot → (n == f) ≡ false
load_apart past g page f n slot s holds loading = by_test (n == f) refl
  where
    none : stands (content past n) g ≡ false
    none = loads_no_page (content past n) g (sym (s.places.loading n) ∙ load_open past page n slot s loading)

    by_test : (b : Bool) → (n == f) ≡ b → (n == f) ≡ false
    by_test true is = absurd (false≢true (sym none ∙ subst (λ m. stands (content past m) g ≡ true) (sym (eqb-true n f is)) holds))
    by_test false is = is

-- two pages that stand in frames stand in two
pub frames_apart : (past : List Entry) (g h : Page) (p q : Place) (n m : ℕ) → IsSound past → place past g ≡ p → stands_in p n ≡ true
    → place past h ≡ q → stands_in q m ≡ true → same_page g h ≡ false → (n == m) ≡ false
frames_apart past g h p q n m s at_g in_n at_h in_m other = by_test (n == m) refl
  where
    by_test : (b : Bool) → (n == m) ≡ b → (n == m) ≡ false
    by_test true is =
        let one = holds_here past g p n s at_g in_n in
        let two = subst (λ k. stands (content past k) h ≡ true) (sym (eqb-true n m is)) (holds_here past h q m s at_h in_m) in
        absurd (false≢true (sym other ∙ sym (holds_one (content past n) g h one) ∙ two))
    by_test false is = is

-- a page elsewhere is another page
pub place_apart : (past : List Entry) (page g : Page) (p q : Place) → place past page ≡ p → place past g ≡ q → (p ≡ q → ⊥)
    → same_page page g ≡ false
place_apart past page g p q at at_g apart = by_test (same_page page g) refl
  where
    by_test : (b : Bool) → same_page page g ≡ b → same_page page g ≡ false
    by_test true is = absurd (apart (sym (of_same (place past) p page g at is) ∙ at_g))
    by_test false is = is

-- ---- a page that was taken

-- all that a page that was taken stands by is as before
pub record Still (past : List Entry) (e : Entry) (g : Page) (f : ℕ) : Type 0 where
  pub leaving : place (e ∷ past) g ≡ Leaving f
  pub block : is_blocked (e ∷ past) f ≡ is_blocked past f
  pub start : open_start (e ∷ past) f ≡ open_start past f

pub still : (past : List Entry) (e : Entry) (g : Page) (f : ℕ) → IsSound past → CanMove past e.event → touches e.event f ≡ false
    → place past g ≡ Leaving f → Still past e g f
still past e g f s can calm at = by_event e.event can calm
  where
    holds : stands (content past f) g ≡ true
    holds = holds_here past g (Leaving f) f s at (eqb-refl f)

    absent : Absent ≡ Leaving f → ⊥
    absent h = cc

    away : (slot : VaSlot) → Away slot ≡ Leaving f → ⊥
    away slot h = cc

    loads : (n : ℕ) (slot : VaSlot) → Loading n slot ≡ Leaving f → ⊥
    loads n slot h = cc

    leaves : (n : ℕ) → (n == f) ≡ false → Leaving n ≡ Leaving f → ⊥
    leaves n apart h = let same : n ≡ f = cc in absurd (false≢true (sym apart ∙ eq-eqb n f same))

    looked : (look : Look) (p : Place) → p ≡ Leaving f → after_look look p ≡ Leaving f
    looked looks.Taken p h = ap (λ q. after_look looks.Taken q) h
    looked looks.Young p h = h
    looked looks.Held p h = h
    looked looks.NoRoom p h = h

    either : (x : Bool) (p : Place) → p ≡ Leaving f → place past g ≡ Leaving f → (if x then p else place past g) ≡ Leaving f
    either true p h k = h
    either false p h k = k

    by_event : (ev : Event) → CanMove past ev → touches ev f ≡ false → Still past (entry_of e.actor ev) g f
    by_event (Did (Epa n) answer) k m =
        record {
          leaving = rw (place_apart past _ g Absent (Leaving f) k.1 at absent) at;
          block = rw (free_apart past g f n.0 holds k.0) refl;
          start = refl;
        }
    by_event (Did (Create enclave n base size) answer) k m =
        record {
          leaving = rw (place_apart past _ g Absent (Leaving f) k.1 at absent) at;
          block = rw (free_apart past g f n.0 holds k.0) refl;
          start = refl;
        }
    by_event (Did (Add enclave number n kind perm init) answer) k m =
        record {
          leaving = rw (place_apart past _ g Absent (Leaving f) k.1 at absent) at;
          block = rw
              (free_apart past g f n.0 holds k.0) refl;
          start = refl;
        }
    by_event (Did (EldStart n page slot) answer) k m =
        record {
          leaving = rw (place_apart past page g (Away k.1) (Leaving f) k.2 at (away k.1)) at;
          block = rw
              (free_apart past g f n.0 holds k.0) refl;
          start = rw (free_apart past g f n.0 holds k.0) refl;
        }
    by_event (Did (Eld n) (Moved page version tag)) k m =
        record {
          leaving = rw (place_apart past page g (Loading n.0 k.0) (Leaving f) k.1 at (loads n.0 k.0)) at;
          block = rw (load_apart past g page f n.0 k.0 s holds k.1) refl;
          start = rw (load_apart past g page f n.0 k.0 s holds k.1) refl;
        }
    by_event (Refused (Eld n) refusal) k m =
        record {
          leaving = ap (back_from n.0) at;
          block = rw (load_apart past g k.0 f n.0 k.1 s holds k.2) refl;
          start = rw (load_apart past g k.0 f n.0 k.1 s holds k.2) refl;
        }
    by_event (Age page look) k m =
        record {
          leaving = either (same_page page g) (after_look look (place past g))
              (looked look (place past g) at) at;
          block = refl;
          start = refl;
        }
    by_event (Did (Ewb n) (Moved page version tag)) k m =
        record {
          leaving = rw (place_apart past page g (Leaving n.0) (Leaving f) k.0 at
              (leaves n.0 m)) at;
          block = rw m refl;
          start = rw m refl;
        }
    by_event (Did (Block n) answer) k m = record { leaving = at; block = rw m refl; start = refl }
    by_event (Did (EwbStart n slot) answer) k m = record { leaving = at; block = refl; start = rw m refl }
    by_event (Did (Ewb n) answer) k m = absurd k
    by_event (Did (Eld n) answer) k m = absurd k
    by_event _ k m = record { leaving = at; block = refl; start = refl }
