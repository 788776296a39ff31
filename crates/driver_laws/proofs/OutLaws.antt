-- The keeper's slots are out exactly where the rule counts them as out.
use Rattle.std.proofs.Common.{◌≡◌, ℕ, ◌<◌, ◌==◌, ◌||◌, not, Bool, true, false, if◌then◌else◌, refl, sym, ◌∙◌, ap, List, Option, Some}
use Rattle.std.proofs.Common.{None, arith, ⊎_elim, ◌⊎◌}
use Rattle.std.proofs.lemmas.Bool.{eqb-true, false≢true}
use Rattle.std.proofs.lemmas.Option.{none-some, same_Some}
use Rattle.sgx_rules.specs.declared.entries.Entry.{Entry}
use Rattle.sgx_types.specs.declared.names.Page.{Page}
use Rattle.sgx_types.specs.declared.names.VaSlot.{VaSlot}
use Rattle.sgx_rules.specs.Slots.{is_slot_busy, slot_of as slot_of_start, version_in}
use Rattle.sgx_rules.specs.Starts.{open_start, Start}
use Rattle.sgx_rules.proofs.Busy.{idle_free, open_busy}
use Rattle.driver_slots.specs.inner.Keeper.{is_ours, is_out, Keeper}
use Rattle.job_grammar.specs.Jobs.{JobView}
use Rattle.driver_rules.specs.Places.{Absent, Away, Here, Leaving, Loading, Place, place}
use Rattle.driver_rules.specs.Spares.{outs, outs_kept, was_occupied}
use Rattle.driver_laws.specs.inner.Agrees.{drivers, ShowsSlots}
use Rattle.driver_laws.specs.inner.Sound.{IsSound, slot_at, slot_of, slot_outside}
use Rattle.driver_laws.specs.inner.Used.{SealingAreOpen, SlotsAreUsed}
use Rattle.driver_laws.proofs.RowLaws.{array_stays}

-- each open start is of a frame of the EPC
abbrev pub StartsWithin : ℕ → List Entry → Type 0
StartsWithin frames past = (n : ℕ) (x : Start) → open_start past n ≡ Some x → n < frames

-- a slot that a page has is out by the entries: it holds a version, or an open start names it
pub page_out : (j : JobView) (past : List Entry) (g : Page) (s : VaSlot) → SlotsAreUsed past → StartsWithin j.epc past
    → slot_of past g ≡ Some s → outs j past s ≡ true
page_out j past g s u within at = by_place (place past g) refl at
  where
    by_version : (p : Place) → place past g ≡ p → slot_outside p ≡ Some s → outs j past s ≡ true
    by_version p is outside = by_zero (version_in past s == 0) refl (u.filled g s (ap slot_outside is ∙ outside))
      where
        last : (b : Bool) → (b || true) ≡ true
        last true = refl
        last false = refl

        by_zero : (b : Bool) → (version_in past s == 0) ≡ b → 0 < version_in past s → outs j past s ≡ true
        by_zero false is low = rw is (last (is_slot_busy j.epc past s))
        by_zero true is low = let none = eqb-true (version_in past s) 0 is in absurd (omega (arith, none, low))

    by_start : (n : ℕ) (o : Option Start) → open_start past n ≡ o → slot_of_start o ≡ Some s → outs j past s ≡ true
    by_start n None opened names = absurd (none-some s names)
    by_start n (Some x) opened names =
        let same : x.slot ≡ s = same_Some x.slot s names in
        let busy : is_slot_busy j.epc past s ≡ true =
        ap (is_slot_busy j.epc past) (sym same) ∙ open_busy j.epc past n x (within n x opened) opened in
        ap (λ b. b || not (version_in past s == 0)) busy

    by_place : (p : Place) → place past g ≡ p → slot_at (open_start past) p ≡ Some s → outs j past s ≡ true
    by_place (Away t) is names = by_version (Away t) is names
    by_place (Loading n t) is names = by_version (Loading n t) is names
    by_place (Leaving n) is names = by_start n (open_start past n) refl names
    by_place (Here n) is names = absurd (none-some s names)
    by_place Absent is names = absurd (none-some s names)

-- one of the driver's slots is out by its keeper exactly where it is out by the entries, or a try found it in use
pub keeper_out : (j : JobView) (keeper : Keeper) (past : List Entry) (s : VaSlot) → IsSound past → SealingAreOpen past → SlotsAreUsed past
    → ((n : ℕ) (x : Start) → open_start past n ≡ Some x → n < j.epc) → ShowsSlots (drivers j) j keeper past → is_ours keeper s ≡ true
    → is_out keeper s ≡ outs_kept j past s
keeper_out j keeper past s sound sealing u within shows ours = by_keeper (is_out keeper s) refl
  where
    either_way : (b : Bool) → outs j past s ≡ true → (if b then true else outs j past s) ≡ true
    either_way true out = refl
    either_way false out = out

    free : is_out keeper s ≡ false → (b : Bool) → was_occupied past s ≡ b → (if b then true else outs j past s) ≡ false
    free out true tried = absurd (false≢true (sym out ∙ shows.kept s tried ours))
    free out false tried =
        let none = shows.empty s ours out in
        rw (idle_free j.epc past s none.1 (array_stays past s.va sound sealing (shows.here s ours out)), none.0) refl

    by_keeper : (b : Bool) → is_out keeper s ≡ b → b ≡ outs_kept j past s
    by_keeper true out =
        ⊎_elim (λ (has : (g : Page) × (slot_of past g ≡ Some s)).
        sym (either_way (was_occupied past s) (page_out j past has.0 s u within has.1)))
        (λ (tried : was_occupied past s ≡ true). ap (λ b. if b then true else outs j past s) (sym tried)) (shows.out s out)
    by_keeper false out = sym (free out (was_occupied past s) refl)
