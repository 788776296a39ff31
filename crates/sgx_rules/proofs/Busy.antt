-- Slots that open starts name: by how many frames a slot is busy, and when none names it.
use Rattle.std.proofs.Common.{◌≡◌, ℕ, ◌<◌, ◌==◌, Bool, true, false, cond, refl, sym, ap, ◌∙◌, Option, Some, None}
use Rattle.std.proofs.Common.{List, ◌||◌, ◌⊎◌, inl, inr, ⊎_elim}
use Rattle.std.proofs.lemmas.Bool.{cond_both, eq-eqb, false≢true}
use Rattle.sgx_rules.specs.declared.entries.Entry.{Entry}
use Rattle.sgx_types.specs.declared.names.VaSlot.{VaSlot}
use Rattle.sgx_types.specs.Pages.{same_slot}
use Rattle.sgx_rules.specs.Slots.{is_slot_busy, names_slot, open_slot, slot_of, takes_out}
use Rattle.sgx_rules.specs.inner.Slots.{IsIdle}
use Rattle.sgx_rules.specs.Starts.{Start, open_start}
use Rattle.sgx_rules.specs.inner.Starts.{BareStart, bare_start, without_place}
use Rattle.sgx_types.proofs.CountLaws.{any_below-found, any_below-none, any_below-some}
use Rattle.sgx_types.proofs.Pages.{same_slot-refl, same_slots}
use Rattle.sgx_types.proofs.Truths.{either, left_true}

-- no frame holds the version array page of this number on its way out
abbrev pub StaysIn : List Entry → ℕ → Type 0
StaysIn past number = (n : ℕ) → takes_out past number n ≡ false

-- a slot that no open start names, and whose page is not on its way out, is not busy, whatever number of frames there is
pub idle_free : (frames : ℕ) (past : List Entry) (slot : VaSlot) → IsIdle past slot → StaysIn past slot.va
    → is_slot_busy frames past slot ≡ false
idle_free frames past slot idle stays =
    any_below-none (λ n. names_slot (open_slot past n) slot || takes_out past slot.va n) frames (λ n low. rw (idle n) (stays n))

-- an open start of one of the frames makes its slot busy
pub open_busy : (frames : ℕ) (past : List Entry) (n : ℕ) (x : Start) → n < frames → open_start past n ≡ Some x
    → is_slot_busy frames past x.slot ≡ true
open_busy frames past n x low is =
    any_below-some (λ m. names_slot (open_slot past m) x.slot || takes_out past x.slot.va m) frames n low
    (left_true _ (takes_out past x.slot.va n) (ap (λ o. names_slot (slot_of o) x.slot) is ∙ same_slot-refl x.slot))

-- the open start of a frame names a slot
pub record IsNamedBy (past : List Entry) (slot : VaSlot) (n : ℕ) : Type 0 where
  pub start : Start
  pub opened : open_start past n ≡ Some start
  pub names : start.slot ≡ slot

-- .. where it passes the test
pub named_by : (past : List Entry) (slot : VaSlot) (n : ℕ) → names_slot (open_slot past n) slot ≡ true → IsNamedBy past slot n
named_by past slot n names = by_start (open_start past n) refl names
  where
    by_start : (o : Option Start) → open_start past n ≡ o → names_slot (slot_of o) slot ≡ true → IsNamedBy past slot n
    by_start None is h = cc
    by_start (Some x) is h = record { start = x; opened = is; names = same_slots x.slot slot h }

-- a busy slot is named by the open start of one of the frames, or its page is on its way out of one
pub busy_named : (frames : ℕ) (past : List Entry) (slot : VaSlot) → is_slot_busy frames past slot ≡ true
    → (n : ℕ) × (n < frames) × (IsNamedBy past slot n ⊎ (takes_out past slot.va n ≡ true))
busy_named frames past slot busy =
    let found = any_below-found (λ n. names_slot (open_slot past n) slot || takes_out past slot.va n) frames busy in (
      found.0,
      found.1,
      ⊎_elim (λ k. inl (named_by past slot found.0 k)) inr (either (names_slot (open_slot past found.0) slot) _ found.2),
    )

-- a slot that names each open start otherwise is idle
pub idle_by : (past : List Entry) (slot : VaSlot) → ((n : ℕ) (x : Start) → open_start past n ≡ Some x → x.slot ≡ slot → ⊥)
    → IsIdle past slot
idle_by past slot other n = by_test (names_slot (open_slot past n) slot) refl
  where
    by_test : (b : Bool) → names_slot (open_slot past n) slot ≡ b → b ≡ false
    by_test true e = let k = named_by past slot n e in absurd (other n k.start k.opened k.names)
    by_test false e = refl

-- .. and no open start names an idle slot
pub idle_apart : (past : List Entry) (slot : VaSlot) (n : ℕ) (x : Start) → IsIdle past slot → open_start past n ≡ Some x
    → x.slot ≡ slot → ⊥
idle_apart past slot n x idle is same =
    false≢true (sym (idle n) ∙ ap (λ o. names_slot (slot_of o) slot) is ∙ ap (same_slot x.slot) (sym same) ∙ same_slot-refl x.slot)

-- a slot that is not busy is idle, where each open start is of one of so many frames
pub not_busy_idle : (frames : ℕ) (past : List Entry) (slot : VaSlot) → ((n : ℕ) (x : Start) → open_start past n ≡ Some x → n < frames)
    → is_slot_busy frames past slot ≡ false → IsIdle past slot
not_busy_idle frames past slot below free =
    idle_by past slot (λ n x is same. false≢true (sym free ∙ ap (is_slot_busy frames past) (sym same)
    ∙ open_busy frames past n x (below n x is) is))

-- ---- one start more, or one less

-- an idle slot stays so where a start with another slot begins
pub idle_started : (past : List Entry) (f : ℕ) (new : Start) (slot : VaSlot) → same_slot new.slot slot ≡ false → IsIdle past slot
    → (n : ℕ) → names_slot (slot_of (cond (f == n) (Some new) (open_start past n))) slot ≡ false
idle_started past f new slot other idle n =
    cond_both (f == n) (Some new) (open_start past n) (λ o. names_slot (slot_of o) slot ≡ false) (λ _. other) (λ _. idle n)

-- .. and where a start ends
pub idle_ended : (past : List Entry) (f : ℕ) (slot : VaSlot) → IsIdle past slot → (n : ℕ)
    → names_slot (slot_of (cond (f == n) None (open_start past n))) slot ≡ false
idle_ended past f slot idle n =
    cond_both (f == n) None (open_start past n) (λ o. names_slot (slot_of o) slot ≡ false) (λ _. refl) (λ _. idle n)

-- a slot is idle once the one start has ended that named it
pub idle_freed : (past : List Entry) (f : ℕ) (slot : VaSlot)
    → ((n : ℕ) (x : Start) → open_start past n ≡ Some x → x.slot ≡ slot → f ≡ n) → (n : ℕ)
    → names_slot (slot_of (cond (f == n) None (open_start past n))) slot ≡ false
idle_freed past f slot only n =
    cond_both (f == n) None (open_start past n) (λ o. names_slot (slot_of o) slot ≡ false) (λ _. refl)
    (λ other. by_test (names_slot (open_slot past n) slot) refl other)
  where
    by_test : (b : Bool) → names_slot (open_slot past n) slot ≡ b → (f == n) ≡ false → names_slot (open_slot past n) slot ≡ false
    by_test true e other =
        let k = named_by past slot n e in
        absurd (false≢true (sym other ∙ eq-eqb f n (only n k.start k.opened k.names)))
    by_test false e other = e

-- ---- starts without their places and actors

-- an open start that is this one without its place and its actor
pub record IsBareOf (o : Option Start) (bare : BareStart) : Type 0 where
  pub start : Start
  pub opened : o ≡ Some start
  pub same : without_place start ≡ bare

pub bare_of : (o : Option Start) (bare : BareStart) → bare_start o ≡ Some bare → IsBareOf o bare
bare_of None bare h = cc
bare_of (Some x) bare h = record { start = x; opened = refl; same = cc }
