-- What is true of a frame that a start was not refused.
use Rattle.std.proofs.Common.{◌≡◌, ℕ, ◌==◌, Bool, true, false, not, ◌||◌, sym, cond, List, [], ◌∷◌, ◌++◌, Some, None, Ok, refl}
use Rattle.sgx_rules.specs.declared.refusals.Refusal.{Refusal}
use Rattle.sgx_rules.specs.declared.refusals.Refusal.TheVariants as why
use Rattle.sgx_rules.specs.Frames.{is_free}
use Rattle.evict_reload.specs.inner.Sights.{page_row, stay_row}
use Rattle.sgx_types.specs.Cases.{allowed, when, ◌otherwise◌}
use Rattle.sgx_rules.specs.Table.{DrainSight, FrameSight, LoadSight, Row, SlotSight, UseSight}
use Rattle.sgx_rules.specs.Table.{is_busy, is_loading, is_out_of_range}
use Rattle.sgx_types.specs.Cases.{first_of_row}
use Rattle.sgx_rules.specs.Table.{is_va, is_valid, eldstart_row, ewbstart_row}
use Rattle.epcm_entry.specs.declared.entry_view.EntryView.{EntryView}
use Rattle.epcm_entry.specs.declared.entry_view.EntryView.TheVariants as views
use Rattle.epcm_entry.specs.inner.EntryView.{claim_answer, goes_out}
use Rattle.epcm_entry.specs.inner.EntryView.{is_free as holds_nothing, is_busy as takes_part}
use Rattle.sgx_types.specs.declared.names.Kind.TheVariants as kinds
use Rattle.epcm_entry.specs.inner.Epc.{EpcFrame, entry_at}
use Rattle.epcm_entry.specs.inner.Sights.{sight_in, held}
use Rattle.sgx_rules.proofs.Rows.{first_longer, none_holds}
use Rattle.sgx_types.proofs.Truths.{neither}

-- a frame that is not busy can be claimed
claimed : (entry : EntryView) → (goes_out entry || is_loading (held entry)) ≡ false → claim_answer entry ≡ Ok tt
claimed views.Free idle = refl
claimed (views.Loading page) idle = cc
claimed (views.Valid page kind perm blocked true) idle = cc
claimed (views.Valid page kind perm blocked false) idle = refl

-- a frame that ELDU is not refused can be claimed
pub loads : (epc : List EpcFrame) (f : ℕ) (load : LoadSight) (slot : SlotSight)
    → first_of_row (eldstart_row (sight_in epc f) load slot) ≡ None → claim_answer (entry_at epc f) ≡ Ok tt
loads epc f load slot row =
    claimed (entry_at epc f) (neither (is_busy (sight_in epc f)) slot.is_busy
    (none_holds (eldstart_row (sight_in epc f) load slot) row).1.1.1.1.0).0

-- .. nor EWB
pub seals : (epc : List EpcFrame) (f : ℕ) (uses : UseSight) (slot : SlotSight) (drain : DrainSight) (spent : Bool)
    → first_of_row (ewbstart_row (sight_in epc f) uses slot drain spent) ≡ None → claim_answer (entry_at epc f) ≡ Ok tt
seals epc f uses slot drain spent row =
    claimed (entry_at epc f) (neither (is_busy (sight_in epc f)) slot.is_busy
    (neither (is_busy (sight_in epc f) || slot.is_busy) uses.is_in_use
    (none_holds (ewbstart_row (sight_in epc f) uses slot drain spent) row).1.0).0).0

-- the cases of the page come behind those of the range
pub page_first : (s : FrameSight) (load : LoadSight) (slot : SlotSight) (r : Refusal) → is_out_of_range s slot ≡ false
    → first_of_row (page_row load) ≡ Some r → Some r ≡ first_of_row (eldstart_row s load slot)
page_first s load slot r range is =
    rw range (sym (first_longer (page_row load) (when (is_busy s || slot.is_busy) why.Conflict
    otherwise when (is_valid s.content) why.FrameBusy
    otherwise when (not (is_va slot.frame.content)) why.BadKind
    otherwise when (slot.version == 0) why.SlotEmpty
    otherwise allowed) r is))

-- the cases that keep a page come behind those of its frame and of the slot's
pub stay_first : (s : FrameSight) (uses : UseSight) (slot : SlotSight) (drain : DrainSight) (spent : Bool) (r : Refusal)
    → is_out_of_range s slot ≡ false → (is_busy s || slot.is_busy || uses.is_in_use) ≡ false → is_free s.content ≡ false
    → (not (is_va slot.frame.content) || uses.is_its_own) ≡ false → first_of_row (stay_row s uses.children drain) ≡ Some r
    → Some r ≡ first_of_row (ewbstart_row s uses slot drain spent)
stay_first s uses slot drain spent r range busy free kind is =
    rw (range, busy, free, kind) (sym (first_longer (stay_row s uses.children drain)
    (when (not (slot.version == 0)) (why.SlotOccupied slot.version)
    otherwise when spent why.VersionSpent
    otherwise allowed) r is))

-- a frame that ELDU is not refused is free
pub loads_free : (epc : List EpcFrame) (f : ℕ) (load : LoadSight) (slot : SlotSight)
    → first_of_row (eldstart_row (sight_in epc f) load slot) ≡ None → (holds_nothing (entry_at epc f) || takes_part (entry_at epc f)) ≡ true
loads_free epc f load slot row =
    by_entry (entry_at epc f) (none_holds (eldstart_row (sight_in epc f) load slot) row).1.1.1.1.1.0
  where
    by_entry : (v : EntryView) → is_valid (held v) ≡ false → (holds_nothing v || takes_part v) ≡ true
    by_entry views.Free none = refl
    by_entry (views.Loading page) none = refl
    by_entry (views.Valid page kinds.Secs perm blocked sealing) none = cc none
    by_entry (views.Valid page kinds.Tcs perm blocked sealing) none = cc none
    by_entry (views.Valid page kinds.Reg perm blocked sealing) none = cc none
    by_entry (views.Valid page kinds.Va perm blocked sealing) none = cc none
