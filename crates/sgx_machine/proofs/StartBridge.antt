-- The machine's parts after the start of a write-out or a reload, and the state that they make.
use Rattle.std.specs.Option.{option_map}
use Rattle.std.proofs.Common.{◌≡◌, ℕ, ◌+◌, ◌<◌, ◌==◌, true, false, cond, refl, sym, subst}
use Rattle.std.proofs.Common.{ap, ◌∙◌, Option, Some, None, IfSome, List, length, get_or, set, is_some}
use Rattle.sgx_types.specs.declared.names.Page.{Page}
use Rattle.sgx_types.specs.declared.names.SlotAt.{SlotAt}
use Rattle.sgx_types.specs.declared.names.Kind.TheVariants as kinds
use Rattle.sgx_types.specs.inner.Places.{same_place}
use Rattle.sgx_types.specs.declared.names.VaSlot.{VaSlot}
use Rattle.sgx_rules.specs.Starts.{slot_in as found_slot}
use Rattle.sgx_types.proofs.Lists.{get_or-set_if}
use Rattle.epcm_entry.specs.declared.entry_view.EntryView.{EntryView}
use Rattle.epcm_entry.specs.declared.entry_view.EntryView.TheVariants as views
use Rattle.epcm_entry.specs.inner.EntryView.{is_valid, block_of, goes_out, with_block, outgoing}
use Rattle.epcm_entry.specs.inner.Epc.{EpcFrame, entry_at, with_sealing, with_loading}
use Rattle.epcm_entry.specs.inner.Sights.{held}
use Rattle.epcm_entry.proofs.Columns.{length-with_entry, words_at-with_entry}
use Rattle.secs_state.specs.inner.Secs.{IsSecs, SecsState}
use Rattle.secs_state.specs.inner.Table.{enclave_at}
use Rattle.version_array.specs.declared.va_page.SlotState.{SlotState}
use Rattle.version_array.specs.inner.Slots.{IsSlot, IsVaTable, version_in, is_busy_at, with_busy, with_version}
use Rattle.version_array.proofs.TableLaws.{version_in-with_version, is_busy_at-with_version}
use Rattle.version_array.proofs.TableLaws.{version_in-with_busy, is_busy_at-with_busy, slot_kept, IsVaTable-with_slot}
use Rattle.evict_reload.specs.inner.Effects.{SameBeside, beside}
use Rattle.evict_reload.specs.inner.Effects.{with_ended}
use Rattle.evict_reload.specs.inner.Sights.{AreVaPages}
use Rattle.evict_reload.proofs.PageLaws.{pages-with_slot}
use Rattle.machine_laws.specs.inner.State.{slot_of_found, version_at}
use Rattle.machine_laws.specs.inner.State.{after_ewbstart, after_eldstart}
use Rattle.sgx_machine.specs.declared.starts.Start as opened
use Rattle.sgx_machine.specs.inner.Parts.{Parts, added_in, enclave_of, is_busy_in, start_of, state_of}
use Rattle.sgx_machine.specs.inner.Whole.{IsNamedFor, IsSecsOf, IsTable}
use Rattle.sgx_machine.proofs.Columns.{through}
use Rattle.sgx_machine.proofs.HeldLaws.{still_beside}
use Rattle.sgx_machine.proofs.BlockBridge.{entries_with, entry_column, entry_kept}

-- ---- slots and starts

-- the start of one frame is written
pub start_column : (starts : List (Option opened.Start)) (f n : ℕ) (o : Option opened.Start) → f < length starts
    → start_of (get_or (set starts f o) n None) ≡ cond (f == n) (start_of o) (start_of (get_or starts n None))
start_column starts f n o low = ap start_of (get_or-set_if starts f n o None low) ∙ through start_of (f == n) o (get_or starts n None)

module _ (va : List (Option (List SlotState))) (slot : SlotAt) (version : ℕ) (is : IsVaTable va) (at : IsSlot va slot) where
  -- a slot whose start has ended
  written : IsVaTable (with_version va slot version)
  written = IsVaTable-with_slot va slot (record { version = version; busy = is_busy_at va slot }) is at

  there : IsSlot (with_version va slot version) slot
  there = slot_kept va slot slot (record { version = version; busy = is_busy_at va slot }) at at

  pub table_ended : IsVaTable (with_ended va slot version)
  table_ended = IsVaTable-with_slot (with_version va slot version) slot
      (record { version = version_in (with_version va slot version) slot; busy = false }) written there

  pub version_ended : (other : SlotAt) → version_in (with_ended va slot version) other ≡ cond (same_place slot other) version
      (version_in va other)
  version_ended other = version_in-with_busy (with_version va slot version) slot other false written there
      ∙ version_in-with_version va slot other version is at

  pub busy_ended : (other : SlotAt) → is_busy_at (with_ended va slot version) other ≡ cond (same_place slot other) false
      (is_busy_at va other)
  busy_ended other = is_busy_at-with_busy (with_version va slot version) slot other false written there
      ∙ ap (cond (same_place slot other) false) (is_busy_at-with_version va slot other version is at)

  pub pages_ended : (epc : List EpcFrame) → AreVaPages epc va → AreVaPages epc (with_ended va slot version)
  pages_ended epc pages = pages-with_slot epc (with_version va slot version) slot
      (record { version = version_in (with_version va slot version) slot; busy = false })
      (pages-with_slot epc va slot (record { version = version; busy = is_busy_at va slot }) pages at) there

pub named-with_block : (v : EntryView) (b : ℕ) → IsNamedFor v → IsNamedFor (with_block v b)
named-with_block views.Free b h = h
named-with_block (views.Loading page) b h = h
named-with_block (views.Valid page kinds.Tcs perm blocked sealing) b h = h
named-with_block (views.Valid page kinds.Reg perm blocked sealing) b h = h
named-with_block (views.Valid page kinds.Va perm blocked sealing) b h = h
named-with_block (views.Valid page kinds.Secs perm blocked sealing) b h = h

-- what is there to be written where a start is made or ended: the frame, its start, and the slot
pub record IsWritable (d : Parts) (f : ℕ) (slot : SlotAt) : Type 0 where
  pub low : f < length d.epc
  pub there : f < length d.starts
  pub is_slot : IsSlot d.va.pages slot

-- ---- the start of EWB

pub held-outgoing : (v : EntryView) → held (outgoing v) ≡ held v
held-outgoing views.Free = refl
held-outgoing (views.Loading page) = refl
held-outgoing (views.Valid page kind perm blocked sealing) = refl

block_of-outgoing : (v : EntryView) → block_of (outgoing v) ≡ block_of v
block_of-outgoing views.Free = refl
block_of-outgoing (views.Loading page) = refl
block_of-outgoing (views.Valid page kind perm blocked sealing) = refl

goes_out-outgoing : (v : EntryView) → is_valid v ≡ true → goes_out (outgoing v) ≡ true
goes_out-outgoing views.Free valid = cc valid
goes_out-outgoing (views.Loading page) valid = cc valid
goes_out-outgoing (views.Valid page kind perm blocked sealing) valid = refl

-- the slot of a place, by what its frame holds
abbrev pub found_at : Parts → SlotAt → VaSlot
found_at d at = slot_of_found (found_slot ((state_of d).content at.frame.0) at.index)

abbrev pub out_parts : Parts → ℕ → SlotAt → Parts
out_parts d f slot = record d {
  epc = with_sealing d.epc f;
  va = record d.va { pages = with_busy d.va.pages slot true };
  versions = d.versions + 1;
  starts = set d.starts f (Some (record { at = slot; slot = found_at d slot; version = d.versions; loads = None }));
}

pub ewbstart_state : (d : Parts) (f : ℕ) (slot : SlotAt) → IsVaTable d.va.pages → IsWritable d f slot → is_valid (entry_at d.epc f) ≡ true
    → state_of (out_parts d f slot) ≡ after_ewbstart (state_of d) f slot
ewbstart_state d f slot is k valid =
    let v = outgoing (entry_at d.epc f) in
    let entries = entries_with d.epc f v k.low in
    λ i. record (after_ewbstart (state_of d) f slot) {
      frames = length-with_entry d.epc f v i;
      content = λ n. entry_kept d.epc (with_sealing d.epc f) f v entries held n (held-outgoing (entry_at d.epc f)) i;
      blocked = λ n. entry_kept d.epc (with_sealing d.epc f) f v entries block_of n (block_of-outgoing (entry_at d.epc f)) i;
      is_sealing = λ n. (entry_column d.epc (with_sealing d.epc f) f v entries goes_out n
          ∙ ap (λ b. cond (f == n) b (goes_out (entry_at d.epc n))) (goes_out-outgoing (entry_at d.epc f) valid)) i;
      words = λ n. words_at-with_entry d.epc f n v i;
      version_in = λ other. version_in-with_busy d.va.pages slot other true is k.is_slot i;
      is_slot_named = λ other. is_busy_at-with_busy d.va.pages slot other true is k.is_slot i;
      start = λ n. start_column d.starts f n (Some (record { at = slot; slot = found_at d slot; version = d.versions; loads = None }))
          k.there i;
    }

pub named-outgoing : (v : EntryView) → IsNamedFor v → IsNamedFor (outgoing v)
named-outgoing views.Free h = h
named-outgoing (views.Loading page) h = h
named-outgoing (views.Valid page kinds.Tcs perm blocked sealing) h = h
named-outgoing (views.Valid page kinds.Reg perm blocked sealing) h = h
named-outgoing (views.Valid page kinds.Va perm blocked sealing) h = h
named-outgoing (views.Valid page kinds.Secs perm blocked sealing) h = h

-- ---- enclaves that differ in counts alone

-- the state says nothing of counts
pub beside_state : (d : Parts) (secs : List (Option SecsState)) → SameBeside d.secs secs → state_of (record d { secs = secs }) ≡ state_of d
beside_state d secs same = λ i. record (state_of d) {
  enclaves = λ e. enclaves (enclave_at secs e) (enclave_at d.secs e) (same.each e) i;
  added = λ g. added g.number (enclave_at secs g.enclave) (enclave_at d.secs g.enclave) (same.each g.enclave) i;
  is_busy = λ g. busy g.number (enclave_at secs g.enclave) (enclave_at d.secs g.enclave) (same.each g.enclave) i;
}
  where
    enclaves : (o p : Option SecsState) → option_map beside o ≡ option_map beside p → enclave_of o ≡ enclave_of p
    enclaves o p k = sym (of_bare o) ∙ ap enclave_of k ∙ of_bare p
      where
        of_bare : (o : Option SecsState) → enclave_of (option_map beside o) ≡ enclave_of o
        of_bare None = refl
        of_bare (Some x) = refl

    added : (number : ℕ) (o p : Option SecsState) → option_map beside o ≡ option_map beside p → added_in o number ≡ added_in p number
    added number o p k = sym (of_bare o) ∙ ap (λ q. added_in q number) k ∙ of_bare p
      where
        of_bare : (o : Option SecsState) → added_in (option_map beside o) number ≡ added_in o number
        of_bare None = refl
        of_bare (Some x) = refl

    busy : (number : ℕ) (o p : Option SecsState) → option_map beside o ≡ option_map beside p → is_busy_in o number ≡ is_busy_in p number
    busy number o p k = sym (of_bare o) ∙ ap (λ q. is_busy_in q number) k ∙ of_bare p
      where
        of_bare : (o : Option SecsState) → is_busy_in (option_map beside o) number ≡ is_busy_in o number
        of_bare None = refl
        of_bare (Some x) = refl

-- .. and each of them that is there is there
pub owned_beside : (old new : List (Option SecsState)) → SameBeside old new → (o : Option ℕ)
    → IfSome o (λ e. is_some (enclave_at old e) ≡ true) → IfSome o (λ e. is_some (enclave_at new e) ≡ true)
owned_beside old new same None k = tt
owned_beside old new same (Some e) k = still_beside old new same e k

-- the table goes on to be one
pub table_beside : (old new : List (Option SecsState)) → SameBeside old new → IsTable old → IsTable new
table_beside old new same is = record {
  places = same.places ∙ is.places;
  own = λ e x at. by_state e x (enclave_at old e) refl (sym (same.each e) ∙ ap (option_map beside) at);
}
  where
    by_state : (e : ℕ) (x : SecsState) (o : Option SecsState) → enclave_at old e ≡ o → option_map beside o ≡ Some (beside x) → IsSecsOf e x
    by_state e x None at k = cc k
    by_state e x (Some y) at k =
        let alike : beside y ≡ beside x = cc k in
        let own = is.own e y at in
        record {
          number = sym (ap (λ (z : SecsState). z.enclave) alike) ∙ own.number;
          sound = let k : IsSecs (beside x) =
              subst IsSecs alike (record { lawful = own.sound.lawful; pages = own.sound.pages; busy = own.sound.busy }) in
              record { lawful = k.lawful; pages = k.pages; busy = k.busy };
        }

-- ---- the start of ELDU

abbrev pub in_parts : Parts → ℕ → Page → SlotAt → Parts
in_parts d f page slot = record d {
  epc = with_loading d.epc f page;
  va = record d.va { pages = with_busy d.va.pages slot true };
  starts = set d.starts f (Some (record { at = slot; slot = found_at d slot; version = version_at (state_of d) slot; loads = Some page }));
}

pub eldstart_state : (d : Parts) (f : ℕ) (page : Page) (slot : SlotAt) → IsVaTable d.va.pages → IsWritable d f slot
    → goes_out (entry_at d.epc f) ≡ false → state_of (in_parts d f page slot) ≡ after_eldstart (state_of d) f page slot
eldstart_state d f page slot is k idle =
    let entries = entries_with d.epc f (views.Loading page) k.low in
    λ i. record (after_eldstart (state_of d) f page slot) {
      frames = length-with_entry d.epc f (views.Loading page) i;
      content = λ n. entry_column d.epc (with_loading d.epc f page) f (views.Loading page) entries held n i;
      blocked = λ n. entry_column d.epc (with_loading d.epc f page) f (views.Loading page) entries block_of n i;
      is_sealing = λ n. entry_kept d.epc (with_loading d.epc f page) f (views.Loading page) entries goes_out n (sym idle) i;
      words = λ n. words_at-with_entry d.epc f n (views.Loading page) i;
      version_in = λ other. version_in-with_busy d.va.pages slot other true is k.is_slot i;
      is_slot_named = λ other. is_busy_at-with_busy d.va.pages slot other true is k.is_slot i;
      start = λ n. start_column d.starts f n
          (Some (record { at = slot; slot = found_at d slot; version = version_at (state_of d) slot; loads = Some page })) k.there i;
    }
