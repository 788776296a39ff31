-- Version array pages that come back: their slots are those of their bytes, and there is room for them.
use Rattle.std.proofs.Common.{◌≡◌, ℕ, zero, suc, drop, ◌*◌, ◌/◌, ◌<◌, ◌≤◌, ◌==◌, ◌&&◌, Bool, true, false, cond, refl, sym, ap, ◌∙◌, arith}
use Rattle.std.proofs.Common.{◌⊎◌, inl, inr, Option, Some, None, is_some, List, [], length, map}
use Rattle.std.specs.Prelude.{slice_index, slice_index_or}
use Rattle.std.specs.Int.{w64, from_le_bytes}
use Rattle.std.specs.Simd.{first_chunks}
use Rattle.std.proofs.lemmas.Bool.{cases_lt, eqb-true}
use Rattle.std.proofs.lemmas.List.{get_or-map, get_or_past}
use Rattle.std.proofs.lemmas.List.FromFn.{get_or-map-range_with_len}
use Rattle.sgx_types.specs.declared.names.Page.{Page}
use Rattle.sgx_types.specs.declared.names.SlotAt.{SlotAt}
use Rattle.sgx_types.specs.declared.names.TheConstants.{MOST_FRAMES}
use Rattle.sgx_types.specs.Counts.{count_below}
use Rattle.sgx_types.specs.Pages.{is_va_page}
use Rattle.sgx_types.specs.inner.Layouts.{long_at}
use Rattle.sgx_types.proofs.Chunks.{chunk_of_chunks}
use Rattle.sgx_types.proofs.CountLaws.{count_below-agrees}
use Rattle.sgx_types.proofs.Truths.{both_true, eqb-swap}
use Rattle.sgx_rules.specs.Frames.{Content, IsLoading}
use Rattle.sgx_rules.specs.Table.{is_va}
use Rattle.epcm_entry.specs.inner.Words.{words_of}
use Rattle.epcm_entry.proofs.Words.{length-words_of}
use Rattle.version_array.specs.declared.va_page.SlotState.{SlotState}
use Rattle.version_array.specs.inner.Slots.{IsVaTable, empty_slot, filled, filled_page, has_page}
use Rattle.version_array.specs.inner.Slots.{is_busy_at, page_at, page_slots, pages_made}
use Rattle.version_array.specs.inner.Slots.{slot_in, version_in}
use Rattle.version_array.proofs.TableLaws.{IsVaTable-filled, length-filled, page_at-filled}
use Rattle.evict_reload.specs.inner.Effects.{refilled}
use Rattle.machine_copies.specs.inner.Away.{array_in}
use Rattle.machine_copies.proofs.PigeonLaws.{fewer_arrays}
use Rattle.machine_laws.specs.inner.Steps.{CanBring}
use Rattle.sgx_machine.specs.declared.machine.Machine.TheInside.{Inside}
use Rattle.sgx_machine.specs.inner.Parts.{state_of}
use Rattle.sgx_machine.specs.inner.Whole.{IsWhole, parts_of}
use Rattle.sgx_machine.proofs.Columns.{through}
use Rattle.sgx_machine.proofs.HeldLaws.{few_places}
use Rattle.sgx_machine.proofs.PagingSights.{count_places}

-- ---- slots by bytes

length-chunks : (n k : ℕ) (bytes : List ℕ) → length (first_chunks n k bytes) ≡ k
length-chunks n zero bytes = refl
length-chunks n (suc k) bytes = ap suc (length-chunks n k (drop n bytes))

-- the version in a slot of a page that came back is the word of its bytes
pub filled_version : (bytes : List ℕ) (index : ℕ) → length bytes ≡ 4096
    → (slice_index_or (filled_page bytes) index empty_slot).version ≡ slice_index (words_of bytes) index
unfolding filled_page words_of
filled_version bytes index sized = by_order (cases_lt index 512)
  where
    count : length bytes / 8 ≡ 512
    count = rw sized refl

    by_order : (index < 512) ⊎ (512 ≤ index)
        → (slice_index_or (filled_page bytes) index empty_slot).version ≡ slice_index (words_of bytes) index
    by_order (inl low) =
        ap (λ (s : SlotState). s.version) (get_or-map-range_with_len (λ i. filled (long_at bytes (8 * i))) 0 512 index index empty_slot low
        (omega arith))
        ∙ ap (from_le_bytes w64) (sym (chunk_of_chunks 8 512 index bytes low))
        ∙ sym (get_or-map (from_le_bytes w64) (first_chunks 8 512 bytes) index [] 0 (rw (length-chunks 8 512 bytes) low))
        ∙ ap (λ n. slice_index (map (from_le_bytes w64) (first_chunks 8 n bytes)) index) (sym count)
    by_order (inr past) =
        ap (λ (s : SlotState). s.version) (get_or_past (filled_page bytes) index empty_slot (rw (length-filled bytes) past))
        ∙ sym (get_or_past (words_of bytes) index 0 (rw (length-words_of bytes, count) past))

-- no slot of it is marked
filled_idle : (bytes : List ℕ) (index : ℕ) → (slice_index_or (filled_page bytes) index empty_slot).busy ≡ false
unfolding filled_page
filled_idle bytes index = by_order (cases_lt index 512)
  where
    by_order : (index < 512) ⊎ (512 ≤ index) → (slice_index_or (filled_page bytes) index empty_slot).busy ≡ false
    by_order (inl low) = ap (λ (s : SlotState). s.busy)
        (get_or-map-range_with_len (λ i. filled (long_at bytes (8 * i))) 0 512 index index empty_slot low (omega arith))
    by_order (inr past) = ap (λ (s : SlotState). s.busy) (get_or_past (filled_page bytes) index empty_slot (rw (length-filled bytes) past))

-- ---- the slots once a page is back

module _ (table : List (Option (List SlotState))) (f : ℕ) (bytes : List ℕ) (is_array : Bool) (sized : length bytes ≡ 4096)
    (vacant : page_at table f ≡ None) (room : is_array ≡ true → f < length table) where
  pub page_back : (n : ℕ) → page_at (refilled is_array table f bytes) n
      ≡ cond (is_array && (n == f)) (Some (filled_page bytes)) (page_at table n)
  page_back n = by_kind is_array refl
    where
      by_kind : (b : Bool) → is_array ≡ b
          → page_at (refilled b table f bytes) n ≡ cond (b && (n == f)) (Some (filled_page bytes)) (page_at table n)
      by_kind true is = page_at-filled table f n bytes (room is)
          ∙ ap (λ b. cond b (Some (filled_page bytes)) (page_at table n)) (eqb-swap f n)
      by_kind false is = refl

  slot_back : (slot : SlotAt) → slot_in (refilled is_array table f bytes) slot
      ≡ cond (is_array && (slot.frame.0 == f)) (slice_index_or (filled_page bytes) slot.index empty_slot) (slot_in table slot)
  slot_back slot =
      ap (λ page. slice_index_or (page_slots page) slot.index empty_slot) (page_back slot.frame.0)
      ∙ through (λ page. slice_index_or (page_slots page) slot.index empty_slot) (is_array && (slot.frame.0 == f))
      (Some (filled_page bytes))
      (page_at table slot.frame.0)

  pub version_back : (slot : SlotAt) → version_in (refilled is_array table f bytes) slot
      ≡ cond (is_array && (slot.frame.0 == f)) (slice_index (words_of bytes) slot.index) (version_in table slot)
  version_back slot =
      ap (λ (s : SlotState). s.version) (slot_back slot)
      ∙ through (λ (s : SlotState). s.version) (is_array && (slot.frame.0 == f)) (slice_index_or (filled_page bytes) slot.index empty_slot)
      (slot_in table slot)
      ∙ ap (λ v. cond (is_array && (slot.frame.0 == f)) v (version_in table slot)) (filled_version bytes slot.index sized)

  pub busy_back : (slot : SlotAt) → is_busy_at (refilled is_array table f bytes) slot ≡ is_busy_at table slot
  busy_back slot = ap (λ (s : SlotState). s.busy) (slot_back slot) ∙ by_place (is_array && (slot.frame.0 == f)) refl
    where
      by_place : (b : Bool) → (is_array && (slot.frame.0 == f)) ≡ b
          → (cond b (slice_index_or (filled_page bytes) slot.index empty_slot) (slot_in table slot)).busy ≡ is_busy_at table slot
      by_place false other = refl
      by_place true here =
          let same = eqb-true slot.frame.0 f (both_true is_array (slot.frame.0 == f) here).1 in
          filled_idle bytes slot.index
          ∙ sym (ap (λ page. (slice_index_or (page_slots page) slot.index empty_slot).busy) (ap (page_at table) same ∙ vacant))

  pub table_back : IsVaTable table → IsVaTable (refilled is_array table f bytes)
  table_back is = by_kind is_array refl
    where
      by_kind : (b : Bool) → is_array ≡ b → IsVaTable (refilled b table f bytes)
      by_kind true array = IsVaTable-filled table f bytes (room array) is
      by_kind false own = is

-- ---- room

-- where a frame waits for a version array page that none holds, fewer are in frames than were made
pub room : (m : Inside) → IsWhole m → (f : ℕ) (page : Page) → (state_of (parts_of m)).content f ≡ IsLoading page
    → CanBring (state_of (parts_of m)) f → is_va_page page ≡ true → pages_made m.va.pages < m.va.made
room m h f page waits bring va =
    let d = parts_of m in
    let held : ℕ → Content = (state_of d).content in
    let arrays = h.guarded.kept.arrays in
    let here : array_in (held f) ≡ Some page.number = ap array_in waits ∙ (rw va refl) in
    let few = fewer_arrays MOST_FRAMES m.va.made page.number held arrays (arrays.below f page.number here)
    (bring.away page waits va) in
    let count : pages_made m.va.pages ≡ count_below (λ n. has_page m.va.pages n) MOST_FRAMES =
    count_places is_some None refl m.va.pages MOST_FRAMES (few_places m.va h.held.places) in
    let same : count_below (λ n. has_page m.va.pages n) MOST_FRAMES ≡ count_below (λ n. is_va (held n)) MOST_FRAMES =
    count_below-agrees (λ n. has_page m.va.pages n) (λ n. is_va (held n)) (λ n. h.held.pages n) MOST_FRAMES in
    rw (count, same) few
