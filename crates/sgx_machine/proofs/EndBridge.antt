-- The machine's parts after the commit of a write-out or a reload, and the state that they make.
use Rattle.std.proofs.Common.{◌≡◌, ℕ, ◌==◌, Bool, true, false, cond, refl, sym, ◌&&◌}
use Rattle.std.proofs.Common.{ap, ◌∙◌, Option, None, List, set, is_some}
use Rattle.std.specs.Prelude.{slice_index_or}
use Rattle.std.proofs.lemmas.Bool.{eqb-true, false≢true}
use Rattle.sgx_types.specs.declared.names.SlotAt.{SlotAt}
use Rattle.sgx_types.specs.inner.Places.{same_place}
use Rattle.sgx_rules.specs.inner.Starts.{BareStart}
use Rattle.sgx_rules.specs.Table as table
use Rattle.sgx_types.proofs.Truths.{eqb-swap}
use Rattle.epcm_entry.specs.declared.entry_view.EntryView.TheVariants as views
use Rattle.epcm_entry.specs.inner.EntryView.{block_of, goes_out}
use Rattle.epcm_entry.specs.inner.Epc.{entry_at, cleared}
use Rattle.epcm_entry.specs.inner.Sights.{held}
use Rattle.epcm_entry.proofs.Columns.{length-cleared, entry_at-cleared, words_at-cleared}
use Rattle.version_array.specs.declared.va_page.SlotState.{SlotState}
use Rattle.version_array.specs.inner.Slots.{IsSlot, IsVaTable, version_in, is_busy_at, with_busy}
use Rattle.version_array.specs.inner.Slots.{empty_slot, page_at, page_slots, slot_in}
use Rattle.version_array.proofs.TableLaws.{IsVaTable-without, page_at-without}
use Rattle.version_array.proofs.TableLaws.{version_in-with_busy, is_busy_at-with_busy}
use Rattle.evict_reload.specs.inner.Effects.{emptied}
use Rattle.evict_reload.specs.inner.Effects.{with_out}
use Rattle.evict_reload.specs.inner.Sights.{AreVaPages}
use Rattle.machine_laws.specs.inner.Guarded.{IsGuarded, IsOpen}
use Rattle.machine_laws.specs.inner.State.{after_ewb}
use Rattle.machine_laws.specs.inner.State.{after_failed_eld}
use Rattle.sgx_machine.specs.inner.Parts.{Parts, state_of}
use Rattle.sgx_machine.proofs.Columns.{through}
use Rattle.sgx_machine.proofs.BlockBridge.{entry_column}
use Rattle.sgx_machine.proofs.StartBridge.{IsWritable, busy_ended, start_column, version_ended}

-- ---- the commits

-- a slot of the page that is on its way out is marked by none
pub unmarked : (d : Parts) (f : ℕ) (slot : SlotAt) → IsGuarded (state_of d) → goes_out (entry_at d.epc f) ≡ true
    → (slot.frame.0 == f) ≡ true
    → is_busy_at d.va.pages slot ≡ false
unmarked d f slot guarded leaves here = by_mark (is_busy_at d.va.pages slot) refl
  where
    by_mark : (b : Bool) → is_busy_at d.va.pages slot ≡ b → b ≡ false
    by_mark false is = refl
    by_mark true is =
        let k = guarded.apart.named slot is in
        let at : IsOpen (state_of d) k.start = rw k.is_open at (guarded.opened k.frame) in
        let stays : goes_out (entry_at d.epc slot.frame.0) ≡ false = ap (λ (x : SlotAt). goes_out (entry_at d.epc x.frame.0)) (sym k.names)
        ∙ at.stays in
        absurd (false≢true (sym stays ∙ ap (λ n. goes_out (entry_at d.epc n)) (eqb-true slot.frame.0 f here) ∙ leaves))

abbrev pub written_parts : Parts → ℕ → BareStart → Parts
written_parts d f start = record d {
  epc = cleared d.epc f;
  va = record d.va { pages = with_out d.epc d.va.pages f start.at start.version };
  starts = set d.starts f None;
}

-- the slots once a page is out
module _ (d : Parts) (f : ℕ) (start : BareStart) (is : IsVaTable d.va.pages) (pages : AreVaPages d.epc d.va.pages)
    (guarded : IsGuarded (state_of d)) (leaves : goes_out (entry_at d.epc f) ≡ true) (k : IsWritable d f start.at)
    (elsewhere : (f == start.at.frame.0) ≡ false) where
  abbrev gone : List (Option (List SlotState))
  gone = emptied (table.is_va (held (entry_at d.epc f))) d.va.pages f

  page_gone : (n : ℕ) → page_at gone n ≡ cond (table.is_va (held (entry_at d.epc f)) && (n == f)) None (page_at d.va.pages n)
  page_gone n = by_kind (table.is_va (held (entry_at d.epc f))) refl
    where
      by_kind : (b : Bool) → table.is_va (held (entry_at d.epc f)) ≡ b
          → page_at (emptied b d.va.pages f) n ≡ cond (b && (n == f)) None (page_at d.va.pages n)
      by_kind true va = page_at-without d.va.pages f n (pages f ∙ va) ∙ ap (λ b. cond b None (page_at d.va.pages n)) (eqb-swap f n)
      by_kind false none = refl

  pub gone_table : IsVaTable gone
  gone_table = by_kind (table.is_va (held (entry_at d.epc f))) refl
    where
      by_kind : (b : Bool) → table.is_va (held (entry_at d.epc f)) ≡ b → IsVaTable (emptied b d.va.pages f)
      by_kind true va = IsVaTable-without d.va.pages f (pages f ∙ va) is
      by_kind false none = is

  pub gone_slot : IsSlot gone start.at
  gone_slot = record {
    paged = ap is_some (page_gone start.at.frame.0 ∙ kept (table.is_va (held (entry_at d.epc f))))
        ∙ k.is_slot.paged;
    within = k.is_slot.within;
  }
    where
      kept : (b : Bool) → cond (b && (start.at.frame.0 == f)) None (page_at d.va.pages start.at.frame.0)
          ≡ page_at d.va.pages start.at.frame.0
      kept b = rw (sym (eqb-swap f start.at.frame.0) ∙ elsewhere) (never b)
        where
          never : (b : Bool) → cond (b && false) None (page_at d.va.pages start.at.frame.0) ≡ page_at d.va.pages start.at.frame.0
          never true = refl
          never false = refl

  slot_gone : (slot : SlotAt)
      → slot_in gone slot ≡ cond (table.is_va (held (entry_at d.epc f)) && (slot.frame.0 == f)) empty_slot (slot_in d.va.pages slot)
  slot_gone slot =
      ap (λ page. slice_index_or (page_slots page) slot.index empty_slot) (page_gone slot.frame.0)
      ∙ moved (table.is_va (held (entry_at d.epc f)) && (slot.frame.0 == f))
    where
      moved : (b : Bool) → slice_index_or (page_slots (cond b None (page_at d.va.pages slot.frame.0))) slot.index empty_slot
          ≡ cond b empty_slot (slot_in d.va.pages slot)
      moved true = refl
      moved false = refl

  version_gone : (slot : SlotAt)
      → version_in gone slot ≡ cond (table.is_va (held (entry_at d.epc f)) && (slot.frame.0 == f)) 0 (version_in d.va.pages slot)
  version_gone slot = ap (λ (x : SlotState). x.version) (slot_gone slot)
      ∙ through (λ (x : SlotState). x.version) (table.is_va (held (entry_at d.epc f)) && (slot.frame.0 == f)) empty_slot
      (slot_in d.va.pages slot)

  busy_gone : (slot : SlotAt) → is_busy_at gone slot ≡ is_busy_at d.va.pages slot
  busy_gone slot = ap (λ (x : SlotState). x.busy) (slot_gone slot)
      ∙ by_place (table.is_va (held (entry_at d.epc f))) (slot.frame.0 == f) refl
    where
      by_place : (b here : Bool) → (slot.frame.0 == f) ≡ here
          → (cond (b && here) empty_slot (slot_in d.va.pages slot)).busy ≡ is_busy_at d.va.pages slot
      by_place true true at = sym (unmarked d f slot guarded leaves at)
      by_place true false at = refl
      by_place false here at = refl

  pub ewb_state : state_of (written_parts d f start) ≡ after_ewb (state_of d) f start
  ewb_state =
      let entries : (n : ℕ) → entry_at (cleared d.epc f) n ≡ cond (f == n) views.Free (entry_at d.epc n) =
      λ n. entry_at-cleared d.epc f n k.low in
      λ i. record (after_ewb (state_of d) f start) {
        frames = length-cleared d.epc f i;
        content = λ n. entry_column d.epc (cleared d.epc f) f views.Free entries held n i;
        blocked = λ n. entry_column d.epc (cleared d.epc f) f views.Free entries block_of n i;
        is_sealing = λ n. entry_column d.epc (cleared d.epc f) f views.Free entries goes_out n i;
        words = λ n. words_at-cleared d.epc f n k.low i;
        version_in = λ other. (version_ended gone start.at start.version gone_table gone_slot other
            ∙ ap (cond (same_place start.at other) start.version) (version_gone other)) i;
        is_slot_named = λ other. (busy_ended gone start.at start.version gone_table gone_slot other
            ∙ ap (cond (same_place start.at other) false) (busy_gone other)) i;
        start = λ n. start_column d.starts f n None k.there i;
      }

abbrev pub failed_parts : Parts → ℕ → BareStart → Parts
failed_parts d f start = record d {
  epc = cleared d.epc f;
  va = record d.va { pages = with_busy d.va.pages start.at false };
  starts = set d.starts f None;
}

pub failed_state : (d : Parts) (f : ℕ) (start : BareStart) → IsVaTable d.va.pages → IsWritable d f start.at
    → state_of (failed_parts d f start) ≡ after_failed_eld (state_of d) f start
failed_state d f start is k =
    let entries : (n : ℕ) → entry_at (cleared d.epc f) n ≡ cond (f == n) views.Free (entry_at d.epc n) =
    λ n. entry_at-cleared d.epc f n k.low in
    λ i. record (after_failed_eld (state_of d) f start) {
      frames = length-cleared d.epc f i;
      content = λ n. entry_column d.epc (cleared d.epc f) f views.Free entries held n i;
      blocked = λ n. entry_column d.epc (cleared d.epc f) f views.Free entries block_of n i;
      is_sealing = λ n. entry_column d.epc (cleared d.epc f) f views.Free entries goes_out n i;
      words = λ n. words_at-cleared d.epc f n k.low i;
      version_in = λ other. version_in-with_busy d.va.pages start.at other false is k.is_slot i;
      is_slot_named = λ other. is_busy_at-with_busy d.va.pages start.at other false is k.is_slot i;
      start = λ n. start_column d.starts f n None k.there i;
    }
