-- The machine's parts after a block, a track, a write-out or a reload, and the state that they make.
use Rattle.std.specs.Option.{option_map}
use Rattle.secs_state.specs.inner.Sights.{sight_of}
use Rattle.std.proofs.Common.{◌≡◌, ℕ, ◌+◌, ◌<◌, ◌≤◌, ◌==◌, ◌||◌, Bool, true, false, not, cond, leb, refl, sym}
use Rattle.std.proofs.Common.{ap, ◌∙◌, Option, Some, None, IfSome, List, length, set, is_some, length-set, arith}
use Rattle.std.specs.Prelude.{count_by, nat_lt}
use Rattle.std.specs.Option.{option_and_then}
use Rattle.std.proofs.lemmas.Bool.{eqb-true, leb-false, ltb-false, not-false}
use Rattle.sgx_types.specs.declared.names.Page.{Page}
use Rattle.sgx_types.specs.declared.names.SlotAt.{SlotAt}
use Rattle.sgx_rules.specs.Frames.{IsLoading, enclave_in}
use Rattle.sgx_types.specs.Pages.{is_secs_page, is_va_page}
use Rattle.sgx_types.specs.declared.names.VaSlot.{VaSlot}
use Rattle.sgx_rules.specs.Table as table
use Rattle.sgx_types.specs.Cases.{first_of_row}
use Rattle.sgx_rules.specs.Table.{DrainSight, block_row, track_row, ewbstart_row, eldstart_row}
use Rattle.sgx_rules.specs.Table.{LoadSight, SecsSight, UseSight}
use Rattle.sgx_rules.proofs.Contents.{invalid_no_va}
use Rattle.sgx_rules.proofs.Rows.{none_holds}
use Rattle.sgx_types.proofs.Truths.{neither}
use Rattle.epcm_entry.specs.declared.entry_view.EntryView.TheVariants as views
use Rattle.epcm_entry.specs.inner.EntryView.{is_valid, goes_out, with_block, outgoing}
use Rattle.epcm_entry.specs.inner.Epc.{EpcFrame, entry_at, with_entry, with_sealing, with_loading}
use Rattle.epcm_entry.specs.inner.Sights.{held, sight_in}
use Rattle.epcm_entry.proofs.Columns.{length-with_entry}
use Rattle.cached_translations.specs.declared.processor.Processor.{Processor}
use Rattle.secs_state.specs.inner.Secs.{SecsState, added_at}
use Rattle.secs_state.specs.inner.Table.{enclave_at}
use Rattle.track_epoch.specs.inner.Tracking.{Tracking, tracked}
use Rattle.track_epoch.specs.inner.Tracks.{track_of, with_track}
use Rattle.track_epoch.proofs.TracksLaws.{length-with_track, track_of-with_track}
use Rattle.version_array.specs.inner.Slots.{IsVaTable, VaArrays, version_in, with_busy}
use Rattle.version_array.specs.inner.Versions.{is_spent_at}
use Rattle.version_array.proofs.TableLaws.{IsVaTable-with_slot}
use Rattle.evict_reload.specs.inner.Effects.{SameBeside, epoch_of, with_blocked}
use Rattle.evict_reload.specs.inner.Effects.{with_next, with_tracked}
use Rattle.evict_reload.specs.inner.Sights as parts
use Rattle.evict_reload.specs.inner.Sights.{AreCountedIn, AreVaPages, track_seen}
use Rattle.evict_reload.proofs.PageLaws.{pages-with_entry, pages-with_slot, is_va-with_block, is_va-outgoing}
use Rattle.machine_laws.specs.inner.State.{version_at, after_block}
use Rattle.machine_laws.specs.inner.State.{after_track, after_ewbstart, after_eldstart}
use Rattle.sgx_machine.specs.inner.Parts.{Parts, is_noted, state_of}
use Rattle.sgx_machine.specs.inner.Whole.{IsTracked, IsWhole, parts_of}
use Rattle.sgx_machine.specs.declared.machine.Machine.TheInside.{Inside}
use Rattle.sgx_machine.proofs.Columns.{numbered}
use Rattle.sgx_machine.proofs.HeldLaws.{held_put, held_same, named_put, still_beside}
use Rattle.sgx_machine.proofs.KeptStates.{kept_block, kept_track, kept_ewbstart, kept_eldstart}
use Rattle.sgx_machine.proofs.PagingSights.{frame_numbered, track_there, track_row_at, ewbstart_row_at}
use Rattle.sgx_machine.proofs.PagingSights.{eldstart_row_at}
use Rattle.sgx_machine.proofs.WholeMachines.{Leaves, kept_of}
use Rattle.sgx_machine.proofs.BlockBridge.{block_state, blocks, entries_with, entry_kept, held-with_block, taken}
use Rattle.sgx_machine.proofs.BlockBridge.{track_state}
use Rattle.sgx_machine.proofs.StartBridge.{IsWritable, beside_state, eldstart_state, ewbstart_state, found_at}
use Rattle.sgx_machine.proofs.StartBridge.{held-outgoing, in_parts, named-outgoing, named-with_block, out_parts}
use Rattle.sgx_machine.proofs.StartBridge.{owned_beside, table_beside}

-- ---- what the rows leave

pub block_leaves : (m : Inside) → IsWhole m → (f : ℕ) (epc : List EpcFrame) → first_of_row (block_row (sight_in m.epc f)) ≡ None
    → epc ≡ with_blocked m.epc m.tracks f → Leaves (record (parts_of m) { epc = epc }) (after_block (state_of (parts_of m)) f)
block_leaves m h f epc allowed done =
    let d = parts_of m in
    let k = blocks d f allowed in
    let v = with_block (entry_at d.epc f) (epoch_of d.tracks (enclave_in (held (entry_at d.epc f)))) in
    rw done (record {
      state = block_state d f k h.track_places (frame_numbered d f h.table.places h.framed);
      kept = kept_block (state_of d) f allowed (kept_of m h);
      processors = h.processors;
      places = h.places;
      table = h.table;
      track_places = h.track_places;
      tracked = h.tracked;
      slots = h.slots;
      held = held_same d.epc (with_entry d.epc f v) (length-with_entry d.epc f v)
          (λ n. entry_kept d.epc (with_entry d.epc f v) f v (entries_with d.epc f v k.low) held n (held-with_block (entry_at d.epc f) _))
          m.secs m.va m.va (pages-with_entry d.epc d.va.pages f v h.held.pages k.low (is_va-with_block (entry_at d.epc f) _)) h.held.places
          (named_put d.epc (with_entry d.epc f v) f v (entries_with d.epc f v k.low)
          (named-with_block (entry_at d.epc f) _ (h.held.named f))
          h.held.named) h.held;
      start_places = h.start_places ∙ sym (length-with_entry d.epc f v);
    })

-- an enclave that is there, by the row of a track
there_tracked : (o : Option SecsState) (secs : SecsSight) (t : Option Tracking)
    → first_of_row (track_row (track_seen (option_map sight_of o) secs t)) ≡ None → is_some o ≡ true
there_tracked None secs None allowed = cc allowed
there_tracked None secs (Some t) allowed = cc allowed
there_tracked (Some x) secs t allowed = refl

-- the epochs that tracks note stay where one begins its next
tracked_next : (tracks : List Tracking) (cpus : List Processor) (e : ℕ) (t : Tracking) → length tracks ≡ 8 → 1 ≤ e → e ≤ 8
    → track_of tracks e ≡ Some t → IsTracked tracks cpus → IsTracked (with_track tracks e (tracked t)) cpus
tracked_next tracks cpus e t places first last found h k u at test =
    by_enclave (e == k) refl (sym (track_of-with_track tracks e k (tracked t) first (rw places last)) ∙ at)
  where
    by_enclave : (b : Bool) → (e == k) ≡ b → cond b (Some (tracked t)) (track_of tracks k) ≡ Some u
        → count_by test u.noted ≡ count_by (λ (c : Processor). is_noted k test c.mode) cpus
    by_enclave true same is = let new : tracked t ≡ u = cc is in rw (← new, ← eqb-true e k same) (h e t found test)
    by_enclave false other is = h k u is test

pub track_leaves : (m : Inside) → IsWhole m → (e : ℕ) (tracks : List Tracking)
    → first_of_row (track_row (parts.track_sight m.epc m.secs m.tracks e)) ≡ None → tracks ≡ with_tracked m.tracks e
    → Leaves (record (parts_of m) { tracks = tracks }) (after_track (state_of (parts_of m)) e)
track_leaves m h e tracks allowed done =
    by_state (enclave_at m.secs e) refl (there_tracked (enclave_at m.secs e) _ (track_of m.tracks e) allowed)
  where
    by_state : (o : Option SecsState) → enclave_at m.secs e ≡ o → is_some o ≡ true
        → Leaves (record (parts_of m) { tracks = tracks }) (after_track (state_of (parts_of m)) e)
    by_state None at made = cc made
    by_state (Some x) at made =
        let d = parts_of m in
        let number = numbered d.secs e x h.table.places at in
        let t = track_there d e h.track_places number.0 number.1 in
        let new : tracks ≡ with_track d.tracks e (tracked t.0) = done ∙ ap (with_next d.tracks e) t.1 in
        rw new (record {
          state = track_state d e t.0 h.track_places number.0 number.1 t.1;
          kept = kept_track (state_of d) e (sym (track_row_at d e h.table.places h.track_places h.processors h.tracked) ∙ allowed)
              (kept_of m h);
          processors = h.processors;
          places = h.places;
          table = h.table;
          track_places = length-with_track d.tracks e (tracked t.0) ∙ h.track_places;
          tracked = tracked_next d.tracks d.cpus e t.0 h.track_places number.0 number.1 t.1 h.tracked;
          slots = h.slots;
          held = h.held;
          start_places = h.start_places;
        })

-- a frame and a slot of a version array page, which a start's row finds
pub record IsFound (d : Parts) (f : ℕ) (slot : SlotAt) : Type 0 where
  pub writable : IsWritable d f slot
  pub idle : goes_out (entry_at d.epc f) ≡ false

found : (d : Parts) (f : ℕ) (slot : SlotAt) (busy : Bool) → AreVaPages d.epc d.va.pages → length d.starts ≡ length d.epc
    → table.is_out_of_range (sight_in d.epc f) (parts.slot_sight d.epc d.va.pages slot) ≡ false
    → table.is_busy (sight_in d.epc f) ≡ false → table.is_va (held (entry_at d.epc slot.frame.0)) ≡ true
    → IsFound d f slot
found d f slot busy pages places within idle va =
    let outer = neither (leb (length d.epc) f || leb (length d.epc) slot.frame.0) (nat_lt 511 slot.index) within in
    let inner = neither (leb (length d.epc) f) (leb (length d.epc) slot.frame.0) outer.0 in
    let low : f < length d.epc = leb-false _ _ inner.0 in
    record {
      writable = record {
        low = low;
        there = rw places low;
        is_slot = record { paged = pages slot.frame.0 ∙ va; within = omega (arith, ltb-false 511 slot.index outer.1) };
      };
      idle = (neither (goes_out (entry_at d.epc f)) (table.is_loading (held (entry_at d.epc f))) idle).0;
    }

-- the pages where a slot is marked
pub pages_marked : (d : Parts) (epc : List EpcFrame) (f : ℕ) (slot : SlotAt) (on : Bool) → AreVaPages epc d.va.pages → IsWritable d f slot
    → AreVaPages epc (with_busy d.va.pages slot on)
pages_marked d epc f slot on pages k =
    pages-with_slot epc d.va.pages slot (record { version = version_in d.va.pages slot; busy = on }) pages k.is_slot

pub slots_marked : (d : Parts) (f : ℕ) (slot : SlotAt) (on : Bool) → IsVaTable d.va.pages → IsWritable d f slot
    → IsVaTable (with_busy d.va.pages slot on)
slots_marked d f slot on is k = IsVaTable-with_slot d.va.pages slot
    (record { version = version_in d.va.pages slot; busy = on }) is k.is_slot

-- the start of EWB
pub record GoesOut (d : Parts) (f : ℕ) (slot : SlotAt) : Type 0 where
  pub found : IsFound d f slot
  pub valid : is_valid (entry_at d.epc f) ≡ true

pub goes : (d : Parts) (f : ℕ) (slot : SlotAt) (uses : UseSight) (drain : DrainSight) (spent : Bool) → AreVaPages d.epc d.va.pages
    → length d.starts ≡ length d.epc
    → first_of_row (ewbstart_row (sight_in d.epc f) uses (parts.slot_sight d.epc d.va.pages slot) drain spent) ≡ None → GoesOut d f slot
goes d f slot uses drain spent pages places allowed =
    let sees = parts.slot_sight d.epc d.va.pages slot in
    let none = none_holds (ewbstart_row (sight_in d.epc f) uses sees drain spent) allowed in
    let busy = neither (table.is_busy (sight_in d.epc f) || sees.is_busy) uses.is_in_use none.1.0 in
    let idle = neither (table.is_busy (sight_in d.epc f)) sees.is_busy busy.0 in
    let va = neither (not (table.is_va (held (entry_at d.epc slot.frame.0)))) uses.is_its_own none.1.1.1.0 in
    record {
      found = found d f slot sees.is_busy pages places none.0 idle.0 (not-false _ va.0);
      valid = taken (entry_at d.epc f) idle.0 none.1.1.0;
    }

pub ewbstart_leaves : (m : Inside) → IsWhole m → (f : ℕ) (slot : SlotAt) (d' : Parts)
    → first_of_row (ewbstart_row (sight_in m.epc f) (parts.use_sight m.epc m.va.pages f slot) (parts.slot_sight m.epc m.va.pages slot)
    (parts.drain_sight m.epc m.tracks f) (is_spent_at m.versions)) ≡ None → d' ≡ out_parts (parts_of m) f slot
    → Leaves d' (after_ewbstart (state_of (parts_of m)) f slot)
ewbstart_leaves m h f slot d' allowed done =
    let d = parts_of m in
    let k = goes d f slot (parts.use_sight d.epc d.va.pages f slot) (parts.drain_sight d.epc d.tracks f)
    (is_spent_at d.versions) h.held.pages
    h.start_places allowed in
    let w = k.found.writable in
    let v = outgoing (entry_at d.epc f) in
    rw done (record {
      state = ewbstart_state d f slot h.slots w k.valid;
      kept = kept_ewbstart (state_of d) f slot (sym
          (ewbstart_row_at d f slot h.track_places h.processors h.tracked (frame_numbered d f h.table.places h.framed) h.slots h.held.pages)
          ∙ allowed) (kept_of m h);
      processors = h.processors;
      places = h.places;
      table = h.table;
      track_places = h.track_places;
      tracked = h.tracked;
      slots = slots_marked d f slot true h.slots w;
      held = held_same d.epc (with_sealing d.epc f) (length-with_entry d.epc f v)
          (λ n. entry_kept d.epc (with_sealing d.epc f) f v (entries_with d.epc f v w.low) held n (held-outgoing (entry_at d.epc f)))
          m.secs m.va _ (pages_marked d (with_sealing d.epc f) f slot true
          (pages-with_entry d.epc d.va.pages f v h.held.pages w.low (is_va-outgoing (entry_at d.epc f))) w)
          (length-set d.va.pages slot.frame.0 _ ∙ h.held.places)
          (named_put d.epc (with_sealing d.epc f) f v (entries_with d.epc f v w.low) (named-outgoing (entry_at d.epc f) (h.held.named f))
          h.held.named) h.held;
      start_places = length-set d.starts f _ ∙ h.start_places ∙ sym (length-with_entry d.epc f v);
    })

-- the start of ELDU
pub record ComesIn (d : Parts) (f : ℕ) (slot : SlotAt) : Type 0 where
  pub found : IsFound d f slot
  pub not_va : table.is_va (held (entry_at d.epc f)) ≡ false

pub comes : (d : Parts) (f : ℕ) (slot : SlotAt) (load : LoadSight) → AreVaPages d.epc d.va.pages
    → length d.starts ≡ length d.epc
    → first_of_row (eldstart_row (sight_in d.epc f) load (parts.slot_sight d.epc d.va.pages slot)) ≡ None → ComesIn d f slot
comes d f slot load pages places allowed =
    let sees = parts.slot_sight d.epc d.va.pages slot in
    let none = none_holds (eldstart_row (sight_in d.epc f) load sees) allowed in
    let idle = neither (table.is_busy (sight_in d.epc f)) sees.is_busy none.1.1.1.1.0 in
    record {
      found = found d f slot sees.is_busy pages places none.0 idle.0 (not-false _ none.1.1.1.1.1.1.0);
      not_va = invalid_no_va (held (entry_at d.epc f)) none.1.1.1.1.1.0;
    }

-- a page that is to be loaded is of an enclave that was created, or a version array page
load_owned : (d : Parts) (page : Page) → (parts.load_sight d.epc d.va.made d.secs page).is_known ≡ true
    → IfSome (parts.owner_in (IsLoading page)) (λ e. is_some (enclave_at d.secs e) ≡ true)
load_owned d page known = by_name (is_va_page page) (is_secs_page page) known
  where
    made : (o : Option SecsState) → is_some (option_and_then (λ (x : SecsState). added_at x page.number) o) ≡ true → is_some o ≡ true
    made None k = cc k
    made (Some x) k = refl

    by_name : (va inner : Bool)
        → cond va (nat_lt page.number d.va.made) (cond inner (is_some (enclave_at d.secs page.enclave)) (parts.is_added d.secs page)) ≡ true
        → IfSome (cond va None (Some page.enclave)) (λ e. is_some (enclave_at d.secs e) ≡ true)
    by_name true inner k = tt
    by_name false true k = k
    by_name false false k = made (enclave_at d.secs page.enclave) k

pub eldstart_leaves : (m : Inside) → IsWhole m → (f : ℕ) (page : Page) (slot : SlotAt) (secs : List (Option SecsState)) (d' : Parts)
    → first_of_row (eldstart_row (sight_in m.epc f) (parts.load_sight m.epc m.va.made m.secs page) (parts.slot_sight m.epc m.va.pages slot))
    ≡ None → SameBeside m.secs secs → AreCountedIn (with_loading m.epc f page) secs
    → d' ≡ record (in_parts (parts_of m) f page slot) { secs = secs } → Leaves d' (after_eldstart (state_of (parts_of m)) f page slot)
eldstart_leaves m h f page slot secs d' allowed same counts done =
    let d = parts_of m in
    let load = parts.load_sight d.epc d.va.made d.secs page in
    let k = comes d f slot load h.held.pages h.start_places allowed in
    let none = none_holds (eldstart_row (sight_in d.epc f) load (parts.slot_sight d.epc d.va.pages slot)) allowed in
    let w = k.found.writable in
    let v = views.Loading page in
    rw done (record {
      state = beside_state (in_parts d f page slot) secs same ∙ eldstart_state d f page slot h.slots w k.found.idle;
      kept = kept_eldstart (state_of d) f page slot (sym (eldstart_row_at d f page slot h.held.pages) ∙ allowed) (kept_of m h);
      processors = h.processors;
      places = h.places;
      table = table_beside m.secs secs same h.table;
      track_places = h.track_places;
      tracked = h.tracked;
      slots = slots_marked d f slot true h.slots w;
      held = held_put d.epc (with_loading d.epc f page) m.secs secs m.va _ f v (length-with_entry d.epc f v) (entries_with d.epc f v w.low)
          (pages_marked d (with_loading d.epc f page) f slot true
          (pages-with_entry d.epc d.va.pages f v h.held.pages w.low (sym k.not_va)) w)
          (length-set d.va.pages slot.frame.0 _ ∙ h.held.places) counts
          (owned_beside m.secs secs same _ (load_owned d page (not-false _ none.1.0))) (still_beside m.secs secs same) tt h.held;
      start_places = length-set d.starts f _ ∙ h.start_places ∙ sym (length-with_entry d.epc f v);
    })

-- ---- parts that are written as a row says

pub out_as : (d : Parts) (f : ℕ) (slot : SlotAt) (epc : List EpcFrame) (va : VaArrays) (versions version : ℕ) (named : VaSlot)
    → epc ≡ with_sealing d.epc f → va ≡ record d.va { pages = with_busy d.va.pages slot true } → versions ≡ d.versions + 1
    → version ≡ d.versions → named ≡ found_at d slot
    → record d {
      epc = epc;
      va = va;
      versions = versions;
      starts = set d.starts f (Some (record { at = slot; slot = named; version = version; loads = None }));
    } ≡ out_parts d f slot
out_as d f slot epc va versions version named e v q a n =
    λ i. record d {
      epc = e i;
      va = v i;
      versions = q i;
      starts = set d.starts f (Some (record { at = slot; slot = n i; version = a i; loads = None }));
    }

pub in_as : (d : Parts) (f : ℕ) (page : Page) (slot : SlotAt) (epc : List EpcFrame) (secs : List (Option SecsState)) (va : VaArrays)
    (version : ℕ) (named : VaSlot) → epc ≡ with_loading d.epc f page → va ≡ record d.va { pages = with_busy d.va.pages slot true }
    → version ≡ version_at (state_of d) slot → named ≡ found_at d slot
    → record d {
      epc = epc;
      secs = secs;
      va = va;
      starts = set d.starts f (Some (record { at = slot; slot = named; version = version; loads = Some page }));
    } ≡ record (in_parts d f page slot) { secs = secs }
in_as d f page slot epc secs va version named e v a n =
    λ i. record d {
      epc = e i;
      secs = secs;
      va = v i;
      starts = set d.starts f (Some (record { at = slot; slot = n i; version = a i; loads = Some page }));
    }

-- ---- parts that a refusal leaves as they were

pub epc_same : (d : Parts) (epc : List EpcFrame) → epc ≡ d.epc → record d { epc = epc } ≡ d
epc_same d epc same = λ i. record d { epc = same i }

pub tracks_same : (d : Parts) (tracks : List Tracking) → tracks ≡ d.tracks → record d { tracks = tracks } ≡ d
tracks_same d tracks same = λ i. record d { tracks = same i }

pub slots_same : (d : Parts) (epc : List EpcFrame) (secs : List (Option SecsState)) (va : VaArrays) → epc ≡ d.epc → secs ≡ d.secs
    → va ≡ d.va → record d { epc = epc; secs = secs; va = va } ≡ d
slots_same d epc secs va same_epc same_secs same_va = λ i. record d { epc = same_epc i; secs = same_secs i; va = same_va i }

pub versions_same : (d : Parts) (epc : List EpcFrame) (va : VaArrays) (versions : ℕ) → epc ≡ d.epc → va ≡ d.va
    → versions ≡ d.versions → record d { epc = epc; va = va; versions = versions } ≡ d
versions_same d epc va versions same_epc same_va same_versions =
    λ i. record d { epc = same_epc i; va = same_va i; versions = same_versions i }
