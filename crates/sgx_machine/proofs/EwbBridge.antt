-- What the commit of EWB leaves of the machine's parts, and what it answers.
use Rattle.std.proofs.Common.{◌≡◌, ◌≢◌, ℕ, ◌<◌, ◌≤◌, ◌==◌, ◌&&◌, not, Bool, true, false}
use Rattle.std.proofs.Common.{cond, refl, sym, ap, subst, ◌∙◌, ◌⊎◌, inl, inr}
use Rattle.std.proofs.Common.{Option, Some, None, List, length, set, length-set}
use Rattle.std.proofs.lemmas.Bool.{cases_lt, false≢true}
use Rattle.std.proofs.lemmas.List.{get_or_past}
use Rattle.sgx_types.specs.declared.names.Actor.{Actor}
use Rattle.sgx_rules.specs.declared.entries.Action.TheVariants.{Ewb}
use Rattle.sgx_rules.specs.declared.entries.Answer.TheVariants.{Moved}
use Rattle.sgx_rules.specs.declared.entries.Entry.{Entry}
use Rattle.sgx_types.specs.declared.names.Frame.{Frame}
use Rattle.sgx_types.specs.declared.names.Page.{Page}
use Rattle.sgx_types.specs.declared.names.SlotAt.{SlotAt}
use Rattle.sgx_types.specs.Sealed.{Sealed}
use Rattle.sgx_types.proofs.Truths.{apart}
use Rattle.sgx_rules.specs.Frames.{page_there}
use Rattle.sgx_rules.specs.inner.Starts.{BareStart}
use Rattle.sgx_rules.specs.Table as table
use Rattle.epcm_entry.specs.declared.entry_view.EntryView.{EntryView}
use Rattle.epcm_entry.specs.declared.entry_view.EntryView.TheVariants as views
use Rattle.epcm_entry.specs.inner.EntryView.{goes_out}
use Rattle.epcm_entry.specs.inner.Epc.{EpcFrame, free_frame, entry_at, cleared}
use Rattle.epcm_entry.specs.inner.Sights.{held}
use Rattle.epcm_entry.proofs.Columns.{entry_at-cleared}
use Rattle.epcm_entry.proofs.Columns.{length-cleared}
use Rattle.secs_state.specs.inner.Secs.{SecsState}
use Rattle.seal_record.specs.Cipher.{sealed, tag}
use Rattle.seal_record.specs.declared.seal.SealedWork.{SealedWork}
use Rattle.version_array.specs.declared.va_page.SlotState.{SlotState}
use Rattle.version_array.specs.inner.Slots.{VaArrays, filled_page, with_version}
use Rattle.evict_reload.specs.inner.Effects.{SameBeside, emptied, page_of, refilled}
use Rattle.evict_reload.specs.inner.Effects.{with_ended, with_out}
use Rattle.evict_reload.specs.inner.Sights.{AreCountedIn}
use Rattle.evict_reload.proofs.CallLaws.{after_commit_out}
use Rattle.machine_laws.specs.inner.Guarded.{IsOpen}
use Rattle.machine_laws.specs.inner.State.{after_ewb}
use Rattle.machine_laws.specs.inner.Steps.{SealsPage, IsWrittenOut}
use Rattle.machine_laws.specs.inner.Steps.{did_by}
use Rattle.sgx_machine.specs.declared.machine.Machine.TheInside.{Inside}
use Rattle.sgx_machine.specs.declared.starts.Start as opened
use Rattle.sgx_machine.specs.inner.Parts.{Parts, start_of, state_of}
use Rattle.sgx_machine.specs.inner.Whole.{IsNamedFor, IsWhole, parts_of}
use Rattle.sgx_machine.proofs.HeldLaws.{held_put, still_beside}
use Rattle.sgx_machine.proofs.KeptStates.{kept_ewb}
use Rattle.sgx_machine.proofs.PagingSights.{leaving_page}
use Rattle.sgx_machine.proofs.EndBridge.{written_parts, ewb_state}
use Rattle.sgx_machine.proofs.StartBridge.{IsWritable, beside_state, table_beside}
use Rattle.sgx_machine.proofs.EndBridge.{gone_table}
use Rattle.sgx_machine.proofs.StartBridge.{table_ended}
use Rattle.sgx_machine.proofs.EndBridge.{gone_slot}
use Rattle.sgx_machine.proofs.WholeMachines.{Leaves, kept_of}

-- ---- what a page's name chooses

pub own_choice : {A : Type 0} (va number : Bool) (x y z : A) → va ≡ false → number ≡ false → cond va x (cond (not va && number) y z) ≡ z
own_choice true number x y z a b = cc a
own_choice false true x y z a b = cc b
own_choice false false x y z a b = refl

pub secs_choice : {A : Type 0} (va number : Bool) (x y z : A) → va ≡ false → number ≡ true → cond va x (cond (not va && number) y z) ≡ y
secs_choice true number x y z a b = cc a
secs_choice false false x y z a b = cc b
secs_choice false true x y z a b = refl

-- ---- the frame and the slot of a start

-- past the end of the EPC a frame is free
below : (d : Parts) (f : ℕ) → (entry_at d.epc f ≡ views.Free → ⊥) → f < length d.epc
below d f used = by_place (cases_lt f (length d.epc))
  where
    by_place : (f < length d.epc) ⊎ (length d.epc ≤ f) → f < length d.epc
    by_place (inl low) = low
    by_place (inr past) = absurd (used (ap (λ (x : EpcFrame). x.entry) (get_or_past d.epc f free_frame past)))

pub low_out : (d : Parts) (f : ℕ) → (state_of d).is_sealing f ≡ true → f < length d.epc
low_out d f leaves = below d f (λ free. false≢true (sym (ap goes_out free) ∙ leaves))

pub low_in : (d : Parts) (f : ℕ) → table.is_loading ((state_of d).content f) ≡ true → f < length d.epc
low_in d f waits = below d f (λ free. false≢true (sym (ap (λ v. table.is_loading (held v)) free) ∙ waits))

-- an open start names a slot of the table
pub writable : (m : Inside) → IsWhole m → (f : ℕ) (start : BareStart) → f < length m.epc → (state_of (parts_of m)).start f ≡ Some start
    → IsWritable (parts_of m) f start.at
writable m h f start low at =
    let is : IsOpen (state_of (parts_of m)) start = rw at at (h.guarded.opened f) in
    record {
      low = low;
      there = rw h.start_places low;
      is_slot = record { paged = h.held.pages start.at.frame.0 ∙ ap table.is_va is.held; within = is.within };
    }

-- the same start
one_start : (o : Option BareStart) (a b : BareStart) → o ≡ Some a → o ≡ Some b → a ≡ b
one_start o a b p q = let same : Some a ≡ Some b = sym p ∙ q in cc same

-- ---- EWB

pub length-ended : (table : List (Option (List SlotState))) (slot : SlotAt) (version : ℕ)
    → length (with_ended table slot version) ≡ length table
length-ended table slot version =
    length-set (with_version table slot version) slot.frame.0 _ ∙ length-set table slot.frame.0 _

length-emptied : (b : Bool) (table : List (Option (List SlotState))) (f : ℕ) → length (emptied b table f) ≡ length table
length-emptied true table f = length-set table f None
length-emptied false table f = refl

pub length-refilled : (b : Bool) (table : List (Option (List SlotState))) (f : ℕ) (plain : List ℕ)
    → length (refilled b table f plain) ≡ length table
length-refilled true table f plain = length-set table f (Some (filled_page plain))
length-refilled false table f plain = refl

-- the slot of a write-out is in another frame
pub out_elsewhere : (m : Inside) → IsWhole m → (f : ℕ) (start : BareStart) → (state_of (parts_of m)).is_sealing f ≡ true
    → (state_of (parts_of m)).start f ≡ Some start → f ≢ start.at.frame.0
out_elsewhere m h f start leaves at same =
    let is : IsOpen (state_of (parts_of m)) start = rw at at (h.guarded.opened f) in
    false≢true (sym is.stays ∙ ap (state_of (parts_of m)).is_sealing (sym same) ∙ leaves)

pub ewb_leaves : (m : Inside) → IsWhole m → (f : ℕ) (start : BareStart) (secs : List (Option SecsState)) (d' : Parts)
    → (state_of (parts_of m)).is_sealing f ≡ true → (state_of (parts_of m)).start f ≡ Some start → SameBeside m.secs secs
    → AreCountedIn (cleared m.epc f) secs → d' ≡ record (written_parts (parts_of m) f start) { secs = secs }
    → Leaves d' (after_ewb (state_of (parts_of m)) f start)
ewb_leaves m h f start secs d' leaves at same counts done =
    let d = parts_of m in
    let k = writable m h f start (low_out d f leaves) at in
    let other = out_elsewhere m h f start leaves at in
    let elsewhere : (f == start.at.frame.0) ≡ false = apart f start.at.frame.0 other in
    let gone = emptied (table.is_va (held (entry_at d.epc f))) d.va.pages f in
    let sized : length gone ≡ length d.va.pages = length-emptied (table.is_va (held (entry_at d.epc f))) d.va.pages f in
    rw done (record {
      state = beside_state (written_parts d f start) secs same ∙ ewb_state d f start h.slots h.held.pages h.guarded leaves k elsewhere;
      kept = kept_ewb (state_of d) f start at leaves (kept_of m h);
      processors = h.processors;
      places = h.places;
      table = table_beside m.secs secs same h.table;
      track_places = h.track_places;
      tracked = h.tracked;
      slots = table_ended gone start.at start.version (gone_table d f start h.slots h.held.pages h.guarded leaves k elsewhere)
          (gone_slot d f start h.slots h.held.pages h.guarded leaves k elsewhere);
      held = held_put d.epc (cleared d.epc f) m.secs secs m.va _ f views.Free (length-cleared d.epc f)
          (λ n. entry_at-cleared d.epc f n k.low)
          (after_commit_out d.epc d.va.pages f start.at start.version h.held.pages k.is_slot k.low other)
          (length-ended gone start.at start.version ∙ sized ∙ h.held.places) counts tt (still_beside m.secs secs same) tt h.held;
      start_places = length-set d.starts f _ ∙ h.start_places ∙ sym (length-cleared d.epc f);
    })

-- what the commit of EWB leaves and answers
pub record Written (m : Inside) (a : Actor) (f : Frame) (e : Entry) (rec : Sealed) (d' : Parts) : Type 0 where
  pub start : BareStart
  pub leaves : Leaves d' (after_ewb (state_of (parts_of m)) f.0 start)
  pub out : IsWrittenOut (state_of (parts_of m)) a f e rec (state_of d')

-- the page that an entry names is the one that its frame holds
page_named : (d : Parts) (f : ℕ) (page : Page) → ((n : ℕ) → IsNamedFor (entry_at d.epc n)) → page_of (entry_at d.epc f) ≡ Some page
    → page_there ((state_of d).content f) ≡ Some page
page_named d f page named is = by_entry (entry_at d.epc f) refl is
  where
    by_entry : (v : EntryView) → entry_at d.epc f ≡ v → page_of v ≡ Some page → page_there ((state_of d).content f) ≡ Some page
    by_entry views.Free at k = cc k
    by_entry (views.Loading g) at k = cc k
    by_entry (views.Valid g kind perm blocked sealing) at k =
        let same : g ≡ page = cc k in leaving_page d f g kind perm blocked sealing named at ∙ ap Some same

pub written : (m : Inside) → IsWhole m → (a : Actor) (f : Frame) (e : Entry) (work : SealedWork) (start : opened.Start) (page : Page)
    (epc : List EpcFrame) (secs : List (Option SecsState)) (va : VaArrays)
    → (state_of (parts_of m)).is_sealing f.0 ≡ true
    → SealsPage (state_of (parts_of m)) f.0 work.key work.version work.rec.header work.plain.items
    → (state_of (parts_of m)).start f.0 ≡ start_of (Some start)
    → page_of (entry_at m.epc f.0) ≡ Some page → epc ≡ cleared m.epc f.0
    → va ≡ record m.va { pages = with_out m.epc m.va.pages f.0 start.at work.version } → SameBeside m.secs secs → AreCountedIn epc secs
    → e ≡ did_by a (Ewb f) (Moved page start.version work.rec.tag)
    → Written m a f e work.rec (record (parts_of m) { epc = epc; secs = secs; va = va; starts = set m.starts.items f.0 None })
written m h a f e work start page epc secs va leaves seals at holds frees ends beside counts told =
    let d = parts_of m in
    let s = state_of d in
    let k = seals.leaving in
    let same : k.start ≡ record { at = start.at; slot = start.slot; version = start.version; loads = start.loads } =
    one_start (s.start f.0) k.start _ k.opened at in
    let slots : va ≡ record d.va { pages = with_out d.epc d.va.pages f.0 k.start.at k.start.version } = ends
    ∙ (λ i. record d.va { pages = with_out d.epc d.va.pages f.0 (let x : BareStart = sym same i in x.at) (seals.version i) }) in
    let parts : record d { epc = epc; secs = secs; va = va; starts = set d.starts f.0 None }
    ≡ record (written_parts d f.0 k.start) { secs = secs } =
    λ i. record d { epc = frees i; secs = secs; va = slots i; starts = set d.starts f.0 None } in
    let left = ewb_leaves m h f.0 k.start secs _ leaves k.opened beside (subst (λ x. AreCountedIn x secs) frees counts) parts in
    let one : Some page ≡ Some k.page = sym (page_named d f.0 page h.held.named holds) ∙ k.held in
    let page_is : page ≡ k.page = cc one in
    record {
      start = k.start;
      leaves = left;
      out = record {
        leaving = k;
        sealed = work.is_sealed ∙ (λ i. sealed (seals.key i) (seals.version i) (seals.header i) (seals.plain i));
        entry = told ∙ (λ i. did_by a (Ewb f) (Moved (page_is i) (let x : BareStart = sym same i in x.version) work.rec.tag));
        state = left.state;
      };
    }
