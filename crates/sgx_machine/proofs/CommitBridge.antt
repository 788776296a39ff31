-- What the commits of EWB and ELDU leave of the machine's parts, and what they answer.
use Rattle.std.proofs.Common.{◌≡◌, ◌≢◌, ℕ, ◌/◌, ◌<◌, ◌==◌, ◌&&◌, Bool, true, false}
use Rattle.std.proofs.Common.{cond, refl, sym, ap, subst, ◌∙◌, arith}
use Rattle.std.proofs.Common.{Option, Some, None, List, length, set, is_some, length-set}
use Rattle.std.specs.Prelude.{Ok, slice_index}
use Rattle.std.specs.Option.{IsSomeAnd}
use Rattle.std.proofs.lemmas.Bool.{eqb-true, false≢true}
use Rattle.sgx_types.specs.declared.names.Actor.{Actor}
use Rattle.sgx_rules.specs.declared.entries.Action.TheVariants.{Eld}
use Rattle.sgx_rules.specs.declared.entries.Answer.TheVariants.{Moved}
use Rattle.sgx_rules.specs.declared.entries.Entry.{Entry}
use Rattle.sgx_types.specs.declared.names.Frame.{Frame}
use Rattle.sgx_types.specs.declared.names.Page.{Page}
use Rattle.sgx_types.specs.declared.names.Kind.{Kind}
use Rattle.sgx_types.specs.declared.names.Kind.TheVariants as kinds
use Rattle.sgx_types.specs.declared.names.Perm.{Perm}
use Rattle.sgx_types.specs.declared.names.SlotAt.{SlotAt}
use Rattle.sgx_types.specs.Pages.{is_va_page}
use Rattle.sgx_types.specs.inner.Places.{same_place}
use Rattle.sgx_types.specs.Sealed.{Sealed}
use Rattle.sgx_types.proofs.Pages.{same_places}
use Rattle.sgx_types.proofs.Truths.{apart, both_true}
use Rattle.sgx_rules.specs.declared.refusals.Refusal.{Refusal}
use Rattle.sgx_rules.specs.Frames.{Content, IsLoading, reloaded}
use Rattle.sgx_rules.specs.inner.Starts.{BareStart}
use Rattle.sgx_rules.specs.Table as table
use Rattle.sgx_types.specs.Cases.{first_of_row}
use Rattle.sgx_rules.proofs.Contents.{loading_no_va}
use Rattle.epcm_entry.specs.declared.entry_view.EntryView.{EntryView}
use Rattle.epcm_entry.specs.declared.entry_view.EntryView.TheVariants as views
use Rattle.epcm_entry.specs.inner.EntryView.{block_of, holding, goes_out}
use Rattle.epcm_entry.specs.inner.Epc.{EpcFrame, entry_at, words_at, with_page, cleared}
use Rattle.epcm_entry.specs.inner.Sights.{held, content_of}
use Rattle.epcm_entry.specs.inner.Words.{words_of}
use Rattle.epcm_entry.proofs.Words.{length-words_of}
use Rattle.epcm_entry.proofs.Columns.{entry_at-cleared, entry_at-with_entry, entry_at-with_words, length-with_entry, length-with_words}
use Rattle.epcm_entry.proofs.Columns.{length-cleared, words_at-with_entry, words_at-with_words}
use Rattle.secs_state.specs.inner.Secs.{SecsState}
use Rattle.seal_record.specs.Cipher.{cipher, tag}
use Rattle.seal_record.specs.declared.unseal.UnsealedWork.{UnsealedWork}
use Rattle.seal_record.specs.inner.Row.{eld_row}
use Rattle.version_array.specs.declared.va_page.SlotState.{SlotState}
use Rattle.version_array.specs.inner.Slots.{IsSlot, IsVaTable, VaArrays, filled_page, page_at, version_in, with_busy}
use Rattle.evict_reload.specs.inner.Effects as effects
use Rattle.evict_reload.specs.inner.Effects.{SameBeside, refilled}
use Rattle.evict_reload.specs.inner.Effects.{with_in, with_kind, with_plain}
use Rattle.evict_reload.specs.inner.Effects.{with_reloaded}
use Rattle.evict_reload.specs.inner.Sights.{AreCountedIn, is_array, is_kind_own}
use Rattle.evict_reload.proofs.CallLaws.{after_commit_in}
use Rattle.evict_reload.proofs.PageLaws.{pages-cleared}
use Rattle.machine_laws.proofs.TestLaws.{none_there}
use Rattle.machine_laws.specs.inner.Guarded.{IsOpen}
use Rattle.machine_laws.specs.inner.State.{State, is_known, after_eld, after_failed_eld}
use Rattle.machine_laws.specs.inner.Steps.{CanBring, CanEnd, IsComing, IsReloaded}
use Rattle.machine_laws.specs.inner.Steps.{commit_row, did_by, refused_by, header_in}
use Rattle.sgx_machine.specs.declared.machine.Machine.TheInside.{Inside}
use Rattle.sgx_machine.specs.declared.starts.Start as opened
use Rattle.sgx_machine.specs.inner.Parts.{Parts, start_of, state_of}
use Rattle.sgx_machine.specs.inner.Whole.{IsWhole, parts_of}
use Rattle.sgx_machine.proofs.ArrayBridge.{busy_back, page_back, room, table_back, version_back}
use Rattle.sgx_machine.proofs.HeldLaws.{held_put, placed, still_beside}
use Rattle.sgx_machine.proofs.KeptStates.{kept_eld, kept_failed_eld}
use Rattle.sgx_machine.proofs.EndBridge.{failed_parts, failed_state}
use Rattle.sgx_machine.proofs.StartBridge.{IsWritable, beside_state, table_beside}
use Rattle.sgx_machine.proofs.PagingBridge.{pages_marked, slots_marked}
use Rattle.sgx_machine.proofs.StartBridge.{owned_beside, table_ended, version_ended, busy_ended}
use Rattle.sgx_machine.proofs.BlockBridge.{entry_column, entry_kept}
use Rattle.sgx_machine.proofs.StartBridge.{start_column}
use Rattle.sgx_machine.proofs.WholeMachines.{Leaves, kept_of, done_step, refused_step}
use Rattle.sgx_machine.proofs.EwbBridge.{length-ended, length-refilled, low_in, writable}
use Rattle.sgx_machine.proofs.WaitBridge.{Waits, has_header, header_seen, waits, waits_idle}

-- ---- ELDU, the page that is back

-- a frame that holds a page of a kind, with its bytes
kind_length : (epc : List EpcFrame) (f : ℕ) (page : Page) (kind : Kind) (perm : Perm) (plain : List ℕ)
    → length (with_kind epc f page kind perm plain) ≡ length epc
kind_length epc f page kinds.Tcs perm plain =
    length-with_words (with_page epc f page kinds.Tcs perm) f (words_of plain) ∙ length-with_entry epc f _
kind_length epc f page kinds.Reg perm plain =
    length-with_words (with_page epc f page kinds.Reg perm) f (words_of plain) ∙ length-with_entry epc f _
kind_length epc f page kinds.Secs perm plain = length-with_entry epc f _
kind_length epc f page kinds.Va perm plain = length-with_entry epc f _

kind_entries : (epc : List EpcFrame) (f : ℕ) (page : Page) (kind : Kind) (perm : Perm) (plain : List ℕ) → f < length epc → (n : ℕ)
    → entry_at (with_kind epc f page kind perm plain) n ≡ cond (f == n) (holding page kind perm) (entry_at epc n)
kind_entries epc f page kinds.Tcs perm plain low n =
    entry_at-with_words (with_page epc f page kinds.Tcs perm) f n (words_of plain) ∙ entry_at-with_entry epc f n _ low
kind_entries epc f page kinds.Reg perm plain low n =
    entry_at-with_words (with_page epc f page kinds.Reg perm) f n (words_of plain) ∙ entry_at-with_entry epc f n _ low
kind_entries epc f page kinds.Secs perm plain low n = entry_at-with_entry epc f n _ low
kind_entries epc f page kinds.Va perm plain low n = entry_at-with_entry epc f n _ low

kind_words : (epc : List EpcFrame) (f : ℕ) (page : Page) (kind : Kind) (perm : Perm) (plain : List ℕ) → f < length epc → (n : ℕ)
    → words_at (with_kind epc f page kind perm plain) n ≡ cond (is_kind_own kind && (f == n)) (words_of plain) (words_at epc n)
kind_words epc f page kinds.Tcs perm plain low n =
    words_at-with_words (with_page epc f page kinds.Tcs perm) f n (words_of plain)
    (rw (length-with_entry epc f (holding page kinds.Tcs perm)) low)
    ∙ ap (cond (f == n) (words_of plain)) (words_at-with_entry epc f n _)
kind_words epc f page kinds.Reg perm plain low n =
    words_at-with_words (with_page epc f page kinds.Reg perm) f n (words_of plain)
    (rw (length-with_entry epc f (holding page kinds.Reg perm)) low)
    ∙ ap (cond (f == n) (words_of plain)) (words_at-with_entry epc f n _)
kind_words epc f page kinds.Secs perm plain low n = words_at-with_entry epc f n _
kind_words epc f page kinds.Va perm plain low n = words_at-with_entry epc f n _

-- what such a frame holds
own_held : (page : Page) (kind : Kind) (perm : Perm) → is_kind_own kind ≡ table.is_own (content_of page kind perm)
own_held page kinds.Tcs perm = refl
own_held page kinds.Reg perm = refl
own_held page kinds.Secs perm = refl
own_held page kinds.Va perm = refl

array_held : (page : Page) (kind : Kind) (perm : Perm) → is_array kind ≡ table.is_va (content_of page kind perm)
array_held page kinds.Tcs perm = refl
array_held page kinds.Reg perm = refl
array_held page kinds.Secs perm = refl
array_held page kinds.Va perm = refl

-- the frame, the words and the slots once a page is back
pub eld_leaves : (m : Inside) → IsWhole m → (f : ℕ) (start : BareStart) (page : Page) (w : Waits (parts_of m) f page) (plain : List ℕ)
    (secs : List (Option SecsState)) (d' : Parts) → (state_of (parts_of m)).start f ≡ Some start → CanBring (state_of (parts_of m)) f
    → length plain ≡ 4096 → SameBeside m.secs secs → AreCountedIn (with_kind m.epc f page w.kind w.perm plain) secs
    → d' ≡ record (parts_of m) {
      epc = with_kind m.epc f page w.kind w.perm plain;
      secs = secs;
      va = record m.va { pages = with_in m.va.pages f page plain start.at };
      starts = set m.starts.items f None;
    }
    → Leaves d' (after_eld (state_of (parts_of m)) f start (reloaded page ((state_of (parts_of m)).added page)) plain)
eld_leaves m h f start page w plain secs d' at bring sized same counts done =
    rw done (record {
      state = beside_state there secs same ∙ state;
      kept = kept_eld s f start page plain at w.waits w.known bring (length-words_of plain ∙ ap (λ n. n / 8) sized) (kept_of m h);
      processors = h.processors;
      places = h.places;
      table = table_beside m.secs secs same h.table;
      track_places = h.track_places;
      tracked = h.tracked;
      slots = table_ended R start.at 0 table_R slot_R;
      held = held_put d.epc epc' m.secs secs m.va _ f v (kind_length d.epc f page w.kind w.perm plain) entries
          (after_commit_in d.epc epc' d.va.pages (with_in d.va.pages f page plain start.at) f start.at page
          (Some (w.kind, w.perm)) plain (Ok tt)
          refl refl tt h.held.pages k.is_slot k.low place w.waits refl w.array)
          (length-ended R start.at 0 ∙ length-refilled (is_va_page page) d.va.pages f plain ∙ h.held.places) counts
          (owned_beside m.secs secs same _ w.owned) (still_beside m.secs secs same) w.named h.held;
      start_places = length-set d.starts f _ ∙ h.start_places ∙ sym (kind_length d.epc f page w.kind w.perm plain);
    })
  where
    d : Parts
    d = parts_of m

    s : State
    s = state_of d

    back : Content
    back = reloaded page (s.added page)

    comes : table.is_loading (s.content f) ≡ true
    comes = ap table.is_loading w.waits

    k : IsWritable d f start.at
    k = writable m h f start (low_in d f comes) at

    v : EntryView
    v = holding page w.kind w.perm

    epc' : List EpcFrame
    epc' = with_kind d.epc f page w.kind w.perm plain

    entries : (n : ℕ) → entry_at epc' n ≡ cond (f == n) v (entry_at d.epc n)
    entries = kind_entries d.epc f page w.kind w.perm plain k.low

    R : List (Option (List SlotState))
    R = refilled (is_va_page page) d.va.pages f plain

    there : Parts
    there = record d { epc = epc'; va = record d.va { pages = with_in d.va.pages f page plain start.at }; starts = set d.starts f None }

    -- the slot of the start is in another frame
    other_frame : f ≢ start.at.frame.0
    other_frame same =
        let is : IsOpen s start = rw at at (h.guarded.opened f) in
        false≢true (sym (ap table.is_va w.waits) ∙ ap table.is_va (ap s.content same ∙ is.held))

    vacant : page_at d.va.pages f ≡ None
    vacant = none_there (page_at d.va.pages f) (h.held.pages f ∙ ap table.is_va w.waits)

    place : is_va_page page ≡ true → f < length d.va.pages
    place va = placed m.va f h.held.places (omega (arith, room m h f page w.waits bring va)) (omega (arith, k.low, h.held.small))

    table_R : IsVaTable R
    table_R = table_back d.va.pages f plain (is_va_page page) sized vacant place h.slots

    slot_R : IsSlot R start.at
    slot_R = record {
      paged = ap is_some (page_back d.va.pages f plain (is_va_page page) sized vacant place start.at.frame.0
          ∙ elsewhere (is_va_page page)) ∙ k.is_slot.paged;
      within = k.is_slot.within;
    }
      where
        elsewhere : (b : Bool) → cond (b && (start.at.frame.0 == f)) (Some (filled_page plain)) (page_at d.va.pages start.at.frame.0)
            ≡ page_at d.va.pages start.at.frame.0
        elsewhere b = rw (apart start.at.frame.0 f (λ same. other_frame (sym same))) (never b)
          where
            never : (b : Bool) → cond (b && false) (Some (filled_page plain)) (page_at d.va.pages start.at.frame.0)
                ≡ page_at d.va.pages start.at.frame.0
            never true = refl
            never false = refl

    version_moved : (slot : SlotAt) → cond (same_place start.at slot) 0 (version_in R slot)
        ≡ cond (table.is_va back && (slot.frame.0 == f)) (slice_index (words_of plain) slot.index)
        (cond (same_place start.at slot) 0 (version_in d.va.pages slot))
    version_moved slot =
        ap (cond (same_place start.at slot) 0) (version_back d.va.pages f plain (is_va_page page) sized vacant place slot)
        ∙ by_place (is_va_page page && (slot.frame.0 == f)) (same_place start.at slot) refl refl
        ∙ ap (λ b. cond (b && (slot.frame.0 == f)) (slice_index (words_of plain) slot.index)
        (cond (same_place start.at slot) 0 (version_in d.va.pages slot)))
        (w.array ∙ array_held page w.kind w.perm ∙ ap table.is_va w.back)
      where
        by_place : (here same : Bool) → (is_va_page page && (slot.frame.0 == f)) ≡ here → same_place start.at slot ≡ same
            → cond same 0 (cond here (slice_index (words_of plain) slot.index) (version_in d.va.pages slot))
            ≡ cond here (slice_index (words_of plain) slot.index) (cond same 0 (version_in d.va.pages slot))
        by_place false same is alike = refl
        by_place true false is alike = refl
        by_place true true is alike =
            let frame : slot.frame.0 ≡ f = eqb-true slot.frame.0 f (both_true (is_va_page page) (slot.frame.0 == f) is).1 in
            let one : start.at ≡ slot = same_places start.at slot alike in
            absurd (other_frame (sym frame ∙ ap (λ (x : SlotAt). x.frame.0) (sym one)))

    state : state_of there ≡ after_eld s f start back plain
    state = λ i. record (after_eld s f start back plain) {
      frames = kind_length d.epc f page w.kind w.perm plain i;
      content = λ n. (entry_column d.epc epc' f v entries held n ∙ ap (λ c. cond (f == n) c (held (entry_at d.epc n))) w.back) i;
      blocked = λ n. entry_column d.epc epc' f v entries block_of n i;
      is_sealing = λ n. entry_kept d.epc epc' f v entries goes_out n (sym (waits_idle (entry_at d.epc f) comes)) i;
      words = λ n. (kind_words d.epc f page w.kind w.perm plain k.low n
          ∙ ap (λ b. cond (b && (f == n)) (words_of plain) (words_at d.epc n)) (own_held page w.kind w.perm ∙ ap table.is_own w.back)) i;
      version_in = λ slot. (version_ended R start.at 0 table_R slot_R slot ∙ version_moved slot) i;
      is_slot_named = λ slot. (busy_ended R start.at 0 table_R slot_R slot
          ∙ ap (cond (same_place start.at slot) false) (busy_back d.va.pages f plain (is_va_page page) sized vacant place slot)) i;
      start = λ n. start_column d.starts f n None k.there i;
    }

pub failed_leaves : (m : Inside) → IsWhole m → (f : ℕ) (start : BareStart) (page : Page) (secs : List (Option SecsState)) (d' : Parts)
    → (state_of (parts_of m)).content f ≡ IsLoading page → (state_of (parts_of m)).start f ≡ Some start → SameBeside m.secs secs
    → AreCountedIn (cleared m.epc f) secs → d' ≡ record (failed_parts (parts_of m) f start) { secs = secs }
    → Leaves d' (after_failed_eld (state_of (parts_of m)) f start)
failed_leaves m h f start page secs d' waits at same counts done =
    let d = parts_of m in
    let comes : table.is_loading ((state_of d).content f) ≡ true = ap table.is_loading waits in
    let k = writable m h f start (low_in d f comes) at in
    rw done (record {
      state = beside_state (failed_parts d f start) secs same ∙ failed_state d f start h.slots k;
      kept = kept_failed_eld (state_of d) f start at comes (kept_of m h);
      processors = h.processors;
      places = h.places;
      table = table_beside m.secs secs same h.table;
      track_places = h.track_places;
      tracked = h.tracked;
      slots = slots_marked d f start.at false h.slots k;
      held = held_put d.epc (cleared d.epc f) m.secs secs m.va _ f views.Free (length-cleared d.epc f)
          (λ n. entry_at-cleared d.epc f n k.low)
          (pages_marked d (cleared d.epc f) f start.at false
          (pages-cleared d.epc d.va.pages f h.held.pages k.low (loading_no_va (held (entry_at d.epc f)) comes)) k)
          (length-set d.va.pages start.at.frame.0 _ ∙ h.held.places) counts tt (still_beside m.secs secs same) tt h.held;
      start_places = length-set d.starts f _ ∙ h.start_places ∙ sym (length-cleared d.epc f);
    })

-- the start of a frame that waits, with its page
abbrev pub coming : (m : Inside) (f : ℕ) (start : BareStart) (page : Page) → (state_of (parts_of m)).start f ≡ Some start
    → start.loads ≡ Some page → is_known (state_of (parts_of m)) page ≡ true → IsComing (state_of (parts_of m)) f
coming m f start page at loads known =
    let k = has_header (state_of (parts_of m)) page known in
    record { start = start; opened = at; page = page; loads = loads; known = known; header = k.header; headed = k.headed }

-- what the commit of ELDU leaves and answers
pub record Ended (m : Inside) (a : Actor) (f : Frame) (e : Entry) (rec : Sealed) (d' : Parts) : Type 0 where
  pub after : State
  pub leaves : Leaves d' after
  pub back : IsReloaded (state_of (parts_of m)) a f rec e (state_of d')

-- the opened work is that of the frame's start
pub record IsOpened (s : State) (f : ℕ) (work : UnsealedWork) (rec : Sealed) : Type 0 where
  pub key : work.key ≡ s.key
  pub version : IsSomeAnd (s.start f) (λ start. work.version ≡ start.version)
  pub rec_is : work.rec ≡ rec

module _ (m : Inside) (h : IsWhole m) (f : Frame) (work : UnsealedWork) (rec : Sealed) (start : opened.Start) (page : Page)
    (comes : table.is_loading ((state_of (parts_of m)).content f.0) ≡ true) (is : IsOpened (state_of (parts_of m)) f.0 work rec)
    (at : (state_of (parts_of m)).start f.0 ≡ start_of (Some start)) (loads : start.loads ≡ Some page)
  where
    abbrev d : Parts
    d = parts_of m

    abbrev s : State
    s = state_of d

    abbrev own : BareStart
    own = record { at = start.at; slot = start.slot; version = start.version; loads = start.loads }

    w : Waits d f.0 page
    w = waits m h f.0 own page comes at loads

    version_is : work.version ≡ start.version
    version_is = rw at at is.version

    -- the header that its record should have
    header_is : effects.header_in d.secs page ≡ Some (has_header s page w.known).header
    header_is = header_seen d page ∙ (has_header s page w.known).headed

    tag_is : work.computed ≡ tag s.key start.version rec.header rec.cipher
    tag_is = work.is_computed ∙ (λ i. tag (is.key i) (version_is i) (let r : Sealed = is.rec_is i in r.header)
        (let r : Sealed = is.rec_is i in r.cipher))

    -- the row of the commit
    row_is : first_of_row (eld_row work.rec work.computed (effects.header_in d.secs page)) ≡ first_of_row
        (commit_row s f.0 (coming m f.0 own page at loads w.known) rec)
    row_is = λ i. first_of_row (eld_row (is.rec_is i) (tag_is i) (header_is i))

    plain_is : work.plain.items ≡ cipher s.key start.version rec.cipher
    plain_is = work.is_plain ∙ (λ i. cipher (is.key i) (version_is i) (let r : Sealed = is.rec_is i in r.cipher))

    -- what the premise says where the row allows the record
    pub brings : CanEnd s f.0 rec → first_of_row (eld_row work.rec work.computed (effects.header_in d.secs page)) ≡ None → CanBring s f.0
    brings can allowed = can (coming m f.0 own page at loads w.known) (sym row_is ∙ allowed)

    module _ (a : Actor) (epc : List EpcFrame) (secs : List (Option SecsState)) (va : VaArrays) where
      abbrev d' : Parts
      d' = record d { epc = epc; secs = secs; va = va; starts = set d.starts f.0 None }

      pub ended_back : (e : Entry) → CanEnd s f.0 rec → None ≡ first_of_row (eld_row work.rec work.computed (effects.header_in d.secs page))
          → epc ≡ with_reloaded d.epc d.secs f.0 page work.plain.items
          → va ≡ record d.va { pages = with_in d.va.pages f.0 page work.plain.items start.at }
          → SameBeside d.secs secs → AreCountedIn epc secs
          → e ≡ did_by a (Eld f) (Moved page start.version work.rec.tag) → Ended m a f e rec d'
      ended_back e can row puts ends same counts told =
          let put : epc ≡ with_kind d.epc f.0 page w.kind w.perm work.plain.items =
          puts ∙ ap (λ o. with_plain d.epc f.0 page o work.plain.items) w.is in
          let parts : d' ≡ record d {
            epc = with_kind d.epc f.0 page w.kind w.perm work.plain.items;
            secs = secs;
            va = record d.va { pages = with_in d.va.pages f.0 page work.plain.items start.at };
            starts = set d.starts f.0 None;
          } = λ i. record d { epc = put i; secs = secs; va = ends i; starts = set d.starts f.0 None } in
          let left = eld_leaves m h f.0 own page w work.plain.items secs d' at (brings can (sym row)) work.plain_size same
          (subst (λ x. AreCountedIn x secs) put counts) parts in
          record {
            after = after_eld s f.0 own (reloaded page (s.added page)) work.plain.items;
            leaves = left;
            back = record {
              coming = coming m f.0 own page at loads w.known;
              row = done_step _ _ _ (sym row_is ∙ sym row) (
                told ∙ ap (λ (r : Sealed). did_by a (Eld f) (Moved page start.version r.tag)) is.rec_is,
                left.state ∙ ap (after_eld s f.0 own (reloaded page (s.added page))) plain_is,
              );
            };
          }

      pub ended_refused : (e : Entry) (refusal : Refusal)
          → Some refusal ≡ first_of_row (eld_row work.rec work.computed (effects.header_in d.secs page)) → epc ≡ cleared d.epc f.0
          → va ≡ record d.va { pages = with_busy d.va.pages start.at false } → SameBeside d.secs secs → AreCountedIn epc secs
          → e ≡ refused_by a (Eld f) refusal → Ended m a f e rec d'
      ended_refused e refusal row frees marks same counts told =
          let parts : d' ≡ record (failed_parts d f.0 own) { secs = secs } =
          λ i. record d { epc = frees i; secs = secs; va = marks i; starts = set d.starts f.0 None } in
          let left = failed_leaves m h f.0 own page secs d' w.waits at same (subst (λ x. AreCountedIn x secs) frees counts) parts in
          record {
            after = after_failed_eld s f.0 own;
            leaves = left;
            back = record {
              coming = coming m f.0 own page at loads w.known;
              row = refused_step _ _ _ refusal (sym row_is ∙ sym row) (told, left.state);
            };
          }
