-- What the rows that take a processor into an enclave and out of it leave of the machine.
use Rattle.std.proofs.Common.{◌≡◌, ℕ, ◌+◌, ◌-◌, ◌<◌, ◌≤◌, ◌==◌, true, false, cond, refl, sym, ap, ◌∙◌}
use Rattle.std.proofs.Common.{arith, ◌⊎◌, inl, inr, Some, None, List, [], length, set, is_some, length-set}
use Rattle.std.specs.Prelude.{slice_set}
use Rattle.std.proofs.lemmas.Bool.{cond_both, cases_lt, leb-false}
use Rattle.std.proofs.lemmas.List.Elements.{All-nil}
use Rattle.sgx_types.specs.declared.names.Frame.{Frame}
use Rattle.sgx_types.specs.Pages.{page_at}
use Rattle.sgx_rules.specs.Processors.{Seat}
use Rattle.sgx_rules.specs.Sights.{seat_of}
use Rattle.sgx_types.specs.Cases.{first_of_row}
use Rattle.sgx_rules.specs.Table.{EnterSight, TcsSight, enter_row, resume_row, inside_row}
use Rattle.sgx_rules.specs.Flat.{enclave_sight_of, with_cssa}
use Rattle.sgx_types.proofs.Truths.{not_false}
use Rattle.epcm_entry.specs.inner.Epc.{EpcFrame, word_at, with_word}
use Rattle.epcm_entry.proofs.Columns.{length-with_words}
use Rattle.secs_state.specs.inner.Secs.{SecsState, added_at, with_busy}
use Rattle.secs_state.specs.inner.Table.{enclave_at, with_enclave}
use Rattle.cached_translations.specs.declared.cache.Translation.{Translation}
use Rattle.cached_translations.specs.declared.processor.Processor.{Processor}
use Rattle.cached_translations.specs.declared.processor.Mode.{Mode}
use Rattle.cached_translations.specs.declared.processor.Mode.TheVariants as modes
use Rattle.cached_translations.specs.inner.Modes.{is_inside, enclave_inside}
use Rattle.track_epoch.specs.inner.Tracking.{Tracking, entered, left}
use Rattle.track_epoch.specs.inner.Tracks.{track_of, with_track}
use Rattle.track_epoch.proofs.TracksLaws.{length-with_track}
use Rattle.enclave_access.specs.inner.Access.{LeadsBelow}
use Rattle.entry_exit.specs.inner.Entry.{IsItsEnclave, HasItsTcs, CountsIt, HasItsFrames, fields_at, with_entered, with_resumed}
use Rattle.entry_exit.specs.inner.Entry.{with_saved}
use Rattle.entry_exit.specs.inner.Entry.{with_its_saved, with_tcs_left, with_left, outside}
use Rattle.entry_exit.specs.inner.Entry.{enter_sight as seen_sight, row_of as way_row}
use Rattle.entry_exit.specs.declared.way_in.WayIn.{WayIn}
use Rattle.sgx_machine.specs.declared.machine.Machine.TheInside.{Inside}
use Rattle.machine_laws.specs.inner.State.{State, enter_sight, from_outside, with_inside, rewritten, cssa_in, after_enter}
use Rattle.machine_laws.specs.inner.State.{after_resume}
use Rattle.machine_laws.specs.inner.State.{after_exit, after_aex}
use Rattle.machine_laws.specs.inner.State.{with_saved as state_saved}
use Rattle.sgx_machine.proofs.HeldLaws.{held_words, held_written}
use Rattle.machine_laws.specs.inner.Guarded.{IsGuarded}
use Rattle.machine_laws.specs.inner.Stands.{IsUsable, IsSound}
use Rattle.sgx_machine.specs.inner.Parts.{Parts, cpu_at, enclave_of, is_busy_in, seat_of_mode, state_of}
use Rattle.sgx_machine.specs.inner.Whole.{AreHeld, IsWithin, IsWhole, parts_of}
use Rattle.machine_laws.proofs.SoundLaws.{seat_at}
use Rattle.sgx_machine.proofs.Columns.{numbered, table_written}
use Rattle.machine_laws.proofs.EntryLaws.{enters, enter_saves, enter_saved, resume_saves, resume_saved, sound-enter, sound-resume}
use Rattle.machine_laws.proofs.ExitLaws.{sound-exit, sound-aex}
use Rattle.sgx_machine.proofs.KeptStates.{IsKept}
use Rattle.sgx_machine.proofs.ProcessorBridge.{is_some-mode, free_past, page_added, added_there, seat_added, words_state}
use Rattle.sgx_machine.proofs.ProcessorBridge.{inside_state}
use Rattle.sgx_machine.proofs.ProcessorBridge.{exit_state, marked_own}
use Rattle.sgx_machine.proofs.TrackLaws.{tracked_entered, tracked_left, counted}
use Rattle.sgx_machine.proofs.WholeMachines.{Leaves, kept_of}
use Rattle.machine_laws.proofs.GuardCpus.{guarded_enter, guarded_resume, guarded_exit, guarded_aex}

-- ---- what the rows keep

emptied : (s : State) (p : ℕ) → IsWithin s → (q : ℕ) → LeadsBelow (cond (p == q) [] (s.cache q)) s.frames
emptied s p h q =
    cond_both (p == q) [] (s.cache q) (λ xs. LeadsBelow xs s.frames) (λ _. All-nil (λ (t : Translation). t.frame.0 < s.frames)) (λ _. h q)

kept_enter : (s : State) (p : ℕ) (seat : Seat) → p < 16 → first_of_row (enter_row seat.enclave seat.tcs (enter_sight s p seat)) ≡ None
    → IsKept s → IsKept (after_enter s p seat)
kept_enter s p seat few allowed h = record {
  measured = h.measured;
  framed = h.framed;
  within = emptied s p h.within;
  sound = sound-enter s p seat allowed h.sound;
  guarded = guarded_enter s p seat allowed few h.guarded;
}

kept_resume : (s : State) (p : ℕ) (seat : Seat) → p < 16 → first_of_row (resume_row seat.enclave seat.tcs (enter_sight s p seat)) ≡ None
    → IsKept s → IsKept (after_resume s p seat)
kept_resume s p seat few allowed h = record {
  measured = h.measured;
  framed = h.framed;
  within = emptied s p h.within;
  sound = sound-resume s p seat allowed h.sound;
  guarded = guarded_resume s p seat allowed few h.guarded;
}

kept_exit : (s : State) (p : ℕ) → IsKept s → IsKept (after_exit s p)
kept_exit s p h = record {
  measured = h.measured;
  framed = h.framed;
  within = emptied s p h.within;
  sound = sound-exit s p h.sound;
  guarded = guarded_exit s p h.guarded;
}

kept_aex : (s : State) (p : ℕ) (seat : Seat) → s.inside p ≡ Some seat → IsKept s
    → IsKept (after_exit (state_saved s (s.acc p) (Some seat)) p)
kept_aex s p seat is h =
    let sound : IsSound (after_exit (state_saved s (s.acc p) (Some seat)) p) = rw is at (sound-aex s p seat is h.sound) in
    let guarded : IsGuarded (after_exit (state_saved s (s.acc p) (Some seat)) p) = rw is at (guarded_aex s p h.guarded) in
    record { measured = h.measured; framed = h.framed; within = emptied s p h.within; sound = sound; guarded = guarded }

-- ---- where a processor is inside

pub record IsInsideAt (mode : Mode) (e : ℕ) : Type 0 where
  pub tcs : ℕ
  pub tcs_frame : Frame
  pub ssa_frame : Frame
  pub epoch : ℕ
  pub is : mode ≡ modes.Inside e tcs tcs_frame ssa_frame epoch

pub inside_at : (mode : Mode) (e : ℕ) → Some e ≡ enclave_inside mode → IsInsideAt mode e
inside_at modes.Outside e is = cc is
inside_at (modes.Inside enclave tcs tf sf epoch) e is =
    let same : e ≡ enclave = cc is in record { tcs = tcs; tcs_frame = tf; ssa_frame = sf; epoch = epoch; is = rw same refl }

-- what a processor inside does is allowed
pub inside_allowed : (mode : Mode) (e : ℕ) → IsInsideAt mode e → first_of_row (inside_row (is_some (seat_of_mode mode))) ≡ None
inside_allowed mode e k = rw k.is refl

-- the row of what a processor does inside alone
pub inside_row_at : (d : Parts) (p : ℕ) (v : Processor) → v ≡ cpu_at d p
    → first_of_row (inside_row (is_some ((state_of d).inside p))) ≡ first_of_row (inside_row (is_inside v.mode))
inside_row_at d p v there = rw there (ap (λ b. first_of_row (inside_row b)) (is_some-mode (cpu_at d p).mode))

-- a frame that is in use is one of the EPC's
used_within : (d : Parts) (e n : ℕ) → IsUsable e ((state_of d).content n) ((state_of d).is_sealing n) → n < length d.epc
used_within d e n used = by_place (cases_lt n (length d.epc))
  where
    by_place : (n < length d.epc) ⊎ (length d.epc ≤ n) → n < length d.epc
    by_place (inl low) = low
    by_place (inr past) = absurd (let free = free_past d n past in cc (used.ours, free))

-- the TCS page by which a processor is inside is one of its enclave's
pub seat_tcs : (m : Inside) → IsWhole m → (p e : ℕ) (x : SecsState) → (k : IsInsideAt (cpu_at (parts_of m) p).mode e)
    → enclave_at m.secs e ≡ Some x → is_some (added_at x k.tcs) ≡ true
seat_tcs m h p e x k found =
    added_there m.secs e k.tcs x (seat_added (parts_of m) p e k.tcs k.tcs_frame k.ssa_frame k.epoch k.is h.sound h.framed) found

-- what `eexit` and `aex` need of a processor inside
module _ (m : Inside) (h : IsWhole m) (p e : ℕ) (x : SecsState) (t : Tracking) (v : Processor) (low : p < length m.cpus.items)
    (found : enclave_at m.secs e ≡ Some x) (track : track_of m.tracks e ≡ Some t) (there : v ≡ cpu_at (parts_of m) p)
    (k : IsInsideAt (cpu_at (parts_of m) p).mode e) where
  pub its_mode : v.mode ≡ modes.Inside e k.tcs k.tcs_frame k.ssa_frame k.epoch
  its_mode = ap (λ (c : Processor). c.mode) there ∙ k.is

  pub its_enclave : IsItsEnclave v.mode x
  its_enclave = rw its_mode (sym (h.table.own e x found).number)

  pub its_tcs : HasItsTcs v.mode x
  its_tcs = rw its_mode (seat_tcs m h p e x k found)

  pub its_count : CountsIt v.mode t
  its_count = rw its_mode (counted m.tracks m.cpus.items p e k.tcs k.tcs_frame k.ssa_frame k.epoch t low track k.is h.tracked)

  pub its_frames : HasItsFrames v.mode (length m.epc)
  its_frames =
      let seat = seat_at (state_of (parts_of m)) h.sound p (seat_of e k.tcs k.tcs_frame.0 k.ssa_frame.0) (ap seat_of_mode k.is) in
      rw its_mode (used_within (parts_of m) e k.tcs_frame.0 seat.tcs, used_within (parts_of m) e k.ssa_frame.0 seat.ssa)

-- ---- the parts and the state

module _ (m : Inside) (h : IsWhole m) (p e : ℕ) (x : SecsState) (t : Tracking) (low : p < length m.cpus.items)
    (found : enclave_at m.secs e ≡ Some x) (track : track_of m.tracks e ≡ Some t) where
  abbrev d : Parts
  d = parts_of m

  abbrev parts_written : List EpcFrame → SecsState → Tracking → Processor → Parts
  parts_written epc x' t' v' =
      record d { epc = epc; secs = with_enclave d.secs e x'; tracks = with_track d.tracks e t'; cpus = set d.cpus p v' }

  number : (1 ≤ e) × (e ≤ 8)
  number = numbered d.secs e x h.table.places found

  few : p < 16
  few = omega (arith, low, h.processors)

  ours : x.enclave ≡ e
  ours = (h.table.own e x found).number

  -- a processor comes inside, and the words of frames may change with it
  entered_leaves : (epc : List EpcFrame) (s : State) (tcs : ℕ) (tf sf : Frame) (acc : ℕ) (x' : SecsState) (t' : Tracking) (v' : Processor)
      → state_of (record d { epc = epc }) ≡ s → s.frames ≡ length d.epc → AreHeld epc d.secs d.va
      → IsKept (with_inside s p (seat_of e tcs tf.0 sf.0) acc)
      → is_inside (cpu_at d p).mode ≡ false → is_some (added_at x tcs) ≡ true → x' ≡ with_busy x tcs true → t' ≡ entered t
      → v' ≡ with_entered x.enclave tcs tf sf t.epoch acc
      → Leaves (parts_written epc x' t' v') (with_inside s p (seat_of e tcs tf.0 sf.0) acc)
  entered_leaves epc s tcs tf sf acc x' t' v' words frames held kept out added new_secs new_track new_cpu =
      let cpu : v' ≡ with_entered e tcs tf sf t.epoch acc = new_cpu ∙ ap (λ n. with_entered n tcs tf sf t.epoch acc) ours in
      rw (new_secs, new_track, cpu)
      (record {
        state = inside_state (record d { epc = epc }) p e tcs tf sf acc x t low h.track_places track h.table found added
            ∙ ap (λ s. with_inside s p (seat_of e tcs tf.0 sf.0) acc) words;
        kept = kept;
        processors = rw length-set h.processors;
        places = h.places;
        table = table_written d.secs e _ h.table.places number.0 number.1 h.table (marked_own e tcs x true (h.table.own e x found));
        track_places = length-with_track d.tracks e _ ∙ h.track_places;
        tracked = tracked_entered d.tracks d.cpus p e t _ h.track_places number.0 number.1 low track h.tracked tcs tf sf out refl;
        slots = h.slots;
        held = held_written d.secs e x _ h.table.places number.0 number.1 found epc d.va (record { children = refl; frame = refl }) held;
        start_places = h.start_places ∙ sym (ap (λ (s : State). s.frames) words ∙ frames);
      })

  -- a processor leaves, and the words of frames may change with it
  left_leaves : (epc : List EpcFrame) (s : State) (tcs : ℕ) (tf sf : Frame) (epoch : ℕ) (x' : SecsState) (t' : Tracking) (v' : Processor)
      → state_of (record d { epc = epc }) ≡ s → s.frames ≡ length d.epc → AreHeld epc d.secs d.va → IsKept (after_exit s p)
      → (cpu_at d p).mode ≡ modes.Inside e tcs tf sf epoch → is_some (added_at x tcs) ≡ true → x' ≡ with_busy x tcs false
      → t' ≡ left t epoch → v' ≡ outside (cpu_at d p) → Leaves (parts_written epc x' t' v') (after_exit s p)
  left_leaves epc s tcs tf sf epoch x' t' v' words frames held kept was added new_secs new_track new_cpu =
      rw (new_secs, new_track, new_cpu)
      (record {
        state = exit_state (record d { epc = epc }) p e tcs tf sf epoch x t was low h.track_places track h.table found added
            ∙ ap (λ s. after_exit s p) words;
        kept = kept;
        processors = rw length-set h.processors;
        places = h.places;
        table = table_written d.secs e _ h.table.places number.0 number.1 h.table (marked_own e tcs x false (h.table.own e x found));
        track_places = length-with_track d.tracks e _ ∙ h.track_places;
        tracked = tracked_left d.tracks d.cpus p e t _ h.track_places number.0 number.1 low track h.tracked tcs tf sf epoch was refl
            (counted d.tracks d.cpus p e tcs tf sf epoch t low track was h.tracked);
        slots = h.slots;
        held = held_written d.secs e x _ h.table.places number.0 number.1 found epc d.va (record { children = refl; frame = refl }) held;
        start_places = h.start_places ∙ sym (ap (λ (s : State). s.frames) words ∙ frames);
      })

  module _ (v : Processor) (there : v ≡ cpu_at d p) (tcs : ℕ) (tf sf : Frame) where
    -- what a row sees of the parts is what it sees of the state
    seen : enter_sight (state_of d) p (seat_of e tcs tf.0 sf.0) ≡ seen_sight d.epc x v.mode tcs tf.0 sf.0
    seen = λ i. record {
      is_inside = (is_some-mode (cpu_at d p).mode ∙ ap (λ (c : Processor). is_inside c.mode) (sym there)) i;
      enclave = ap (λ o. enclave_sight_of (enclave_of o)) found i;
      tcs = (enter_sight (state_of d) p (seat_of e tcs tf.0 sf.0)).tcs;
      tcs_busy = ap (λ o. is_busy_in o tcs) found i;
      fields = fields_at d.epc tf.0;
      ssa = (enter_sight (state_of d) p (seat_of e tcs tf.0 sf.0)).ssa;
    }

    pub enter_row_at : first_of_row (enter_row e tcs (enter_sight (state_of d) p (seat_of e tcs tf.0 sf.0))) ≡ first_of_row
        (enter_row x.enclave tcs (seen_sight d.epc x v.mode tcs tf.0 sf.0))
    enter_row_at = λ i. first_of_row (enter_row (sym ours i) tcs (seen i))

    pub resume_row_at : first_of_row (resume_row e tcs (enter_sight (state_of d) p (seat_of e tcs tf.0 sf.0))) ≡ first_of_row
        (resume_row x.enclave tcs (seen_sight d.epc x v.mode tcs tf.0 sf.0))
    resume_row_at = λ i. first_of_row (resume_row (sym ours i) tcs (seen i))

    -- what `enter` leaves
    pub enter_leaves : (x' : SecsState) (t' : Tracking) (v' : Processor)
        → None ≡ first_of_row (enter_row x.enclave tcs (seen_sight d.epc x v.mode tcs tf.0 sf.0)) → x' ≡ with_busy x tcs true
        → t' ≡ entered t
        → v' ≡ with_entered x.enclave tcs tf sf t.epoch (fields_at d.epc tf.0).cssa
        → Leaves (parts_written d.epc x' t' v') (after_enter (state_of d) p (seat_of e tcs tf.0 sf.0))
    enter_leaves x' t' v' row =
        let seat = seat_of e tcs tf.0 sf.0 in
        let allowed = enter_row_at ∙ sym row in
        let f : TcsSight = fields_at d.epc tf.0 in
        let k = enters e tcs (enter_sight (state_of d) p seat) (enter_saves f) (enter_saved f) allowed in
        let added = added_there d.secs e tcs x (page_added (state_of d) h.framed tf.0 (page_at e tcs) (not_false _ k.tcs_page)) found in
        entered_leaves d.epc (state_of d) tcs tf sf f.cssa x' t' v' refl refl h.held
        (kept_enter (state_of d) p seat few allowed (kept_of m h)) (sym (is_some-mode (cpu_at d p).mode) ∙ k.outside) added

    -- what `resume` leaves
    pub resume_leaves : (epc : List EpcFrame) (x' : SecsState) (t' : Tracking) (v' : Processor)
        → None ≡ first_of_row (resume_row x.enclave tcs (seen_sight d.epc x v.mode tcs tf.0 sf.0)) → epc ≡ with_resumed d.epc tf.0
        → x' ≡ with_busy x tcs true
        → t' ≡ entered t → v' ≡ with_entered x.enclave tcs tf sf t.epoch (word_at d.epc sf.0 0)
        → Leaves (parts_written epc x' t' v') (after_resume (state_of d) p (seat_of e tcs tf.0 sf.0))
    resume_leaves epc x' t' v' row new_epc =
        let s = state_of d in
        let seat = seat_of e tcs tf.0 sf.0 in
        let allowed = resume_row_at ∙ sym row in
        let f : TcsSight = fields_at d.epc tf.0 in
        let k = enters e tcs (enter_sight s p seat) (resume_saves f) (resume_saved f) allowed in
        let added = added_there d.secs e tcs x (page_added s h.framed tf.0 (page_at e tcs) (not_false _ k.tcs_page)) found in
        let change : List ℕ → List ℕ = λ words. with_cssa words (cssa_in s tf.0 - 1) in
        let words : state_of (record d { epc = epc }) ≡ record s { words = rewritten s.words tf.0 change } =
        ap (λ epc. state_of (record d { epc = epc })) new_epc ∙ words_state d tf.0 change (leb-false _ _ k.tcs_within) in
        entered_leaves epc (record s { words = rewritten s.words tf.0 change }) tcs tf sf (word_at d.epc sf.0 0) x' t' v' words refl
        (rw new_epc (held_words d.epc tf.0 _ d.secs d.va h.held)) (kept_resume s p seat few allowed (kept_of m h))
        (sym (is_some-mode (cpu_at d p).mode) ∙ k.outside) added

  module _ (v : Processor) (there : v ≡ cpu_at d p) (k : IsInsideAt (cpu_at d p).mode e) where
    abbrev mine : Seat
    mine = seat_of e k.tcs k.tcs_frame.0 k.ssa_frame.0

    mode : v.mode ≡ modes.Inside e k.tcs k.tcs_frame k.ssa_frame k.epoch
    mode = its_mode m h p e x t v low found track there k

    -- what `exit` leaves
    pub exit_leaves : (x' : SecsState) (t' : Tracking) (v' : Processor) → x' ≡ with_tcs_left x v.mode → t' ≡ with_left t v.mode
        → v' ≡ outside v → Leaves (parts_written d.epc x' t' v') (after_exit (state_of d) p)
    exit_leaves x' t' v' new_secs new_track new_cpu =
        left_leaves d.epc (state_of d) k.tcs k.tcs_frame k.ssa_frame k.epoch x' t' v' refl refl h.held
        (kept_exit (state_of d) p (kept_of m h)) k.is (seat_tcs m h p e x k found) (new_secs ∙ ap (with_tcs_left x) mode)
        (new_track ∙ ap (with_left t) mode)
        (new_cpu ∙ ap outside there)

    -- what `aex` leaves
    pub aex_leaves : (epc : List EpcFrame) (x' : SecsState) (t' : Tracking) (v' : Processor) → epc ≡ with_its_saved d.epc v.mode v.acc
        → x' ≡ with_tcs_left x v.mode → t' ≡ with_left t v.mode → v' ≡ outside v
        → Leaves (parts_written epc x' t' v') (after_aex (state_of d) p)
    aex_leaves epc x' t' v' new_epc new_secs new_track new_cpu =
        let s = state_of d in
        let acc = s.acc p in
        let tf = k.tcs_frame.0 in
        let sf = k.ssa_frame.0 in
        let is : s.inside p ≡ Some mine = ap seat_of_mode k.is in
        let seat = seat_at s h.sound p mine is in
        let tf_in = used_within d e tf seat.tcs in
        let sf_in = used_within d e sf seat.ssa in
        let epc_is : epc ≡ with_saved d.epc tf sf acc = new_epc ∙ ap (λ (c : Processor). with_its_saved d.epc c.mode c.acc) there
        ∙ ap (λ c. with_its_saved d.epc c acc) k.is in
        let first_word : List ℕ → List ℕ = λ words. slice_set words 0 acc in
        let change : List ℕ → List ℕ = λ words. with_cssa words (cssa_in s tf + 1) in
        let mid : Parts = record d { epc = with_word d.epc sf 0 acc } in
        let one : state_of mid ≡ record s { words = rewritten s.words sf first_word } = words_state d sf first_word sf_in in
        let two : state_of (record d { epc = with_saved d.epc tf sf acc }) ≡ record (state_of mid)
        { words = rewritten (state_of mid).words tf change } = words_state mid tf change (rw length-with_words tf_in) in
        let words : state_of (record d { epc = epc }) ≡ state_saved s acc (Some mine) =
        ap (λ epc. state_of (record d { epc = epc })) epc_is ∙ two
        ∙ ap (λ (s' : State). record s' { words = rewritten s'.words tf change }) one in
        let after : after_exit (state_saved s acc (Some mine)) p ≡ after_aex s p = ap (λ o. after_exit (state_saved s acc o) p) (sym is) in
        rw (← after)
        (left_leaves epc (state_saved s acc (Some mine)) k.tcs k.tcs_frame k.ssa_frame k.epoch x' t' v' words refl
        (rw epc_is (held_words mid.epc tf _ d.secs d.va (held_words d.epc sf _ d.secs d.va h.held))) (kept_aex s p mine is (kept_of m h))
        k.is (seat_tcs m h p e x k found) (new_secs ∙ ap (with_tcs_left x) mode)
        (new_track ∙ ap (with_left t) mode) (new_cpu ∙ ap outside there))

-- ---- for who is inside no enclave

-- what a way into an enclave that was created sees of the parts is what it sees of the state
pub entry_row_outside : (d : Parts) (way : WayIn) (e tcs : ℕ) (tf sf : Frame) (x : SecsState) → enclave_at d.secs e ≡ Some x → x.enclave ≡ e
    → first_of_row (way_row way e tcs (enter_sight (from_outside (state_of d)) 0 (seat_of e tcs tf.0 sf.0))) ≡ first_of_row
    (way_row way x.enclave tcs (seen_sight d.epc x modes.Outside tcs tf.0 sf.0))
entry_row_outside d way e tcs tf sf x found ours = λ i. first_of_row (way_row way (sym ours i) tcs (seen i))
  where
    v : EnterSight
    v = enter_sight (from_outside (state_of d)) 0 (seat_of e tcs tf.0 sf.0)

    seen : v ≡ seen_sight d.epc x modes.Outside tcs tf.0 sf.0
    seen = λ i. record {
      is_inside = false;
      enclave = ap (λ o. enclave_sight_of (enclave_of o)) found i;
      tcs = v.tcs;
      tcs_busy = ap (λ o. is_busy_in o tcs) found i;
      fields = fields_at d.epc tf.0;
      ssa = v.ssa;
    }
