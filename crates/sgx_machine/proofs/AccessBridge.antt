-- What the rows of translations, accesses and the accumulator leave of the machine.
use Rattle.std.proofs.Common.{◌≡◌, ℕ, ◌/◌, ◌<◌, ◌==◌, true, false, refl, sym, ap, ◌∙◌, Bool, Option, Some, None}
use Rattle.std.proofs.Common.{List, length, set, is_some, length-set, unwrap_or}
use Rattle.std.specs.Prelude.{slice_set}
use Rattle.std.proofs.lemmas.Bool.{cond_both, false≢true}
use Rattle.std.proofs.lemmas.List.Elements.{recursion_from_All}
use Rattle.sgx_types.specs.declared.names.Frame.{Frame}
use Rattle.sgx_types.specs.declared.names.Perm.{Perm}
use Rattle.sgx_rules.specs.Processors.{Seat}
use Rattle.sgx_types.specs.Cases.{first_of_row}
use Rattle.sgx_rules.specs.Table.{access_row, inside_row, fill_row, is_reg, perm_in}
use Rattle.sgx_rules.specs.Flat.{word_index}
use Rattle.sgx_rules.proofs.Rows.{none_holds}
use Rattle.sgx_types.specs.Pages.{no_perm}
use Rattle.epcm_entry.specs.inner.Epc.{EpcFrame}
use Rattle.epcm_entry.specs.inner.Sights.{sight_in}
use Rattle.epcm_entry.proofs.Columns.{length-with_words}
use Rattle.sgx_machine.proofs.HeldLaws.{held_words}
use Rattle.cached_translations.specs.declared.cache.Translation.{Translation}
use Rattle.cached_translations.specs.declared.processor.Processor.{Processor}
use Rattle.cached_translations.specs.declared.processor.Mode.{Mode}
use Rattle.cached_translations.specs.declared.processor.Mode.TheVariants as modes
use Rattle.cached_translations.specs.inner.Modes.{is_inside, enclave_inside}
use Rattle.cached_translations.specs.inner.Translations.{translation_of, with_translation}
use Rattle.enclave_access.specs.inner.Access.{LeadsBelow, perm_of, perm_at, with_filled, word_through, with_word_in, with_stored}
use Rattle.enclave_access.proofs.AccessLaws.{leads_below}
use Rattle.sgx_machine.specs.declared.machine.Machine.TheInside.{Inside}
use Rattle.machine_laws.specs.inner.State.{State, sight, seat_enclave, translation, perm_of_held, rewritten, frame_in, word_at}
use Rattle.machine_laws.specs.inner.State.{with_acc}
use Rattle.machine_laws.specs.inner.State.{after_fill, after_store}
use Rattle.machine_laws.specs.inner.Stands.{IsTranslation, IsSound}
use Rattle.sgx_machine.specs.inner.Parts.{Parts, cpu_at, seat_of_mode, state_of}
use Rattle.sgx_machine.specs.inner.Whole.{IsWithin, IsWhole, parts_of}
use Rattle.machine_laws.proofs.SoundLaws.{seat_at}
use Rattle.machine_laws.proofs.SoundLaws.{sound-written}
use Rattle.machine_laws.proofs.AccessLaws.{fill_within, sound-fill}
use Rattle.machine_laws.proofs.RegisterLaws.{sound-acc}
use Rattle.machine_laws.proofs.AccessLaws.{fill_perm}
use Rattle.machine_laws.proofs.GuardLaws.{guarded_acc, guarded_words}
use Rattle.sgx_machine.proofs.KeptStates.{IsKept}
use Rattle.sgx_machine.proofs.ProcessorBridge.{is_some-mode, enclave-mode, words_state, fill_state, acc_state}
use Rattle.sgx_machine.proofs.TrackLaws.{tracked_same}
use Rattle.sgx_machine.proofs.WholeMachines.{Leaves, kept_of}
use Rattle.machine_laws.proofs.TranslationLaws.{All-with_translation, found_there}
use Rattle.machine_laws.proofs.GuardCpus.{guarded_fill}

-- ---- what the rows keep

filled : (s : State) (p : ℕ) (t : Translation) → t.frame.0 < s.frames → IsWithin s → IsWithin (after_fill s p t)
filled s p t low h q =
    cond_both (p == q) (with_translation (s.cache q) t) (s.cache q) (λ xs. LeadsBelow xs s.frames)
    (λ _. All-with_translation (λ (x : Translation). x.frame.0 < s.frames) (s.cache q) t (h q) low) (λ _. h q)

kept_fill : (s : State) (p : ℕ) (t : Translation) → first_of_row (fill_row t.number (seat_enclave (s.inside p)) (sight s t.frame.0)) ≡ None
    → perm_in (s.content t.frame.0) ≡ Some t.perm → IsKept s → IsKept (after_fill s p t)
kept_fill s p t allowed perm h = record {
  measured = h.measured;
  framed = h.framed;
  within = filled s p t (fill_within s p t.number t.frame.0 allowed) h.within;
  sound = sound-fill s p t allowed perm h.sound;
  guarded = guarded_fill s p t allowed h.guarded;
}

kept_acc : (s : State) (p acc : ℕ) → IsKept s → IsKept (with_acc s p acc)
kept_acc s p acc h = record {
  measured = h.measured;
  framed = h.framed;
  within = h.within;
  sound = sound-acc s p acc h.sound;
  guarded = guarded_acc s p acc h.guarded;
}

-- the translation through which an access goes that its row allows
pub record Through (s : State) (p off : ℕ) : Type 0 where
  pub found : Translation
  pub at : translation_of (s.cache p) (off / 4096) ≡ Some found
  pub reg : is_reg (s.content found.frame.0) ≡ true

pub through : (s : State) (p off : ℕ) (allows : Option Perm → Bool) → IsSound s
    → first_of_row (access_row off (is_some (s.inside p)) (translation s p (s.inside p) (off / 4096))
    (allows (translation s p (s.inside p) (off / 4096)))) ≡ None → Through s p off
through s p off allows sound allowed = by_mode (s.inside p) refl allowed
  where
    by_held : (seat : Seat) → s.inside p ≡ Some seat → (o : Option Translation) → translation_of (s.cache p) (off / 4096) ≡ o
        → first_of_row (access_row off true (perm_of_held o) (allows (perm_of_held o))) ≡ None → Through s p off
    by_held seat is None at k = absurd (false≢true (sym (none_holds (access_row off true None (allows None)) k).1.1.0))
    by_held seat is (Some t) at k =
        let there = found_there (λ x. IsTranslation seat.enclave x (s.content x.frame.0) (s.is_sealing x.frame.0)) (s.cache p) (off / 4096)
        t (recursion_from_All _ (s.cache p) (seat_at s sound p seat is).cache) at in
        record { found = t; at = at; reg = rw there.1.page refl }

    by_mode : (o : Option Seat) → s.inside p ≡ o → first_of_row
        (access_row off (is_some o) (translation s p o (off / 4096)) (allows (translation s p o (off / 4096)))) ≡ None → Through s p off
    by_mode None is k = absurd (false≢true (sym (none_holds (access_row off false None (allows None)) k).0))
    by_mode (Some seat) is k = by_held seat is (translation_of (s.cache p) (off / 4096)) refl k

store_as : (s : State) (p off value : ℕ) (k : Through s p off)
    → after_store s p off value ≡ record s { words = rewritten s.words k.found.frame.0 (λ words. slice_set words (word_index off) value) }
store_as s p off value k =
    ap (λ o. record s { words = rewritten s.words (frame_in o) (λ words. slice_set words (word_index off) value) }) k.at

kept_store : (s : State) (p off value : ℕ) → Through s p off → IsKept s → IsKept (after_store s p off value)
kept_store s p off value k h =
    rw (store_as s p off value k)
    (record {
      measured = h.measured;
      framed = h.framed;
      within = h.within;
      sound = sound-written s k.found.frame.0 (λ words. slice_set words (word_index off) value) h.sound k.reg
          (λ words. length-set words (word_index off) value);
      guarded = guarded_words s _ h.guarded;
    })

-- ---- what an access sees of a processor

perm_same : (o : Option Translation) → perm_of_held o ≡ perm_of o
perm_same None = refl
perm_same (Some t) = refl

-- the row of an access
pub access_row_at : (d : Parts) (p off : ℕ) (v : Processor) (allows : Option Perm → Bool) → v ≡ cpu_at d p
    → first_of_row (access_row off (is_some ((state_of d).inside p)) (translation (state_of d) p ((state_of d).inside p) (off / 4096))
    (allows (translation (state_of d) p ((state_of d).inside p) (off / 4096))))
    ≡ first_of_row (access_row off (is_inside v.mode) (perm_at v.cache off) (allows (perm_at v.cache off)))
access_row_at d p off v allows there = rw there (by_mode (cpu_at d p).mode)
  where
    by_mode : (mode : Mode) → first_of_row (access_row off (is_some (seat_of_mode mode))
        (translation (state_of d) p (seat_of_mode mode) (off / 4096))
        (allows (translation (state_of d) p (seat_of_mode mode) (off / 4096))))
        ≡ first_of_row (access_row off (is_inside mode) (perm_at (cpu_at d p).cache off) (allows (perm_at (cpu_at d p).cache off)))
    by_mode modes.Outside = refl
    by_mode (modes.Inside enclave tcs tf sf epoch) =
        ap (λ o. first_of_row (access_row off true o (allows o))) (perm_same (translation_of (cpu_at d p).cache (off / 4096)))

-- .. and of a `fill`
pub fill_row_at : (d : Parts) (p number : ℕ) (f : Frame) (v : Processor) → v ≡ cpu_at d p
    → first_of_row (fill_row number (seat_enclave ((state_of d).inside p)) (sight (state_of d) f.0)) ≡ first_of_row
    (fill_row number (enclave_inside v.mode) (sight_in d.epc f.0))
fill_row_at d p number f v there =
    rw there (ap (λ o. first_of_row (fill_row number o (sight_in d.epc f.0))) (enclave-mode (cpu_at d p).mode))

-- what a processor inside does is allowed
pub inside_only : (mode : Mode) → is_inside mode ≡ true → first_of_row (inside_row (is_some (seat_of_mode mode))) ≡ None
inside_only mode is = rw (is_some-mode mode, is) refl

-- the word that is read
pub word_seen : (d : Parts) (p off : ℕ) (v : Processor) → v ≡ cpu_at d p → Through (state_of d) p off
    → word_through d.epc v.cache off ≡ word_at (state_of d) p off
word_seen d p off v there k = rw there (rw k.at refl)

-- ---- what the rows leave

pub cpu_leaves : (m : Inside) (h : IsWhole m) (p : ℕ) (v v' : Processor) (s : State) → p < length m.cpus.items → v' ≡ v
    → v.mode ≡ (cpu_at (parts_of m) p).mode → state_of (record (parts_of m) { cpus = set m.cpus.items p v }) ≡ s → IsKept s
    → Leaves (record (parts_of m) { cpus = set m.cpus.items p v' }) s
cpu_leaves m h p v v' s low new mode state kept =
    rw new (record {
      state = state;
      kept = kept;
      processors = rw length-set h.processors;
      places = h.places;
      table = h.table;
      track_places = h.track_places;
      tracked = tracked_same m.tracks m.cpus.items p v low mode h.tracked;
      slots = h.slots;
      held = h.held;
      start_places = h.start_places;
    })

pub acc_leaves : (m : Inside) (h : IsWhole m) (p acc : ℕ) (v v' : Processor) → p < length m.cpus.items → v ≡ cpu_at (parts_of m) p
    → v' ≡ record v { acc = acc } → Leaves (record (parts_of m) { cpus = set m.cpus.items p v' }) (with_acc (state_of (parts_of m)) p acc)
acc_leaves m h p acc v v' low there new =
    let d = parts_of m in
    cpu_leaves m h p (record (cpu_at d p) { acc = acc }) v' (with_acc (state_of d) p acc) low
    (new ∙ ap (λ (c : Processor). record c { acc = acc }) there) refl (acc_state d p acc low)
    (kept_acc (state_of d) p acc (kept_of m h))

pub fill_leaves : (m : Inside) (h : IsWhole m) (p number : ℕ) (f : Frame) (v v' : Processor) → p < length m.cpus.items
    → v ≡ cpu_at (parts_of m) p → None ≡ first_of_row (fill_row number (enclave_inside v.mode) (sight_in m.epc f.0))
    → v' ≡ with_filled v number f (perm_in (sight_in m.epc f.0).content)
    → Leaves (record (parts_of m) { cpus = set m.cpus.items p v' })
    (after_fill (state_of (parts_of m)) p (record
    { number = number; frame = f; perm = unwrap_or (perm_in ((state_of (parts_of m)).content f.0)) no_perm }))
fill_leaves m h p number f v v' low there row new =
    let d = parts_of m in
    let s = state_of d in
    let allowed = fill_row_at d p number f v there ∙ sym row in
    let perm = fill_perm s p number f.0 allowed in
    let t : Translation = record { number = number; frame = f; perm = unwrap_or (perm_in (s.content f.0)) no_perm } in
    cpu_leaves m h p (record (cpu_at d p) { cache = with_translation (cpu_at d p).cache t }) v' (after_fill s p t) low
    (new ∙ ap (λ c. with_filled c number f (perm_in (s.content f.0))) there ∙ ap (with_filled (cpu_at d p) number f) perm) refl
    (fill_state d p t low)
    (kept_fill s p t allowed perm (kept_of m h))

pub store_leaves : (m : Inside) (h : IsWhole m) (p off value : ℕ) (v : Processor) (epc : List EpcFrame) → v ≡ cpu_at (parts_of m) p
    → Through (state_of (parts_of m)) p off → epc ≡ with_stored m.epc v.cache off value
    → Leaves (record (parts_of m) { epc = epc }) (after_store (state_of (parts_of m)) p off value)
store_leaves m h p off value v epc there k new =
    let d = parts_of m in
    let s = state_of d in
    let low = leads_below (cpu_at d p).cache off (length d.epc) k.found (h.within p) k.at in
    let change : List ℕ → List ℕ = λ words. slice_set words (word_index off) value in
    let stored : epc ≡ with_word_in d.epc (Some k.found) off value = new ∙ ap (λ (c : Processor). with_stored d.epc c.cache off value) there
    ∙ ap (λ o. with_word_in d.epc o off value) k.at in
    record {
      state = ap (λ epc. state_of (record d { epc = epc })) stored ∙ words_state d k.found.frame.0 change low
          ∙ sym (store_as s p off value k);
      kept = kept_store s p off value k (kept_of m h);
      processors = h.processors;
      places = h.places;
      table = h.table;
      track_places = h.track_places;
      tracked = h.tracked;
      slots = h.slots;
      held = rw stored (held_words d.epc k.found.frame.0 _ d.secs d.va h.held);
      start_places = h.start_places ∙ sym (ap length stored ∙ length-with_words d.epc k.found.frame.0 _);
    }
