-- What blocks, tracks, write-out and reload leave of a sound state is sound: each touches at most one frame, which no
-- processor inside uses.
use Rattle.std.proofs.Common.{◌≡◌, ℕ, ◌<◌, ◌≤◌, ◌==◌, ◌&&◌, Bool, true, false, cond, refl, sym, ap, ◌∙◌, arith, Option}
use Rattle.std.proofs.Common.{Some, None, List, length, is_some}
use Rattle.std.specs.List.{All}
use Rattle.std.proofs.lemmas.Bool.{cond_both, false≢true}
use Rattle.std.proofs.lemmas.List.{length-replicate}
use Rattle.std.proofs.lemmas.List.Elements.{All-weaker}
use Rattle.sgx_types.specs.declared.names.Page.{Page}
use Rattle.sgx_types.specs.declared.names.SlotAt.{SlotAt}
use Rattle.sgx_rules.specs.Frames.{Content, Free, Holds, IsLoading, IsVa, SecsOf, enclave_in}
use Rattle.sgx_rules.specs.Processors.{Seat}
use Rattle.sgx_rules.specs.inner.Starts.{BareStart}
use Rattle.sgx_types.specs.Cases.{first_of_row}
use Rattle.sgx_rules.specs.Table.{ewbstart_row, eldstart_row, is_own}
use Rattle.sgx_types.proofs.Truths.{apart}
use Rattle.epcm_entry.specs.inner.Words.{words_of, zero_words}
use Rattle.cached_translations.specs.declared.cache.Translation.{Translation}
use Rattle.machine_laws.specs.inner.State.{State, sight, epoch_in, slot_sight, drain_sight, is_version_spent, after_block}
use Rattle.machine_laws.specs.inner.State.{after_track, load_sight, use_sight}
use Rattle.machine_laws.specs.inner.State.{after_ewbstart, after_eldstart, after_ewb, after_eld, after_failed_eld}
use Rattle.machine_laws.specs.inner.Stands.{IsUsable, IsTranslation, IsSeated, IsSound}
use Rattle.machine_laws.specs.inner.Guarded.{IsNoEarlier, IsDrainedAt, IsGuarded}
use Rattle.machine_laws.proofs.TestLaws.{each_there}
use Rattle.machine_laws.proofs.SoundLaws.{seat_at, unused}
use Rattle.machine_laws.proofs.GuardMoves.{StartsOut, starts_in, starts_out, tracked_drained, all_both}
use Rattle.machine_laws.proofs.GuardCpus.{noted_at}

-- ---- the columns on which no seat depends

-- any change of the blocks, the epochs, the starts, the slots and the next version
sound_beside : (s : State) (blocked : ℕ → Option ℕ) (epoch : ℕ → ℕ) (start : ℕ → Option BareStart) (version_in : SlotAt → ℕ)
    (is_slot_named : SlotAt → Bool) (next_version : ℕ) → IsSound s
    → IsSound (record s {
      blocked = blocked;
      epoch = epoch;
      start = start;
      version_in = version_in;
      is_slot_named = is_slot_named;
      next_version = next_version;
    })
sound_beside s blocked epoch start version_in is_slot_named next_version sound =
    record { seated = sound.seated; busy = sound.busy; apart = sound.apart; sized = sound.sized }

-- a block
pub sound_block : (s : State) (f : ℕ) → IsSound s → IsSound (after_block s f)
sound_block s f sound = sound_beside s (after_block s f).blocked s.epoch s.start s.version_in s.is_slot_named s.next_version sound

-- .. and a track
pub sound_track : (s : State) (enclave : ℕ) → IsSound s → IsSound (after_track s enclave)
sound_track s enclave sound =
    sound_beside s s.blocked (after_track s enclave).epoch s.start s.version_in s.is_slot_named s.next_version sound

-- ---- a frame that no processor uses

-- it is neither of the processor's two frames, and none of its translations leads there
pub record IsUnused (f : ℕ) (held : List Translation) (seat : Seat) : Type 0 where
  pub tcs : (f == seat.tcs_frame) ≡ false
  pub ssa : (f == seat.ssa_frame) ≡ false
  pub cache : All (λ (t : Translation). (f == t.frame.0) ≡ false) held

abbrev pub NobodyUses : State → ℕ → Type 0
NobodyUses s f = (p : ℕ) (seat : Seat) → s.inside p ≡ Some seat → IsUnused f (s.cache p) seat

-- a frame that nobody can use
pub unusable : (s : State) (f : ℕ) → IsSound s → ((enclave : ℕ) → IsUsable enclave (s.content f) (s.is_sealing f) → ⊥) → NobodyUses s f
unusable s f sound none p seat is =
    let h = seat_at s sound p seat is in
    record {
      tcs = apart f seat.tcs_frame (λ same. none seat.enclave (rw same h.tcs));
      ssa = apart f seat.ssa_frame (λ same. none seat.enclave (rw same h.ssa));
      cache =
          All-weaker (λ t. IsTranslation seat.enclave t (s.content t.frame.0) (s.is_sealing t.frame.0))
          (λ (t : Translation). (f == t.frame.0) ≡ false)
          (λ t x. apart f t.frame.0 (λ same. none seat.enclave (rw same (record { ours = ap enclave_in x.page; settled = x.settled }))))
          (s.cache p) h.cache;
    }

-- .. as it holds no page of an enclave
pub unusable_empty : (s : State) (f : ℕ) → IsSound s → enclave_in (s.content f) ≡ None → NobodyUses s f
unusable_empty s f sound empty = unusable s f sound (λ enclave u. let ours = u.ours in cc (ours, empty))

-- a drained frame is used by nobody: who was inside when it was blocked has left
pub drained_unused : (s : State) (f b : ℕ) → IsSound s → IsGuarded s → s.blocked f ≡ Some b
    → IsDrainedAt s.inside s.noted (enclave_in (s.content f)) (epoch_in s f) b → NobodyUses s f
drained_unused s f b sound h blocked drained p seat is =
    let at = seat_at s sound p seat is in
    let k = noted_at s h p seat is in
    record {
      tcs = apart f seat.tcs_frame (λ same. used seat.tcs_frame same at.tcs.ours k.tcs);
      ssa = apart f seat.ssa_frame (λ same. used seat.ssa_frame same at.ssa.ours k.ssa);
      cache =
          all_both (λ t. IsTranslation seat.enclave t (s.content t.frame.0) (s.is_sealing t.frame.0))
          (λ t. IsNoEarlier (s.noted p) (s.blocked t.frame.0)) (λ t. (f == t.frame.0) ≡ false)
          (λ t x early. apart f t.frame.0 (λ same. used t.frame.0 same (ap enclave_in x.page) early)) (s.cache p) at.cache k.cache;
    }
  where
    used : (n : ℕ) → f ≡ n → enclave_in (s.content n) ≡ Some seat.enclave → IsNoEarlier (s.noted p) (s.blocked n) → ⊥
    used n same ours early =
        let after : enclave_in (s.content f) ≡ Some seat.enclave → b < s.noted p = rw is at (drained.left p) in
        let before : IsNoEarlier (s.noted p) (s.blocked f) = rw same early in
        let at_block : s.noted p ≤ b = rw blocked at before in
        absurd (omega (arith, after (rw same ours), at_block))

-- a frame that nobody uses may change
pub sound_apart : (s : State) (f : ℕ) (content : ℕ → Content) (is_sealing : ℕ → Bool) (words : ℕ → List ℕ) → IsSound s → NobodyUses s f
    → ((n : ℕ) → (f == n) ≡ false → (content n ≡ s.content n) × (is_sealing n ≡ s.is_sealing n) × (words n ≡ s.words n))
    → ((n : ℕ) → length (words n) ≡ 512) → IsSound (record s { content = content; is_sealing = is_sealing; words = words })
sound_apart s f content is_sealing words sound unused same sized = record {
  seated = each_there s.inside (λ p. IsSeated content is_sealing words (s.cache p))
      (λ p seat is. seated p seat (seat_at s sound p seat is) (unused p seat is));
  busy = sound.busy;
  apart = sound.apart;
  sized = sized;
}
  where
    seated : (p : ℕ) (seat : Seat) → IsSeated s.content s.is_sealing s.words (s.cache p) seat → IsUnused f (s.cache p) seat
        → IsSeated content is_sealing words (s.cache p) seat
    seated p seat h u =
        let tcs = same seat.tcs_frame u.tcs in
        let ssa = same seat.ssa_frame u.ssa in
        record {
          tcs = rw (tcs.0, tcs.1) h.tcs;
          tcs_page = rw tcs.0 h.tcs_page;
          tcs_kind = rw tcs.0 h.tcs_kind;
          ssa = rw (ssa.0, ssa.1) h.ssa;
          ssa_page = rw (ssa.0, tcs.2) h.ssa_page;
          ssa_kind = rw ssa.0 h.ssa_kind;
          cache =
              all_both (λ t. IsTranslation seat.enclave t (s.content t.frame.0) (s.is_sealing t.frame.0)) (λ t. (f == t.frame.0) ≡ false)
              (λ t. IsTranslation seat.enclave t (content t.frame.0) (is_sealing t.frame.0))
              (λ t x e. let k = same t.frame.0 e in rw (k.0, k.1) x) (s.cache p) h.cache u.cache;
        }

-- ---- write-out and reload

-- a frame that holds no TCS or REG page holds no page of an enclave's own memory
not_own : (c : Content) → is_own c ≡ false → enclave_in c ≡ None
not_own Free is = refl
not_own (IsVa number) is = refl
not_own (SecsOf enclave) is = refl
not_own (Holds page kind perm) is = cc is
not_own (IsLoading page) is = refl

-- what starts to go out is drained, or is no page that a processor uses
pub sound_ewbstart : (s : State) (f : ℕ) (slot : SlotAt)
    → first_of_row (ewbstart_row (sight s f) (use_sight s f slot) (slot_sight s slot) (drain_sight s f) (is_version_spent s)) ≡ None
    → IsGuarded s → IsSound s
    → IsSound (after_ewbstart s f slot)
sound_ewbstart s f slot allowed h sound =
    let t = after_ewbstart s f slot in
    sound_beside (record s { is_sealing = t.is_sealing }) s.blocked s.epoch t.start s.version_in t.is_slot_named t.next_version
    (sound_apart s f s.content t.is_sealing s.words sound (by_kind (is_own (s.content f)) refl)
    (λ n e. (refl, rw e refl, refl)) sound.sized)
  where
    k : StartsOut s f slot
    k = starts_out s f slot allowed

    by_block : (o : Option ℕ) → s.blocked f ≡ o → is_some o ≡ true → is_own (s.content f) ≡ true → NobodyUses s f
    by_block None is there own = cc there
    by_block (Some b) is there own = drained_unused s f b sound h is (tracked_drained s f b h is (k.drained own))

    by_kind : (b : Bool) → is_own (s.content f) ≡ b → NobodyUses s f
    by_kind true own = by_block (s.blocked f) refl (k.blocked own) own
    by_kind false other = unusable_empty s f sound (not_own (s.content f) other)

-- a free frame starts to wait for a page
pub sound_eldstart : (s : State) (f : ℕ) (page : Page) (slot : SlotAt)
    → first_of_row (eldstart_row (sight s f) (load_sight s page) (slot_sight s slot)) ≡ None → IsSound s
    → IsSound (after_eldstart s f page slot)
sound_eldstart s f page slot allowed sound =
    let t = after_eldstart s f page slot in
    let k = starts_in s f page slot allowed in
    sound_beside (record s { content = t.content }) t.blocked s.epoch t.start s.version_in t.is_slot_named s.next_version
    (sound_apart s f t.content s.is_sealing s.words sound (unusable_empty s f sound (rw k.free refl)) (λ n e. (rw e refl, refl, refl))
    sound.sized)

-- a frame of zeros has 512 words
pub zero_sized : length zero_words ≡ 512
unfolding zero_words
zero_sized = length-replicate {A = ℕ} 512 0

-- a frame that is freed
freed : (s : State) (f : ℕ) (start : BareStart) → NobodyUses s f → IsSound s → IsSound (after_failed_eld s f start)
freed s f start unused sound =
    let t = after_failed_eld s f start in
    sound_beside (record s { content = t.content; is_sealing = t.is_sealing; words = t.words }) t.blocked s.epoch t.start s.version_in
    t.is_slot_named s.next_version
    (sound_apart s f t.content t.is_sealing t.words sound unused (λ n e. (rw e refl, rw e refl, rw e refl))
    (λ n. cond_both (f == n) zero_words (s.words n) (λ ws. length ws ≡ 512) (λ _. zero_sized) (λ _. sound.sized n)))

-- a page is out
pub sound_ewb : (s : State) (f : ℕ) (start : BareStart) → s.is_sealing f ≡ true → IsSound s → IsSound (after_ewb s f start)
sound_ewb s f start leaving sound =
    let t = after_failed_eld s f start in
    sound_beside t t.blocked t.epoch t.start (after_ewb s f start).version_in t.is_slot_named t.next_version
    (freed s f start (unusable s f sound (λ enclave u. false≢true (sym u.settled ∙ leaving))) sound)

-- a load is refused
pub sound_failed_eld : (s : State) (f : ℕ) (start : BareStart) (g : Page) → s.content f ≡ IsLoading g → IsSound s
    → IsSound (after_failed_eld s f start)
sound_failed_eld s f start g waits sound = freed s f start (unusable_empty s f sound (rw waits refl)) sound

-- a page is back, with its words
pub sound_eld : (s : State) (f : ℕ) (start : BareStart) (back : Content) (plain : List ℕ) (g : Page)
    → s.content f ≡ IsLoading g
    → length (words_of plain) ≡ 512 → IsSound s → IsSound (after_eld s f start back plain)
sound_eld s f start back plain g waits long sound =
    let t = after_eld s f start back plain in
    sound_beside (record s { content = t.content; words = t.words }) t.blocked s.epoch t.start t.version_in t.is_slot_named s.next_version
    (sound_apart s f t.content s.is_sealing t.words sound (unusable_empty s f sound (rw waits refl))
    (λ n e. (rw e refl, refl, rw e (elsewhere (is_own back) n)))
    (λ n. cond_both (is_own back && (f == n)) (words_of plain) (s.words n) (λ ws. length ws ≡ 512) (λ _. long) (λ _. sound.sized n)))
  where
    elsewhere : (b : Bool) (n : ℕ) → cond (b && false) (words_of plain) (s.words n) ≡ s.words n
    elsewhere true n = refl
    elsewhere false n = refl
