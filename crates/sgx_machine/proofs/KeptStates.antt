-- What the rows that build, and those that move pages, keep of a state: created enclaves have measurements, pages in frames
-- were added, translations lead to frames, processors inside stand on pages of their enclave, and only drained pages go out.
use Rattle.machine_laws.proofs.Contents.{waits_for}
use Rattle.std.proofs.Common.{◌≡◌, ℕ, ◌<◌, ◌==◌, Bool, true, false, cond, refl, subst, sym, List, length, Option, Some}
use Rattle.std.proofs.Common.{None, is_some}
use Rattle.std.proofs.lemmas.Bool.{cond_both}
use Rattle.sgx_types.specs.declared.lawful.PageInit.{PageInit}
use Rattle.sgx_types.specs.declared.names.Page.{Page}
use Rattle.sgx_types.specs.declared.names.Kind.{Kind}
use Rattle.sgx_types.specs.declared.names.Perm.{Perm}
use Rattle.sgx_types.specs.declared.names.SlotAt.{SlotAt}
use Rattle.sgx_types.specs.Pages.{is_own_page, is_secs_page, is_va_page, same_page}
use Rattle.sgx_rules.specs.Frames.{Content, Free, IsVa, SecsOf, Holds, IsLoading, reloaded, reloaded_as}
use Rattle.sgx_rules.specs.Flat.{FlatEnclave, as_initialised}
use Rattle.sgx_rules.specs.inner.Starts.{BareStart}
use Rattle.sgx_types.specs.Cases.{first_of_row}
use Rattle.sgx_rules.specs.Table.{block_row, track_row, ewbstart_row, eldstart_row, is_loading}
use Rattle.sgx_types.proofs.Pages.{same_page-at}
use Rattle.measure_log.specs.declared.measure.Measure.{Measure}
use Rattle.machine_laws.specs.inner.State.{State, is_known, load_sight, sight, track_sight, slot_sight, use_sight, drain_sight}
use Rattle.machine_laws.specs.inner.State.{is_version_spent, with_content}
use Rattle.machine_laws.specs.inner.State.{after_epa}
use Rattle.machine_laws.specs.inner.State.{after_create, after_add, after_extend, after_init, after_block, after_track}
use Rattle.machine_laws.specs.inner.State.{after_ewbstart}
use Rattle.machine_laws.specs.inner.State.{after_eldstart, after_ewb, after_eld, after_failed_eld}
use Rattle.machine_laws.specs.inner.Stands.{IsSound, IsMeasured, IsFramed}
use Rattle.machine_laws.specs.inner.Guarded.{IsPaged, IsGuarded}
use Rattle.machine_laws.specs.inner.Steps.{CanBring}
use Rattle.sgx_machine.specs.inner.Whole.{IsWithin}
use Rattle.epcm_entry.specs.inner.Words.{words_of}
use Rattle.machine_copies.specs.inner.Away.{SecsIsIn}
use Rattle.machine_laws.proofs.SoundLaws.{sound-put}
use Rattle.machine_laws.proofs.BuildLaws.{sound_add}
use Rattle.machine_laws.proofs.GuardLaws.{guarded_epa, guarded_create, guarded_add, guarded_extend, guarded_init}
use Rattle.machine_laws.proofs.PagingSound.{sound_block, sound_track, sound_ewbstart, sound_eldstart, sound_ewb, sound_eld}
use Rattle.machine_laws.proofs.PagingSound.{sound_failed_eld}
use Rattle.machine_laws.proofs.GuardMoves.{guarded_block, guarded_track, guarded_ewbstart, guarded_eldstart, guarded_ewb}
use Rattle.machine_laws.proofs.GuardMoves.{guarded_eld}
use Rattle.machine_laws.proofs.GuardMoves.{guarded_failed_eld}

pub record IsKept (s : State) : Type 0 where
  pub measured : IsMeasured s
  pub framed : IsFramed s
  pub within : IsWithin s
  pub sound : IsSound s
  pub guarded : IsGuarded s

pub kept_as : (s t : State) → s ≡ t → IsKept t → IsKept s
kept_as s t e h = subst IsKept (sym e) h

-- a frame that comes to hold no page
framed_put : (s : State) (f : ℕ) (c : Content) → ((g : Page) (kind : Kind) (perm : Perm) → c ≡ Holds g kind perm → ⊥) → IsFramed s
    → IsFramed (with_content s f c)
framed_put s f c none h n g kind perm = cond_both (f == n) c (s.content n) (λ v. v ≡ Holds g kind perm → is_some (s.added g) ≡ true)
    (λ _ at. absurd (none g kind perm at)) (λ _. h n g kind perm)

-- a frame that comes to hold a version array page
pub kept_epa : (s : State) (f : ℕ) → f < s.frames → s.content f ≡ Free → IsKept s → IsKept (after_epa s f)
kept_epa s f low free h = record {
  measured = h.measured;
  framed = framed_put s f (IsVa s.vas_made) (λ g kind perm at. cc at) h.framed;
  within = h.within;
  sound = let k = sound-put s f (IsVa s.vas_made) s.words h.sound free (λ n other. refl) h.sound.sized in
      record { seated = k.seated; busy = k.busy; apart = k.apart; sized = k.sized };
  guarded = guarded_epa s f h.guarded low free;
}

pub kept_create : (s : State) (e f base size : ℕ) (begun : Measure) → f < s.frames → s.content f ≡ Free → (e == 0) ≡ false → IsKept s
    → IsKept (after_create s e f base size begun)
kept_create s e f base size begun low free numbered h = record {
  measured = λ k. by_enclave k (k == e);
  framed = framed_put s f (SecsOf e) (λ g kind perm at. cc at) h.framed;
  within = h.within;
  sound = let k = sound-put s f (SecsOf e) s.words h.sound free (λ n other. refl) h.sound.sized in
      record { seated = k.seated; busy = k.busy; apart = k.apart; sized = k.sized };
  guarded = guarded_create s e f base size begun h.guarded low free numbered;
}
  where
    by_enclave : (k : ℕ) (b : Bool) → is_some (cond b
        (Some (let x : FlatEnclave = record { base = base; size = size; is_init = false } in x)) (s.enclaves k)) ≡ true
        → is_some (cond b (Some begun) (s.measure k)) ≡ true
    by_enclave k true made = refl
    by_enclave k false made = h.measured k made

-- a measurement that goes on
measured_longer : (s : State) (e : ℕ) (longer : Measure) → IsMeasured s → IsMeasured (after_extend s e longer)
measured_longer s e longer h k made = cond_both (k == e) (Some longer) (s.measure k) (λ v. is_some v ≡ true) (λ _. refl) (λ _. h k made)

pub kept_extend : (s : State) (e : ℕ) (longer : Measure) → IsKept s → IsKept (after_extend s e longer)
kept_extend s e longer h = record {
  measured = measured_longer s e longer h.measured;
  framed = h.framed;
  within = h.within;
  sound = record { seated = h.sound.seated; busy = h.sound.busy; apart = h.sound.apart; sized = h.sound.sized };
  guarded = guarded_extend s e longer h.guarded;
}

pub kept_add : (s : State) (g : Page) (f : ℕ) (kind : Kind) (perm : Perm) (init : PageInit) (longer : Measure) → f < s.frames
    → s.content f ≡ Free → IsPaged kind → is_own_page g ≡ true → SecsIsIn s.frames s.content s.is_sealing g.enclave → IsKept s
    → IsKept (after_add s g f kind perm init longer)
kept_add s g f kind perm init longer low free paged own secs h = record {
  measured = measured_longer s g.enclave longer h.measured;
  framed = λ n q k p.
      cond_both (f == n) (Holds g kind perm) (s.content n)
      (λ v. v ≡ Holds q k p → is_some (cond (same_page q g) (Some (kind, perm)) (s.added q)) ≡ true)
      (λ _ at. let same : g ≡ q = cc at in rw (← same, same_page-at g.enclave g.number) refl)
      (λ _ at. cond_both (same_page q g) (Some (kind, perm)) (s.added q) (λ v. is_some v ≡ true) (λ _. refl) (λ _. h.framed n q k p at));
  within = h.within;
  sound = sound_add s g f kind perm init longer h.sound free;
  guarded = guarded_add s g f kind perm init longer h.guarded low free paged own secs;
}

pub kept_init : (s : State) (e : ℕ) → IsKept s → IsKept (after_init s e)
kept_init s e h = record {
  measured = λ k made. h.measured k (by_mark (k == e) (s.enclaves k) made);
  framed = h.framed;
  within = h.within;
  sound = record { seated = h.sound.seated; busy = h.sound.busy; apart = h.sound.apart; sized = h.sound.sized };
  guarded = guarded_init s e h.guarded;
}
  where
    by_mark : (b : Bool) (o : Option FlatEnclave) → is_some (cond b (as_initialised o) o) ≡ true → is_some o ≡ true
    by_mark true None made = cc made
    by_mark true (Some x) made = refl
    by_mark false o made = made

-- ---- block, track, write-out and reload

pub kept_block : (s : State) (f : ℕ) → first_of_row (block_row (sight s f)) ≡ None → IsKept s → IsKept (after_block s f)
kept_block s f allowed h = record {
  measured = h.measured;
  framed = h.framed;
  within = h.within;
  sound = sound_block s f h.sound;
  guarded = guarded_block s f allowed h.sound h.guarded;
}

pub kept_track : (s : State) (enclave : ℕ) → first_of_row (track_row (track_sight s enclave)) ≡ None → IsKept s
    → IsKept (after_track s enclave)
kept_track s enclave allowed h = record {
  measured = h.measured;
  framed = h.framed;
  within = h.within;
  sound = sound_track s enclave h.sound;
  guarded = guarded_track s enclave allowed h.guarded;
}

pub kept_ewbstart : (s : State) (f : ℕ) (slot : SlotAt)
    → first_of_row (ewbstart_row (sight s f) (use_sight s f slot) (slot_sight s slot) (drain_sight s f) (is_version_spent s)) ≡ None
    → IsKept s
    → IsKept (after_ewbstart s f slot)
kept_ewbstart s f slot allowed h = record {
  measured = h.measured;
  framed = h.framed;
  within = h.within;
  sound = sound_ewbstart s f slot allowed h.guarded h.sound;
  guarded = guarded_ewbstart s f slot allowed h.guarded;
}

pub kept_eldstart : (s : State) (f : ℕ) (page : Page) (slot : SlotAt)
    → first_of_row (eldstart_row (sight s f) (load_sight s page) (slot_sight s slot)) ≡ None
    → IsKept s → IsKept (after_eldstart s f page slot)
kept_eldstart s f page slot allowed h = record {
  measured = h.measured;
  framed = framed_put s f (IsLoading page) (λ g kind perm at. cc at) h.framed;
  within = h.within;
  sound = sound_eldstart s f page slot allowed h.sound;
  guarded = guarded_eldstart s f page slot allowed h.guarded;
}

pub kept_ewb : (s : State) (f : ℕ) (start : BareStart) → s.start f ≡ Some start → s.is_sealing f ≡ true → IsKept s
    → IsKept (after_ewb s f start)
kept_ewb s f start is leaving h = record {
  measured = h.measured;
  framed = framed_put s f Free (λ g kind perm at. cc at) h.framed;
  within = h.within;
  sound = sound_ewb s f start leaving h.sound;
  guarded = guarded_ewb s f start is leaving h.guarded;
}

pub kept_eld : (s : State) (f : ℕ) (start : BareStart) (page : Page) (plain : List ℕ) → s.start f ≡ Some start
    → s.content f ≡ IsLoading page → is_known s page ≡ true → CanBring s f → length (words_of plain) ≡ 512 → IsKept s
    → IsKept (after_eld s f start (reloaded page (s.added page)) plain)
kept_eld s f start page plain is waits known bring long h = record {
  measured = h.measured;
  framed = λ n g k p.
      cond_both (f == n) (reloaded page (s.added page)) (s.content n) (λ v. v ≡ Holds g k p → is_some (s.added g) ≡ true)
      (λ _ at. back g k p at) (λ _. h.framed n g k p);
  within = h.within;
  sound = sound_eld s f start (reloaded page (s.added page)) plain page waits long h.sound;
  guarded = guarded_eld s f start page plain is waits known bring h.guarded;
}
  where
    -- what is back as a page of an enclave was added to it
    back : (g : Page) (k : Kind) (p : Perm) → reloaded page (s.added page) ≡ Holds g k p → is_some (s.added g) ≡ true
    back g k p at = by_name (is_va_page page) (is_secs_page page) (s.added page) refl at
      where
        by_name : (va inner : Bool) (o : Option (Kind × Perm)) → s.added page ≡ o
            → cond va (IsVa page.number) (cond inner (SecsOf page.enclave) (reloaded_as page o)) ≡ Holds g k p → is_some (s.added g) ≡ true
        by_name true inner o is at = cc at
        by_name false true o is at = cc at
        by_name false false None is at = cc at
        by_name false false (Some x) is at = let same : page ≡ g = cc at in rw (← same, is) refl

pub kept_failed_eld : (s : State) (f : ℕ) (start : BareStart) → s.start f ≡ Some start → is_loading (s.content f) ≡ true → IsKept s
    → IsKept (after_failed_eld s f start)
kept_failed_eld s f start is waits h = record {
  measured = h.measured;
  framed = framed_put s f Free (λ g kind perm at. cc at) h.framed;
  within = h.within;
  sound = let w = waits_for (s.content f) waits in sound_failed_eld s f start w.0 w.1 h.sound;
  guarded = let w = waits_for (s.content f) waits in guarded_failed_eld s f start w.0 is w.1 h.guarded;
}
