-- The machine's parts after a block or a track, and the state that they make.
use Rattle.std.proofs.Common.{◌≡◌, ℕ, ◌+◌, ◌<◌, ◌≤◌, ◌==◌, Bool, true, false, cond, refl, sym}
use Rattle.std.proofs.Common.{ap, ◌∙◌, Some, None, List, length, is_some}
use Rattle.std.proofs.lemmas.Bool.{eqb-true, leb-false}
use Rattle.sgx_rules.specs.Frames.{is_free}
use Rattle.sgx_rules.specs.Table as table
use Rattle.sgx_types.specs.Cases.{first_of_row}
use Rattle.sgx_rules.specs.Table.{block_row}
use Rattle.sgx_rules.proofs.Rows.{none_holds}
use Rattle.epcm_entry.specs.declared.entry_view.EntryView.{EntryView}
use Rattle.epcm_entry.specs.declared.entry_view.EntryView.TheVariants as views
use Rattle.epcm_entry.specs.inner.EntryView.{is_valid, block_of, goes_out, with_block}
use Rattle.epcm_entry.specs.inner.Epc.{EpcFrame, entry_at, with_entry}
use Rattle.epcm_entry.specs.inner.Sights.{held, sight_in}
use Rattle.epcm_entry.proofs.Columns.{length-with_entry, entry_at-with_entry, words_at-with_entry}
use Rattle.track_epoch.specs.inner.Tracking.{Tracking, tracked}
use Rattle.track_epoch.specs.inner.Tracks.{track_of, with_track}
use Rattle.track_epoch.proofs.TracksLaws.{track_of-with_track}
use Rattle.evict_reload.specs.inner.Effects.{with_blocked}
use Rattle.evict_reload.specs.inner.Sights.{IsNumbered}
use Rattle.machine_laws.specs.inner.State.{epoch_in, after_block}
use Rattle.machine_laws.specs.inner.State.{after_track}
use Rattle.sgx_machine.specs.inner.Parts.{Parts, epoch_from, state_of}
use Rattle.sgx_machine.proofs.Columns.{through, same_at, numbered}
use Rattle.sgx_machine.proofs.PagingSights.{epoch_seen}

-- ---- one entry of the EPC changes

module _ (epc epc' : List EpcFrame) (f : ℕ) (v : EntryView) (entries : (n : ℕ) → entry_at epc' n ≡ cond (f == n) v (entry_at epc n)) where
  -- what is read of each entry
  pub entry_column : {A : Type 0} (col : EntryView → A) (n : ℕ) → col (entry_at epc' n) ≡ cond (f == n) (col v) (col (entry_at epc n))
  entry_column col n = ap col (entries n) ∙ through col (f == n) v (entry_at epc n)

  -- .. where the change leaves it
  pub entry_kept : {A : Type 0} (col : EntryView → A) (n : ℕ) → col v ≡ col (entry_at epc f) → col (entry_at epc' n) ≡ col (entry_at epc n)
  entry_kept col n same =
      entry_column col n ∙ ap (λ c. cond (f == n) c (col (entry_at epc n))) same ∙ same_at (λ m. col (entry_at epc m)) f n

-- the entries of an EPC with another one
pub entries_with : (epc : List EpcFrame) (f : ℕ) (v : EntryView) → f < length epc → (n : ℕ)
    → entry_at (with_entry epc f v) n ≡ cond (f == n) v (entry_at epc n)
entries_with epc f v low n = entry_at-with_entry epc f n v low

-- ---- blocks

pub held-with_block : (v : EntryView) (b : ℕ) → held (with_block v b) ≡ held v
held-with_block views.Free b = refl
held-with_block (views.Loading page) b = refl
held-with_block (views.Valid page kind perm blocked sealing) b = refl

goes_out-with_block : (v : EntryView) (b : ℕ) → goes_out (with_block v b) ≡ goes_out v
goes_out-with_block views.Free b = refl
goes_out-with_block (views.Loading page) b = refl
goes_out-with_block (views.Valid page kind perm blocked sealing) b = refl

block_of-with_block : (v : EntryView) (b : ℕ) → is_valid v ≡ true → block_of (with_block v b) ≡ Some b
block_of-with_block views.Free b valid = cc valid
block_of-with_block (views.Loading page) b valid = cc valid
block_of-with_block (views.Valid page kind perm blocked sealing) b valid = refl

-- a frame that is in the EPC, and holds a page
pub record HoldsPage (epc : List EpcFrame) (f : ℕ) : Type 0 where
  pub low : f < length epc
  pub valid : is_valid (entry_at epc f) ≡ true

-- an entry that is not free and not loading holds a page
pub taken : (v : EntryView) → table.is_busy (record {
  is_beyond = false;
  content = held v;
  is_sealing = goes_out v;
  is_blocked = is_some (block_of v);
}) ≡ false → is_free (held v) ≡ false → is_valid v ≡ true
taken views.Free idle used = cc used
taken (views.Loading page) idle used = cc idle
taken (views.Valid page kind perm blocked sealing) idle used = refl

pub blocks : (d : Parts) (f : ℕ) → first_of_row (block_row (sight_in d.epc f)) ≡ None → HoldsPage d.epc f
blocks d f allowed =
    let none = none_holds (block_row (sight_in d.epc f)) allowed in
    record { low = leb-false _ _ none.0; valid = taken (entry_at d.epc f) none.1.0 none.1.1.0 }

pub block_state : (d : Parts) (f : ℕ) → HoldsPage d.epc f → length d.tracks ≡ 8 → IsNumbered ((state_of d).content f)
    → state_of (record d { epc = with_blocked d.epc d.tracks f }) ≡ after_block (state_of d) f
block_state d f k places numbered =
    let b = epoch_in (state_of d) f in
    let v = with_block (entry_at d.epc f) b in
    let epc : with_blocked d.epc d.tracks f ≡ with_entry d.epc f v =
    ap (λ n. with_entry d.epc f (with_block (entry_at d.epc f) n)) (epoch_seen d f places numbered) in
    let entries = entries_with d.epc f v k.low in
    ap (λ xs. state_of (record d { epc = xs })) epc
    ∙ (λ i. record (after_block (state_of d) f) {
      frames = length-with_entry d.epc f v i;
      content = λ n. entry_kept d.epc (with_entry d.epc f v) f v entries held n (held-with_block (entry_at d.epc f) b) i;
      blocked = λ n. (entry_column d.epc (with_entry d.epc f v) f v entries block_of n
          ∙ ap (λ o. cond (f == n) o (block_of (entry_at d.epc n))) (block_of-with_block (entry_at d.epc f) b k.valid) ∙ moved n) i;
      is_sealing = λ n. entry_kept d.epc (with_entry d.epc f v) f v entries goes_out n (goes_out-with_block (entry_at d.epc f) b) i;
      words = λ n. words_at-with_entry d.epc f n v i;
    })
  where
    moved : (n : ℕ) → cond (f == n) (Some (epoch_in (state_of d) f)) (block_of (entry_at d.epc n)) ≡ cond (f == n)
        (Some (epoch_in (state_of d) n)) (block_of (entry_at d.epc n))
    moved n = by_test (f == n) refl
      where
        by_test : (t : Bool) → (f == n) ≡ t → cond t (Some (epoch_in (state_of d) f)) (block_of (entry_at d.epc n)) ≡ cond t
            (Some (epoch_in (state_of d) n)) (block_of (entry_at d.epc n))
        by_test true e = ap (λ m. Some (epoch_in (state_of d) m)) (eqb-true f n e)
        by_test false e = refl

-- ---- tracks

pub track_state : (d : Parts) (e : ℕ) (t : Tracking) → length d.tracks ≡ 8 → 1 ≤ e → e ≤ 8 → track_of d.tracks e ≡ Some t
    → state_of (record d { tracks = with_track d.tracks e (tracked t) }) ≡ after_track (state_of d) e
track_state d e t places first last found =
    λ i. record (after_track (state_of d) e) {
      epoch =
          λ k. (ap (epoch_from d.start_epoch) (track_of-with_track d.tracks e k (tracked t) first (rw places last)) ∙ raised k) i;
    }
  where
    raised : (k : ℕ) → epoch_from d.start_epoch (cond (e == k) (Some (tracked t)) (track_of d.tracks k)) ≡ cond (e == k)
        (epoch_from d.start_epoch (track_of d.tracks k) + 1) (epoch_from d.start_epoch (track_of d.tracks k))
    raised k = by_test (e == k) refl
      where
        by_test : (b : Bool) → (e == k) ≡ b → epoch_from d.start_epoch (cond b (Some (tracked t)) (track_of d.tracks k)) ≡ cond b
            (epoch_from d.start_epoch (track_of d.tracks k) + 1) (epoch_from d.start_epoch (track_of d.tracks k))
        by_test true same =
            let there : track_of d.tracks k ≡ Some t = ap (track_of d.tracks) (sym (eqb-true e k same)) ∙ found in rw there refl
        by_test false other = refl
