-- The machine's parts after a row of a processor, and the state that they make.
use Rattle.std.proofs.Common.{◌≡◌, ℕ, ◌<◌, ◌≤◌, ◌==◌, Bool, true, false, cond, refl, sym, ap, ◌∙◌, Option, Some, IfSome}
use Rattle.std.proofs.Common.{None, List, [], length, get_or, set, is_some, length-set}
use Rattle.std.proofs.lemmas.Bool.{cond_both, eqb-true, false≢true}
use Rattle.std.proofs.lemmas.List.{get_or_past}
use Rattle.sgx_types.specs.declared.names.Frame.{Frame}
use Rattle.sgx_types.specs.declared.names.Page.{Page}
use Rattle.sgx_types.specs.declared.names.Kind.{Kind}
use Rattle.sgx_types.specs.declared.names.Perm.{Perm}
use Rattle.sgx_types.specs.Pages.{is_va_page, page_at, same_page, secs_page, va_page}
use Rattle.sgx_rules.specs.Frames.{Content, Free, IsVa, SecsOf, Holds, IsLoading, is_page}
use Rattle.sgx_rules.specs.Sights.{seat_of}
use Rattle.sgx_types.proofs.Pages.{same_pages}
use Rattle.sgx_types.proofs.Lists.{get_or-set_if}
use Rattle.epcm_entry.specs.inner.EntryView.{block_of, goes_out}
use Rattle.epcm_entry.specs.inner.Epc.{EpcFrame, free_frame, entry_at, words_at, with_words}
use Rattle.epcm_entry.specs.inner.Sights.{held}
use Rattle.epcm_entry.proofs.Columns.{length-with_words, entry_at-with_words, words_at-with_words}
use Rattle.secs_state.specs.inner.Secs.{SecsState, added_at, with_busy}
use Rattle.secs_state.specs.inner.Table.{enclave_at, with_enclave}
use Rattle.secs_state.proofs.Columns.{added_below, is_busy_at-with_busy}
use Rattle.cached_translations.specs.declared.cache.Translation.{Translation}
use Rattle.cached_translations.specs.declared.processor.Processor.{Processor}
use Rattle.cached_translations.specs.declared.processor.Mode.{Mode}
use Rattle.cached_translations.specs.declared.processor.Mode.TheVariants as modes
use Rattle.cached_translations.specs.inner.Modes.{is_inside, enclave_inside}
use Rattle.cached_translations.specs.inner.Translations.{with_translation}
use Rattle.track_epoch.specs.inner.Tracking.{Tracking, entered, left}
use Rattle.track_epoch.specs.inner.Tracks.{track_of, with_track}
use Rattle.track_epoch.proofs.TracksLaws.{track_of-with_track}
use Rattle.sgx_rules.specs.Frames.{page_there}
use Rattle.entry_exit.specs.inner.Entry.{IsAddedIn}
use Rattle.evict_reload.specs.inner.Sights.{HaveEnclaves, owner_in}
use Rattle.machine_laws.specs.inner.State.{State, seat_enclave, is_seated_by, rewritten, with_inside, with_acc, after_exit}
use Rattle.machine_laws.specs.inner.State.{after_fill}
use Rattle.sgx_machine.specs.inner.Parts.{Parts, added_in, enclave_of, epoch_from, is_busy_in, idle, cpu_at, noted_by}
use Rattle.sgx_machine.specs.inner.Parts.{seat_of_mode, state_of}
use Rattle.sgx_machine.specs.inner.Whole.{IsSecsOf, IsTable}
use Rattle.machine_laws.specs.inner.Stands.{IsSound, IsFramed}
use Rattle.machine_laws.specs.inner.Stands.{HasEnclaves}
use Rattle.sgx_machine.proofs.Columns.{get_or-default, same_at, numbered, enclave_kept, page_column}
use Rattle.machine_laws.proofs.SoundLaws.{seat_at}

-- ---- how a processor stands

pub is_some-mode : (mode : Mode) → is_some (seat_of_mode mode) ≡ is_inside mode
is_some-mode modes.Outside = refl
is_some-mode (modes.Inside enclave tcs tf sf epoch) = refl

pub enclave-mode : (mode : Mode) → seat_enclave (seat_of_mode mode) ≡ enclave_inside mode
enclave-mode modes.Outside = refl
enclave-mode (modes.Inside enclave tcs tf sf epoch) = refl

-- a processor that was read from its place
pub cpu_there : (d : Parts) (p : ℕ) (v : Processor) → p < length d.cpus → v ≡ get_or d.cpus p v → v ≡ cpu_at d p
cpu_there d p v low is = is ∙ get_or-default d.cpus p v idle low

-- ---- the pages in frames

-- past the end of the EPC nothing is held
pub free_past : (d : Parts) (n : ℕ) → length d.epc ≤ n → (state_of d).content n ≡ Free
free_past d n past = ap (λ (x : EpcFrame). held x.entry) (get_or_past d.epc n free_frame past)

-- a page that a frame holds was added to its enclave
pub page_added : (s : State) → IsFramed s → (n : ℕ) (g : Page) → is_page (s.content n) g ≡ true → is_some (s.added g) ≡ true
page_added s framed n g is = by_content (s.content n) refl is
  where
    by_content : (c : Content) → s.content n ≡ c → is_page c g ≡ true → is_some (s.added g) ≡ true
    by_content (Holds page kind perm) e k = let same : page ≡ g = same_pages page g k in rw (← same) (framed n page kind perm e)
    by_content Free e k = cc
    by_content (IsVa number) e k = cc
    by_content (SecsOf enclave) e k = cc
    by_content (IsLoading page) e k = cc

-- the enclave of a page or SECS that a frame holds was created
pub pages_made : (d : Parts) → HaveEnclaves d.epc d.secs → HasEnclaves (state_of d)
pages_made d owned n g is of_enclave = by_content ((state_of d).content n) (owned n) is
  where
    by_enclave : (e : ℕ) → is_some (enclave_at d.secs e) ≡ true → is_some (enclave_of (enclave_at d.secs e)) ≡ true
    by_enclave e k = by_state (enclave_at d.secs e) k
      where
        by_state : (o : Option SecsState) → is_some o ≡ true → is_some (enclave_of o) ≡ true
        by_state None k = cc k
        by_state (Some x) k = refl

    by_content : (c : Content) → IfSome (owner_in c) (λ e. is_some (enclave_at d.secs e) ≡ true) → page_there c ≡ Some g
        → is_some (enclave_of (enclave_at d.secs g.enclave)) ≡ true
    by_content (Holds page kind perm) k at = let same : page ≡ g = cc at in by_enclave g.enclave (rw (← same) k)
    by_content (SecsOf enclave) k at = let same : secs_page enclave ≡ g = cc at in by_enclave g.enclave (rw (← same) k)
    by_content (IsVa number) k at =
        let same : va_page number ≡ g = cc at in absurd (false≢true (sym of_enclave ∙ ap is_va_page (sym same)))
    by_content Free k at = cc at
    by_content (IsLoading page) k at = cc at

-- a page that was added, by its enclave's state
pub added_there : (table : List (Option SecsState)) (e number : ℕ) (x : SecsState) → is_some (added_in (enclave_at table e) number) ≡ true
    → enclave_at table e ≡ Some x → is_some (added_at x number) ≡ true
added_there table e number x is found = rw found at is

-- a page of an enclave that a frame holds is one of its added pages
pub frame_added : (d : Parts) (e n : ℕ) (x : SecsState) → IsTable d.secs → enclave_at d.secs e ≡ Some x → IsFramed (state_of d)
    → IsAddedIn (held (entry_at d.epc n)) x
frame_added d e n x table found framed = by_content (held (entry_at d.epc n)) (framed n)
  where
    by_content : (c : Content) → ((g : Page) (kind : Kind) (perm : Perm) → c ≡ Holds g kind perm
        → is_some (added_in (enclave_at d.secs g.enclave) g.number) ≡ true) → IsAddedIn c x
    by_content (Holds page kind perm) h = λ same.
        (let ours : page.enclave ≡ e = same ∙ (table.own e x found).number in
        added_there d.secs page.enclave page.number x (h page kind perm refl) (ap (enclave_at d.secs) ours ∙ found))
    by_content Free h = tt
    by_content (IsVa number) h = tt
    by_content (SecsOf enclave) h = tt
    by_content (IsLoading page) h = tt

-- the TCS page by which a processor is inside was added
pub seat_added : (d : Parts) (p enclave tcs : ℕ) (tf sf : Frame) (epoch : ℕ) → (cpu_at d p).mode ≡ modes.Inside enclave tcs tf sf epoch
    → IsSound (state_of d) → IsFramed (state_of d) → is_some ((state_of d).added (page_at enclave tcs)) ≡ true
seat_added d p enclave tcs tf sf epoch is sound framed =
    let seated = seat_at (state_of d) sound p (seat_of enclave tcs tf.0 sf.0) (ap seat_of_mode is) in
    page_added (state_of d) framed tf.0 (page_at enclave tcs) seated.tcs_page

-- ---- the parts and the state

-- a processor that is written, by what a column shows of it
cpu_column : {X : Type 0} (col : Processor → X) (d : Parts) (p q : ℕ) (v : Processor) → p < length d.cpus
    → col (get_or (set d.cpus p v) q idle) ≡ cond (p == q) (col v) (col (cpu_at d q))
cpu_column col d p q v low =
    rw (get_or-set_if d.cpus p q v idle low) (elim (p == q) as (λ b. col (cond b v (cpu_at d q)) ≡ cond b (col v) (col (cpu_at d q)))
    [ true ↦ refl | false ↦ refl ])

some_not_none : {A : Type 0} (o : Option A) → is_some o ≡ true → o ≡ None → ⊥
some_not_none None is e = cc is
some_not_none (Some x) is e = cc e

-- a TCS page that is marked busy or free
module _ (d : Parts) (e n : ℕ) (x : SecsState) (mark : Bool) (table : IsTable d.secs) (found : enclave_at d.secs e ≡ Some x)
    (is : is_some (added_at x n) ≡ true) where
  first : (1 ≤ e) × (e ≤ 8)
  first = numbered d.secs e x table.places found

  marked_enclaves : (k : ℕ) → enclave_of (enclave_at (with_enclave d.secs e (with_busy x n mark)) k) ≡ enclave_of (enclave_at d.secs k)
  marked_enclaves k = enclave_kept d.secs e (with_busy x n mark) table.places first.0 first.1 enclave_of k (ap enclave_of (sym found))

  marked_added : (q : Page) → added_in (enclave_at (with_enclave d.secs e (with_busy x n mark)) q.enclave) q.number ≡ added_in
      (enclave_at d.secs q.enclave) q.number
  marked_added q = enclave_kept d.secs e (with_busy x n mark) table.places first.0 first.1 (λ o. added_in o q.number) q.enclave
      (ap (λ o. added_in o q.number) (sym found))

  marked_busy : (q : Page) → is_busy_in (enclave_at (with_enclave d.secs e (with_busy x n mark)) q.enclave) q.number ≡ cond
      (same_page q (page_at e n)) mark (is_busy_in (enclave_at d.secs q.enclave) q.number)
  marked_busy q =
      let own = table.own e x found in
      page_column d.secs e (with_busy x n mark) table.places first.0 first.1 is_busy_in n mark
      (λ k. is_busy_at-with_busy x n k mark own.sound (added_below x n own.sound (some_not_none (added_at x n) is))
      ∙ ap (λ o. cond (n == k) mark (is_busy_in o k)) (sym found)) q

pub marked_own : (e n : ℕ) (x : SecsState) (mark : Bool) → IsSecsOf e x → IsSecsOf e (with_busy x n mark)
marked_own e n x mark own = record {
  number = own.number;
  sound = record { lawful = own.sound.lawful; pages = own.sound.pages; busy = rw length-set own.sound.busy };
}

-- a frame whose words are changed
pub words_state : (d : Parts) (f : ℕ) (change : List ℕ → List ℕ) → f < length d.epc
    → state_of (record d { epc = with_words d.epc f (change (words_at d.epc f)) }) ≡ record (state_of d)
    { words = rewritten (state_of d).words f change }
words_state d f change low =
    let ws = change (words_at d.epc f) in
    λ i. record (state_of d) {
      frames = length-with_words d.epc f ws i;
      content = λ n. ap held (entry_at-with_words d.epc f n ws) i;
      blocked = λ n. ap block_of (entry_at-with_words d.epc f n ws) i;
      is_sealing = λ n. ap goes_out (entry_at-with_words d.epc f n ws) i;
      words = λ n. (words_at-with_words d.epc f n ws low ∙ by_frame n) i;
    }
  where
    by_frame : (n : ℕ) → cond (f == n) (change (words_at d.epc f)) (words_at d.epc n) ≡ rewritten (state_of d).words f change n
    by_frame n = cond_both (f == n) (change (words_at d.epc f)) (words_at d.epc n)
        (λ ws. ws ≡ cond (f == n) (change (words_at d.epc n)) (words_at d.epc n))
        (λ e. rw e (ap (λ m. change (words_at d.epc m)) (eqb-true f n e))) (λ e. rw e refl)

-- an enclave's track that is written, where its epoch stays: each enclave's epoch stays
pub epoch_kept : (d : Parts) (e k : ℕ) (t t' : Tracking) → length d.tracks ≡ 8 → 1 ≤ e → e ≤ 8 → track_of d.tracks e ≡ Some t
    → t'.epoch ≡ t.epoch → epoch_from d.start_epoch (track_of (with_track d.tracks e t') k) ≡ (state_of d).epoch k
epoch_kept d e k t t' eight first last track same =
    ap (epoch_from d.start_epoch) (track_of-with_track d.tracks e k t' first (rw eight last))
    ∙ cond_both (e == k) (Some t') (track_of d.tracks k) (λ o. epoch_from d.start_epoch o ≡ (state_of d).epoch k)
    (λ is. same ∙ sym (ap (epoch_from d.start_epoch) (ap (track_of d.tracks) (sym (eqb-true e k is)) ∙ track))) (λ _. refl)

-- a processor that comes inside
pub inside_state : (d : Parts) (p enclave tcs : ℕ) (tf sf : Frame) (acc : ℕ) (x : SecsState) (t : Tracking) → p < length d.cpus
    → length d.tracks ≡ 8 → track_of d.tracks enclave ≡ Some t → IsTable d.secs → enclave_at d.secs enclave ≡ Some x
    → is_some (added_at x tcs) ≡ true
    → state_of (record d {
      secs = with_enclave d.secs enclave (with_busy x tcs true);
      tracks = with_track d.tracks enclave (entered t);
      cpus = set d.cpus p (record { mode = modes.Inside enclave tcs tf sf t.epoch; acc = acc; cache = [] });
    })
    ≡ with_inside (state_of d) p (seat_of enclave tcs tf.0 sf.0) acc
inside_state d p enclave tcs tf sf acc x t cpu_in eight track table found added =
    let v : Processor = record { mode = modes.Inside enclave tcs tf sf t.epoch; acc = acc; cache = [] } in
    let number = numbered d.secs enclave x table.places found in
    λ i. record (with_inside (state_of d) p (seat_of enclave tcs tf.0 sf.0) acc) {
      enclaves = λ k. marked_enclaves d enclave tcs x true table found added k i;
      added = λ q. marked_added d enclave tcs x true table found added q i;
      is_busy = λ q. marked_busy d enclave tcs x true table found added q i;
      inside = λ q. cpu_column (λ v. seat_of_mode v.mode) d p q v cpu_in i;
      acc = λ q. cpu_column (λ v. v.acc) d p q v cpu_in i;
      cache = λ q. cpu_column (λ v. v.cache) d p q v cpu_in i;
      noted = λ q. (cpu_column (λ v. noted_by v.mode) d p q v cpu_in
          ∙ ap (λ n. cond (p == q) n ((state_of d).noted q)) (sym (ap (epoch_from d.start_epoch) track))) i;
      epoch = λ k. epoch_kept d enclave k t (entered t) eight number.0 number.1 track refl i;
      cpus = length-set d.cpus p v i;
    }

-- a processor that leaves
pub exit_state : (d : Parts) (p enclave tcs : ℕ) (tf sf : Frame) (epoch : ℕ) (x : SecsState) (t : Tracking)
    → (cpu_at d p).mode ≡ modes.Inside enclave tcs tf sf epoch → p < length d.cpus → length d.tracks ≡ 8
    → track_of d.tracks enclave ≡ Some t
    → IsTable d.secs → enclave_at d.secs enclave ≡ Some x → is_some (added_at x tcs) ≡ true
    → state_of (record d {
      secs = with_enclave d.secs enclave (with_busy x tcs false);
      tracks = with_track d.tracks enclave (left t epoch);
      cpus = set d.cpus p (record { mode = modes.Outside; acc = (cpu_at d p).acc; cache = [] });
    })
    ≡ after_exit (state_of d) p
exit_state d p enclave tcs tf sf epoch x t is cpu_in eight track table found added =
    let v : Processor = record { mode = modes.Outside; acc = (cpu_at d p).acc; cache = [] } in
    let number = numbered d.secs enclave x table.places found in
    λ i. record (after_exit (state_of d) p) {
      enclaves = λ k. marked_enclaves d enclave tcs x false table found added k i;
      added = λ q. marked_added d enclave tcs x false table found added q i;
      is_busy = λ q. (marked_busy d enclave tcs x false table found added q
          ∙ ap (λ m. cond (is_seated_by (seat_of_mode m) q) false (is_busy_in (enclave_at d.secs q.enclave) q.number)) (sym is)) i;
      inside = λ q. cpu_column (λ v. seat_of_mode v.mode) d p q v cpu_in i;
      acc = λ q. (cpu_column (λ v. v.acc) d p q v cpu_in ∙ same_at (λ k. (cpu_at d k).acc) p q) i;
      cache = λ q. cpu_column (λ v. v.cache) d p q v cpu_in i;
      noted = λ q. cpu_column (λ v. noted_by v.mode) d p q v cpu_in i;
      epoch = λ k. epoch_kept d enclave k t (left t epoch) eight number.0 number.1 track refl i;
      cpus = length-set d.cpus p v i;
    }

pub fill_state : (d : Parts) (p : ℕ) (t : Translation) → p < length d.cpus
    → state_of (record d { cpus = set d.cpus p (record (cpu_at d p) { cache = with_translation (cpu_at d p).cache t }) }) ≡ after_fill
    (state_of d) p t
fill_state d p t cpu_in =
    let v : Processor = record (cpu_at d p) { cache = with_translation (cpu_at d p).cache t } in
    λ i. record (after_fill (state_of d) p t) {
      inside = λ q. (cpu_column (λ x. seat_of_mode x.mode) d p q v cpu_in ∙ same_at (λ k. seat_of_mode (cpu_at d k).mode) p q) i;
      acc = λ q. (cpu_column (λ x. x.acc) d p q v cpu_in ∙ same_at (λ k. (cpu_at d k).acc) p q) i;
      cache = λ q. (cpu_column (λ x. x.cache) d p q v cpu_in
          ∙ cond_both (p == q) (with_translation (cpu_at d p).cache t) (cpu_at d q).cache
          (λ xs. xs ≡ cond (p == q) (with_translation (cpu_at d q).cache t) (cpu_at d q).cache)
          (λ e. rw e (ap (λ k. with_translation (cpu_at d k).cache t) (eqb-true p q e))) (λ e. rw e refl)) i;
      noted = λ q. (cpu_column (λ x. noted_by x.mode) d p q v cpu_in ∙ same_at (λ k. noted_by (cpu_at d k).mode) p q) i;
      cpus = length-set d.cpus p v i;
    }

pub acc_state : (d : Parts) (p acc : ℕ) → p < length d.cpus
    → state_of (record d { cpus = set d.cpus p (record (cpu_at d p) { acc = acc }) }) ≡ with_acc (state_of d) p acc
acc_state d p acc cpu_in =
    let v : Processor = record (cpu_at d p) { acc = acc } in
    λ i. record (with_acc (state_of d) p acc) {
      inside = λ q. (cpu_column (λ x. seat_of_mode x.mode) d p q v cpu_in ∙ same_at (λ k. seat_of_mode (cpu_at d k).mode) p q) i;
      acc = λ q. cpu_column (λ x. x.acc) d p q v cpu_in i;
      cache = λ q. (cpu_column (λ x. x.cache) d p q v cpu_in ∙ same_at (λ k. (cpu_at d k).cache) p q) i;
      noted = λ q. (cpu_column (λ x. noted_by x.mode) d p q v cpu_in ∙ same_at (λ k. noted_by (cpu_at d k).mode) p q) i;
      cpus = length-set d.cpus p v i;
    }
