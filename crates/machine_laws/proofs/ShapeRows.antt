-- What each row that is done brings, so that the state has the shape of one entry more.
use Rattle.std.proofs.Common.{◌≡◌, ℕ, ◌<◌, ◌≤◌, ◌/◌, ◌==◌, ◌&&◌, not, Bool, true, false, cond, refl, sym, ap, ◌∙◌, Option, Some, None}
use Rattle.std.proofs.Common.{IfSome, is_some, is_none, List, ◌∷◌, ◌⊎◌, inl, inr, arith}
use Rattle.std.proofs.lemmas.Bool.{cases_lt, eq-eqb, eqb-true, false≢true}
use Rattle.std.proofs.lemmas.Option.{IfSome_then}
use Rattle.sgx_rules.specs.declared.entries.Entry.{Entry}
use Rattle.sgx_rules.specs.declared.entries.Event.TheVariants.{Did}
use Rattle.sgx_types.specs.declared.names.Actor.{Actor}
use Rattle.sgx_types.specs.declared.names.Actor.TheVariants as actors
use Rattle.sgx_rules.specs.declared.entries.Action.{Action}
use Rattle.sgx_rules.specs.declared.entries.Action.TheVariants.{Epa, Create, Add, Extend, Init, Enter, Resume, Exit, Aex, Fill}
use Rattle.sgx_rules.specs.declared.entries.Action.TheVariants.{Load, Store}
use Rattle.sgx_rules.specs.declared.entries.Action.TheVariants.{Xadd, Set, Plus, Pf, OutLoad, OutStore, Block, Track, EwbStart}
use Rattle.sgx_rules.specs.declared.entries.Action.TheVariants.{Ewb}
use Rattle.sgx_rules.specs.declared.entries.Action.TheVariants.{EldStart, Eld}
use Rattle.sgx_rules.specs.declared.entries.AccessOp.{AccessOp}
use Rattle.sgx_rules.specs.declared.entries.Answer.{Answer}
use Rattle.sgx_rules.specs.declared.entries.Answer.TheVariants as answers
use Rattle.sgx_rules.specs.declared.entries.Cause.{Cause}
use Rattle.sgx_types.specs.declared.lawful.PageInit.{PageInit}
use Rattle.sgx_types.specs.declared.names.Cpu.{Cpu}
use Rattle.sgx_types.specs.declared.names.Frame.{Frame}
use Rattle.sgx_types.specs.declared.names.Kind.{Kind}
use Rattle.sgx_types.specs.declared.names.Page.{Page}
use Rattle.sgx_types.specs.declared.names.Perm.{Perm}
use Rattle.sgx_types.specs.declared.names.SlotAt.{SlotAt}
use Rattle.sgx_rules.specs.declared.refusals.Refusal.{Refusal}
use Rattle.sgx_types.specs.Pages.{is_own_page, page_at, same_page, secs_page, va_page}
use Rattle.sgx_rules.specs.Frames.{Content, Free, IsVa, SecsOf, Holds, IsLoading, added, content, enclave_in, is_child, page_there}
use Rattle.sgx_rules.specs.Frames.{reloaded, vas_made}
use Rattle.sgx_rules.specs.Processors.{Seat, Stay, stay, stay_from, holds_number, translations}
use Rattle.sgx_rules.specs.Rules.{EvictRule, RisingRule, StaleRule}
use Rattle.sgx_rules.specs.inner.Arrays.{ArraysRest}
use Rattle.sgx_rules.specs.Sights.{children_under, seat_of}
use Rattle.sgx_rules.specs.Starts.{open_start}
use Rattle.sgx_rules.specs.inner.Starts.{BareStart}
use Rattle.sgx_rules.specs.Table.{EnclaveSight, FrameSight, SecsSight, is_own, is_va, is_valid, access_row, add_row, allows_read}
use Rattle.sgx_rules.specs.Table.{allows_update}
use Rattle.sgx_rules.specs.Table.{allows_write}
use Rattle.sgx_types.specs.Cases.{first_of_row}
use Rattle.sgx_rules.specs.Table.{create_row, epa_row}
use Rattle.sgx_rules.specs.Flat.{enclave_sight_of}
use Rattle.sgx_rules.proofs.Rows.{none_holds}
use Rattle.sgx_rules.proofs.Goings.{goes_out}
use Rattle.sgx_rules.proofs.Busy.{IsBareOf}
use Rattle.sgx_types.proofs.CountLaws.{count_below-none}
use Rattle.sgx_types.proofs.Pages.{same_pages}
use Rattle.sgx_types.proofs.Truths.{apart, neither, not_false}
use Rattle.machine_copies.specs.inner.Away.{EndsRight}
use Rattle.measure_log.specs.declared.measure.Measure.{Measure}
use Rattle.cached_translations.specs.declared.cache.Translation.{Translation}
use Rattle.cached_translations.specs.inner.Translations.{translation_of}
use Rattle.machine_laws.specs.inner.Columns.{HasAllVersions, HasColumns, HasVersions, slot_of}
use Rattle.machine_laws.specs.inner.State.{making_of}
use Rattle.machine_laws.specs.inner.Stands.{IsUsable, IsSound}
use Rattle.machine_laws.specs.inner.Guarded.{IsGuarded, IsNamedRight}
use Rattle.machine_laws.specs.inner.State.{State, sight, secs_sight, translation, perm_of_held, version_at}
use Rattle.machine_laws.specs.inner.State.{with_acc}
use Rattle.machine_laws.specs.inner.State.{with_saved, word_at, cssa_in, saved_word, after_epa, after_create, after_add}
use Rattle.machine_laws.specs.inner.State.{after_extend, after_init}
use Rattle.machine_laws.specs.inner.State.{after_enter, after_resume, after_exit, after_aex, after_fill, after_store, after_xadd}
use Rattle.machine_laws.specs.inner.State.{after_block}
use Rattle.machine_laws.specs.inner.State.{after_track, after_ewbstart, after_eldstart, after_ewb, after_eld, after_failed_eld}
use Rattle.machine_laws.specs.inner.State.{row_of}
use Rattle.machine_laws.specs.inner.Steps.{did_by, refused_by}
use Rattle.machine_laws.proofs.ColumnLaws.{content_is, inside_is, next_version_is, sealing_is, translations_are}
use Rattle.machine_laws.proofs.SlotLaws.{started_as}
use Rattle.machine_laws.proofs.SoundLaws.{seat_at, unused}
use Rattle.machine_laws.proofs.ShapeColumns.{IsQuiet, is_eld, is_quiet, refused_quiet, did_quiet, quiet_columns, epa_columns}
use Rattle.machine_laws.proofs.ShapeColumns.{create_columns}
use Rattle.machine_laws.proofs.ShapeColumns.{add_columns, init_columns, enter_columns, resume_columns, exit_columns, aex_columns}
use Rattle.machine_laws.proofs.ShapeColumns.{fill_columns, block_columns, track_columns, ewbstart_columns, eldstart_columns}
use Rattle.machine_laws.proofs.ShapeColumns.{ewb_columns}
use Rattle.machine_laws.proofs.ShapeColumns.{eld_arrays, eld_columns, ewb_arrays, failed_eld_columns, new_arrays, put_arrays}
use Rattle.machine_laws.proofs.ShapeLaws.{drained_by, IsHeld, IsNextTo}
use Rattle.machine_laws.proofs.TranslationLaws.{holds_number-map}
use Rattle.machine_laws.proofs.MeasureLaws.{quiet}

-- ---- what the frames that processors use hold

-- a frame that no processor can use
abbrev pub IsUnused : State → ℕ → Type 0
IsUnused s f = (enclave : ℕ) → IsUsable enclave (s.content f) (s.is_sealing f) → ⊥

-- .. is one with no page in it
unused_invalid : (s : State) (f : ℕ) → is_valid (s.content f) ≡ false → IsUnused s f
unused_invalid s f none enclave u = by_content (s.content f) none u.ours
  where
    by_content : (c : Content) → is_valid c ≡ false → enclave_in c ≡ Some enclave → ⊥
    by_content (Holds page kind perm) is ours = cc
    by_content Free is ours = cc
    by_content (IsVa number) is ours = cc
    by_content (SecsOf e) is ours = cc
    by_content (IsLoading page) is ours = cc

module _ (s : State) (past : List Entry) (sound : IsSound s) (h : HasColumns s past) (held : IsHeld past) where
  -- where an unused frame is put, the frames that processors use hold what they held
  held_put : (f : ℕ) (c : Content) → IsUnused s f
      → (p : ℕ) → IfSome (stay past p) (λ t. (cond (f == t.seat.tcs_frame) c (content past t.seat.tcs_frame) ≡ t.tcs_held)
      × (cond (f == t.seat.ssa_frame) c (content past t.seat.ssa_frame) ≡ t.ssa_held))
  held_put f c unused p = by_stay (stay past p) refl (held p)
    where
      other : (enclave n : ℕ) → IsUsable enclave (s.content n) (s.is_sealing n) → (f == n) ≡ false
      other enclave n u = apart f n (λ same. unused enclave (rw same u))

      by_stay : (o : Option Stay) → stay past p ≡ o
          → IfSome o (λ t. (content past t.seat.tcs_frame ≡ t.tcs_held) × (content past t.seat.ssa_frame ≡ t.ssa_held))
          → IfSome o (λ t. (cond (f == t.seat.tcs_frame) c (content past t.seat.tcs_frame) ≡ t.tcs_held)
          × (cond (f == t.seat.ssa_frame) c (content past t.seat.ssa_frame) ≡ t.ssa_held))
      by_stay None e k = tt
      by_stay (Some t) e k =
          let is : s.inside p ≡ Some t.seat = rw (inside_is h p, e) refl in
          let seat = seat_at s sound p t.seat is in
          (rw (other t.seat.enclave t.seat.tcs_frame seat.tcs) k.0, rw (other t.seat.enclave t.seat.ssa_frame seat.ssa) k.1)

-- a processor that comes inside finds what it holds
held_entered : (past : List Entry) → IsHeld past → (p : ℕ) (seat : Seat)
    → (q : ℕ) → IfSome (cond (p == q) (Some (stay_from past seat)) (stay past q))
    (λ t. (content past t.seat.tcs_frame ≡ t.tcs_held) × (content past t.seat.ssa_frame ≡ t.ssa_held))
held_entered past held p seat q =
    elim (p == q) as (λ b. IfSome (cond b (Some (stay_from past seat)) (stay past q))
    (λ t. (content past t.seat.tcs_frame ≡ t.tcs_held) × (content past t.seat.ssa_frame ≡ t.ssa_held))) [
      | true ↦ (refl, refl)
      | false ↦ held q
    ]

-- .. and one that leaves uses nothing
held_left : (past : List Entry) → IsHeld past → (p : ℕ)
    → (q : ℕ) → IfSome (cond (p == q) None (stay past q))
    (λ t. (content past t.seat.tcs_frame ≡ t.tcs_held) × (content past t.seat.ssa_frame ≡ t.ssa_held))
held_left past held p q =
    elim (p == q) as (λ b. IfSome (cond b None (stay past q))
    (λ t. (content past t.seat.tcs_frame ≡ t.tcs_held) × (content past t.seat.ssa_frame ≡ t.ssa_held))) [
      | true ↦ tt
      | false ↦ held q
    ]

-- an entry that changes no column changes no frame
held_quiet : (first_epoch first_version : ℕ) (past : List Entry) (e : Entry) → IsQuiet first_epoch first_version past e → IsHeld past
    → IsHeld (e ∷ past)
held_quiet first_epoch first_version past e q held p =
    rw (q.stays p) (IfSome_then (stay past p) (held p) (λ t k. (same t.seat.tcs_frame ∙ k.0, same t.seat.ssa_frame ∙ k.1)))
  where
    same : (n : ℕ) → content (e ∷ past) n ≡ content past n
    same n i = (q.frames i).content n

-- ---- an entry that changes no column

-- a machine that changed beside its columns
pub quiet_next : (s t : State) (past : List Entry) (e : Entry) → IsQuiet t.first_epoch t.first_version past e → making_of t ≡ making_of s
    → HasColumns t past → IsHeld past → StaleRule past e → EvictRule past e
    → RisingRule s.first_version past e → EndsRight past e.event → (HasAllVersions s past → HasAllVersions t past) → IsNextTo s t past e
quiet_next s t past e q making h held access evict rising right arrays =
    record {
      making = making;
      columns = quiet_columns t past e q h;
      held = held_quiet t.first_epoch t.first_version past e q held;
      access = access;
      evict = evict;
      rising = rising;
      right = right;
      arrays = λ all back n number is index low. arrays all n number is index low ∙ sym (q.versions (slot_of number index));
    }

-- a refusal, but for that of a load's commit
pub refused_next : (s : State) (past : List Entry) (a : Actor) (action : Action) (r : Refusal) → is_eld action ≡ false → HasColumns s past
    → IsHeld past → IsNextTo s s past (refused_by a action r)
refused_next s past a action r other h held =
    quiet_next s s past (refused_by a action r) (refused_quiet s.first_epoch s.first_version past a action r other) refl h held tt tt tt tt
    (λ all. all)

-- ---- the translation of an access

-- an access that its row allows is of a page that is held
pub holds_page : (s : State) (past : List Entry) (p off : ℕ) (is_allowed : Bool) → HasColumns s past
    → first_of_row (access_row off (is_some (s.inside p)) (translation s p (s.inside p) (off / 4096)) is_allowed) ≡ None
    → holds_number (translations past p) (off / 4096) ≡ true
holds_page s past p off is_allowed h allowed =
    let none = none_holds (access_row off (is_some (s.inside p)) (translation s p (s.inside p) (off / 4096)) is_allowed) allowed in
    rw (← translations_are h p, holds_number-map (s.cache p) (off / 4096)) (by_seat (s.inside p) none.1.1.0)
  where
    by_found : (x : Option Translation) → is_none (perm_of_held x) ≡ false → is_some x ≡ true
    by_found None k = cc
    by_found (Some x) k = refl

    by_seat : (o : Option Seat) → is_none (translation s p o (off / 4096)) ≡ false
        → is_some (translation_of (s.cache p) (off / 4096)) ≡ true
    by_seat None k = cc
    by_seat (Some seat) k = by_found (translation_of (s.cache p) (off / 4096)) k

-- ---- the rows

-- a page is added to a frame that holds nothing
add_empty : (number : ℕ) (kind : Kind) (perm : Perm) (init : PageInit) (o : Option EnclaveSight) (secs : SecsSight) (is_added : Bool)
    (v : FrameSight)
    → first_of_row (add_row number kind perm init o secs is_added v) ≡ None → is_valid v.content ≡ false
add_empty number kind perm init None secs is_added v allowed =
    absurd (false≢true (sym (none_holds (add_row number kind perm init None secs is_added v) allowed).1.0))
add_empty number kind perm init (Some enclave) secs is_added v allowed =
    (none_holds (add_row number kind perm init (Some enclave) secs is_added v) allowed).1.1.1.1.1.1.1.1.1.0

-- what an asynchronous exit saves changes no number of the machine's making
saved_making : (s : State) (acc : ℕ) (o : Option Seat) → making_of (with_saved s acc o) ≡ making_of s
saved_making s acc None = refl
saved_making s acc (Some seat) = refl

-- of what frames hold only the version array page of this number has its name
array_named : (c : Content) (page : Page) (number : ℕ) → IsNamedRight c → page_there c ≡ Some page
    → same_page page (va_page number) ≡ true → c ≡ IsVa number
array_named Free page number named there same = cc there
array_named (IsVa k) page number named there same =
    let name : va_page k ≡ page = cc there in
    let number_is : k ≡ number = ap (λ (g : Page). g.number) (name ∙ same_pages page (va_page number) same) in ap IsVa number_is
array_named (SecsOf enclave) page number named there same =
    let name : secs_page enclave ≡ page = cc there in
    let none : enclave ≡ 0 = ap (λ (g : Page). g.enclave) (name ∙ same_pages page (va_page number) same) in
    absurd (false≢true (sym named ∙ eq-eqb enclave 0 none))
array_named (Holds g kind perm) page number named there same =
    let name : g ≡ page = cc there in
    let own : is_own_page (va_page number) ≡ true = ap is_own_page (sym (name ∙ same_pages page (va_page number) same)) ∙ named in
    absurd (false≢true own)
array_named (IsLoading g) page number named there same = cc there

-- .. and no slot of a version array page
saved_arrays : (s : State) (past : List Entry) (acc : ℕ) (o : Option Seat) → HasAllVersions s past
    → HasAllVersions (with_saved s acc o) past
saved_arrays s past acc None all = all
saved_arrays s past acc (Some seat) all = all

-- each row that is done, from a sound machine with the columns of its entries
module _ (s : State) (past : List Entry) (sound : IsSound s) (h : HasColumns s past) (held : IsHeld past) where
  pub epa_next : (a : Actor) (f : Frame) → first_of_row (row_of s a (Epa f)) ≡ None → ArraysRest past
      → IsNextTo s (after_epa s f.0) past (did_by a (Epa f) (answers.Va s.vas_made))
  epa_next a f allowed rest =
      let none = none_holds (epa_row (sight s f.0)) allowed in
      record {
        making = refl;
        columns = epa_columns s past h a f (answers.Va s.vas_made) (λ index. rest.unmade (vas_made past) index (omega arith));
        held = held_put s past sound h held f.0 (IsVa _) (unused_invalid s f.0 none.1.1.0);
        access = tt;
        evict = tt;
        rising = tt;
        right = tt;
        arrays = λ all back n number held.
            new_arrays s past f.0 (λ _. Unit {0}) h (λ index. rest.unmade (vas_made past) index (omega arith))
            (λ m k is _. all m k is) n number
            held tt;
      }

  pub create_next : (a : Actor) (enclave : ℕ) (f : Frame) (base size : ℕ) (begun : Measure)
      → first_of_row (row_of s a (Create enclave f base size)) ≡ None
      → IsNextTo s (after_create s enclave f.0 base size begun) past (did_by a (Create enclave f base size) answers.Plain)
  create_next a enclave f base size begun allowed =
      let none = none_holds (create_row enclave base size (is_some (s.enclaves enclave)) (sight s f.0)) allowed in
      record {
        making = refl;
        columns = create_columns s past h a enclave f base size begun answers.Plain;
        held = held_put s past sound h held f.0 (SecsOf enclave) (unused_invalid s f.0 none.1.1.1.0);
        access = tt;
        evict = tt;
        rising = tt;
        right = tt;
        arrays = λ all back. put_arrays s f.0 (SecsOf enclave) (HasVersions s past) refl all;
      }

  pub add_next : (a : Actor) (enclave number : ℕ) (f : Frame) (kind : Kind) (perm : Perm) (init : PageInit) (longer : Measure)
      → first_of_row (row_of s a (Add enclave number f kind perm init)) ≡ None
      → IsNextTo s (after_add s (page_at enclave number) f.0 kind perm init longer) past
      (did_by a (Add enclave number f kind perm init) answers.Plain)
  add_next a enclave number f kind perm init longer allowed = record {
    making = refl;
    columns = add_columns s past h a enclave number f kind perm init longer answers.Plain;
    held =
        held_put s past sound h held f.0 (Holds (page_at enclave number) kind perm)
        (unused_invalid s f.0 (add_empty number kind perm init (enclave_sight_of (s.enclaves enclave)) (secs_sight s enclave)
        (is_some (s.added (page_at enclave number))) (sight s f.0) allowed));
    access = tt;
    evict = tt;
    rising = tt;
    right = tt;
    arrays = λ all back. put_arrays s f.0 (Holds (page_at enclave number) kind perm) (HasVersions s past) refl all;
  }

  -- a done instruction that changes no column, while words, accumulators and measurements may change
  quiet_done : (t : State) (a : Actor) (action : Action) (answer : Answer) → is_quiet action ≡ true → making_of t ≡ making_of s
      → HasColumns t past → StaleRule past (did_by a action answer)
      → EvictRule past (did_by a action answer) → RisingRule s.first_version past (did_by a action answer)
      → EndsRight past (Did action answer) → (HasAllVersions s past → HasAllVersions t past) → IsNextTo s t past (did_by a action answer)
  quiet_done t a action answer quiet made columns access evict rising right arrays =
      quiet_next s t past (did_by a action answer) (did_quiet t.first_epoch t.first_version past a action answer quiet) made columns held
      access evict rising right arrays

  pub extend_next : (a : Actor) (f : Frame) (chunk enclave : ℕ) (longer : Measure)
      → IsNextTo s (after_extend s enclave longer) past (did_by a (Extend f chunk) answers.Plain)
  extend_next a f chunk enclave longer =
      quiet_done (after_extend s enclave longer) a (Extend f chunk) answers.Plain refl refl
      (record { frames = h.frames; cpus = h.cpus; next_version = h.next_version; versions = h.versions; enclaves = h.enclaves })
      tt tt tt tt (λ all. all)

  pub init_next : (a : Actor) (enclave : ℕ) (expect : Option (List ℕ)) (digest : List ℕ)
      → IsNextTo s (after_init s enclave) past (did_by a (Init enclave expect) (answers.Hash digest))
  init_next a enclave expect digest = record {
    making = refl;
    columns = init_columns s past h a enclave expect (answers.Hash digest);
    held = held;
    access = tt;
    evict = tt;
    rising = tt;
    right = tt;
    arrays = λ all back. all;
  }

  pub enter_next : (p : Cpu) (enclave tcs : ℕ) (tf sf : Frame)
      → IsNextTo s (after_enter s p.0 (seat_of enclave tcs tf.0 sf.0)) past
      (did_by (actors.Cpu p) (Enter enclave tcs tf sf) (answers.Cssa (cssa_in s tf.0)))
  enter_next p enclave tcs tf sf = record {
    making = refl;
    columns = enter_columns s past h p enclave tcs tf sf (answers.Cssa (cssa_in s tf.0));
    held = held_entered past held p.0 (seat_of enclave tcs tf.0 sf.0);
    access = tt;
    evict = tt;
    rising = tt;
    right = tt;
    arrays = λ all back. all;
  }

  pub resume_next : (p : Cpu) (enclave tcs : ℕ) (tf sf : Frame)
      → IsNextTo s (after_resume s p.0 (seat_of enclave tcs tf.0 sf.0)) past
      (did_by (actors.Cpu p) (Resume enclave tcs tf sf) (answers.Value (saved_word s sf.0)))
  resume_next p enclave tcs tf sf = record {
    making = refl;
    columns = resume_columns s past h p enclave tcs tf sf (answers.Value (saved_word s sf.0));
    held = held_entered past held p.0 (seat_of enclave tcs tf.0 sf.0);
    access = tt;
    evict = tt;
    rising = tt;
    right = tt;
    arrays = λ all back. all;
  }

  pub exit_next : (p : Cpu) → IsNextTo s (after_exit s p.0) past (did_by (actors.Cpu p) Exit answers.Plain)
  exit_next p = record {
    making = refl;
    columns = exit_columns s past h p answers.Plain;
    held = held_left past held p.0;
    access = tt;
    evict = tt;
    rising = tt;
    right = tt;
    arrays = λ all back. all;
  }

  pub aex_next : (p : Cpu) (cause : Cause) → IsNextTo s (after_aex s p.0) past (did_by (actors.Cpu p) (Aex cause) answers.Plain)
  aex_next p cause = record {
    making = saved_making s (s.acc p.0) (s.inside p.0);
    columns = aex_columns s past h p cause answers.Plain;
    held = held_left past held p.0;
    access = tt;
    evict = tt;
    rising = tt;
    right = tt;
    arrays = λ all back. saved_arrays s past (s.acc p.0) (s.inside p.0) all;
  }

  pub fill_next : (p : Cpu) (t : Translation) → IsNextTo s (after_fill s p.0 t) past
      (did_by (actors.Cpu p) (Fill t.number t.frame) answers.Plain)
  fill_next p t =
      record {
        making = refl;
        columns = fill_columns s past h p t answers.Plain;
        held = held;
        access = tt;
        evict = tt;
        rising = tt;
        right = tt;
        arrays = λ all back. all;
      }

  pub load_next : (p : Cpu) (off : ℕ) → first_of_row (row_of s (actors.Cpu p) (Load off)) ≡ None
      → IsNextTo s s past (did_by (actors.Cpu p) (Load off) (answers.Value (word_at s p.0 off)))
  load_next p off allowed =
      quiet_done s (actors.Cpu p) (Load off) (answers.Value (word_at s p.0 off)) refl refl h
      (holds_page s past p.0 off (allows_read (translation s p.0 (s.inside p.0) (off / 4096))) h allowed) tt tt tt (λ all. all)

  pub store_next : (p : Cpu) (off value : ℕ) → first_of_row (row_of s (actors.Cpu p) (Store off value)) ≡ None
      → IsNextTo s (after_store s p.0 off value) past (did_by (actors.Cpu p) (Store off value) answers.Plain)
  store_next p off value allowed =
      quiet_done (after_store s p.0 off value) (actors.Cpu p) (Store off value) answers.Plain refl refl
      (record { frames = h.frames; cpus = h.cpus; next_version = h.next_version; versions = h.versions; enclaves = h.enclaves })
      (holds_page s past p.0 off (allows_write (translation s p.0 (s.inside p.0) (off / 4096))) h allowed) tt tt tt (λ all. all)

  pub xadd_next : (p : Cpu) (off value : ℕ) → first_of_row (row_of s (actors.Cpu p) (Xadd off value)) ≡ None
      → IsNextTo s (after_xadd s p.0 off value) past (did_by (actors.Cpu p) (Xadd off value) (answers.Value (word_at s p.0 off)))
  xadd_next p off value allowed =
      quiet_done (after_xadd s p.0 off value) (actors.Cpu p) (Xadd off value) (answers.Value (word_at s p.0 off)) refl refl
      (record { frames = h.frames; cpus = h.cpus; next_version = h.next_version; versions = h.versions; enclaves = h.enclaves })
      (holds_page s past p.0 off (allows_update (translation s p.0 (s.inside p.0) (off / 4096))) h allowed) tt tt tt (λ all. all)

  pub set_next : (p : Cpu) (value : ℕ) → IsNextTo s (with_acc s p.0 value) past (did_by (actors.Cpu p) (Set value) answers.Plain)
  set_next p value =
      quiet_done (with_acc s p.0 value) (actors.Cpu p) (Set value) answers.Plain refl refl
      (record { frames = h.frames; cpus = h.cpus; next_version = h.next_version; versions = h.versions; enclaves = h.enclaves })
      tt tt tt tt (λ all. all)

  pub plus_next : (p : Cpu) (value sum : ℕ) → IsNextTo s (with_acc s p.0 sum) past (did_by (actors.Cpu p) (Plus value) (answers.Value sum))
  plus_next p value sum =
      quiet_done (with_acc s p.0 sum) (actors.Cpu p) (Plus value) (answers.Value sum) refl refl
      (record { frames = h.frames; cpus = h.cpus; next_version = h.next_version; versions = h.versions; enclaves = h.enclaves })
      tt tt tt tt (λ all. all)

  pub pf_next : (p : Cpu) (op : AccessOp) (off : ℕ) (answer : Answer) → IsNextTo s s past (did_by (actors.Cpu p) (Pf op off) answer)
  pf_next p op off answer = quiet_done s (actors.Cpu p) (Pf op off) answer refl refl h tt tt tt tt (λ all. all)

  pub outload_next : (p : Cpu) (enclave off : ℕ) (answer : Answer) → IsNextTo s s past (did_by (actors.Cpu p) (OutLoad enclave off) answer)
  outload_next p enclave off answer = quiet_done s (actors.Cpu p) (OutLoad enclave off) answer refl refl h tt tt tt tt (λ all. all)

  pub outstore_next : (p : Cpu) (enclave off value : ℕ) (answer : Answer)
      → IsNextTo s s past (did_by (actors.Cpu p) (OutStore enclave off value) answer)
  outstore_next p enclave off value answer =
      quiet_done s (actors.Cpu p) (OutStore enclave off value) answer refl refl h tt tt tt tt (λ all. all)

  pub block_next : (a : Actor) (f : Frame) → IsNextTo s (after_block s f.0) past (did_by a (Block f) answers.Plain)
  block_next a f =
      record {
        making = refl;
        columns = block_columns s past h a f answers.Plain;
        held = held;
        access = tt;
        evict = tt;
        rising = tt;
        right = tt;
        arrays = λ all back. all;
      }

  pub track_next : (a : Actor) (enclave : ℕ) → IsNextTo s (after_track s enclave) past (did_by a (Track enclave) answers.Plain)
  track_next a enclave =
      record {
        making = refl;
        columns = track_columns s past h a enclave answers.Plain;
        held = held;
        access = tt;
        evict = tt;
        rising = tt;
        right = tt;
        arrays = λ all back. all;
      }

  pub ewbstart_next : (a : Actor) (f : Frame) (slot : SlotAt) → IsGuarded s → first_of_row (row_of s a (EwbStart f slot)) ≡ None
      → IsNextTo s (after_ewbstart s f.0 slot) past (did_by a (EwbStart f slot) (answers.Version s.next_version))
  ewbstart_next a f slot guarded allowed =
      let none = none_holds (row_of s a (EwbStart f slot)) allowed in
      record {
        making = refl;
        columns =
            ewbstart_columns s past h a f slot
            (not_false _ (neither (not (is_va (s.content slot.frame.0))) (f.0 == slot.frame.0) none.1.1.1.0).0);
        held = held;
        access = tt;
        evict = goes_out past f.0 (content past f.0)
            (λ own. sym (drained_by s past h f.0) ∙ not_false _ (second (is_own (s.content f.0)) _ (ap is_own (content_is h f.0) ∙ own)
            none.1.1.1.1.1.1.0))
            (λ e is m. childless e (eqb-true _ 0 (not_false _ none.1.1.1.1.0)) (content_is h f.0 ∙ is) m);
        rising = ap answers.Version (next_version_is h);
        right = tt;
        arrays = λ all back. all;
      }
    where
      second : (b c : Bool) → b ≡ true → (b && c) ≡ false → c ≡ false
      second true c e k = k
      second false c e k = cc e

      -- no frame holds or loads a page of the enclave whose SECS goes
      childless : (e : ℕ) → children_under s.frames s.content (s.content f.0) ≡ 0 → s.content f.0 ≡ SecsOf e → (m : ℕ)
          → is_child (content past m) e ≡ false
      childless e none is m = rw (← content_is h m) (by_number (cases_lt m s.frames))
        where
          by_number : (m < s.frames) ⊎ (s.frames ≤ m) → is_child (s.content m) e ≡ false
          by_number (inl low) = count_below-none (λ n. is_child (s.content n) e) s.frames (rw is at none) m low
          by_number (inr high) = rw (guarded.kept.bounded m high) refl

  pub eldstart_next : (a : Actor) (f : Frame) (page : Page) (slot : SlotAt) → first_of_row (row_of s a (EldStart f page slot)) ≡ None
      → IsNextTo s (after_eldstart s f.0 page slot) past (did_by a (EldStart f page slot) (answers.Version (version_at s slot)))
  eldstart_next a f page slot allowed =
      let none = none_holds (row_of s a (EldStart f page slot)) allowed in
      record {
        making = refl;
        columns = eldstart_columns s past h a f page slot (not_false _ none.1.1.1.1.1.1.0);
        held = held_put s past sound h held f.0 (IsLoading page) (unused_invalid s f.0 none.1.1.1.1.1.0);
        access = tt;
        evict = tt;
        rising = tt;
        right = tt;
        arrays = λ all back. put_arrays s f.0 (IsLoading page) (HasVersions s past) refl all;
      }

  -- ---- the commits

  -- a page is out
  pub ewb_next : (a : Actor) (f : Frame) (start : BareStart) (page : Page) (tag : List ℕ) → IsGuarded s → s.start f.0 ≡ Some start
      → s.is_sealing f.0 ≡ true → page_there (s.content f.0) ≡ Some page
      → start.loads ≡ None
      → IsNextTo s (after_ewb s f.0 start) past (did_by a (Ewb f) (answers.Moved page start.version tag))
  ewb_next a f start page tag guarded is sealing there writes = record {
    making = refl;
    columns = ewb_columns s past a f start is h guarded page tag;
    held = held_put s past sound h held f.0 Free (λ enclave u. false≢true (sym u.settled ∙ sealing));
    access = tt;
    evict = record { start = x.start; opened = x.opened; writes = none; told = ap (λ (y : BareStart). y.version) x.same };
    rising = tt;
    arrays = λ all back. ewb_arrays s past a f start is h guarded page tag all;
    right = record {
      ends = record {
        page = page;
        held = ap page_there (sym (content_is h f.0)) ∙ there;
        start = x.start;
        opened = x.opened;
        writes = none;
        version = start.version;
        tag = tag;
        told = refl;
      };
      leaves = sym (sealing_is h f.0) ∙ sealing;
      array = λ number same. sym (content_is h f.0) ∙ array_named (s.content f.0) page number (guarded.kept.named f.0) there same;
    };
  }
    where
      x : IsBareOf (open_start past f.0) start
      x = started_as s past h f.0 start is

      none : x.start.loads ≡ None
      none = ap (λ (y : BareStart). y.loads) x.same ∙ writes

  -- a page is back
  pub eld_next : (a : Actor) (f : Frame) (start : BareStart) (page : Page) (plain tag : List ℕ) → IsGuarded s
      → s.start f.0 ≡ Some start → s.content f.0 ≡ IsLoading page → start.loads ≡ Some page
      → IsNextTo s (after_eld s f.0 start (reloaded page (s.added page)) plain) past
      (did_by a (Eld f) (answers.Moved page start.version tag))
  eld_next a f start page plain tag guarded is loading loads = record {
    making = refl;
    columns = eld_columns s past a f start is h guarded page plain tag;
    held = held_put s past sound h held f.0 (reloaded page (added past page)) (unused_invalid s f.0 (rw loading refl));
    access = tt;
    evict = tt;
    rising = tt;
    arrays = eld_arrays s past a f start is h guarded page plain tag;
    right = record {
      back = record {
        page = page;
        ends = record { start = x.start; opened = x.opened; loads = ap (λ (y : BareStart). y.loads) x.same ∙ loads };
        version = start.version;
        tag = tag;
        told = refl;
      };
      waits = sym (content_is h f.0) ∙ loading;
    };
  }
    where
      x : IsBareOf (open_start past f.0) start
      x = started_as s past h f.0 start is

  -- a load is refused
  pub failed_eld_next : (a : Actor) (f : Frame) (start : BareStart) (r : Refusal) → IsGuarded s → s.start f.0 ≡ Some start → (w : Page)
      → s.content f.0 ≡ IsLoading w
      → s.is_sealing f.0 ≡ false
      → IsNextTo s (after_failed_eld s f.0 start) past (refused_by a (Eld f) r)
  failed_eld_next a f start r guarded is w loading idle = record {
    making = refl;
    columns = failed_eld_columns s past a f start is h guarded r idle;
    held = held_put s past sound h held f.0 Free (unused_invalid s f.0 (rw loading refl));
    access = tt;
    evict = tt;
    rising = tt;
    right = tt;
    arrays = λ all back. put_arrays s f.0 Free (HasVersions s past) refl all;
  }
