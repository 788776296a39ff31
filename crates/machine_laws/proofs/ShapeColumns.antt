-- Each row and each commit leaves the machine's columns as the longer list of entries has them.
use Rattle.std.proofs.Common.{◌≡◌, ℕ, ◌+◌, ◌<◌, ◌==◌, ◌||◌, Bool, true, false, cond, refl, sym, ap, subst, ◌∙◌, Option, Some, None}
use Rattle.std.proofs.Common.{List, [], ◌∷◌, map, length}
use Rattle.std.proofs.lemmas.Bool.{cond_both, eqb-true, eq-eqb, false≢true}
use Rattle.sgx_rules.specs.declared.entries.Entry.{Entry}
use Rattle.sgx_types.specs.declared.names.Actor.{Actor}
use Rattle.sgx_types.specs.declared.names.Actor.TheVariants as actors
use Rattle.sgx_rules.specs.declared.entries.Action.{Action}
use Rattle.sgx_rules.specs.declared.entries.Action.TheVariants.{Epa, Create, Add, Extend, Init, Enter, Resume, Exit, Aex, Fill}
use Rattle.sgx_rules.specs.declared.entries.Action.TheVariants.{Load, Store}
use Rattle.sgx_rules.specs.declared.entries.Action.TheVariants.{Xadd, Set, Plus, Pf, OutLoad, OutStore, Block, Track, EwbStart}
use Rattle.sgx_rules.specs.declared.entries.Action.TheVariants.{Ewb}
use Rattle.sgx_rules.specs.declared.entries.Action.TheVariants.{EldStart, Eld}
use Rattle.sgx_rules.specs.declared.entries.Answer.{Answer}
use Rattle.sgx_rules.specs.declared.entries.Answer.TheVariants.{Version, Moved}
use Rattle.sgx_rules.specs.declared.entries.Cause.{Cause}
use Rattle.sgx_types.specs.declared.lawful.PageInit.{PageInit}
use Rattle.sgx_types.specs.declared.names.Cpu.{Cpu}
use Rattle.sgx_types.specs.declared.names.Frame.{Frame}
use Rattle.sgx_types.specs.declared.names.Page.{Page}
use Rattle.sgx_types.specs.declared.names.Kind.{Kind}
use Rattle.sgx_types.specs.declared.names.Perm.{Perm}
use Rattle.sgx_types.specs.declared.names.SlotAt.{SlotAt}
use Rattle.sgx_rules.specs.declared.refusals.Refusal.{Refusal}
use Rattle.sgx_rules.specs.Epochs.{epoch, epoch_of}
use Rattle.sgx_rules.specs.inner.Epochs.{noted}
use Rattle.sgx_rules.specs.Flat.{as_initialised}
use Rattle.sgx_types.specs.Pages.{is_secs_page, is_va_page, page_at, same_page, va_page}
use Rattle.sgx_rules.specs.Frames.{Content, Free, IsVa, SecsOf, Holds, IsLoading, added, content, enclave_in, is_sealing}
use Rattle.sgx_rules.specs.inner.Arrays.{came_back}
use Rattle.sgx_rules.specs.Frames.{reloaded, reloaded_as, vas_made}
use Rattle.sgx_rules.specs.Processors.{Seat, stay, stay_from, with_filled, translations}
use Rattle.sgx_rules.specs.Sights.{seat_of}
use Rattle.sgx_types.specs.declared.names.VaSlot.{VaSlot}
use Rattle.sgx_rules.specs.Slots.{next_version, version_in}
use Rattle.sgx_rules.specs.Starts as opening
use Rattle.sgx_rules.specs.Starts.{Start, open_start, slot_found, slot_in}
use Rattle.sgx_rules.specs.Table.{is_va}
use Rattle.sgx_rules.specs.inner.Starts.{BareStart, bare_start}
use Rattle.sgx_types.proofs.Pages.{same_page-swap}
use Rattle.sgx_types.proofs.Truths.{apart, neither}
use Rattle.sgx_rules.proofs.Busy.{IsBareOf}
use Rattle.machine_copies.specs.inner.Away.{ArraysApart}
use Rattle.machine_copies.specs.inner.Once.{IsFound}
use Rattle.measure_log.specs.declared.measure.Measure.{Measure}
use Rattle.cached_translations.specs.declared.cache.Translation.{Translation}
use Rattle.cached_translations.specs.inner.Translations.{with_translation}
use Rattle.machine_laws.specs.inner.Columns.{FrameColumns, CpuColumns, HasAllVersions, HasBack, HasColumns, HasOwnVersions, HasVersions}
use Rattle.machine_laws.specs.inner.Columns.{cpus_by, enclaves_by, frames_by, slot_of}
use Rattle.machine_laws.specs.inner.Guarded.{IsGuarded}
use Rattle.machine_laws.specs.inner.Columns.{noted_inside, without_perm, seat_of_stay}
use Rattle.machine_laws.proofs.ColumnLaws.{sealing_is, start_is, inside_is, noted_is, translations_are, epoch_is, added_is, content_is}
use Rattle.machine_laws.proofs.ColumnLaws.{vas_is}
use Rattle.machine_laws.proofs.SlotLaws.{arrays_as, eld_versions, ewb_versions, found_as, started_as}
use Rattle.machine_laws.specs.inner.State.{State, with_saved, after_epa, after_create, after_add, after_init, after_enter}
use Rattle.machine_laws.specs.inner.State.{after_resume}
use Rattle.machine_laws.specs.inner.State.{after_exit, after_aex, after_fill, after_block, after_track, after_ewbstart}
use Rattle.machine_laws.specs.inner.State.{after_eldstart, after_ewb}
use Rattle.machine_laws.specs.inner.State.{after_eld, after_failed_eld, place_at, slot_of_found, started, version_at}
use Rattle.machine_laws.specs.inner.Steps.{did_by, refused_by}
use Rattle.machine_laws.proofs.TranslationLaws.{with_translation-map}

-- ---- what touches no column

-- an entry that changes no column
pub record IsQuiet (first_epoch first_version : ℕ) (past : List Entry) (e : Entry) : Type 0 where
  pub frames : frames_by first_epoch (e ∷ past) ≡ frames_by first_epoch past
  pub cpus : cpus_by first_epoch (e ∷ past) ≡ cpus_by first_epoch past
  pub draws : next_version first_version (e ∷ past) ≡ next_version first_version past
  pub versions : (slot : VaSlot) → version_in (e ∷ past) slot ≡ version_in past slot
  pub back : (number : ℕ) → came_back (e ∷ past) number ≡ came_back past number
  pub enclaves : enclaves_by first_epoch (e ∷ past) ≡ enclaves_by first_epoch past
  pub stays : (p : ℕ) → stay (e ∷ past) p ≡ stay past p

-- .. leaves each as it was
pub quiet_columns : (s : State) (past : List Entry) (e : Entry) → IsQuiet s.first_epoch s.first_version past e → HasColumns s past
    → HasColumns s (e ∷ past)
quiet_columns s past e q h = record {
  frames = h.frames ∙ sym q.frames;
  cpus = h.cpus ∙ sym q.cpus;
  next_version = h.next_version ∙ sym q.draws;
  versions = λ n number held still index low.
      h.versions n number held (sym (q.back number) ∙ still) index low ∙ sym (q.versions (slot_of number index));
  enclaves = h.enclaves ∙ sym q.enclaves;
}

abbrev pub is_eld : Action → Bool
is_eld (Eld f) = true
is_eld _ = false

-- a refusal changes no column, but for that of a load's commit
pub refused_quiet : (first_epoch first_version : ℕ) (past : List Entry) (a : Actor) (action : Action) (why : Refusal)
    → is_eld action ≡ false → IsQuiet first_epoch first_version past (refused_by a action why)
refused_quiet first_epoch first_version past a (Eld f) why h = cc
refused_quiet first_epoch first_version past a _ why h =
    record {
      frames = refl;
      cpus = refl;
      draws = refl;
      versions = λ slot. refl;
      back = λ number. refl;
      enclaves = refl;
      stays = λ p. refl;
    }

-- the instructions that change no column
abbrev pub is_quiet : Action → Bool
is_quiet (Extend f chunk) = true
is_quiet (Load off) = true
is_quiet (Store off value) = true
is_quiet (Xadd off value) = true
is_quiet (Set value) = true
is_quiet (Plus value) = true
is_quiet (Pf op off) = true
is_quiet (OutLoad enclave off) = true
is_quiet (OutStore enclave off value) = true
is_quiet _ = false

-- .. once they are done
pub did_quiet : (first_epoch first_version : ℕ) (past : List Entry) (a : Actor) (action : Action) (answer : Answer) → is_quiet action ≡ true
    → IsQuiet first_epoch first_version past (did_by a action answer)
did_quiet first_epoch first_version past a (Extend f chunk) answer h =
    record {
      frames = refl;
      cpus = refl;
      draws = refl;
      versions = λ slot. refl;
      back = λ number. refl;
      enclaves = refl;
      stays = λ p. refl;
    }
did_quiet first_epoch first_version past a (Load off) answer h =
    record {
      frames = refl;
      cpus = refl;
      draws = refl;
      versions = λ slot. refl;
      back = λ number. refl;
      enclaves = refl;
      stays = λ p. refl;
    }
did_quiet first_epoch first_version past a (Store off value) answer h =
    record {
      frames = refl;
      cpus = refl;
      draws = refl;
      versions = λ slot. refl;
      back = λ number. refl;
      enclaves = refl;
      stays = λ p. refl;
    }
did_quiet first_epoch first_version past a (Xadd off value) answer h =
    record {
      frames = refl;
      cpus = refl;
      draws = refl;
      versions = λ slot. refl;
      back = λ number. refl;
      enclaves = refl;
      stays = λ p. refl;
    }
did_quiet first_epoch first_version past a (Set value) answer h =
    record {
      frames = refl;
      cpus = refl;
      draws = refl;
      versions = λ slot. refl;
      back = λ number. refl;
      enclaves = refl;
      stays = λ p. refl;
    }
did_quiet first_epoch first_version past a (Plus value) answer h =
    record {
      frames = refl;
      cpus = refl;
      draws = refl;
      versions = λ slot. refl;
      back = λ number. refl;
      enclaves = refl;
      stays = λ p. refl;
    }
did_quiet first_epoch first_version past a (Pf op off) answer h =
    record {
      frames = refl;
      cpus = refl;
      draws = refl;
      versions = λ slot. refl;
      back = λ number. refl;
      enclaves = refl;
      stays = λ p. refl;
    }
did_quiet first_epoch first_version past a (OutLoad enclave off) answer h =
    record {
      frames = refl;
      cpus = refl;
      draws = refl;
      versions = λ slot. refl;
      back = λ number. refl;
      enclaves = refl;
      stays = λ p. refl;
    }
did_quiet first_epoch first_version past a (OutStore enclave off value) answer h =
    record {
      frames = refl;
      cpus = refl;
      draws = refl;
      versions = λ slot. refl;
      back = λ number. refl;
      enclaves = refl;
      stays = λ p. refl;
    }
did_quiet first_epoch first_version past a _ answer h = cc

-- ---- what the rows change

-- a frame is put, and not blocked
abbrev put : ℕ → Content → FrameColumns → FrameColumns
put f c x = record x { content = λ n. cond (f == n) c (x.content n); blocked = λ n. cond (f == n) None (x.blocked n) }

-- whether the page in a frame is on its way out
abbrev with_sealing : ℕ → Bool → FrameColumns → FrameColumns
with_sealing f b x = record x { is_sealing = λ n. cond (f == n) b (x.is_sealing n) }

-- the start of a frame, in the state and by the entries
starts : (s : State) (past : List Entry) (f : ℕ) (o : Option Start) → HasColumns s past → (n : ℕ)
    → cond (f == n) (bare_start o) (s.start n) ≡ bare_start (cond (f == n) o (open_start past n))
starts s past f o h n = by_test (f == n)
  where
    by_test : (b : Bool) → cond b (bare_start o) (s.start n) ≡ bare_start (cond b o (open_start past n))
    by_test true = refl
    by_test false = start_is h n

-- .. which begins with the slot that it found
starts_with : (s : State) (past : List Entry) (f : ℕ) (o : Option Start) (bare : BareStart) → Some bare ≡ bare_start o → HasColumns s past
    → (n : ℕ) → cond (f == n) (Some bare) (s.start n) ≡ bare_start (cond (f == n) o (open_start past n))
starts_with s past f o bare same h n = by_test (f == n)
  where
    by_test : (b : Bool) → cond b (Some bare) (s.start n) ≡ bare_start (cond b o (open_start past n))
    by_test true = same
    by_test false = start_is h n

-- a start in a frame that holds a version array page is the same by both
begun : (s : State) (past : List Entry) (a : Actor) (at : SlotAt) (version : ℕ) (loads : Option Page) → is_va (s.content at.frame.0) ≡ true
    → HasColumns s past
    → Some (started s at version loads)
    ≡ bare_start (opening.started a (length past) at (Version version) loads (slot_found (content past) at))
begun s past a at version loads paged h = rw (content_is h at.frame.0)
    (by_content (content past at.frame.0) (rw (← content_is h at.frame.0) paged))
  where
    by_content : (c : Content) → is_va c ≡ true
        → Some (record { at = at; slot = slot_of_found (slot_in c at.index); version = version; loads = loads })
        ≡ bare_start (opening.started a (length past) at (Version version) loads (slot_in c at.index))
    by_content (IsVa number) is = refl
    by_content Free is = cc is
    by_content (SecsOf enclave) is = cc is
    by_content (Holds page kind perm) is = cc is
    by_content (IsLoading page) is = cc is

-- where a frame comes to hold no version array page, all others are as they were
pub put_arrays : (s : State) (f : ℕ) (c : Content) (Q : ℕ → ℕ → Type 0) → is_va c ≡ false
    → ((n number : ℕ) → s.content n ≡ IsVa number → Q n number) → (n number : ℕ) → cond (f == n) c (s.content n) ≡ IsVa number → Q n number
put_arrays s f c Q other h n number = by_test (f == n)
  where
    by_test : (b : Bool) → cond b c (s.content n) ≡ IsVa number → Q n number
    by_test true held = absurd (false≢true (sym other ∙ ap is_va held))
    by_test false held = h n number held

-- .. those that were never reloaded
put_versions : (s : State) (past : List Entry) (f : ℕ) (c : Content) → is_va c ≡ false → HasOwnVersions s past → (n number : ℕ)
    → cond (f == n) c (s.content n) ≡ IsVa number → came_back past number ≡ false → HasVersions s past n number
put_versions s past f c other h = put_arrays s f c (λ n number. came_back past number ≡ false → HasVersions s past n number) other h

-- the slots of a new version array page are empty, and those of the others as they were
pub new_arrays : (s : State) (past : List Entry) (f : ℕ) (P : ℕ → Type 0) → HasColumns s past
    → ((index : ℕ) → version_in past (slot_of (vas_made past) index) ≡ 0)
    → ((n number : ℕ) → s.content n ≡ IsVa number → P number → HasVersions s past n number)
    → (n number : ℕ) → cond (f == n) (IsVa s.vas_made) (s.content n) ≡ IsVa number → P number → (index : ℕ) → index < 512
    → cond (f == n) 0 (s.version_in (place_at n index)) ≡ version_in past (slot_of number index)
new_arrays s past f P h unmade all n number = by_test (f == n)
  where
    by_test : (b : Bool) → cond b (IsVa s.vas_made) (s.content n) ≡ IsVa number → P number → (index : ℕ) → index < 512
        → cond b 0 (s.version_in (place_at n index)) ≡ version_in past (slot_of number index)
    by_test true held still index low =
        let same : s.vas_made ≡ number = cc held in
        sym (ap (λ k. version_in past (slot_of k index)) (sym same ∙ vas_is h) ∙ unmade index)
    by_test false held still index low = all n number held still index low

-- a processor that comes inside notes its enclave's epoch, and holds no translation
entered : (s : State) (past : List Entry) (p : ℕ) (seat : Seat) → HasColumns s past
    → (let x : CpuColumns = record {
      inside = λ q. cond (p == q) (Some seat) (s.inside q);
      noted = λ q. cond (p == q) (s.epoch seat.enclave) (s.noted q);
      translations = λ q. map without_perm (cond (p == q) [] (s.cache q));
    } in x)
    ≡ record {
      inside = λ q. seat_of_stay (cond (p == q) (Some (stay_from past seat)) (stay past q));
      noted = λ q. noted_inside (cond (p == q) (Some (stay_from past seat)) (stay past q))
          (cond (p == q) (epoch s.first_epoch past seat.enclave) (noted s.first_epoch past q));
      translations = λ q. cond (p == q) [] (translations past q);
    }
entered s past p seat h =
    λ i. record { inside = λ q. inside q (p == q) i; noted = λ q. notes q (p == q) i; translations = λ q. emptied q (p == q) i }
  where
    inside : (q : ℕ) (b : Bool) → cond b (Some seat) (s.inside q) ≡ seat_of_stay (cond b (Some (stay_from past seat)) (stay past q))
    inside q true = refl
    inside q false = inside_is h q

    notes : (q : ℕ) (b : Bool) → cond b (s.epoch seat.enclave) (s.noted q) ≡ noted_inside
        (cond b (Some (stay_from past seat)) (stay past q)) (cond b (epoch s.first_epoch past seat.enclave) (noted s.first_epoch past q))
    notes q true = epoch_is h seat.enclave
    notes q false = noted_is h q

    emptied : (q : ℕ) (b : Bool) → map without_perm (cond b [] (s.cache q)) ≡ cond b [] (translations past q)
    emptied q true = refl
    emptied q false = translations_are h q

-- .. and one that leaves has noted none
left : (s : State) (past : List Entry) (p : ℕ) → HasColumns s past
    → (let x : CpuColumns = record {
      inside = λ q. cond (p == q) None (s.inside q);
      noted = λ q. cond (p == q) 0 (s.noted q);
      translations = λ q. map without_perm (cond (p == q) [] (s.cache q));
    } in x)
    ≡ record {
      inside = λ q. seat_of_stay (cond (p == q) None (stay past q));
      noted = λ q. noted_inside (cond (p == q) None (stay past q)) (noted s.first_epoch past q);
      translations = λ q. cond (p == q) [] (translations past q);
    }
left s past p h =
    λ i. record { inside = λ q. inside q (p == q) i; noted = λ q. notes q (p == q) i; translations = λ q. emptied q (p == q) i }
  where
    inside : (q : ℕ) (b : Bool) → cond b None (s.inside q) ≡ seat_of_stay (cond b None (stay past q))
    inside q true = refl
    inside q false = inside_is h q

    notes : (q : ℕ) (b : Bool) → cond b 0 (s.noted q) ≡ noted_inside (cond b None (stay past q)) (noted s.first_epoch past q)
    notes q true = refl
    notes q false = noted_is h q

    emptied : (q : ℕ) (b : Bool) → map without_perm (cond b [] (s.cache q)) ≡ cond b [] (translations past q)
    emptied q true = refl
    emptied q false = translations_are h q

-- ---- the rows

module _ (s : State) (past : List Entry) (h : HasColumns s past) where
  -- a version array page is put into a frame
  pub epa_columns : (a : Actor) (f : Frame) (answer : Answer) → ((index : ℕ) → version_in past (slot_of (vas_made past) index) ≡ 0)
      → HasColumns (after_epa s f.0) (did_by a (Epa f) answer ∷ past)
  epa_columns a f answer unmade = record {
    frames = λ i. put f.0 (IsVa (h.enclaves i).vas_made) (h.frames i);
    cpus = h.cpus;
    next_version = h.next_version;
    versions = new_arrays s past f.0 (λ number. came_back past number ≡ false) h unmade h.versions;
    enclaves = λ i. record (h.enclaves i) { vas_made = (h.enclaves i).vas_made + 1 };
  }

  -- an enclave is created, and its SECS put into a frame
  pub create_columns : (a : Actor) (enclave : ℕ) (f : Frame) (base size : ℕ) (begun : Measure) (answer : Answer)
      → HasColumns (after_create s enclave f.0 base size begun) (did_by a (Create enclave f base size) answer ∷ past)
  create_columns a enclave f base size begun answer = record {
    frames = ap (put f.0 (SecsOf enclave)) h.frames;
    cpus = h.cpus;
    next_version = h.next_version;
    versions = put_versions s past f.0 (SecsOf enclave) refl h.versions;
    enclaves = λ i. record (h.enclaves i) {
      enclaves =
          λ e. cond (e == enclave) (Some (record { base = base; size = size; is_init = false })) ((h.enclaves i).enclaves e);
    };
  }

  -- a page is added to an enclave, and put into a frame
  pub add_columns : (a : Actor) (enclave number : ℕ) (f : Frame) (kind : Kind) (perm : Perm) (init : PageInit) (longer : Measure)
      (answer : Answer)
      → HasColumns (after_add s (page_at enclave number) f.0 kind perm init longer)
      (did_by a (Add enclave number f kind perm init) answer ∷ past)
  add_columns a enclave number f kind perm init longer answer = record {
    frames = ap (put f.0 (Holds (page_at enclave number) kind perm)) h.frames;
    cpus = h.cpus;
    next_version = h.next_version;
    versions = put_versions s past f.0 (Holds (page_at enclave number) kind perm) refl h.versions;
    enclaves = λ i. record (h.enclaves i) {
      added =
          λ q. cond (same_page-swap q (page_at enclave number) i) (Some (kind, perm)) ((h.enclaves i).added q);
    };
  }

  -- an enclave is initialised
  pub init_columns : (a : Actor) (enclave : ℕ) (expect : Option (List ℕ)) (answer : Answer)
      → HasColumns (after_init s enclave) (did_by a (Init enclave expect) answer ∷ past)
  init_columns a enclave expect answer = record {
    frames = h.frames;
    cpus = h.cpus;
    next_version = h.next_version;
    versions = h.versions;
    enclaves = λ i. record (h.enclaves i) {
      enclaves =
          λ e. cond (e == enclave) (as_initialised ((h.enclaves i).enclaves e)) ((h.enclaves i).enclaves e);
    };
  }

  -- a processor comes inside
  pub enter_columns : (p : Cpu) (enclave tcs : ℕ) (tf sf : Frame) (answer : Answer)
      → HasColumns (after_enter s p.0 (seat_of enclave tcs tf.0 sf.0)) (did_by (actors.Cpu p) (Enter enclave tcs tf sf) answer ∷ past)
  enter_columns p enclave tcs tf sf answer =
      record {
        frames = h.frames;
        cpus = entered s past p.0 (seat_of enclave tcs tf.0 sf.0) h;
        next_version = h.next_version;
        versions = h.versions;
        enclaves = h.enclaves;
      }

  -- .. again
  pub resume_columns : (p : Cpu) (enclave tcs : ℕ) (tf sf : Frame) (answer : Answer)
      → HasColumns (after_resume s p.0 (seat_of enclave tcs tf.0 sf.0)) (did_by (actors.Cpu p) (Resume enclave tcs tf sf) answer ∷ past)
  resume_columns p enclave tcs tf sf answer =
      record {
        frames = h.frames;
        cpus = entered s past p.0 (seat_of enclave tcs tf.0 sf.0) h;
        next_version = h.next_version;
        versions = h.versions;
        enclaves = h.enclaves;
      }

  -- a processor leaves
  pub exit_columns : (p : Cpu) (answer : Answer) → HasColumns (after_exit s p.0) (did_by (actors.Cpu p) Exit answer ∷ past)
  exit_columns p answer = record {
    frames = h.frames;
    cpus = left s past p.0 h;
    next_version = h.next_version;
    versions = h.versions;
    enclaves = h.enclaves;
  }

  -- .. asynchronously: what it saves is in no column
  pub aex_columns : (p : Cpu) (cause : Cause) (answer : Answer)
      → HasColumns (after_aex s p.0) (did_by (actors.Cpu p) (Aex cause) answer ∷ past)
  aex_columns p cause answer = by_seat (s.inside p.0)
    where
      by_seat : (o : Option Seat) → HasColumns (after_exit (with_saved s (s.acc p.0) o) p.0)
          (did_by (actors.Cpu p) (Aex cause) answer ∷ past)
      by_seat None = record {
        frames = h.frames;
        cpus = left s past p.0 h;
        next_version = h.next_version;
        versions = h.versions;
        enclaves = h.enclaves;
      }
      by_seat (Some seat) = record {
        frames = h.frames;
        cpus = left s past p.0 h;
        next_version = h.next_version;
        versions = h.versions;
        enclaves = h.enclaves;
      }

  -- a processor gets one more translation
  pub fill_columns : (p : Cpu) (t : Translation) (answer : Answer)
      → HasColumns (after_fill s p.0 t) (did_by (actors.Cpu p) (Fill t.number t.frame) answer ∷ past)
  fill_columns p t answer = record {
    frames = h.frames;
    cpus = λ i. record (h.cpus i) { translations = λ q. filled q (p.0 == q) i };
    next_version = h.next_version;
    versions = h.versions;
    enclaves = h.enclaves;
  }
    where
      filled : (q : ℕ) (b : Bool) → map without_perm (cond b (with_translation (s.cache q) t) (s.cache q)) ≡ cond b
          (with_filled (translations past q) (without_perm t)) (translations past q)
      filled q true = with_translation-map (s.cache q) t ∙ ap (λ xs. with_filled xs (without_perm t)) (translations_are h q)
      filled q false = translations_are h q

  -- the page in a frame is blocked at its enclave's epoch
  pub block_columns : (a : Actor) (f : Frame) (answer : Answer) → HasColumns (after_block s f.0) (did_by a (Block f) answer ∷ past)
  block_columns a f answer = record {
    frames = λ i. record (h.frames i) {
      blocked =
          λ n. cond (f.0 == n) (Some (epoch_of (h.enclaves i).epoch (enclave_in ((h.frames i).content n)))) ((h.frames i).blocked n);
    };
    cpus = h.cpus;
    next_version = h.next_version;
    versions = h.versions;
    enclaves = h.enclaves;
  }

  -- an enclave is tracked
  pub track_columns : (a : Actor) (enclave : ℕ) (answer : Answer)
      → HasColumns (after_track s enclave) (did_by a (Track enclave) answer ∷ past)
  track_columns a enclave answer = record {
    frames = h.frames;
    cpus = h.cpus;
    next_version = h.next_version;
    versions = h.versions;
    enclaves = λ i. record (h.enclaves i) { epoch = λ e. cond (enclave == e) ((h.enclaves i).epoch e + 1) ((h.enclaves i).epoch e) };
  }

  -- a page starts to go out
  pub ewbstart_columns : (a : Actor) (f : Frame) (slot : SlotAt) → is_va (s.content slot.frame.0) ≡ true
      → HasColumns (after_ewbstart s f.0 slot) (did_by a (EwbStart f slot) (Version s.next_version) ∷ past)
  ewbstart_columns a f slot paged = record {
    frames = λ i. record (with_sealing f.0 true (h.frames i)) {
      start = λ n. starts_with s past f.0
          (opening.started a (length past) slot (Version s.next_version) None (slot_found (content past) slot))
          (started s slot s.next_version None) (begun s past a slot s.next_version None paged h) h n i;
    };
    cpus = h.cpus;
    next_version = ap (λ v. v + 1) h.next_version;
    versions = h.versions;
    enclaves = h.enclaves;
  }

  -- a page starts to come back
  pub eldstart_columns : (a : Actor) (f : Frame) (page : Page) (slot : SlotAt) → is_va (s.content slot.frame.0) ≡ true
      → HasColumns (after_eldstart s f.0 page slot) (did_by a (EldStart f page slot) (Version (version_at s slot)) ∷ past)
  eldstart_columns a f page slot paged = record {
    frames = λ i. record (put f.0 (IsLoading page) (h.frames i)) {
      start = λ n. starts_with s past f.0
          (opening.started a (length past) slot (Version (version_at s slot)) (Some page) (slot_found (content past) slot))
          (started s slot (version_at s slot) (Some page)) (begun s past a slot (version_at s slot) (Some page) paged h) h n i;
    };
    cpus = h.cpus;
    next_version = h.next_version;
    versions = put_versions s past f.0 (IsLoading page) refl h.versions;
    enclaves = h.enclaves;
  }

-- ---- the commits

-- a page that comes back as a version array page is of that name
pub back_named : (page : Page) (o : Option (Kind × Perm)) (number : ℕ) → reloaded page o ≡ IsVa number
    → same_page page (va_page number) ≡ true
back_named page o number is = by_name (is_va_page page) refl (is_secs_page page) o is
  where
    by_name : (va : Bool) → is_va_page page ≡ va → (secs : Bool) (o : Option (Kind × Perm))
        → cond va (IsVa page.number) (cond secs (SecsOf page.enclave) (reloaded_as page o)) ≡ IsVa number
        → same_page page (va_page number) ≡ true
    by_name true e secs o is = let same : page.number ≡ number = cc is in rw (e, same) (eq-eqb number number refl)
    by_name false e true o is = cc is
    by_name false e false None is = cc is
    by_name false e false (Some x) is = cc is

module _ (s : State) (past : List Entry) (a : Actor) (f : Frame) (start : BareStart) (is : s.start f.0 ≡ Some start) (h : HasColumns s past)
    (guarded : IsGuarded s) where
  -- the start by the entries, whose slot is found still where it was
  by_entries : IsBareOf (open_start past f.0) start
  by_entries = started_as s past h f.0 start is

  found : IsFound past by_entries.start
  found = found_as s past h guarded f.0 by_entries.start by_entries.opened

  arrays : ArraysApart (vas_made past) (content past)
  arrays = arrays_as s past h guarded

  elsewhere : (n : ℕ) → (f.0 == n) ≡ false → (n == f.0) ≡ false
  elsewhere n e = apart n f.0 (λ same. false≢true (sym e ∙ eq-eqb f.0 n (sym same)))

  -- the version array pages in the other frames have what the entries say, where they had it before a page is out
  out : (page : Page) (tag : List ℕ) (n number : ℕ) → (f.0 == n) ≡ false → s.content n ≡ IsVa number → HasVersions s past n number
      → HasVersions (after_ewb s f.0 start) (did_by a (Ewb f) (Moved page start.version tag) ∷ past) n number
  out page tag n number e held had =
      subst (λ (x : BareStart). HasVersions (after_ewb s f.0 x) (did_by a (Ewb f) (Moved page x.version tag) ∷ past) n number)
      by_entries.same
      (ewb_versions s past a f by_entries.start by_entries.opened found arrays page tag n number (elsewhere n e)
      (sym (content_is h n) ∙ held) had)

  -- .. and before one is back
  back : (page : Page) (plain tag : List ℕ) (n number : ℕ) → (f.0 == n) ≡ false → s.content n ≡ IsVa number → HasVersions s past n number
      → HasVersions (after_eld s f.0 start (reloaded page (s.added page)) plain)
      (did_by a (Eld f) (Moved page start.version tag) ∷ past) n number
  back page plain tag n number e held had =
      subst (λ (x : BareStart). HasVersions (after_eld s f.0 x (reloaded page (s.added page)) plain)
      (did_by a (Eld f) (Moved page x.version tag) ∷ past) n number) by_entries.same
      (eld_versions s past a f by_entries.start by_entries.opened found arrays (reloaded page (s.added page)) plain page
      by_entries.start.version tag n number (elsewhere n e) (sym (content_is h n) ∙ held) had)

  -- a page is out, and its version in the slot
  pub ewb_columns : (page : Page) (tag : List ℕ) → HasColumns (after_ewb s f.0 start)
      (did_by a (Ewb f) (Moved page start.version tag) ∷ past)
  ewb_columns page tag = record {
    frames = λ i. record (put f.0 Free (with_sealing f.0 false (h.frames i))) { start = λ n. starts s past f.0 None h n i };
    cpus = h.cpus;
    next_version = h.next_version;
    versions = λ n number. by_test n number (f.0 == n) refl;
    enclaves = h.enclaves;
  }
    where
      by_test : (n number : ℕ) (b : Bool) → (f.0 == n) ≡ b → cond b Free (s.content n) ≡ IsVa number → came_back past number ≡ false
          → HasVersions (after_ewb s f.0 start) (did_by a (Ewb f) (Moved page start.version tag) ∷ past) n number
      by_test n number true e held still = cc held
      by_test n number false e held still = out page tag n number e held (h.versions n number held still)

  -- .. also of a page that was reloaded
  pub ewb_arrays : (page : Page) (tag : List ℕ) → HasAllVersions s past
      → HasAllVersions (after_ewb s f.0 start) (did_by a (Ewb f) (Moved page start.version tag) ∷ past)
  ewb_arrays page tag all n number = by_test (f.0 == n) refl
    where
      by_test : (b : Bool) → (f.0 == n) ≡ b → cond b Free (s.content n) ≡ IsVa number
          → HasVersions (after_ewb s f.0 start) (did_by a (Ewb f) (Moved page start.version tag) ∷ past) n number
      by_test true e held = cc held
      by_test false e held = out page tag n number e held (all n number held)

  -- a page is back, and no version in the slot
  pub eld_columns : (page : Page) (plain tag : List ℕ) → HasColumns (after_eld s f.0 start (reloaded page (s.added page)) plain)
      (did_by a (Eld f) (Moved page start.version tag) ∷ past)
  eld_columns page plain tag = record {
    frames = λ i. record (put f.0 (reloaded page (added_is h page i)) (h.frames i)) { start = λ n. starts s past f.0 None h n i };
    cpus = h.cpus;
    next_version = h.next_version;
    versions = λ n number. by_test n number (f.0 == n) refl;
    enclaves = h.enclaves;
  }
    where
      by_test : (n number : ℕ) (b : Bool) → (f.0 == n) ≡ b → cond b (reloaded page (s.added page)) (s.content n) ≡ IsVa number
          → (same_page page (va_page number) || came_back past number) ≡ false
          → HasVersions (after_eld s f.0 start (reloaded page (s.added page)) plain)
          (did_by a (Eld f) (Moved page start.version tag) ∷ past) n number
      by_test n number true e held still =
          absurd (false≢true (sym (neither (same_page page (va_page number)) (came_back past number) still).0
          ∙ back_named page (s.added page) number held))
      by_test n number false e held still =
          back page plain tag n number e held
          (h.versions n number held (neither (same_page page (va_page number)) (came_back past number) still).1)

  -- .. also of a page that was reloaded, where this one is right if it is a version array page
  pub eld_arrays : (page : Page) (plain tag : List ℕ) → HasAllVersions s past
      → HasBack (after_eld s f.0 start (reloaded page (s.added page)) plain) past (did_by a (Eld f) (Moved page start.version tag))
      → HasAllVersions (after_eld s f.0 start (reloaded page (s.added page)) plain)
      (did_by a (Eld f) (Moved page start.version tag) ∷ past)
  eld_arrays page plain tag all right n number = by_test (f.0 == n) refl
    where
      by_test : (b : Bool) → (f.0 == n) ≡ b → cond b (reloaded page (s.added page)) (s.content n) ≡ IsVa number
          → HasVersions (after_eld s f.0 start (reloaded page (s.added page)) plain)
          (did_by a (Eld f) (Moved page start.version tag) ∷ past) n number
      by_test false e held = back page plain tag n number e held (all n number held)
      by_test true e held =
          let here = eqb-true f.0 n e in
          subst (λ m. HasVersions (after_eld s f.0 start (reloaded page (s.added page)) plain)
          (did_by a (Eld f) (Moved page start.version tag) ∷ past) m number) here
          (right number (rw (eq-eqb f.0 f.0 refl) held))

  -- a load is refused; its frame held no page that was on its way out
  pub failed_eld_columns : (why : Refusal) → s.is_sealing f.0 ≡ false
      → HasColumns (after_failed_eld s f.0 start) (refused_by a (Eld f) why ∷ past)
  failed_eld_columns why idle = record {
    frames = λ i. record (put f.0 Free (h.frames i)) { is_sealing = λ n. settled n i; start = λ n. starts s past f.0 None h n i };
    cpus = h.cpus;
    next_version = h.next_version;
    versions = put_versions s past f.0 Free refl h.versions;
    enclaves = h.enclaves;
  }
    where
      settled : (n : ℕ) → cond (f.0 == n) false (s.is_sealing n) ≡ is_sealing past n
      settled n = cond_both (f.0 == n) false (s.is_sealing n) (λ v. v ≡ is_sealing past n)
          (λ same. sym idle ∙ ap s.is_sealing (eqb-true f.0 n same) ∙ sealing_is h n) (λ _. sealing_is h n)
