-- Each step takes a machine that has the shape of its entries on to one that does, whatever records are brought.
use Rattle.std.proofs.Common.{◌≡◌, ℕ, ◌≤◌, inl, inr, Bool, true, false, refl, sym, ap, subst, ◌∙◌, Option, Some, None}
use Rattle.std.proofs.Common.{MatchOption, unwrap_or, List, [], ◌∷◌}
use Rattle.std.proofs.lemmas.Bool.{eq-eqb, eqb-true, false≢true}
use Rattle.std.proofs.lemmas.Option.{same_Some}
use Rattle.sgx_types.specs.declared.names.Page.{Page}
use Rattle.sgx_rules.specs.declared.entries.Entry.{Entry}
use Rattle.sgx_types.specs.declared.names.Actor.{Actor}
use Rattle.sgx_types.specs.declared.names.Actor.TheVariants as actors
use Rattle.sgx_rules.specs.declared.entries.Action.{Action}
use Rattle.sgx_rules.specs.declared.entries.Action.TheVariants.{Epa, Create, Add, Extend, Init, Enter, Resume, Exit, Aex, Fill}
use Rattle.sgx_rules.specs.declared.entries.Action.TheVariants.{Load, Store}
use Rattle.sgx_rules.specs.declared.entries.Action.TheVariants.{Xadd, Set, Plus, Pf, OutLoad, OutStore, Block, Track, EwbStart}
use Rattle.sgx_rules.specs.declared.entries.Action.TheVariants.{EldStart}
use Rattle.sgx_rules.specs.declared.entries.Action.TheVariants.{Eld}
use Rattle.sgx_rules.specs.declared.entries.Answer.{Answer}
use Rattle.sgx_rules.specs.declared.entries.Answer.TheVariants as answers
use Rattle.sgx_types.specs.declared.names.Frame.{Frame}
use Rattle.sgx_rules.specs.declared.refusals.Refusal.{Refusal}
use Rattle.sgx_rules.specs.declared.refusals.Refusal.TheVariants as why
use Rattle.sgx_types.specs.Pages.{no_perm}
use Rattle.sgx_types.specs.Pages.{is_va_page, va_page}
use Rattle.sgx_rules.specs.Frames.{Content, IsLoading, IsVa, reloaded}
use Rattle.sgx_rules.specs.PageBytes.{va_words}
use Rattle.sgx_rules.specs.inner.Arrays.{ArraysRest}
use Rattle.sgx_rules.specs.Starts.{open_start}
use Rattle.sgx_rules.specs.inner.Starts.{BareStart}
use Rattle.sgx_rules.proofs.Busy.{IsBareOf}
use Rattle.sgx_types.proofs.Pages.{same_pages}
use Rattle.epcm_entry.specs.inner.Words.{words_of}
use Rattle.sgx_types.specs.Sealed.{Sealed}
use Rattle.sgx_types.specs.Cases.{first_of_row}
use Rattle.sgx_rules.specs.Table.{is_loading, is_valid, perm_in}
use Rattle.sgx_types.specs.Making.{Making}
use Rattle.machine_copies.proofs.ArrayLaws.{rests_first}
use Rattle.seal_record.specs.Cipher.{cipher}
use Rattle.machine_laws.specs.inner.Columns.{HasAllVersions, HasBack, HasColumns, HasVersions}
use Rattle.machine_laws.specs.inner.Guarded.{IsGuarded, Loads, WritesOut}
use Rattle.machine_laws.specs.inner.Histories.{BringsArrayIn}
use Rattle.machine_laws.specs.inner.Notes.{IsDidEvent as IsDoneEvent}
use Rattle.machine_laws.specs.inner.Shape.{ShapeWithRules}
use Rattle.machine_laws.specs.inner.Stands.{IsSound}
use Rattle.machine_laws.specs.inner.State.{State, fresh, after_eld, after_failed_eld, making_of}
use Rattle.machine_laws.specs.inner.Steps.{did_by, refused_by, CanApply, CanEnd, IsStep, IsDone, IsWrittenOut, IsReloaded, commit_row}
use Rattle.machine_laws.proofs.ShapeColumns.{back_named, is_eld}
use Rattle.machine_laws.proofs.ColumnLaws.{content_is}
use Rattle.machine_laws.proofs.SlotLaws.{arrays_as, back_versions, found_as, started_as}
use Rattle.machine_laws.proofs.Contents.{waits_for}
use Rattle.machine_laws.proofs.FrameLaws.{reloaded_frames, step_frames, written_frames}
use Rattle.sgx_rules.specs.Rules.{Along, FitsRule}
use Rattle.machine_laws.proofs.MoveEnds.{IsDoneBack, IsRefusedBack, is_end, no_end}
use Rattle.machine_laws.proofs.RowLaws.{IsEntryOf, step_entry}
use Rattle.machine_laws.proofs.ShapeLaws.{older_agrees, newer_agrees, IsHeld, IsNextTo, held_by, shaped_more}
use Rattle.machine_laws.proofs.ShapeRows.{add_next, aex_next, block_next, create_next, eld_next, eldstart_next, enter_next}
use Rattle.machine_laws.proofs.ShapeRows.{epa_next}
use Rattle.machine_laws.proofs.ShapeRows.{ewb_next, ewbstart_next, exit_next, extend_next, failed_eld_next, fill_next, init_next}
use Rattle.machine_laws.proofs.ShapeRows.{load_next}
use Rattle.machine_laws.proofs.ShapeRows.{outload_next, outstore_next, pf_next, plus_next, refused_next, resume_next, set_next}
use Rattle.machine_laws.proofs.ShapeRows.{store_next}
use Rattle.machine_laws.proofs.ShapeRows.{track_next, xadd_next}

-- ---- every step

-- the same entry and state, under other names
next_as : (s t t' : State) (past : List Entry) (e e' : Entry) → e ≡ e' → t ≡ t' → IsNextTo s t' past e' → IsNextTo s t past e
next_as s t t' past e e' p q k = rw (p, q) k

-- a row allows an instruction, or refuses it
next_cases : (o : Option Refusal) (Done : Type 0) (s t : State) (past : List Entry) (e : Entry) (a : Actor) (action : Action)
    → is_eld action ≡ false → HasColumns s past → IsHeld past
    → (o ≡ None → Done → IsNextTo s t past e) → MatchOption o Done (λ r. (e ≡ refused_by a action r) × (t ≡ s)) → IsNextTo s t past e
next_cases None Done s t past e a action other h held f k = f refl k
next_cases (Some r) Done s t past e a action other h held f k = next_as s t s past e _ k.0 k.1 (refused_next s past a action r other h held)

-- what each instruction brings
step_next : (s t : State) (past : List Entry) (cpus : ℕ) (a : Actor) (action : Action) (e : Entry) → CanApply cpus a action → IsSound s
    → IsGuarded s → ArraysRest past → HasColumns s past → IsHeld past → IsStep s a action e t → IsNextTo s t past e
step_next s t past cpus a (Epa f) e can sound guarded rest h held k =
    next_cases _ (IsDone s a (Epa f) e t) s t past e a (Epa f) refl h held
    (λ allowed done. next_as s t _ past e _ done.0 done.1 (epa_next s past sound h held a f allowed rest)) k
step_next s t past cpus a (Create enclave f base size) e can sound guarded rest h held k =
    next_cases _ (IsDone s a (Create enclave f base size) e t) s t past e a (Create enclave f base size) refl h held
    (λ allowed done. next_as s t _ past e _ done.0 done.1.state
    (create_next s past sound h held a enclave f base size done.1.begun allowed)) k
step_next s t past cpus a (Add enclave number f kind perm init) e can sound guarded rest h held k =
    next_cases _ (IsDone s a (Add enclave number f kind perm init) e t) s t past e a (Add enclave number f kind perm init) refl h held
    (λ allowed done. next_as s t _ past e _ done.0 done.1.state
    (add_next s past sound h held a enclave number f kind perm init done.1.longer allowed)) k
step_next s t past cpus a (Extend f chunk) e can sound guarded rest h held k =
    next_cases _ (IsDone s a (Extend f chunk) e t) s t past e a (Extend f chunk) refl h held
    (λ allowed done. next_as s t _ past e _ done.0 done.1.state
    (extend_next s past sound h held a f chunk done.1.page.enclave done.1.longer)) k
step_next s t past cpus a (Init enclave expect) e can sound guarded rest h held k =
    next_cases _ (IsDone s a (Init enclave expect) e t) s t past e a (Init enclave expect) refl h held
    (λ allowed done.
    elim done.judged as (λ _. IsNextTo s t past e) [
      | inl is ↦ next_as s t _ past e _ is.1 is.2 (init_next s past sound h held a enclave expect done.digest)
      | inr other ↦ next_as s t s past e _ other.1 other.2
          (refused_next s past a (Init enclave expect) (why.BadMeasure done.digest) refl h held)
    ]) k
step_next s t past cpus a (Block f) e can sound guarded rest h held k =
    next_cases _ (IsDone s a (Block f) e t) s t past e a (Block f) refl h held
    (λ allowed done. next_as s t _ past e _ done.0 done.1 (block_next s past sound h held a f)) k
step_next s t past cpus a (Track enclave) e can sound guarded rest h held k =
    next_cases _ (IsDone s a (Track enclave) e t) s t past e a (Track enclave) refl h held
    (λ allowed done. next_as s t _ past e _ done.0 done.1 (track_next s past sound h held a enclave)) k
step_next s t past cpus a (EwbStart f slot) e can sound guarded rest h held k =
    next_cases _ (IsDone s a (EwbStart f slot) e t) s t past e a (EwbStart f slot) refl h held
    (λ allowed done. next_as s t _ past e _ done.0 done.1 (ewbstart_next s past sound h held a f slot guarded allowed)) k
step_next s t past cpus a (EldStart f page slot) e can sound guarded rest h held k =
    next_cases _ (IsDone s a (EldStart f page slot) e t) s t past e a (EldStart f page slot) refl h held
    (λ allowed done. next_as s t _ past e _ done.0 done.1 (eldstart_next s past sound h held a f page slot allowed)) k
step_next s t past cpus (actors.Cpu p) (Enter enclave tcs tf sf) e can sound guarded rest h held k =
    next_cases _ (IsDone s (actors.Cpu p) (Enter enclave tcs tf sf) e t) s t past e (actors.Cpu p) (Enter enclave tcs tf sf) refl h held
    (λ allowed done. next_as s t _ past e _ done.0 done.1 (enter_next s past sound h held p enclave tcs tf sf)) k
step_next s t past cpus (actors.Cpu p) (Resume enclave tcs tf sf) e can sound guarded rest h held k =
    next_cases _ (IsDone s (actors.Cpu p) (Resume enclave tcs tf sf) e t) s t past e (actors.Cpu p) (Resume enclave tcs tf sf) refl h held
    (λ allowed done. next_as s t _ past e _ done.0 done.1 (resume_next s past sound h held p enclave tcs tf sf)) k
step_next s t past cpus (actors.Cpu p) Exit e can sound guarded rest h held k =
    next_cases _ (IsDone s (actors.Cpu p) Exit e t) s t past e (actors.Cpu p) Exit refl h held
    (λ allowed done. next_as s t _ past e _ done.0 done.1 (exit_next s past sound h held p)) k
step_next s t past cpus (actors.Cpu p) (Aex cause) e can sound guarded rest h held k =
    next_cases _ (IsDone s (actors.Cpu p) (Aex cause) e t) s t past e (actors.Cpu p) (Aex cause) refl h held
    (λ allowed done. next_as s t _ past e _ done.0 done.1 (aex_next s past sound h held p cause)) k
step_next s t past cpus (actors.Cpu p) (Fill number f) e can sound guarded rest h held k =
    next_cases _ (IsDone s (actors.Cpu p) (Fill number f) e t) s t past e (actors.Cpu p) (Fill number f) refl h held
    (λ allowed done. next_as s t _ past e _ done.0 done.1
    (fill_next s past sound h held p (record { number = number; frame = f; perm = unwrap_or (perm_in (s.content f.0)) no_perm }))) k
step_next s t past cpus (actors.Cpu p) (Load off) e can sound guarded rest h held k =
    next_cases _ (IsDone s (actors.Cpu p) (Load off) e t) s t past e (actors.Cpu p) (Load off) refl h held
    (λ allowed done. next_as s t _ past e _ done.0 done.1 (load_next s past sound h held p off allowed)) k
step_next s t past cpus (actors.Cpu p) (Store off value) e can sound guarded rest h held k =
    next_cases _ (IsDone s (actors.Cpu p) (Store off value) e t) s t past e (actors.Cpu p) (Store off value) refl h held
    (λ allowed done. next_as s t _ past e _ done.0 done.1 (store_next s past sound h held p off value allowed)) k
step_next s t past cpus (actors.Cpu p) (Xadd off value) e can sound guarded rest h held k =
    next_cases _ (IsDone s (actors.Cpu p) (Xadd off value) e t) s t past e (actors.Cpu p) (Xadd off value) refl h held
    (λ allowed done. next_as s t _ past e _ done.0 done.1 (xadd_next s past sound h held p off value allowed)) k
step_next s t past cpus (actors.Cpu p) (Set value) e can sound guarded rest h held k =
    next_cases _ (IsDone s (actors.Cpu p) (Set value) e t) s t past e (actors.Cpu p) (Set value) refl h held
    (λ allowed done. next_as s t _ past e _ done.0 done.1 (set_next s past sound h held p value)) k
step_next s t past cpus (actors.Cpu p) (Plus value) e can sound guarded rest h held k =
    next_cases _ (IsDone s (actors.Cpu p) (Plus value) e t) s t past e (actors.Cpu p) (Plus value) refl h held
    (λ allowed done. next_as s t _ past e _ done.0 done.1 (plus_next s past sound h held p value _)) k
step_next s t past cpus (actors.Cpu p) (Pf op off) e can sound guarded rest h held k =
    next_cases _ (IsDone s (actors.Cpu p) (Pf op off) e t) s t past e (actors.Cpu p) (Pf op off) refl h held
    (λ allowed done. next_as s t _ past e _ done.0 done.1 (pf_next s past sound h held p op off _)) k
step_next s t past cpus (actors.Cpu p) (OutLoad enclave off) e can sound guarded rest h held k =
    next_cases _ (IsDone s (actors.Cpu p) (OutLoad enclave off) e t) s t past e (actors.Cpu p) (OutLoad enclave off) refl h held
    (λ allowed done. next_as s t _ past e _ done.0 done.1 (outload_next s past sound h held p enclave off _)) k
step_next s t past cpus (actors.Cpu p) (OutStore enclave off value) e can sound guarded rest h held k =
    next_cases _ (IsDone s (actors.Cpu p) (OutStore enclave off value) e t) s t past e (actors.Cpu p) (OutStore enclave off value) refl h
    held (λ allowed done. next_as s t _ past e _ done.0 done.1 (outstore_next s past sound h held p enclave off value _)) k
step_next s t past cpus a action e can sound guarded rest h held k = absurd can

-- each instruction that can be applied
pub step_brought : (s t : State) (made : Making) (past : List Entry) (cpus : ℕ) (a : Actor) (action : Action) (e : Entry)
    → CanApply cpus a action → IsSound s → IsGuarded s → IsStep s a action e t → ShapeWithRules made s past → IsNextTo s t past e
step_brought s t made past cpus a action e can sound guarded k h =
    step_next s t past cpus a action e can sound guarded h.rest h.shape.columns (held_by made s past h) k

pub step_shaped : (s t : State) (made : Making) (past : List Entry) (cpus : ℕ) (a : Actor) (action : Action) (e : Entry) → cpus ≤ 16
    → CanApply cpus a action → IsSound s → IsGuarded s → IsSound t → IsGuarded t
    → IsStep s a action e t → ShapeWithRules made s past → ShapeWithRules made t (e ∷ past)
step_shaped s t made past cpus a action e few can sound guarded sound' guarded' k h =
    shaped_more made s t past e guarded sound' guarded' h (step_frames s t past cpus a action e can h.shape.columns k)
    (step_brought s t made past cpus a action e can sound guarded k h)

-- .. brings no version array page back, so that each has what the entries say where it had before
pub step_arrays : (s t : State) (made : Making) (past : List Entry) (cpus : ℕ) (a : Actor) (action : Action) (e : Entry)
    → CanApply cpus a action → IsSound s → IsGuarded s → IsStep s a action e t → ShapeWithRules made s past
    → HasAllVersions s past → HasAllVersions t (e ∷ past)
step_arrays s t made past cpus a action e can sound guarded k h all =
    (step_brought s t made past cpus a action e can sound guarded k h).arrays all (by_entry (step_entry s t a action e k))
  where
    other : (action : Action) (answer : Answer) → is_end action ≡ false → HasBack t past (did_by a action answer)
    other (Eld f) answer none = cc none
    other action answer none = tt

    by_entry : IsEntryOf a action e → HasBack t past e
    by_entry (inl (answer, is)) = subst (HasBack t past) (sym is) (other action answer (no_end cpus a action can))
    by_entry (inr (r, is)) = subst (HasBack t past) (sym is) tt

-- the rule on frames, at the frames of a state
frames_in : (made : Making) (s : State) (past : List Entry) → ShapeWithRules made s past → Along (FitsRule s.frames) past
frames_in made s past h = subst (λ (n : ℕ). Along (FitsRule n) past) (ap (λ (m : Making). m.frames) (sym h.shape.making)) h.frames

-- the commit of a write-out
pub written_brought : (s t : State) (made : Making) (past : List Entry) (a : Actor) (f : Frame) (e : Entry) (rec : Sealed) → IsSound s
    → IsGuarded s → s.is_sealing f.0 ≡ true → IsWrittenOut s a f e rec t → ShapeWithRules made s past → IsNextTo s t past e
written_brought s t made past a f e rec sound guarded sealing out h =
    let writes : WritesOut out.leaving.start = rw out.leaving.opened at (guarded.written f.0 sealing) in
    next_as s t _ past e _ out.entry out.state (ewb_next s past sound h.shape.columns (held_by made s past h) a f out.leaving.start
    out.leaving.page rec.tag guarded out.leaving.opened sealing out.leaving.held writes)

pub written_shaped : (s t : State) (made : Making) (past : List Entry) (a : Actor) (f : Frame) (e : Entry) (rec : Sealed) → IsSound s
    → IsGuarded s → IsSound t → IsGuarded t → s.is_sealing f.0 ≡ true
    → IsWrittenOut s a f e rec t → ShapeWithRules made s past → ShapeWithRules made t (e ∷ past)
written_shaped s t made past a f e rec sound guarded sound' guarded' sealing out h =
    shaped_more made s t past e guarded sound' guarded' h (written_frames s t past a f e rec (frames_in made s past h) h.shape.columns out)
    (written_brought s t made past a f e rec sound guarded sealing out h)

pub written_arrays : (s t : State) (made : Making) (past : List Entry) (a : Actor) (f : Frame) (e : Entry) (rec : Sealed) → IsSound s
    → IsGuarded s → s.is_sealing f.0 ≡ true → IsWrittenOut s a f e rec t → ShapeWithRules made s past
    → HasAllVersions s past → HasAllVersions t (e ∷ past)
written_arrays s t made past a f e rec sound guarded sealing out h all =
    (written_brought s t made past a f e rec sound guarded sealing out h).arrays all (subst (HasBack t past) (sym out.entry) tt)

-- the commit of a reload, of whatever record
module _ (s t : State) (made : Making) (past : List Entry) (a : Actor) (f : Frame) (e : Entry) (rec : Sealed) (sound : IsSound s)
    (guarded : IsGuarded s) (loading : is_loading (s.content f.0) ≡ true) (back : IsReloaded s a f rec e t) (h : ShapeWithRules made s past)
  where
    waits : s.content f.0 ≡ IsLoading back.coming.page
    waits =
        let k = waits_for (s.content f.0) loading in
        let its : Loads k.0 back.coming.start = rw back.coming.opened at (guarded.loaded f.0 k.0 k.1) in
        let same : k.0 ≡ back.coming.page = same_Some k.0 back.coming.page (sym its ∙ back.coming.loads) in
        k.1 ∙ ap IsLoading same

    idle : (b : Bool) → s.is_sealing f.0 ≡ b → b ≡ false
    idle true is = absurd (false≢true (sym (ap is_valid waits) ∙ guarded.goes_out f.0 is))
    idle false is = refl

    by_row : (o : Option Refusal)
        → MatchOption o
        ((e ≡ did_by a (Eld f) (answers.Moved back.coming.page back.coming.start.version rec.tag))
        × (t ≡ after_eld s f.0 back.coming.start (reloaded back.coming.page (s.added back.coming.page))
        (cipher s.key back.coming.start.version rec.cipher)))
        (λ r. (e ≡ refused_by a (Eld f) r) × (t ≡ after_failed_eld s f.0 back.coming.start))
        → IsNextTo s t past e
    by_row None k =
        next_as s t _ past e _ k.0 k.1
        (eld_next s past sound h.shape.columns (held_by made s past h) a f back.coming.start back.coming.page _ rec.tag guarded
        back.coming.opened waits back.coming.loads)
    by_row (Some r) k =
        next_as s t _ past e _ k.0 k.1
        (failed_eld_next s past sound h.shape.columns (held_by made s past h) a f back.coming.start r guarded back.coming.opened
        back.coming.page waits (idle (s.is_sealing f.0) refl))

    -- a version array page comes back with what its record brings, which is right where it is what the entries say
    pub back_arrays : CanEnd s f.0 rec → (first_of_row (commit_row s f.0 back.coming rec) ≡ None → is_va_page back.coming.page ≡ true
        → words_of (cipher s.key back.coming.start.version rec.cipher) ≡ va_words past back.coming.page.number) → HasBack t past e
    back_arrays bring brings = right (first_of_row (commit_row s f.0 back.coming rec)) refl back.row
      where
        x : IsBareOf (open_start past f.0) back.coming.start
        x = started_as s past h.shape.columns f.0 back.coming.start back.coming.opened

        right : (o : Option Refusal) → first_of_row (commit_row s f.0 back.coming rec) ≡ o
            → MatchOption o (IsDoneBack s a f rec e t back.coming) (IsRefusedBack s a f e t back.coming) → HasBack t past e
        right (Some r) refused k = rw k.0 tt
        right None allowed k = rw (k.0, k.1) (λ number held. as_named number (rw (eq-eqb f.0 f.0 refl) at held))
          where
            page : Page
            page = back.coming.page

            plain : List ℕ
            plain = cipher s.key back.coming.start.version rec.cipher

            as_named : (number : ℕ) → reloaded page (s.added page) ≡ IsVa number
                → HasVersions (after_eld s f.0 back.coming.start (reloaded page (s.added page)) plain)
                (did_by a (Eld f) (answers.Moved page back.coming.start.version rec.tag) ∷ past) f.0 number
            as_named number held =
                let same = same_pages page (va_page number) (back_named page (s.added page) number held) in
                let va : is_va_page page ≡ true = ap is_va_page same in
                let words : words_of plain ≡ va_words past number = brings allowed va ∙ ap (λ (g : Page). va_words past g.number) same in
                subst (λ (c : Content). HasVersions (after_eld s f.0 back.coming.start c plain)
                (did_by a (Eld f) (answers.Moved page back.coming.start.version rec.tag) ∷ past) f.0 number) (sym held)
                (subst (λ (y : BareStart). HasVersions (after_eld s f.0 y (IsVa number) plain)
                (did_by a (Eld f) (answers.Moved page back.coming.start.version rec.tag) ∷ past) f.0 number) x.same
                (back_versions s past a f x.start x.opened (found_as s past h.shape.columns guarded f.0 x.start x.opened)
                (arrays_as s past h.shape.columns guarded) plain page back.coming.start.version rec.tag number
                (λ n there. (bring back.coming allowed).away page waits va n
                (content_is h.shape.columns n ∙ there ∙ ap (λ (g : Page). IsVa g.number) (sym same))) words))

    pub reloaded_brought : IsNextTo s t past e
    reloaded_brought = by_row (first_of_row (commit_row s f.0 back.coming rec)) back.row

    -- .. where it brings a version array page back, with what the entries say
    pub reloaded_arrays : HasBack t past e → HasAllVersions s past → HasAllVersions t (e ∷ past)
    reloaded_arrays right all = reloaded_brought.arrays all right

-- .. or with what its record brings, where that is what last went out
pub reloaded_arrays_told : (s t : State) (made : Making) (past : List Entry) (a : Actor) (f : Frame) (e : Entry) (rec : Sealed)
    → IsSound s → IsGuarded s → is_loading (s.content f.0) ≡ true → CanEnd s f.0 rec → IsReloaded s a f rec e t → ShapeWithRules made s past
    → HasAllVersions s past → (IsDoneEvent e.event → BringsArrayIn made.key past s f.0 rec) → HasAllVersions t (e ∷ past)
reloaded_arrays_told s t made past a f e rec sound guarded loading bring back h all brings =
    reloaded_arrays s t made past a f e rec sound guarded loading back h
    (back_arrays s t made past a f e rec sound guarded loading back h bring right) all
  where
    right : first_of_row (commit_row s f.0 back.coming rec) ≡ None → is_va_page back.coming.page ≡ true
        → words_of (cipher s.key back.coming.start.version rec.cipher) ≡ va_words past back.coming.page.number
    right allowed va =
        let row : IsDoneBack s a f rec e t back.coming = rw allowed at back.row in
        let done : IsDoneEvent e.event = subst (λ (x : Entry). IsDoneEvent x.event) (sym row.0) tt in
        let page = back.coming.page in
        let named : va_page page.number ≡ page = λ i. record { enclave = sym (eqb-true page.enclave 0 va) i; number = page.number } in
        let k = brings done back.coming.start page.number back.coming.opened (back.coming.loads ∙ ap Some (sym named)) in
        let key : made.key ≡ s.key = ap (λ (m : Making). m.key) (sym h.shape.making) in
        ap (λ key. words_of (cipher key back.coming.start.version rec.cipher)) (sym key) ∙ k.back
        ∙ sym (h.rest.rest page.number k.words k.last)

pub reloaded_shaped : (s t : State) (made : Making) (past : List Entry) (a : Actor) (f : Frame) (e : Entry) (rec : Sealed) → IsSound s
    → IsGuarded s → IsSound t → IsGuarded t → is_loading (s.content f.0) ≡ true
    → IsReloaded s a f rec e t → ShapeWithRules made s past → ShapeWithRules made t (e ∷ past)
reloaded_shaped s t made past a f e rec sound guarded sound' guarded' loading back h =
    shaped_more made s t past e guarded sound' guarded' h
    (reloaded_frames s t past a f e rec (frames_in made s past h) h.shape.columns back)
    (reloaded_brought s t made past a f e rec sound guarded loading back h)

-- a machine that has done nothing has the shape of no entries
pub fresh_shaped : (frames cpus : ℕ) (key : List ℕ) (first_epoch first_version : ℕ)
    → ShapeWithRules (making_of (fresh frames cpus key first_epoch first_version)) (fresh frames cpus key first_epoch first_version) []
fresh_shaped frames cpus key first_epoch first_version = record {
  shape = record {
    making = refl;
    columns = columns;
    older = λ e. older_agrees s [] columns e;
    newer = λ e. newer_agrees s [] columns e;
    busy = λ g. record { taken = λ is. cc; busy = λ k. absurd k.by };
    slots_busy = λ n number index held low. cc held;
  };
  frames = tt;
  stale = record { entries = tt; places = λ p. tt };
  evict = tt;
  rising = tt;
  rest = rests_first;
}
  where
    s : State
    s = fresh frames cpus key first_epoch first_version

    columns : HasColumns s []
    columns = record {
      frames = refl;
      cpus = refl;
      next_version = refl;
      versions = λ n number held. cc held;
      enclaves = refl;
    }
