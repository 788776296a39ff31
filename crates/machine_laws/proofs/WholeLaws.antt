-- A machine that stands in all for its entries and records goes on to, by each instruction and each commit, where no record is
-- forged.
use Rattle.std.proofs.Common.{◌≡◌, ℕ, ◌≤◌, inl, inr, Bool, true, false, refl, sym, ap, subst, ◌∙◌, Option, Some, None, is_some, List, []}
use Rattle.std.proofs.Common.{◌∷◌, ◌++◌}
use Rattle.sgx_rules.specs.declared.entries.Entry.{Entry}
use Rattle.sgx_types.specs.declared.names.Actor.{Actor}
use Rattle.sgx_types.specs.declared.names.Actor.TheVariants as actors
use Rattle.sgx_rules.specs.declared.entries.Action.{Action}
use Rattle.sgx_rules.specs.declared.entries.Action.TheVariants.{Eld, Ewb, Init}
use Rattle.sgx_rules.specs.declared.entries.Answer.{Answer}
use Rattle.sgx_types.specs.declared.names.Frame.{Frame}
use Rattle.sgx_rules.specs.declared.refusals.Refusal.{Refusal}
use Rattle.sgx_rules.specs.Processors.{Stay, stay}
use Rattle.sgx_rules.specs.Rules.{NoPageTwice, RefusalRule}
use Rattle.sgx_rules.specs.Sights.{row_at, stay_of}
use Rattle.sgx_types.specs.Sealed.{Sealed}
use Rattle.sgx_types.specs.Cases.{first_of_row}
use Rattle.sgx_rules.specs.Table.{is_loading}
use Rattle.sgx_types.specs.Making.{Making}
use Rattle.measure_log.specs.Rule.{MeasureRule}
use Rattle.seal_record.specs.Records.{Given, Made, Unforged}
use Rattle.machine_copies.specs.inner.Copies.{InFrame}
use Rattle.sgx_rules.specs.Fresh.{ReloadRule}
use Rattle.machine_copies.specs.inner.Once.{KeepsMoves}
use Rattle.seal_record.specs.Sealing.{SealedRule}
use Rattle.seal_record.specs.inner.Sealing.{made_by}
use Rattle.machine_copies.proofs.CopyLaws.{live_copies}
use Rattle.machine_laws.specs.inner.Guarded.{IsGuarded}
use Rattle.machine_copies.specs.inner.Away.{BytesRest}
use Rattle.machine_copies.proofs.RestLaws.{bytes_rest}
use Rattle.machine_laws.specs.inner.Columns.{HasAllVersions, HasBack}
use Rattle.machine_laws.proofs.MoveEnds.{IsDoneBack}
use Rattle.machine_laws.specs.inner.Histories.{BringsBytes, BringsBack, BringsIn, OutsideBytes, StandsWithAllRules, given_out, looked_at}
use Rattle.machine_laws.specs.inner.Notes.{IsDidEvent, IsNote}
use Rattle.machine_laws.proofs.NoteLaws.{noted_arrays, noted_brings, noted_keeps, noted_made, noted_reload, noted_sealed, noted_shaped}
use Rattle.seal_record.specs.Cipher.{cipher}
use Rattle.machine_laws.specs.inner.Shape.{ShapeWithRules}
use Rattle.machine_laws.specs.inner.Stands.{HasEnclaves, IsSound, StandsWithRules}
use Rattle.machine_laws.specs.inner.State.{State, after_failed_eld, fresh, making_of, row_outside}
use Rattle.machine_laws.specs.inner.Steps.{CanApply, CanEnd, IsNoProcessor, IsReloaded, IsStep, IsWrittenOut, commit_row, did_by}
use Rattle.machine_laws.specs.inner.Steps.{is_of_cpus, refused_by}
use Rattle.machine_laws.proofs.ProcessorLaws.{mode_by_entries}
use Rattle.machine_laws.proofs.ShapeColumns.{is_eld}
use Rattle.machine_laws.proofs.ShapeLaws.{IsNextTo, held_by, shaped_more}
use Rattle.machine_laws.proofs.ShapeRows.{refused_next}
use Rattle.machine_laws.proofs.ShapeSteps.{fresh_shaped, reloaded_arrays, reloaded_shaped, step_arrays, step_shaped, written_arrays}
use Rattle.machine_laws.proofs.ShapeSteps.{back_arrays, written_shaped}
use Rattle.machine_laws.proofs.OutsideLaws.{outside_more, refused_keeps, step_keeps}
use Rattle.machine_laws.proofs.ReloadLaws.{keeps_moves, reload_back, reload_fresh, reload_words}
use Rattle.machine_laws.proofs.NextEntry.{Brings, once_before, refused_brings, stands_more}
use Rattle.machine_laws.proofs.StepLaws.{step_brings}
use Rattle.machine_laws.proofs.MoveLaws.{reloaded_brings, written_brings}
use Rattle.machine_laws.proofs.StepRecords.{GivesRecord, made_same, made_same_eld, outside_written, reloaded_keeps, sealed_quiet}
use Rattle.machine_laws.proofs.StepRecords.{sealed_quiet_eld}
use Rattle.machine_laws.proofs.RowLaws.{row_outside_agrees, step_entry, IsEntryOf}

-- ---- the rules of one entry more

-- the rule on reloads has nothing to say of an instruction
did_reload : (past : List Entry) (cpus : ℕ) (a : Actor) (action : Action) (answer : Answer) → CanApply cpus a action
    → ReloadRule past (did_by a action answer)
did_reload past cpus a (Eld f) answer can = absurd can
did_reload past cpus a action answer can = tt

step_reload : (past : List Entry) (cpus : ℕ) (a : Actor) (action : Action) (e : Entry) → CanApply cpus a action → IsEntryOf a action e
    → ReloadRule past e
step_reload past cpus a action e can (inl (answer, told)) =
    subst (λ x. ReloadRule past x) (sym told) (did_reload past cpus a action answer can)
step_reload past cpus a action e can (inr (r, told)) = subst (λ x. ReloadRule past x) (sym told) tt

same_frame : (m n : ℕ) → Some (InFrame m) ≡ Some (InFrame n) → m ≡ n
same_frame m n e = cc

module _ (s t : State) (made : Making) (past : List Entry) (records : List Made) (e : Entry) (h : StandsWithAllRules made s past records)
    (shaped : ShapeWithRules made t (e ∷ past)) (reload : ReloadRule past e) (brings : Brings s t past e)
  where
    -- the rules on instructions and versions are kept with one entry more
    keeps_more : KeepsMoves made (e ∷ past)
    keeps_more =
        let k = keeps_moves made s past records h in
        record {
          refusal = (subst (λ m. RefusalRule m past e) h.shaped.shape.making brings.refusal, k.refusal);
          flat = (brings.flat, k.flat);
          evict = shaped.evict;
          fresh = (record { rising = shaped.rising.0; reload = reload }, k.fresh);
        }

    -- so that no page stands in two frames
    once_more : NoPageTwice (e ∷ past)
    once_more m n g here there =
        let live = live_copies made (e ∷ past) h.positive keeps_more in
        same_frame m n (sym (live.framed m g here) ∙ live.framed n g there)

    -- and the machine goes on to stand for all
    all_more : (more : List Made) → HasAllVersions t (e ∷ past) → SealedRule made.key past e
        → (BytesRest past e → OutsideBytes made.key (e ∷ past)) → more ≡ made_by made.key (e ∷ past)
        → StandsWithAllRules made t (e ∷ past) more
    all_more more versions sealed outside is = record {
      positive = h.positive;
      shaped = shaped;
      standing = stands_more s t made past e h.shaped shaped once_more versions h.standing brings;
      fresh = (record { rising = shaped.rising.0; reload = reload }, h.fresh);
      sealed = (sealed, h.sealed);
      records = is;
      outside = outside (bytes_rest made past e h.positive keeps_more);
    }

-- ---- the steps

-- an instruction
pub step_all : (s t : State) (made : Making) (past : List Entry) (records : List Made) (cpus : ℕ) (a : Actor) (action : Action) (e : Entry)
    → cpus ≤ 16 → CanApply cpus a action → IsSound s → IsGuarded s → HasEnclaves s
    → IsSound t → IsGuarded t → IsStep s a action e t → StandsWithAllRules made s past records
    → StandsWithAllRules made t (e ∷ past) records
step_all s t made past records cpus a action e few can sound guarded framed sound' guarded' k h =
    all_more s t made past records e h shaped reload
    (step_brings s t past cpus few sound guarded framed h.standing.stands (once_before s past h.standing) a action e can k) records
    (step_arrays s t made past cpus a action e can sound guarded k h.shaped h.standing.stands.versions)
    (sealed_quiet made.key s t past cpus a action e can k)
    (λ rests. outside_more made.key past e (step_keeps s t past cpus a action e can sound k h.standing.stands
    (live_copies made past h.positive (keeps_moves made s past records h))) rests h.outside)
    (h.records ∙ sym (made_same made.key s t past cpus a action e can k))
  where
    shaped : ShapeWithRules made t (e ∷ past)
    shaped = step_shaped s t made past cpus a action e few can sound guarded sound' guarded' k h.shaped

    reload : ReloadRule past e
    reload = step_reload past cpus a action e can (step_entry s t a action e k)

-- an instruction of processors that is refused to who is none of them
module _ (s : State) (made : Making) (past : List Entry) (records : List Made) (a : Actor) (action : Action) (r : Refusal)
    (own : is_of_cpus action ≡ true) (sound : IsSound s) (guarded : IsGuarded s) (nobody : IsNoProcessor a)
    (refused : first_of_row (row_outside s action) ≡ Some r) (h : StandsWithAllRules made s past records) where
  no-eld : (x : Action) → is_of_cpus x ≡ true → is_eld x ≡ false
  no-eld (Eld f) is = cc is
  no-eld x is = refl

  outside : (x : Actor) → IsNoProcessor x → stay_of past x ≡ None
  outside (actors.Cpu p) past-all = none-inside (stay past p.0)
      (sym (mode_by_entries s past h.standing.stands p.0) ∙ ap is_some (guarded.few p.0 past-all))
    where
      none-inside : (o : Option Stay) → is_some o ≡ false → o ≡ None
      none-inside None is = refl
      none-inside (Some x) is = cc is
  outside actors.Builder past-all = refl
  outside actors.Reclaimer past-all = refl

  row : first_of_row (row_at (making_of s) past a action) ≡ Some r
  row = sym (row_outside_agrees s past a action own (outside a nobody) h.standing.stands) ∙ refused

  refusal : (x : Action) → is_of_cpus x ≡ true → first_of_row (row_at (making_of s) past a x) ≡ Some r
      → RefusalRule (making_of s) past (refused_by a x r)
  refusal (Ewb f) is k = cc is
  refusal (Eld f) is k = cc is
  refusal (Init enclave expect) is k = cc is
  refusal x is k = k

  measure : (x : Action) → is_of_cpus x ≡ true → MeasureRule past (refused_by a x r)
  measure (Init enclave expect) is = cc is
  measure x is = tt

  next : IsNextTo s s past (refused_by a action r)
  next = refused_next s past a action r (no-eld action own) h.shaped.shape.columns (held_by made s past h.shaped)

  shaped : ShapeWithRules made s (refused_by a action r ∷ past)
  shaped = shaped_more made s s past (refused_by a action r) guarded sound guarded h.shaped tt next

  pub refused_outside : StandsWithAllRules made s (refused_by a action r ∷ past) records
  refused_outside =
      all_more s s made past records (refused_by a action r) h shaped tt
      (refused_brings s past a action r (refusal action own row) (measure action own) h.standing.stands) records
      (next.arrays h.standing.stands.versions tt) tt
      (λ rests. outside_more made.key past (refused_by a action r) (refused_keeps past a action r) rests h.outside) h.records

-- the commit of a write-out
pub written_all : (s t : State) (made : Making) (past : List Entry) (records : List Made) (a : Actor) (f : Frame) (e : Entry) (rec : Sealed)
    → IsSound s → IsGuarded s → IsSound t → IsGuarded t → s.is_sealing f.0 ≡ true
    → IsWrittenOut s a f e rec t → StandsWithAllRules made s past records
    → StandsWithAllRules made t (e ∷ past) (records ++ given_out e.event rec)
written_all s t made past records a f e rec sound guarded sound' guarded' sealing out h =
    all_more s t made past records e h shaped reload (written_brings s t past a f e rec guarded sealing out h.standing)
    (records ++ given_out e.event rec)
    (written_arrays s t made past a f e rec sound guarded sealing out h.shaped h.standing.stands.versions)
    gives.sealed (λ rests. gives.outside rests h.outside) (ap (λ list. list ++ given_out e.event rec) h.records ∙ sym gives.made)
  where
    shaped : ShapeWithRules made t (e ∷ past)
    shaped = written_shaped s t made past a f e rec sound guarded sound' guarded' sealing out h.shaped

    reload : ReloadRule past e
    reload = subst (λ x. ReloadRule past x) (sym out.entry) tt

    gives : GivesRecord made.key past e rec
    gives = outside_written s t made past a f e rec out guarded h.standing h.shaped

-- the commit of a load, where the record that it allows brings the page back
pub reloaded_back : (s t : State) (made : Making) (past : List Entry) (records : List Made) (a : Actor) (f : Frame) (rec : Sealed)
    (e : Entry) → IsSound s → IsGuarded s → IsSound t → IsGuarded t → is_loading (s.content f.0) ≡ true → CanEnd s f.0 rec
    → (back : IsReloaded s a f rec e t) → StandsWithAllRules made s past records
    → (first_of_row (commit_row s f.0 back.coming rec) ≡ None
    → BringsBack made.key past f.0 back.coming.page back.coming.start.version rec)
    → StandsWithAllRules made t (e ∷ past) records
reloaded_back s t made past records a f rec e sound guarded sound' guarded' loading bring back h brings =
    all_more s t made past records e h shaped reload
    (reloaded_brings s t past a f rec e back
    (λ allowed. (words allowed).own)
    h.standing) records
    (reloaded_arrays s t made past a f e rec sound guarded loading back h.shaped arrays h.standing.stands.versions)
    (sealed_quiet_eld made.key s t past a f rec e back)
    (λ rests. outside_more made.key past e (reloaded_keeps s t past a f rec e back) rests h.outside)
    (h.records ∙ sym (made_same_eld made.key s t past a f rec e back))
  where
    words : first_of_row (commit_row s f.0 back.coming rec) ≡ None
        → BringsBytes past back.coming.page (cipher s.key back.coming.start.version rec.cipher)
    words allowed =
        reload_words s made past f.0 back.coming.page back.coming.start.version rec h.shaped.shape.making (brings allowed)

    -- a version array page comes back with its slots
    arrays : HasBack t past e
    arrays = back_arrays s t made past a f e rec sound guarded loading back h.shaped bring (λ allowed. (words allowed).array)

    shaped : ShapeWithRules made t (e ∷ past)
    shaped = reloaded_shaped s t made past a f e rec sound guarded sound' guarded' loading back h.shaped

    reload : ReloadRule past e
    reload = by_row (first_of_row (commit_row s f.0 back.coming rec)) refl
      where
        by_row : (o : Option Refusal) → first_of_row (commit_row s f.0 back.coming rec) ≡ o → ReloadRule past e
        by_row None allowed = reload_fresh s t made.key past a f rec e back allowed (brings allowed)
        by_row (Some r) refused =
            let row : (e ≡ refused_by a (Eld f) r) × (t ≡ after_failed_eld s f.0 back.coming.start) = rw refused at back.row in
            subst (λ x. ReloadRule past x) (sym row.0) tt

-- .. as every record does where none is forged
pub reloaded_all : (s t : State) (made : Making) (past : List Entry) (records : List Made) (a : Actor) (f : Frame) (rec : Sealed)
    (e : Entry) → IsSound s → IsGuarded s → IsSound t → IsGuarded t → is_loading (s.content f.0) ≡ true → CanEnd s f.0 rec
    → IsReloaded s a f rec e t → StandsWithAllRules made s past records → (given : List Given)
    → Unforged made.key records (given ++ looked_at s f.0 records rec) → StandsWithAllRules made t (e ∷ past) records
reloaded_all s t made past records a f rec e sound guarded sound' guarded' loading bring back h given unforged =
    reloaded_back s t made past records a f rec e sound guarded sound' guarded' loading bring back h
    (λ allowed. reload_back made s past records given f.0 back.coming rec allowed guarded h unforged)

-- .. or the record of the page that the frame waits for does
pub reloaded_told : (s t : State) (made : Making) (past : List Entry) (records : List Made) (a : Actor) (f : Frame) (rec : Sealed)
    (e : Entry) → IsSound s → IsGuarded s → IsSound t → IsGuarded t → is_loading (s.content f.0) ≡ true → CanEnd s f.0 rec
    → IsReloaded s a f rec e t → StandsWithAllRules made s past records
    → (IsDidEvent e.event → BringsIn made.key past s f.0 rec) → StandsWithAllRules made t (e ∷ past) records
reloaded_told s t made past records a f rec e sound guarded sound' guarded' loading bring back h brings =
    reloaded_back s t made past records a f rec e sound guarded sound' guarded' loading bring back h
    (λ allowed. brings (done allowed) back.coming.start back.coming.page back.coming.opened back.coming.loads)
  where
    done : first_of_row (commit_row s f.0 back.coming rec) ≡ None → IsDidEvent e.event
    done allowed =
        let row : IsDoneBack s a f rec e t back.coming
        = rw allowed at back.row in
        subst (λ (x : Entry). IsDidEvent x.event) (sym row.0) tt

-- ---- entries of no instruction

pub noted_all : (s : State) (made : Making) (past : List Entry) (records : List Made) (e : Entry) → IsNote e.event → IsSound s
    → IsGuarded s → StandsWithAllRules made s past records → StandsWithAllRules made s (e ∷ past) records
noted_all s made past records e note sound guarded h =
    all_more s s made past records e h (noted_shaped s made past e note sound guarded h.shaped) (noted_reload past e note)
    (noted_brings s past e note h.standing.stands) records (noted_arrays s past e note h.standing.stands.versions)
    (noted_sealed made.key past e note) (λ rests. outside_more made.key past e (noted_keeps past e note) rests h.outside)
    (h.records ∙ sym (noted_made made.key past e note))

-- a machine that has done nothing yet
fresh_stands : (frames cpus : ℕ) (key : List ℕ) (epoch version : ℕ) → StandsWithRules (fresh frames cpus key epoch version) []
fresh_stands frames cpus key epoch version = record {
  stands = record {
    columns = record {
      frames = refl;
      cpus = refl;
      next_version = refl;
      versions = λ n number held. cc held;
      enclaves = refl;
    };
    versions = λ n number held. cc held;
    memory = record { enclaves = refl; cpus = λ p. refl; words = λ n g kind perm is. cc; measure = λ e. refl };
  };
  rules = record {
    refusal = tt;
    flat = tt;
    fits = record { entries = tt; pages = λ m n g is. cc };
    stale = record { entries = tt; places = λ p. tt };
  };
  measure = tt;
}

pub fresh_all : (frames cpus : ℕ) (key : List ℕ) (first_epoch first_version : ℕ) → 1 ≤ first_version
    → StandsWithAllRules (making_of (fresh frames cpus key first_epoch first_version)) (fresh frames cpus key first_epoch first_version) []
    []
fresh_all frames cpus key first_epoch first_version low = record {
  positive = low;
  shaped = fresh_shaped frames cpus key first_epoch first_version;
  standing = fresh_stands frames cpus key first_epoch first_version;
  fresh = tt;
  sealed = tt;
  records = refl;
  outside = λ g slot v there. cc;
}
