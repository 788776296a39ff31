-- Whatever a fresh machine comes to has the shape of its entries, and stands in all for them where no record was forged.
use Rattle.std.proofs.Common.{◌≡◌, zero, suc, ◌≤◌, sym, subst, arith, Option, Some, None, List, [], ◌∷◌, ◌++◌, length}
use Rattle.std.proofs.Common.{All}
use Rattle.std.proofs.lemmas.List.{append-nil, length-append}
use Rattle.std.proofs.lemmas.List.Elements.{All-append, All-nil, All-weaker}
use Rattle.sgx_rules.specs.declared.entries.Entry.{Entry}
use Rattle.sgx_types.specs.Making.{Making}
use Rattle.sgx_types.specs.Sealed.{Sealed}
use Rattle.sgx_rules.specs.inner.Starts.{BareStart}
use Rattle.seal_record.specs.Records.{Given, Made, Unforged}
use Rattle.seal_record.proofs.RecordLaws.{Unforged-before}
use Rattle.machine_laws.specs.inner.Histories.{StandsWithAllRules, given_out, looked_at, looked_at_by}
use Rattle.machine_laws.specs.inner.Runs.{Run, nothing, step, written, reloaded as comes_back, noted}
use Rattle.machine_laws.specs.inner.Shape.{ShapeWithRules}
use Rattle.machine_laws.specs.inner.State.{State, making_of}
use Rattle.machine_laws.proofs.NoteLaws.{noted_shaped}
use Rattle.machine_laws.proofs.ShapeSteps.{fresh_shaped, reloaded_shaped, step_shaped, written_shaped}
use Rattle.machine_laws.proofs.WholeLaws.{fresh_all, noted_all, reloaded_all, step_all, written_all}

-- the numbers of a machine's making stay
shaped_made : (s t : State) (past : List Entry) → ShapeWithRules (making_of s) t past → ShapeWithRules (making_of t) t past
shaped_made s t past h = subst (λ (m : Making). ShapeWithRules m t past) (sym h.shape.making) h

-- whatever a fresh machine comes to has the shape of its entries
pub every_run : (s : State) (past : List Entry) (made : List Made) (given : List Given) → Run s past made given
    → ShapeWithRules (making_of s) s past
every_run x all records looks (nothing frames cpus key first_epoch first_version) = fresh_shaped frames cpus key first_epoch first_version
every_run x all records looks (step s t past made given a action e run old new few can k) =
    shaped_made s t (e ∷ past) (step_shaped s t (making_of s) past s.cpus a action e few can old.sound old.guarded new.sound new.guarded k
    (every_run s past made given run))
every_run x all records looks (written s t past made given a f rec e run old new sealing k) =
    shaped_made s t (e ∷ past) (written_shaped s t (making_of s) past a f e rec old.sound old.guarded new.sound new.guarded sealing k
    (every_run s past made given run))
every_run x all records looks (comes_back s t past made given a f rec e run old new loading bring k) =
    shaped_made s t (e ∷ past) (reloaded_shaped s t (making_of s) past a f e rec old.sound old.guarded new.sound new.guarded loading k
    (every_run s past made given run))
every_run x all records looks (noted s past made given e run old note) =
    noted_shaped s (making_of s) past e note old.sound old.guarded (every_run s past made given run)

-- ---- the records of earlier moments

-- a record that was looked at tells at most the records made before
abbrev AreEarly : List Made → List Given → Type 0
AreEarly made given = All (λ (one : Given). one.made ≤ length made) given

early_more : (made more : List Made) (given : List Given) → AreEarly made given → AreEarly (made ++ more) given
early_more made more given = All-weaker (λ (one : Given). one.made ≤ length made) (λ one. one.made ≤ length (made ++ more))
    (λ one low. omega (arith, low, length-append made more)) given

early_look : (o : Option BareStart) (made : List Made) (rec : Sealed) → AreEarly made (looked_at_by o made rec)
early_look None made rec = All-nil (λ (one : Given). one.made ≤ length made)
early_look (Some start) made rec = one_early
  where
    one_early : AreEarly made (looked_at_by (Some start) made rec)
    one_early zero d low = omega arith
    one_early (suc i) d low = absurd (omega (arith, low))

all_early : (s : State) (past : List Entry) (made : List Made) (given : List Given) → Run s past made given → AreEarly made given
all_early x all records looks (nothing frames cpus key first_epoch first_version) = All-nil (λ (one : Given). one.made ≤ 0)
all_early x all records looks (step s t past made given a action e run old new few can k) = all_early s past made given run
all_early x all records looks (written s t past made given a f rec e run old new sealing k) =
    early_more made (given_out e.event rec) given (all_early s past made given run)
all_early x all records looks (comes_back s t past made given a f rec e run old new loading bring k) =
    All-append (λ (one : Given). one.made ≤ length made) given (looked_at s f.0 made rec) (all_early s past made given run)
    (early_look (s.start f.0) made rec)
all_early x all records looks (noted s past made given e run old note) = all_early s past made given run

-- the key stays, so that what is not forged of a longer run is not forged of a shorter one
unforged_as : (s t : State) (made : List Made) (given : List Given) → making_of t ≡ making_of s → Unforged t.key made given
    → Unforged s.key made given
unforged_as s t made given same = subst (λ (m : Making). Unforged m.key made given) same

-- what stands for a making stands for the state's own
stands_made : (s t : State) (past : List Entry) (made : List Made) → StandsWithAllRules (making_of s) t past made
    → StandsWithAllRules (making_of t) t past made
stands_made s t past made h = subst (λ (m : Making). StandsWithAllRules m t past made) (sym h.shaped.shape.making) h

version_as : (s t : State) → making_of t ≡ making_of s → 1 ≤ t.first_version → 1 ≤ s.first_version
version_as s t same = subst (λ (m : Making). 1 ≤ m.first_version) same

-- where no record was forged, whatever a fresh machine comes to stands in all for its entries and records
pub every_stands : (s : State) (past : List Entry) (made : List Made) (given : List Given) → Run s past made given → 1 ≤ s.first_version
    → Unforged s.key made given → StandsWithAllRules (making_of s) s past made
every_stands x all records looks (nothing frames cpus key first_epoch first_version) low unforged =
    fresh_all frames cpus key first_epoch first_version low
every_stands x all records looks (step s t past made given a action e run old new few can k) low unforged =
    let shaped = step_shaped s t (making_of s) past s.cpus a action e few can old.sound old.guarded new.sound new.guarded k
    (every_run s past made given run) in
    let same = shaped.shape.making in
    stands_made s t (e ∷ past) made
    (step_all s t (making_of s) past made s.cpus a action e few can old.sound old.guarded old.owned new.sound new.guarded k
    (every_stands s past made given run (version_as s t same low) (unforged_as s t made given same unforged)))
every_stands x all records looks (written s t past made given a f rec e run old new sealing k) low unforged =
    let shaped = written_shaped s t (making_of s) past a f e rec old.sound old.guarded new.sound new.guarded sealing k
    (every_run s past made given run) in
    let same = shaped.shape.making in
    let more = given_out e.event rec in
    let before : Unforged s.key made given =
    Unforged-before s.key made more given [] (all_early s past made given run)
    (subst (λ list. Unforged s.key (made ++ more) list) (sym (append-nil given)) (unforged_as s t (made ++ more) given same unforged)) in
    stands_made s t (e ∷ past) (made ++ more)
    (written_all s t (making_of s) past made a f e rec old.sound old.guarded new.sound new.guarded sealing k
    (every_stands s past made given run (version_as s t same low) before))
every_stands x all records looks (comes_back s t past made given a f rec e run old new loading bring k) low unforged =
    let shaped = reloaded_shaped s t (making_of s) past a f e rec old.sound old.guarded new.sound new.guarded loading k
    (every_run s past made given run) in
    let same = shaped.shape.making in
    let later = looked_at s f.0 made rec in
    let whole : Unforged s.key made (given ++ later) = unforged_as s t made (given ++ later) same unforged in
    let before : Unforged s.key made given =
    Unforged-before s.key made [] given later (all_early s past made given run)
    (subst (λ list. Unforged s.key list (given ++ later)) (sym (append-nil made)) whole) in
    stands_made s t (e ∷ past) made
    (reloaded_all s t (making_of s) past made a f rec e old.sound old.guarded new.sound new.guarded loading bring k
    (every_stands s past made given run (version_as s t same low) before) given whole)
every_stands x all records looks (noted s past made given e run old note) low unforged =
    noted_all s (making_of s) past made e note old.sound old.guarded (every_stands s past made given run low unforged)
