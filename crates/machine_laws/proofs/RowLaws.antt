-- The rows by the state and by the entries: both allow an instruction, or refuse it by the same case.
use Rattle.std.proofs.Common.{◌≡◌, ℕ, ◌/◌, Bool, true, false, refl, sym, ap, ◌∙◌, ◌⊎◌, inl, inr, Option, Some, None}
use Rattle.std.proofs.Common.{List, is_some, cond, leb, ltb, not, ◌||◌, ◌<◌, MatchOption}
use Rattle.sgx_rules.specs.declared.entries.Entry.{Entry}
use Rattle.sgx_types.specs.declared.names.Actor.{Actor}
use Rattle.sgx_types.specs.declared.names.Actor.TheVariants as actors
use Rattle.sgx_rules.specs.declared.entries.Action.{Action}
use Rattle.sgx_rules.specs.declared.entries.Action.TheVariants.{Epa, Create, Add, Extend, Init, Enter, Resume, Exit, Aex, Fill}
use Rattle.sgx_rules.specs.declared.entries.Action.TheVariants.{Load, Store}
use Rattle.sgx_rules.specs.declared.entries.Action.TheVariants.{Xadd, Set, Plus, Pf, OutLoad, OutStore, Block, Track, EwbStart}
use Rattle.sgx_rules.specs.declared.entries.Action.TheVariants.{Ewb}
use Rattle.sgx_rules.specs.declared.entries.Action.TheVariants.{EldStart, Eld}
use Rattle.sgx_types.specs.declared.lawful.PageInit.{PageInit}
use Rattle.sgx_rules.specs.declared.refusals.Refusal.{Refusal}
use Rattle.sgx_rules.specs.declared.refusals.Refusal.TheVariants as why
use Rattle.sgx_types.specs.declared.names.Cpu.{Cpu}
use Rattle.sgx_types.specs.declared.names.Frame.{Frame}
use Rattle.sgx_types.specs.declared.names.Page.{Page}
use Rattle.sgx_types.specs.declared.names.Kind.{Kind}
use Rattle.sgx_types.specs.declared.names.Kind.TheVariants as kinds
use Rattle.sgx_types.specs.declared.names.Perm.{Perm}
use Rattle.sgx_rules.specs.inner.Enclaves.{EnclavesAreFlat}
use Rattle.sgx_types.specs.Pages.{page_at}
use Rattle.sgx_rules.specs.Frames.{enclave_in, is_page, Free, content}
use Rattle.sgx_rules.specs.Processors.{stay, Seat}
use Rattle.sgx_types.specs.Cases.{Case}
use Rattle.sgx_rules.specs.Table.{FrameSight, EnterSight, TcsSight, is_tcs, is_ready, epa_row, create_row, add_row}
use Rattle.sgx_rules.specs.Table.{extend_row}
use Rattle.sgx_rules.specs.Table.{init_row, inside_row, outside_row, fill_row, access_row, allows_read, allows_write}
use Rattle.sgx_rules.specs.Table.{allows_update, pf_row}
use Rattle.sgx_types.specs.Lawful.{is_enclave, is_lawful}
use Rattle.sgx_types.specs.Cases.{first_of_row}
use Rattle.sgx_rules.specs.Table.{EnclaveSight, SecsSight, is_loading, is_valid, entry_row}
use Rattle.sgx_rules.specs.Flat.{FlatEnclave, flat, enclave_sight_of, tcs_fields, words_of, flat_page_words}
use Rattle.sgx_rules.specs.Sights.{stay_of, row_at, seat_of, translation_at}
use Rattle.sgx_rules.specs.Sights as sights
use Rattle.sgx_rules.specs.Sights.{enter_sight_at}
use Rattle.sgx_rules.specs.Rules.{case_of, RefusalRule, NamesFrames, TakesFree}
use Rattle.measure_log.specs.Rule.{MeasureRule}
use Rattle.sgx_rules.specs.declared.entries.AccessOp.{AccessOp}
use Rattle.sgx_rules.specs.declared.entries.Answer.TheVariants as answers
use Rattle.machine_laws.specs.inner.State.{State, making_of, enter_sight, seat_enclave, is_closed, row_of, row_outside}
use Rattle.machine_laws.specs.inner.State.{is_busy_at, secs_sight, translation, sight}
use Rattle.machine_laws.specs.inner.Stands.{Stands, IsSound}
use Rattle.machine_laws.proofs.BuildLaws.{is_some-added_as, adds}
use Rattle.machine_laws.proofs.Contents.{tcs_there}
use Rattle.machine_laws.proofs.ProcessorLaws.{mode_by_entries, enclave_by_entries}
use Rattle.machine_laws.proofs.EntryLaws.{by_fields, enter_saves, enter_saved, resume_saves, resume_saved, enter_sight_of, enters}
use Rattle.machine_laws.proofs.AccessLaws.{found_translation, fill_within}
use Rattle.machine_laws.proofs.RegisterLaws.{added_by_entries}
use Rattle.machine_laws.proofs.MoveSights.{block_agrees, eldstart_agrees, ewbstart_agrees, secs_sees, track_agrees}
use Rattle.machine_laws.specs.inner.Steps.{CanApply, is_of_cpus, refused_by, IsStep, IsDone, did_by, answer_of}
use Rattle.machine_laws.proofs.MeasureLaws.{quiet}
use Rattle.machine_laws.proofs.ColumnLaws.{busy_flat, content_is, enclave_flat, enclave_seen, enclaves_are_flat, inside_is}
use Rattle.machine_laws.proofs.ColumnLaws.{page_seen}
use Rattle.machine_laws.proofs.ColumnLaws.{sight_is}
use Rattle.machine_laws.specs.inner.Columns.{HasAllVersions, HasColumns}
use Rattle.machine_laws.specs.inner.Guarded.{IsGuarded}
use Rattle.std.proofs.lemmas.Bool.{leb-false}
use Rattle.sgx_rules.specs.declared.entries.Answer.{Answer}
use Rattle.sgx_rules.proofs.Contents.{free_there}
use Rattle.sgx_rules.proofs.Rows.{none_holds, start_names}
use Rattle.sgx_types.proofs.Truths.{neither, tested}

-- ---- the rows by the state and by the entries

epa_agrees : (s : State) (past : List Entry) (a : Actor) (f : Frame) → HasColumns s past
    → first_of_row (row_of s a (Epa f)) ≡ first_of_row (row_at (making_of s) past a (Epa f))
epa_agrees s past a f h = ap (λ v. first_of_row (epa_row v)) (sight_is h f.0)

create_row_same : (enclave base size : ℕ) (o o' : Option FlatEnclave) (v v' : FrameSight) → o ≡ o' → v ≡ v'
    → first_of_row (create_row enclave base size (is_some o) v) ≡ first_of_row (create_row enclave base size (is_some o') v')
create_row_same enclave base size o o' v v' e e' = rw (e, e') refl

create_agrees : (s : State) (past : List Entry) (a : Actor) (enclave : ℕ) (f : Frame) (base size : ℕ) → HasColumns s past
    → EnclavesAreFlat past
    → first_of_row (row_of s a (Create enclave f base size)) ≡ first_of_row (row_at (making_of s) past a (Create enclave f base size))
create_agrees s past a enclave f base size h seen =
    create_row_same enclave base size _ _ _ _ (enclave_seen h seen enclave) (sight_is h f.0)

add_row_same : (number : ℕ) (kind : Kind) (perm : Perm) (init : PageInit) (o o' : Option FlatEnclave) (secs secs' : SecsSight) (b b' : Bool)
    (v v' : FrameSight)
    → o ≡ o' → secs ≡ secs' → b ≡ b' → v ≡ v'
    → first_of_row (add_row number kind perm init (enclave_sight_of o) secs b v) ≡ first_of_row
    (add_row number kind perm init (enclave_sight_of o') secs' b' v')
add_row_same number kind perm init o o' secs secs' b b' v v' e1 e2 e3 e4 i =
    first_of_row (add_row number kind perm init (enclave_sight_of (e1 i)) (e2 i) (e3 i) (e4 i))

add_agrees : (s : State) (past : List Entry) (a : Actor) (enclave number : ℕ) (f : Frame) (kind : Kind) (perm : Perm) (init : PageInit)
    → HasColumns s past → EnclavesAreFlat past
    → first_of_row (row_of s a (Add enclave number f kind perm init)) ≡ first_of_row
    (row_at (making_of s) past a (Add enclave number f kind perm init))
add_agrees s past a enclave number f kind perm init h seen =
    add_row_same number kind perm init _ _ _ _ _ _ _ _ (enclave_seen h seen enclave) (secs_sees s past h enclave)
    (ap is_some (page_seen h seen (page_at enclave number)) ∙ is_some-added_as ((flat past).pages (page_at enclave number)))
    (sight_is h f.0)

closed_agrees : (s : State) (past : List Entry) → HasColumns s past → EnclavesAreFlat past → (o : Option ℕ)
    → is_closed s o ≡ sights.is_closed (flat past) o
closed_agrees s past h seen None = refl
closed_agrees s past h seen (Some enclave) = ap (λ x. is_ready (enclave_sight_of x)) (enclave_seen h seen enclave)

extend_row_same : (chunk : ℕ) (b b' : Bool) (v v' : FrameSight) → b ≡ b' → v ≡ v'
    → first_of_row (extend_row chunk b v) ≡ first_of_row (extend_row chunk b' v')
extend_row_same chunk b b' v v' e e' = rw (e, e') refl

extend_agrees : (s : State) (past : List Entry) (a : Actor) (f : Frame) (chunk : ℕ) → HasColumns s past
    → EnclavesAreFlat past
    → first_of_row (row_of s a (Extend f chunk)) ≡ first_of_row (row_at (making_of s) past a (Extend f chunk))
extend_agrees s past a f chunk h seen =
    extend_row_same chunk _ _ _ _ (closed_agrees s past h seen (enclave_in (s.content f.0))
    ∙ ap (λ c. sights.is_closed (flat past) (enclave_in c)) (content_is h f.0)) (sight_is h f.0)

init_agrees : (s : State) (past : List Entry) (a : Actor) (enclave : ℕ) (expect : Option (List ℕ)) → HasColumns s past
    → EnclavesAreFlat past
    → first_of_row (row_of s a (Init enclave expect)) ≡ first_of_row (row_at (making_of s) past a (Init enclave expect))
init_agrees s past a enclave expect h seen i =
    first_of_row (init_row (enclave_sight_of (enclave_seen h seen enclave i)) (secs_sees s past h enclave i))

fill_row_same : (number : ℕ) (o o' : Option ℕ) (v v' : FrameSight) → o ≡ o' → v ≡ v'
    → first_of_row (fill_row number o v) ≡ first_of_row (fill_row number o' v')
fill_row_same number o o' v v' e e' = rw (e, e') refl

fill_agrees : (s : State) (past : List Entry) (p : Cpu) (number : ℕ) (f : Frame) → Stands s past
    → first_of_row (row_of s (actors.Cpu p) (Fill number f)) ≡ first_of_row (row_at (making_of s) past (actors.Cpu p) (Fill number f))
fill_agrees s past p number f stands =
    fill_row_same number _ _ _ _ (ap seat_enclave (inside_is stands.columns p.0) ∙ enclave_by_entries (stay past p.0))
    (sight_is stands.columns f.0)

access_row_same : (off : ℕ) (allows : Option Perm → Bool) (b b' : Bool) (o o' : Option Perm) → b ≡ b' → o ≡ o'
    → first_of_row (access_row off b o (allows o)) ≡ first_of_row (access_row off b' o' (allows o'))
access_row_same off allows b b' o o' e e' = rw (e, e') refl

access_agrees : (s : State) (past : List Entry) (p : Cpu) (off : ℕ) (allows : Option Perm → Bool) → IsSound s → Stands s past
    → first_of_row (access_row off (is_some (s.inside p.0)) (translation s p.0 (s.inside p.0) (off / 4096))
    (allows (translation s p.0 (s.inside p.0) (off / 4096))))
    ≡ first_of_row (access_row off (is_some (stay past p.0)) (translation_at past p.0 (stay past p.0) (off / 4096))
    (allows (translation_at past p.0 (stay past p.0) (off / 4096))))
access_agrees s past p off allows sound stands =
    access_row_same off allows _ _ _ _ (mode_by_entries s past stands p.0) (found_translation s past p.0 off sound stands)

pf_row_same : (op : AccessOp) (off : ℕ) (b b' : Bool) (o o' : Option (Kind × Perm)) → b ≡ b' → o ≡ o'
    → first_of_row (pf_row op off b o) ≡ first_of_row (pf_row op off b' o')
pf_row_same op off b b' o o' e e' = rw (e, e') refl

pf_agrees : (s : State) (past : List Entry) (p : Cpu) (op : AccessOp) (off : ℕ) → Stands s past
    → first_of_row (row_of s (actors.Cpu p) (Pf op off)) ≡ first_of_row (row_at (making_of s) past (actors.Cpu p) (Pf op off))
pf_agrees s past p op off stands =
    pf_row_same op off _ _ _ _ (mode_by_entries s past stands p.0) (added_by_entries s past p.0 (off / 4096) stands)

inside_agrees : (s : State) (past : List Entry) (p : Cpu) → Stands s past
    → first_of_row (inside_row (is_some (s.inside p.0))) ≡ first_of_row (inside_row (is_some (stay past p.0)))
inside_agrees s past p stands = ap (λ b. first_of_row (inside_row b)) (mode_by_entries s past stands p.0)

outside_agrees : (s : State) (past : List Entry) (p : Cpu) → Stands s past
    → first_of_row (outside_row (is_some (s.inside p.0))) ≡ first_of_row (outside_row (is_some (stay past p.0)))
outside_agrees s past p stands = ap (λ b. first_of_row (outside_row b)) (mode_by_entries s past stands p.0)

-- where the TCS page is not in its frame, the row does not come to its fields
entry_elsewhere : (saves : TcsSight → Case Refusal) (saved : TcsSight → ℕ) (enclave tcs : ℕ) (v : EnterSight) (fields : TcsSight)
    → is_page v.tcs.content (page_at enclave tcs) ≡ false
    → first_of_row (by_fields saves saved enclave tcs v) ≡ first_of_row (by_fields saves saved enclave tcs (record v { fields = fields }))
entry_elsewhere saves saved enclave tcs v fields other = rw other refl

entry_otherwise : (saves : TcsSight → Case Refusal) (saved : TcsSight → ℕ) (enclave tcs : ℕ) (v : EnterSight) (fields : TcsSight)
    → is_tcs v.tcs.content ≡ false
    → first_of_row (by_fields saves saved enclave tcs v) ≡ first_of_row (by_fields saves saved enclave tcs (record v { fields = fields }))
entry_otherwise saves saved enclave tcs v fields other = rw other refl

-- a row by a TCS page, in the state and by the entries, for who is inside as they say
entry_agrees_by : (saves : TcsSight → Case Refusal) (saved : TcsSight → ℕ) (s : State) (past : List Entry) (b b' : Bool)
    (enclave tcs tf sf : ℕ)
    → b ≡ b' → Stands s past
    → first_of_row (by_fields saves saved enclave tcs (record (enter_sight s 0 (seat_of enclave tcs tf sf)) { is_inside = b }))
    ≡ first_of_row
    (by_fields saves saved enclave tcs (record (enter_sight_at s.frames past None (seat_of enclave tcs tf sf)) { is_inside = b' }))
entry_agrees_by saves saved s past b b' enclave tcs tf sf same stands =
    by_page (tested (is_page v.tcs.content g)) (tested (is_tcs v.tcs.content))
    ∙ ap (λ x. first_of_row (by_fields saves saved enclave tcs x))
    (enter_sight_of _ _ _ _ _ _ _ _ _ _ _ _ same (ap enclave_sight_of (enclave_flat stands enclave))
    (sight_is stands.columns tf) (busy_flat stands g) refl (sight_is stands.columns sf))
  where
    g : Page
    g = page_at enclave tcs

    v : EnterSight
    v = record (enter_sight s 0 (seat_of enclave tcs tf sf)) { is_inside = b }

    fields : TcsSight
    fields = tcs_fields (words_of (flat past) g)

    by_page : (is_page v.tcs.content g ≡ true) ⊎ (is_page v.tcs.content g ≡ false)
        → (is_tcs v.tcs.content ≡ true) ⊎ (is_tcs v.tcs.content ≡ false)
        → first_of_row (by_fields saves saved enclave tcs v) ≡ first_of_row
        (by_fields saves saved enclave tcs (record v { fields = fields }))
    by_page (inr other) is = entry_elsewhere saves saved enclave tcs v fields other
    by_page (inl here) (inr other) = entry_otherwise saves saved enclave tcs v fields other
    by_page (inl here) (inl is) =
        let k = tcs_there (s.content tf) g here is in
        let there = stands.memory.words tf g kinds.Tcs k.perm k.holds in
        ap (λ x. first_of_row (by_fields saves saved enclave tcs (record v { fields = tcs_fields (flat_page_words x) }))) (sym there)

-- .. for a processor
entry_agrees : (saves : TcsSight → Case Refusal) (saved : TcsSight → ℕ) (s : State) (past : List Entry) (p enclave tcs tf sf : ℕ)
    → Stands s past
    → first_of_row (by_fields saves saved enclave tcs (enter_sight s p (seat_of enclave tcs tf sf))) ≡ first_of_row
    (by_fields saves saved enclave tcs (enter_sight_at s.frames past (stay past p) (seat_of enclave tcs tf sf)))
entry_agrees saves saved s past p enclave tcs tf sf stands =
    entry_agrees_by saves saved s past _ _ enclave tcs tf sf (mode_by_entries s past stands p) stands

-- the row of a processor's instruction for who is inside no enclave
pub row_outside_agrees : (s : State) (past : List Entry) (a : Actor) (action : Action) → is_of_cpus action ≡ true
    → stay_of past a ≡ None → Stands s past
    → first_of_row (row_outside s action) ≡ first_of_row (row_at (making_of s) past a action)
row_outside_agrees s past a (Enter enclave tcs tf sf) own outside stands =
    rw outside (entry_agrees_by enter_saves enter_saved s past false false enclave tcs tf.0 sf.0 refl stands)
row_outside_agrees s past a (Resume enclave tcs tf sf) own outside stands =
    rw outside (entry_agrees_by resume_saves resume_saved s past false false enclave tcs tf.0 sf.0 refl stands)
row_outside_agrees s past a Exit own outside stands = rw outside refl
row_outside_agrees s past a (Aex cause) own outside stands = rw outside refl
row_outside_agrees s past a (Fill number f) own outside stands = rw outside refl
row_outside_agrees s past a (Load off) own outside stands = rw outside refl
row_outside_agrees s past a (Store off value) own outside stands = rw outside refl
row_outside_agrees s past a (Xadd off value) own outside stands = rw outside refl
row_outside_agrees s past a (Set value) own outside stands = rw outside refl
row_outside_agrees s past a (Plus value) own outside stands = rw outside refl
row_outside_agrees s past a (Pf op off) own outside stands = rw outside refl
row_outside_agrees s past a (OutLoad enclave off) own outside stands = rw outside refl
row_outside_agrees s past a (OutStore enclave off value) own outside stands = rw outside refl
row_outside_agrees s past a action own outside stands = cc

-- ---- every row

-- the row of an instruction that builds an enclave or moves a page, which sees columns alone
pub columns_agree : (s : State) (past : List Entry) (a : Actor) (action : Action) → is_of_cpus action ≡ false → HasColumns s past
    → HasAllVersions s past → IsGuarded s → EnclavesAreFlat past
    → first_of_row (row_of s a action) ≡ first_of_row (row_at (making_of s) past a action)
columns_agree s past a (Epa f) other h versions guarded seen = epa_agrees s past a f h
columns_agree s past a (Create enclave f base size) other h versions guarded seen = create_agrees s past a enclave f base size h seen
columns_agree s past a (Add enclave number f kind perm init) other h versions guarded seen =
    add_agrees s past a enclave number f kind perm init h seen
columns_agree s past a (Extend f chunk) other h versions guarded seen = extend_agrees s past a f chunk h seen
columns_agree s past a (Init enclave expect) other h versions guarded seen = init_agrees s past a enclave expect h seen
columns_agree s past a (Block f) other h versions guarded seen = block_agrees s past a f h
columns_agree s past a (Track enclave) other h versions guarded seen = track_agrees s past a enclave h seen
columns_agree s past a (EwbStart f slot) other h versions guarded seen = ewbstart_agrees s past a f slot h versions guarded
columns_agree s past a (EldStart f page slot) other h versions guarded seen = eldstart_agrees s past a f page slot h versions guarded seen
columns_agree s past (actors.Cpu p) (Ewb f) other h versions guarded seen = refl
columns_agree s past (actors.Cpu p) (Eld f) other h versions guarded seen = refl
columns_agree s past a (Ewb f) other h versions guarded seen = refl
columns_agree s past a (Eld f) other h versions guarded seen = refl
columns_agree s past a _ other h versions guarded seen = cc other

-- .. in a state that stands for its entries
seen_agrees : (s : State) (past : List Entry) (a : Actor) (action : Action) → is_of_cpus action ≡ false → IsGuarded s → Stands s past
    → first_of_row (row_of s a action) ≡ first_of_row (row_at (making_of s) past a action)
seen_agrees s past a action other guarded stands = columns_agree s past a action other stands.columns stands.versions guarded
    (enclaves_are_flat stands)

-- the row of an instruction, by the state and by the entries
row_agrees : (s : State) (past : List Entry) (cpus : ℕ) (a : Actor) (action : Action) → CanApply cpus a action
    → IsSound s → IsGuarded s → Stands s past
    → first_of_row (row_of s a action) ≡ first_of_row (row_at (making_of s) past a action)
row_agrees s past cpus a (Epa f) can sound guarded stands = seen_agrees s past a (Epa f) refl guarded stands
row_agrees s past cpus a (Create enclave f base size) can sound guarded stands =
    seen_agrees s past a (Create enclave f base size) refl guarded stands
row_agrees s past cpus a (Add enclave number f kind perm init) can sound guarded stands =
    seen_agrees s past a (Add enclave number f kind perm init) refl guarded stands
row_agrees s past cpus a (Extend f chunk) can sound guarded stands = seen_agrees s past a (Extend f chunk) refl guarded stands
row_agrees s past cpus a (Init enclave expect) can sound guarded stands = seen_agrees s past a (Init enclave expect) refl guarded stands
row_agrees s past cpus (actors.Cpu p) (Enter enclave tcs tf sf) can sound guarded stands =
    entry_agrees enter_saves enter_saved s past p.0 enclave tcs tf.0 sf.0 stands
row_agrees s past cpus (actors.Cpu p) (Resume enclave tcs tf sf) can sound guarded stands =
    entry_agrees resume_saves resume_saved s past p.0 enclave tcs tf.0 sf.0 stands
row_agrees s past cpus (actors.Cpu p) Exit can sound guarded stands = inside_agrees s past p stands
row_agrees s past cpus (actors.Cpu p) (Aex cause) can sound guarded stands = inside_agrees s past p stands
row_agrees s past cpus (actors.Cpu p) (Fill number f) can sound guarded stands = fill_agrees s past p number f stands
row_agrees s past cpus (actors.Cpu p) (Load off) can sound guarded stands = access_agrees s past p off allows_read sound stands
row_agrees s past cpus (actors.Cpu p) (Store off value) can sound guarded stands = access_agrees s past p off allows_write sound stands
row_agrees s past cpus (actors.Cpu p) (Xadd off value) can sound guarded stands = access_agrees s past p off allows_update sound stands
row_agrees s past cpus (actors.Cpu p) (Set value) can sound guarded stands = inside_agrees s past p stands
row_agrees s past cpus (actors.Cpu p) (Plus value) can sound guarded stands = inside_agrees s past p stands
row_agrees s past cpus (actors.Cpu p) (Pf op off) can sound guarded stands = pf_agrees s past p op off stands
row_agrees s past cpus (actors.Cpu p) (OutLoad enclave off) can sound guarded stands = outside_agrees s past p stands
row_agrees s past cpus (actors.Cpu p) (OutStore enclave off value) can sound guarded stands = outside_agrees s past p stands
row_agrees s past cpus a (Block f) can sound guarded stands = seen_agrees s past a (Block f) refl guarded stands
row_agrees s past cpus a (Track enclave) can sound guarded stands = seen_agrees s past a (Track enclave) refl guarded stands
row_agrees s past cpus a (EwbStart f slot) can sound guarded stands = seen_agrees s past a (EwbStart f slot) refl guarded stands
row_agrees s past cpus a (EldStart f page slot) can sound guarded stands = seen_agrees s past a (EldStart f page slot) refl guarded stands
row_agrees s past cpus a action can sound guarded stands = absurd can

-- the row of an instruction that the state allows, by the entries
pub row_told : (s : State) (past : List Entry) (cpus : ℕ) (a : Actor) (action : Action) → CanApply cpus a action → IsSound s
    → IsGuarded s → Stands s past
    → first_of_row (row_of s a action) ≡ None → first_of_row (row_at (making_of s) past a action) ≡ None
row_told s past cpus a action can sound guarded stands allowed = sym (row_agrees s past cpus a action can sound guarded stands) ∙ allowed

-- the row of `init` knows nothing of the measurement
init_case : (o : Option EnclaveSight) (secs : SecsSight) (enclave : ℕ) (expect : Option (List ℕ)) (r : Refusal)
    → first_of_row (init_row o secs) ≡ Some r → case_of (Init enclave expect) r ≡ Some r
init_case None secs enclave expect r is = cc
init_case (Some x) secs enclave expect r is = by_tests secs.is_away secs.is_sealing x.is_init is
  where
    by_tests : (b c d : Bool) → cond b (Some why.Absent) (cond c (Some why.Conflict) (cond d (Some why.IsInit) None)) ≡ Some r
        → case_of (Init enclave expect) r ≡ Some r
    by_tests true c d k = cc
    by_tests false true d k = cc
    by_tests false false true k = cc
    by_tests false false false k = cc

-- .. and the case for which the state refuses one
pub refusal_told : (s : State) (past : List Entry) (cpus : ℕ) (a : Actor) (action : Action) (r : Refusal) → CanApply cpus a action
    → IsSound s → IsGuarded s → Stands s past → first_of_row (row_of s a action) ≡ Some r
    → RefusalRule (making_of s) past (refused_by a action r)
refusal_told s past cpus (actors.Cpu p) (Ewb f) r can sound guarded stands refused = absurd can
refusal_told s past cpus (actors.Cpu p) (Eld f) r can sound guarded stands refused = absurd can
refusal_told s past cpus a (Ewb f) r can sound guarded stands refused = absurd can
refusal_told s past cpus a (Eld f) r can sound guarded stands refused = absurd can
refusal_told s past cpus a (Init enclave expect) r can sound guarded stands refused =
    sym (init_agrees s past a enclave expect stands.columns (enclaves_are_flat stands)) ∙ refused
    ∙ sym (init_case (enclave_sight_of (s.enclaves enclave)) (secs_sight s enclave) enclave expect r refused)
refusal_told s past cpus a action r can sound guarded stands refused =
    sym (row_agrees s past cpus a action can sound guarded stands) ∙ refused

-- a refusal by the row says nothing of a measurement
pub measure_told : (s : State) (past : List Entry) (a : Actor) (action : Action) (r : Refusal) → first_of_row (row_of s a action) ≡ Some r
    → MeasureRule past (refused_by a action r)
measure_told s past a (Init enclave expect) r refused =
    quiet (enclave_sight_of (s.enclaves enclave)) (secs_sight s enclave) past a enclave expect r refused
measure_told s past a _ r refused = tt

-- ---- the frames that rows name

free_in : (s : State) (past : List Entry) → HasColumns s past → (f : ℕ) → (s.is_sealing f || is_loading (s.content f)) ≡ false
    → is_valid (s.content f) ≡ false → content past f ≡ Free
free_in s past columns f idle empty = sym (content_is columns f) ∙ free_there (s.content f) (s.is_sealing f) idle empty

-- the two frames of a seat
seat_names : (s : State) (p : ℕ) (seat : Seat) (saves : Case Refusal) (saved : ℕ)
    → first_of_row (entry_row seat.enclave seat.tcs (enter_sight s p seat) saves saved) ≡ None
    → (seat.tcs_frame < s.frames) × (seat.ssa_frame < s.frames)
seat_names s p seat saves saved allowed =
    let k = enters seat.enclave seat.tcs (enter_sight s p seat) saves saved allowed in
    (leb-false _ _ k.tcs_within, leb-false _ _ k.ssa_within)

-- the frames that an instruction names, which its row allows, are of the EPC, and the one that it takes is free
pub row_fits : (s : State) (past : List Entry) (cpus : ℕ) (a : Actor) (action : Action) → CanApply cpus a action → HasColumns s past
    → first_of_row (row_of s a action) ≡ None → NamesFrames s.frames action × TakesFree past action
row_fits s past cpus a (Epa f) can columns allowed =
    let none = none_holds (row_of s a (Epa f)) allowed in (leb-false _ _ none.0, free_in s past columns f.0 none.1.0 none.1.1.0)
row_fits s past cpus a (Create enclave f base size) can columns allowed =
    let none = none_holds (row_of s a (Create enclave f base size)) allowed in
    let range = neither (leb s.frames f.0) (not (is_enclave enclave))
    (neither (leb s.frames f.0 || not (is_enclave enclave)) (not (is_lawful base size)) none.0).0 in
    (leb-false _ _ range.0, free_in s past columns f.0 none.1.1.0 none.1.1.1.0)
row_fits s past cpus a (Add enclave number f kind perm init) can columns allowed =
    let k = adds number kind perm init (enclave_sight_of (s.enclaves enclave)) (secs_sight s enclave)
    (is_some (s.added (page_at enclave number))) (sight s f.0) allowed in
    (leb-false _ _ k.within, free_in s past columns f.0 k.idle k.empty)
row_fits s past cpus a (Extend f chunk) can columns allowed =
    (leb-false _ _ (neither (leb s.frames f.0) (ltb 15 chunk) (none_holds (row_of s a (Extend f chunk)) allowed).0).0, tt)
row_fits s past cpus a (Init enclave expect) can columns allowed = (tt, tt)
row_fits s past cpus a (Block f) can columns allowed = (leb-false _ _ (none_holds (row_of s a (Block f)) allowed).0, tt)
row_fits s past cpus a (Track enclave) can columns allowed = (tt, tt)
row_fits s past cpus a (EwbStart f slot) can columns allowed =
    (start_names s.frames f.0 slot.frame.0 (ltb 511 slot.index) (none_holds (row_of s a (EwbStart f slot)) allowed).0, tt)
row_fits s past cpus a (EldStart f page slot) can columns allowed =
    let none = none_holds (row_of s a (EldStart f page slot)) allowed in
    let idle = neither (s.is_sealing f.0 || is_loading (s.content f.0)) (is_busy_at s slot) none.1.1.1.1.0 in
    (start_names s.frames f.0 slot.frame.0 (ltb 511 slot.index) none.0, free_in s past columns f.0 idle.0 none.1.1.1.1.1.0)
row_fits s past cpus (actors.Cpu p) (Enter enclave tcs tf sf) can columns allowed =
    (seat_names s p.0 (seat_of enclave tcs tf.0 sf.0) _ _ allowed, tt)
row_fits s past cpus (actors.Cpu p) (Resume enclave tcs tf sf) can columns allowed =
    (seat_names s p.0 (seat_of enclave tcs tf.0 sf.0) _ _ allowed, tt)
row_fits s past cpus (actors.Cpu p) Exit can columns allowed = (tt, tt)
row_fits s past cpus (actors.Cpu p) (Aex cause) can columns allowed = (tt, tt)
row_fits s past cpus (actors.Cpu p) (Fill number f) can columns allowed = (fill_within s p.0 number f.0 allowed, tt)
row_fits s past cpus (actors.Cpu p) (Load off) can columns allowed = (tt, tt)
row_fits s past cpus (actors.Cpu p) (Store off value) can columns allowed = (tt, tt)
row_fits s past cpus (actors.Cpu p) (Xadd off value) can columns allowed = (tt, tt)
row_fits s past cpus (actors.Cpu p) (Set value) can columns allowed = (tt, tt)
row_fits s past cpus (actors.Cpu p) (Plus value) can columns allowed = (tt, tt)
row_fits s past cpus (actors.Cpu p) (Pf op off) can columns allowed = (tt, tt)
row_fits s past cpus (actors.Cpu p) (OutLoad enclave off) can columns allowed = (tt, tt)
row_fits s past cpus (actors.Cpu p) (OutStore enclave off value) can columns allowed = (tt, tt)
row_fits s past cpus a action can columns allowed = absurd can

-- ---- the entries of steps

-- the entry of a step is of its instruction, done or refused
abbrev pub IsEntryOf : Actor → Action → Entry → Type 0
IsEntryOf a action e = ((answer : Answer) × (e ≡ did_by a action answer)) ⊎ ((r : Refusal) × (e ≡ refused_by a action r))

-- a row allows an instruction, or refuses it, and the entry is of it in both
entry_cases : (o : Option Refusal) (Done : Type 0) (s t : State) (e : Entry) (a : Actor) (action : Action) → (Done → IsEntryOf a action e)
    → MatchOption o Done (λ r. (e ≡ refused_by a action r) × (t ≡ s)) → IsEntryOf a action e
entry_cases None Done s t e a action f k = f k
entry_cases (Some r) Done s t e a action f k = inr (r, k.0)

-- the entry of each instruction
pub step_entry : (s t : State) (a : Actor) (action : Action) (e : Entry) → IsStep s a action e t → IsEntryOf a action e
step_entry s t a (Create enclave f base size) e k =
    entry_cases _ (IsDone s a (Create enclave f base size) e t) s t e a (Create enclave f base size) (λ done. inl (answers.Plain, done.0)) k
step_entry s t a (Add enclave number f kind perm init) e k =
    entry_cases _ (IsDone s a (Add enclave number f kind perm init) e t) s t e a (Add enclave number f kind perm init)
    (λ done. inl (answers.Plain, done.0)) k
step_entry s t a (Extend f chunk) e k =
    entry_cases _ (IsDone s a (Extend f chunk) e t) s t e a (Extend f chunk) (λ done. inl (answers.Plain, done.0)) k
step_entry s t a (Init enclave expect) e k =
    entry_cases _ (IsDone s a (Init enclave expect) e t) s t e a (Init enclave expect)
    (λ done.
    elim done.judged as (λ _. IsEntryOf a (Init enclave expect) e) [
      | inl is ↦ inl (answers.Hash done.digest, is.1)
      | inr other ↦ inr (why.BadMeasure done.digest, other.1)
    ]) k
step_entry s t a action e k = entry_cases _ (IsDone s a action e t) s t e a action (λ done. inl (answer_of s a action, done.0)) k
