-- Flat memory has each enclave and page as the entries made it, one entry longer, whatever the bytes of the pages are.
use Rattle.std.proofs.Common.{◌≡◌, ℕ, ◌==◌, Bool, true, false, cond, if◌then◌else◌, refl, sym, ◌∙◌, ap, subst, List}
use Rattle.std.proofs.Common.{[], ◌∷◌, Option, Some, None, MatchOption, ◌⊎◌, inl, inr, is_some}
use Rattle.std.proofs.lemmas.Bool.{cond_both}
use Rattle.sgx_rules.specs.declared.entries.Action.{Action}
use Rattle.sgx_rules.specs.declared.entries.Action.TheVariants.{Create, Add, Init, Aex, Store, Xadd}
use Rattle.sgx_types.specs.declared.names.Actor.{Actor}
use Rattle.sgx_types.specs.declared.names.Actor.TheVariants as actors
use Rattle.sgx_rules.specs.declared.entries.Answer.{Answer}
use Rattle.sgx_rules.specs.declared.entries.Answer.TheVariants as answers
use Rattle.sgx_rules.specs.declared.entries.Entry.{Entry}
use Rattle.sgx_rules.specs.declared.entries.Event.{Event}
use Rattle.sgx_rules.specs.declared.entries.Event.TheVariants.{Did}
use Rattle.sgx_types.specs.declared.lawful.PageInit.{PageInit}
use Rattle.sgx_types.specs.declared.names.Frame.{Frame}
use Rattle.sgx_types.specs.declared.names.Kind.{Kind}
use Rattle.sgx_types.specs.declared.names.Page.{Page}
use Rattle.sgx_types.specs.declared.names.Perm.{Perm}
use Rattle.sgx_rules.specs.declared.refusals.Refusal.{Refusal}
use Rattle.sgx_rules.specs.declared.refusals.Refusal.TheVariants as why
use Rattle.sgx_rules.specs.inner.Enclaves.{EnclavesAreFlat, created, created_by}
use Rattle.sgx_rules.specs.Flat.{FlatEnclave, FlatMemory, Inside, accepts, added_as, cpu_after, enclave_sight_of, event_after}
use Rattle.sgx_rules.specs.Flat.{first_words}
use Rattle.sgx_rules.specs.Flat.{flat, flat_build_row, as_initialised, memory_after, open_frame, saved, settled, stored, sum_of, word_seen}
use Rattle.sgx_types.specs.Pages.{page_at, same_page}
use Rattle.sgx_rules.specs.Frames.{added, added_by}
use Rattle.sgx_types.specs.Cases.{first_of_row}
use Rattle.sgx_rules.specs.Table.{add_row, create_row, init_row}
use Rattle.sgx_rules.proofs.Rows.{init_open}
use Rattle.sgx_types.proofs.Pages.{same_page-swap}
use Rattle.machine_copies.proofs.FlatLaws.{event_kinds}
use Rattle.measure_log.specs.Rule.{IsExpected, IsOther}
use Rattle.machine_laws.specs.inner.Columns.{HasColumns}
use Rattle.machine_laws.specs.inner.State.{State, after_init, row_of, secs_sight, sight}
use Rattle.machine_laws.specs.inner.Steps.{IsDone, IsStep, did_by, refused_by}
use Rattle.machine_laws.proofs.BuildLaws.{add_open, create_open, is_some-added_as}
use Rattle.machine_laws.proofs.ColumnLaws.{enclave_seen, page_seen}
use Rattle.machine_laws.proofs.TestLaws.{is_none-None}
use Rattle.run_records.specs.inner.Builds.{builds, is_building}

-- nothing was built, on either side
pub flat_first : EnclavesAreFlat []
flat_first = record { enclaves = λ n. refl; pages = λ g. refl }

-- ---- an entry that builds nothing

-- a store leaves each enclave
after_stored : (m : FlatMemory) (inside : Option Inside) (off value n : ℕ) → (stored m inside off value).enclaves n ≡ m.enclaves n
after_stored m None off value n = refl
after_stored m (Some i) off value n = refl

-- .. and so does what an asynchronous exit saves
after_saved : (m : FlatMemory) (acc : ℕ) (inside : Option Inside) (n : ℕ) → (saved m acc inside).enclaves n ≡ m.enclaves n
after_saved m acc None n = refl
after_saved m acc (Some i) n = refl

-- .. and each instruction of a processor
cpu_enclaves : (p : ℕ) (action : Action) (m : FlatMemory) (n : ℕ) → (cpu_after p action m).enclaves n ≡ m.enclaves n
cpu_enclaves p (Aex cause) m n = after_saved m (m.cpus p).acc (m.cpus p).inside n
cpu_enclaves p (Store off value) m n = after_stored m (m.cpus p).inside off value n
cpu_enclaves p (Xadd off value) m n = after_stored m (m.cpus p).inside off (sum_of (word_seen m (m.cpus p).inside off) value) n
cpu_enclaves p _ m n = refl

-- .. and each other one that builds nothing
memory_enclaves : (actor : Actor) (action : Action) (m : FlatMemory) (n : ℕ) → builds action ≡ false
    → (memory_after actor action m).enclaves n ≡ m.enclaves n
memory_enclaves actor (Create enclave f base size) m n h = cc
memory_enclaves actor (Add enclave number f kind perm init) m n h = cc
memory_enclaves actor (Init enclave expect) m n h = cc
memory_enclaves (actors.Cpu p) action m n h = cpu_enclaves p.0 action m n
memory_enclaves actors.Builder action m n h = refl
memory_enclaves actors.Reclaimer action m n h = refl

-- by the entries it creates no enclave
created_same : (ev : Event) (n : ℕ) (o : Option FlatEnclave) → is_building ev ≡ false → created_by ev n o ≡ o
created_same (Did (Create enclave f base size) answer) n o h = cc
created_same (Did (Init enclave expect) answer) n o h = cc
created_same ev n o h = refl

-- .. and adds no page
added_same : (ev : Event) (g : Page) (o : Option (Kind × Perm)) → is_building ev ≡ false → added_by ev g o ≡ o
added_same (Did (Add enclave number f kind perm init) answer) g o h = cc
added_same ev g o h = refl

-- .. nor does it in flat memory, whether that takes it or not
event_enclaves : (actor : Actor) (ev : Event) (m : FlatMemory) (n : ℕ) → is_building ev ≡ false
    → (event_after actor ev m).enclaves n ≡ m.enclaves n
event_enclaves actor (Did action answer) m n h = cond_both (accepts m actor action) (memory_after actor action m) m
    (λ (now : FlatMemory). now.enclaves n ≡ m.enclaves n) (λ _. memory_enclaves actor action m n h) (λ _. refl)
event_enclaves actor ev m n h = refl

-- .. and it adds no page there
event_pages : (actor : Actor) (ev : Event) (m : FlatMemory) (g : Page) → is_building ev ≡ false
    → added_as ((event_after actor ev m).pages g) ≡ added_as (m.pages g)
event_pages actor (Did (Add enclave number f kind perm init) answer) m g h = cc
event_pages actor (Did action answer) m g h = event_kinds actor action answer m g refl
event_pages actor ev m g h = refl

-- so an entry that builds nothing leaves both sides as they were
pub flat_other : (past : List Entry) (e : Entry) → is_building e.event ≡ false → EnclavesAreFlat past → EnclavesAreFlat (e ∷ past)
flat_other past e none seen = record {
  enclaves = λ n.
      created_same e.event n (created past n) none ∙ seen.enclaves n ∙ sym (event_enclaves e.actor e.event (flat past) n none);
  pages = λ g. added_same e.event g (added past g) none ∙ seen.pages g ∙ sym (event_pages e.actor e.event (flat past) g none);
}

-- ---- a done create, add or init

-- flat memory takes it
taken_after : (m : FlatMemory) (a : Actor) (action : Action) (answer : Answer) → accepts m a action ≡ true
    → event_after a (Did action answer) m ≡ memory_after a action m
taken_after m a action answer taken = ap (λ b. if b then memory_after a action m else m) taken

-- a create makes the same enclave on both sides
flat_create : (past : List Entry) (a : Actor) (enclave : ℕ) (f : Frame) (base size : ℕ) (answer : Answer)
    → first_of_row (flat_build_row (flat past) (Create enclave f base size)) ≡ None → EnclavesAreFlat past
    → EnclavesAreFlat (did_by a (Create enclave f base size) answer ∷ past)
flat_create past a enclave f base size answer row seen =
    let after = taken_after (flat past) a (Create enclave f base size) answer (is_none-None _ row) in
    record {
      enclaves = λ n.
          ap (λ (o : Option FlatEnclave). cond (n == enclave) (Some (record { base = base; size = size; is_init = false })) o)
          (seen.enclaves n)
          ∙ sym (ap (λ (m : FlatMemory). m.enclaves n) after);
      pages = λ g. seen.pages g ∙ sym (ap (λ (m : FlatMemory). added_as (m.pages g)) after);
    }

-- an add has the same page on both sides, of the same kind and permissions
flat_add : (past : List Entry) (a : Actor) (enclave number : ℕ) (f : Frame) (kind : Kind) (perm : Perm) (init : PageInit) (answer : Answer)
    → first_of_row (flat_build_row (flat past) (Add enclave number f kind perm init)) ≡ None → EnclavesAreFlat past
    → EnclavesAreFlat (did_by a (Add enclave number f kind perm init) answer ∷ past)
flat_add past a enclave number f kind perm init answer row seen =
    let after = taken_after (flat past) a (Add enclave number f kind perm init) answer (is_none-None _ row) in
    record {
      enclaves = λ n. seen.enclaves n ∙ sym (ap (λ (m : FlatMemory). m.enclaves n) after);
      pages = λ g.
          ap (λ b. cond b (Some (kind, perm)) (added past g)) (same_page-swap (page_at enclave number) g)
          ∙ by_page g (same_page g (page_at enclave number)) ∙ sym (ap (λ (m : FlatMemory). added_as (m.pages g)) after);
    }
  where
    by_page : (g : Page) (b : Bool) → cond b (Some (kind, perm)) (added past g)
        ≡ added_as (cond b (Some (record { kind = kind; perm = perm; words = first_words init })) ((flat past).pages g))
    by_page g true = refl
    by_page g false = seen.pages g

-- an init marks the same enclave on both sides
flat_init : (past : List Entry) (a : Actor) (enclave : ℕ) (expect : Option (List ℕ)) (answer : Answer)
    → first_of_row (flat_build_row (flat past) (Init enclave expect)) ≡ None → EnclavesAreFlat past
    → EnclavesAreFlat (did_by a (Init enclave expect) answer ∷ past)
flat_init past a enclave expect answer row seen =
    let after = taken_after (flat past) a (Init enclave expect) answer (is_none-None _ row) in
    record {
      enclaves = λ n.
          ap (λ (o : Option FlatEnclave). cond (n == enclave) (as_initialised o) o) (seen.enclaves n)
          ∙ sym (ap (λ (m : FlatMemory). m.enclaves n) after);
      pages = λ g. seen.pages g ∙ sym (ap (λ (m : FlatMemory). added_as (m.pages g)) after);
    }

-- ---- by its row, which looks at enclaves and pages alone

-- of a machine with the columns of the entries
module _ (s : State) (past : List Entry) (columns : HasColumns s past) (seen : EnclavesAreFlat past) where
  flat_done : (t : State) (a : Actor) (action : Action) (e : Entry) → first_of_row (row_of s a action) ≡ None → IsDone s a action e t
      → EnclavesAreFlat (e ∷ past)
  flat_done t a (Create enclave f base size) e row is =
      subst (λ x. EnclavesAreFlat (x ∷ past)) (sym is.0)
      (flat_create past a enclave f base size answers.Plain
      (subst (λ (o : Option FlatEnclave). first_of_row (create_row enclave base size (is_some o) open_frame) ≡ None)
      (enclave_seen columns seen enclave)
      (create_open enclave base size (is_some (s.enclaves enclave)) (sight s f.0) row)) seen)
  flat_done t a (Add enclave number f kind perm init) e row is =
      let g : Page = page_at enclave number in
      let page : is_some (s.added g) ≡ is_some ((flat past).pages g) =
      ap is_some (page_seen columns seen g) ∙ is_some-added_as ((flat past).pages g) in
      subst (λ x. EnclavesAreFlat (x ∷ past)) (sym is.0)
      (flat_add past a enclave number f kind perm init answers.Plain
      (subst (λ b. first_of_row
      (add_row number kind perm init (enclave_sight_of ((flat past).enclaves enclave)) settled b open_frame) ≡ None) page
      (subst (λ (o : Option FlatEnclave). first_of_row
      (add_row number kind perm init (enclave_sight_of o) settled (is_some (s.added g)) open_frame) ≡ None)
      (enclave_seen columns seen enclave)
      (add_open number kind perm init (enclave_sight_of (s.enclaves enclave)) (secs_sight s enclave) (is_some (s.added g))
      (sight s f.0) row))) seen)
  flat_done t a (Init enclave expect) e row is = by_judged is.judged
    where
      by_judged : (IsExpected expect is.digest × (e ≡ did_by a (Init enclave expect) (answers.Hash is.digest)) × (t ≡ after_init s enclave))
          ⊎ (IsOther expect is.digest × (e ≡ refused_by a (Init enclave expect) (why.BadMeasure is.digest)) × (t ≡ s))
          → EnclavesAreFlat (e ∷ past)
      by_judged (inl k) =
          subst (λ x. EnclavesAreFlat (x ∷ past)) (sym k.1)
          (flat_init past a enclave expect (answers.Hash is.digest)
          (subst (λ (o : Option FlatEnclave). first_of_row (init_row (enclave_sight_of o) settled) ≡ None)
          (enclave_seen columns seen enclave) (init_open (enclave_sight_of (s.enclaves enclave)) (secs_sight s enclave) row)) seen)
      by_judged (inr k) = flat_other past e (ap (λ (x : Entry). is_building x.event) k.1) seen
  flat_done t a action e row is = flat_other past e (ap (λ (x : Entry). is_building x.event) is.0) seen

-- done or refused
pub flat_step : (s t : State) (past : List Entry) (actor : Actor) (action : Action) (e : Entry) → HasColumns s past
    → IsStep s actor action e t → EnclavesAreFlat past → EnclavesAreFlat (e ∷ past)
flat_step s t past actor action e columns is seen = by_row (first_of_row (row_of s actor action)) refl is
  where
    by_row : (o : Option Refusal) → first_of_row (row_of s actor action) ≡ o
        → MatchOption o (IsDone s actor action e t) (λ refusal. (e ≡ refused_by actor action refusal) × (t ≡ s))
        → EnclavesAreFlat (e ∷ past)
    by_row None row k = flat_done s past columns seen t actor action e row k
    by_row (Some refusal) row k = flat_other past e (ap (λ (x : Entry). is_building x.event) k.0) seen
