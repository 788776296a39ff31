-- The entry of a step by its row: done, or refused. What it asks of the entries before it, and whose it is.
use Rattle.std.proofs.Common.{◌≡◌, ◌⊎◌, inl, inr, ℕ, ◌==◌, ◌||◌, ◌&&◌, not, Bool, true, false, if◌then◌else◌, refl, sym, ◌∙◌, ap, List}
use Rattle.std.proofs.Common.{Option, Some, None, MatchOption, is_some, nat_lt, arith}
use Rattle.std.proofs.lemmas.Bool.{eqb-true, false≢true, not-false}
use Rattle.sgx_rules.proofs.Rows.{none_holds}
use Rattle.sgx_rules.specs.declared.entries.Action.{Action}
use Rattle.sgx_rules.specs.declared.entries.Action.TheVariants.{Epa, Create, Add, Extend, Init, Block, Track, EwbStart, Ewb}
use Rattle.sgx_rules.specs.declared.entries.Action.TheVariants.{EldStart, Eld}
use Rattle.sgx_types.specs.declared.names.Actor.{Actor}
use Rattle.sgx_types.specs.declared.names.Actor.TheVariants as actors
use Rattle.sgx_rules.specs.declared.entries.Answer.{Answer}
use Rattle.sgx_rules.specs.declared.entries.Answer.TheVariants as answers
use Rattle.sgx_rules.specs.declared.entries.Entry.{Entry}
use Rattle.sgx_rules.specs.declared.entries.Event.{Event}
use Rattle.sgx_rules.specs.declared.entries.Event.TheVariants.{Did}
use Rattle.sgx_types.specs.declared.names.Page.{Page}
use Rattle.sgx_rules.specs.declared.refusals.Refusal.{Refusal}
use Rattle.sgx_rules.specs.declared.refusals.Refusal.TheVariants as why
use Rattle.sgx_rules.specs.Flat.{enclave_sight_of}
use Rattle.sgx_types.specs.Lawful.{is_enclave, is_lawful}
use Rattle.sgx_types.specs.Pages.{is_own_page, page_at, secs_page, va_page}
use Rattle.sgx_types.specs.declared.names.TheConstants.{SECS_NUMBER}
use Rattle.sgx_types.proofs.Truths.{neither}
use Rattle.sgx_rules.specs.Frames.{added, vas_made}
use Rattle.sgx_rules.specs.inner.Enclaves.{created, is_there}
use Rattle.sgx_types.specs.Cases.{first_of_row}
use Rattle.sgx_rules.specs.Table.{create_row, epa_row}
use Rattle.sgx_rules.proofs.Contents.{free_there}
use Rattle.job_grammar.specs.Jobs.{JobView}
use Rattle.script_rules.specs.Script.{is_builder, step_action}
use Rattle.script_rules.specs.declared.steps.BuildStep.{BuildStep}
use Rattle.script_rules.specs.declared.steps.BuildStep.TheVariants as builds
use Rattle.measure_log.specs.Rule.{IsExpected, IsOther}
use Rattle.machine_laws.specs.inner.Columns.{HasColumns}
use Rattle.machine_laws.specs.inner.State.{State, after_init, row_of, secs_sight, sight}
use Rattle.machine_laws.specs.inner.Steps.{IsDone, IsStep, answer_of, did_by, refused_by}
use Rattle.machine_laws.proofs.BuildLaws.{adds}
use Rattle.machine_laws.proofs.ColumnLaws.{added_is, content_is, enclave_is}
use Rattle.driver_rules.specs.Ages.{AgeRuleBy}
use Rattle.driver_rules.specs.Places.{Absent, Place, place}
use Rattle.driver_rules.specs.Scripts.{ScriptRule}
use Rattle.driver_rules.specs.Spares.{Outs, outs}
use Rattle.driver_laws.specs.inner.Kinds.{CanMove}
use Rattle.driver_laws.specs.inner.Sound.{IsSound, is_absent}
use Rattle.driver_laws.proofs.BuiltLaws.{own_there}
use Rattle.driver_laws.proofs.StepLaws.{Builds, ByStep, NoStep, builds_by, builds_or_none}
use Rattle.due_notes.specs.inner.Noted.{HasSecsHere}
use Rattle.due_notes.specs.inner.Plain.{is_plain, is_reclaimer}

-- ---- done or refused

-- a version array page is told by its number
abbrev pub IsNumbered : State → Action → Answer → Type 0
IsNumbered s (Epa f) answer = answer ≡ answers.Va s.vas_made
IsNumbered s action answer = Unit {0}

pub record IsDoneBy (s : State) (a : Actor) (action : Action) (e : Entry) : Type 0 where
  pub answer : Answer
  pub is : e ≡ did_by a action answer
  pub row : first_of_row (row_of s a action) ≡ None
  pub number : IsNumbered s action answer

abbrev pub is_init : Action → Bool
is_init (Init enclave expect) = true
is_init action = false

pub record IsRefusedBy (s : State) (a : Actor) (action : Action) (e : Entry) : Type 0 where
  pub refusal : Refusal
  pub is : e ≡ refused_by a action refusal
  -- its row refuses it, unless it is an `init` whose measurement is not as expected
  pub row : is_init action ≡ false → first_of_row (row_of s a action) ≡ Some refusal

abbrev pub IsEntryOf : State → Actor → Action → Entry → Type 0
IsEntryOf s a action e = IsDoneBy s a action e ⊎ IsRefusedBy s a action e

done_by : (s t : State) (a : Actor) (action : Action) (e : Entry) → first_of_row (row_of s a action) ≡ None → IsDone s a action e t
    → IsEntryOf s a action e
done_by s t a (Epa f) e row is = inl (record { answer = answers.Va s.vas_made; is = is.0; row = row; number = refl })
done_by s t a (Create enclave f base size) e row is = inl (record { answer = answers.Plain; is = is.0; row = row; number = tt })
done_by s t a (Add enclave number f kind perm init) e row is =
    inl (record { answer = answers.Plain; is = is.0; row = row; number = tt })
done_by s t a (Extend f chunk) e row is = inl (record { answer = answers.Plain; is = is.0; row = row; number = tt })
done_by s t a (Init enclave expect) e row is = by_judged is.judged
  where
    by_judged : (IsExpected expect is.digest × (e ≡ did_by a (Init enclave expect) (answers.Hash is.digest)) × (t ≡ after_init s enclave))
        ⊎ (IsOther expect is.digest × (e ≡ refused_by a (Init enclave expect) (why.BadMeasure is.digest)) × (t ≡ s))
        → IsEntryOf s a (Init enclave expect) e
    by_judged (inl k) = inl (record { answer = answers.Hash is.digest; is = k.1; row = row; number = tt })
    by_judged (inr k) = inr (record { refusal = why.BadMeasure is.digest; is = k.1; row = λ h. absurd (false≢true (sym h)) })
done_by s t a action e row is = inl (record { answer = answer_of s a action; is = is.0; row = row; number = tt })

pub entry_by : (s t : State) (a : Actor) (action : Action) (e : Entry) → IsStep s a action e t → IsEntryOf s a action e
entry_by s t a action e = by_row (first_of_row (row_of s a action)) refl
  where
    by_row : (o : Option Refusal) → first_of_row (row_of s a action) ≡ o
        → MatchOption o (IsDone s a action e t) (λ refusal. (e ≡ refused_by a action refusal) × (t ≡ s)) → IsEntryOf s a action e
    by_row None row is = done_by s t a action e row is
    by_row (Some refusal) row is = inr (record { refusal = refusal; is = is.0; row = λ h. row })

-- ---- what a move asks of the entries before it

absent_is : (p : Place) → not (is_absent p) ≡ false → p ≡ Absent
absent_is Absent h = refl
absent_is _ h = absurd (false≢true (sym h))

-- a page that is added is a TCS or REG page
abbrev pub AddsOwn : Action → Type 0
AddsOwn (Add enclave number f kind perm init) = is_own_page (page_at enclave number) ≡ true
AddsOwn action = Unit {0}

-- the next version array page was not made yet
pub not_made : (n : ℕ) → nat_lt n n ≡ false
not_made n = grind arith

-- a SECS is there where its enclave was created
there_secs : (past : List Entry) (e : ℕ) → (e == 0) ≡ false → is_there past (secs_page e) ≡ is_some (created past e)
there_secs past e some = by_test (e == 0) some
  where
    by_test : (b : Bool) → b ≡ false
        → (if b then nat_lt SECS_NUMBER (vas_made past)
        else if not b && true then is_some (created past e) else is_some (added past (secs_page e))) ≡ is_some (created past e)
    by_test true h = absurd (false≢true (sym h))
    by_test false h = refl

-- a number of an enclave is not 0
enclave_some : (e : ℕ) → is_enclave e ≡ true → (e == 0) ≡ false
enclave_some e is = by_test (e == 0) refl
  where
    by_test : (b : Bool) → (e == 0) ≡ b → b ≡ false
    by_test true zero = absurd (false≢true (ap is_enclave (sym (eqb-true e 0 zero)) ∙ is))
    by_test false zero = refl

pub did_moves : (s : State) (past : List Entry) (a : Actor) (action : Action) (answer : Answer) → is_plain action ≡ true
    → AddsOwn action → HasSecsHere past (Did action answer) → HasColumns s past → IsSound past
    → first_of_row (row_of s a action) ≡ None → CanMove past (Did action answer)
did_moves s past a (Epa f) answer plain own here columns sound row =
    let none = none_holds (epa_row (sight s f.0)) row in (
      sym (content_is columns f.0) ∙ free_there (s.content f.0) (s.is_sealing f.0) none.1.0 none.1.1.0,
      absent_is (place past (va_page (vas_made past))) (sym (sound.made (va_page (vas_made past))) ∙ not_made (vas_made past)),
    )
did_moves s past a (Create enclave f base size) answer plain own here columns sound row =
    let none = none_holds (create_row enclave base size (is_some (s.enclaves enclave)) (sight s f.0)) row in
    let beyond = (sight s f.0).is_beyond in
    let some =
    enclave_some enclave (not-false (is_enclave enclave) (neither beyond (not (is_enclave enclave))
    (neither (beyond || not (is_enclave enclave)) (not (is_lawful base size)) none.0).0).1) in (
      sym (content_is columns f.0) ∙ free_there (s.content f.0) (s.is_sealing f.0) none.1.1.0 none.1.1.1.0,
      absent_is (place past (secs_page enclave)) (sym (sound.made (secs_page enclave)) ∙ there_secs past enclave some
          ∙ ap is_some (sym (enclave_is columns enclave)) ∙ none.1.0),
      some,
    )
did_moves s past a (Add enclave number f kind perm init) answer plain own here columns sound row =
    let g : Page = page_at enclave number in
    let one =
    adds number kind perm init (enclave_sight_of (s.enclaves enclave)) (secs_sight s enclave) (is_some (s.added g)) (sight s f.0) row in (
      sym (content_is columns f.0) ∙ free_there (s.content f.0) (s.is_sealing f.0) one.idle one.empty,
      absent_is (place past g) (sym (sound.made g) ∙ own_there past g own ∙ ap is_some (sym (added_is columns g)) ∙ one.new),
      own,
      here,
    )
did_moves s past a (Block f) answer plain own here columns sound row = absurd (false≢true plain)
did_moves s past a (Track enclave) answer plain own here columns sound row = absurd (false≢true plain)
did_moves s past a (EwbStart f slot) answer plain own here columns sound row = absurd (false≢true plain)
did_moves s past a (Ewb f) answer plain own here columns sound row = absurd (false≢true plain)
did_moves s past a (EldStart f page slot) answer plain own here columns sound row = absurd (false≢true plain)
did_moves s past a (Eld f) answer plain own here columns sound row = absurd (false≢true plain)
did_moves s past a action answer plain own here columns sound row = tt

-- ---- whose it is

-- the rule Age is on the reclaimer alone
pub ages : (j : JobView) (past : List Entry) (out : Outs) (a : Actor) (event : Event) → is_reclaimer a ≡ false
    → AgeRuleBy j past out (record { actor = a; event = event })
ages j past out actors.Builder event other = tt
ages j past out (actors.Cpu p) event other = tt
ages j past out actors.Reclaimer event other = absurd (false≢true (sym other))

step_builds : (step : BuildStep) (f : ℕ) (answer : Answer) → builds_by (Did (step_action step f) answer) ≡ true
step_builds builds.Va f answer = refl
step_builds (builds.Create enclave base size) f answer = refl
step_builds (builds.Add enclave number kind perm init) f answer = refl
step_builds (builds.Extend enclave number chunk) f answer = refl
step_builds (builds.Init enclave expect) f answer = refl

-- the builder builds, and nobody else does
pub builder_builds : (j : JobView) (past : List Entry) (a : Actor) (action : Action) (answer : Answer) → is_reclaimer a ≡ false
    → ScriptRule j past (did_by a action answer) → builds_by (Did action answer) ≡ is_builder a
builder_builds j past a action answer other script =
    by_step (builds_or_none j past (outs j past) (did_by a action answer) script (ages j past (outs j past) a (Did action answer) other))
  where
    by_step : Builds j past a (Did action answer) → builds_by (Did action answer) ≡ is_builder a
    by_step (NoStep none builds_none) = builds_none ∙ sym none
    by_step (ByStep is s) =
        let told : action ≡ step_action s.step s.frame = cc in
        ap (λ x. builds_by (Did x answer)) told ∙ step_builds s.step s.frame answer ∙ sym (ap is_builder is)
