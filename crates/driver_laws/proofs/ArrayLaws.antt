-- The version array pages are made first, all of them before a page is added.
use Rattle.std.proofs.Common.{◌≡◌, ℕ, zero, suc, ◌+◌, ◌≤◌, ◌||◌, Bool, true, false, cond, if◌then◌else◌, refl}
use Rattle.std.proofs.Common.{sym, ◌∙◌, ap, List, [], ◌∷◌, ◌++◌, Some, length, map, take, replicate, slice_get, arith}
use Rattle.std.proofs.Common.{nat_le}
use Rattle.std.proofs.lemmas.Bool.{false≢true, leb-false, leb-true}
use Rattle.std.proofs.lemmas.List.{length-take}
use Rattle.std.proofs.lemmas.List.Sums.{count_by-le-length, sum_by-append, sum_by-cons, sum_by-take-le}
use Rattle.std.specs.List.{count_by, flat_map}
use Rattle.sgx_types.specs.Pages.{no_perm}
use Rattle.sgx_types.specs.declared.names.Actor.{Actor}
use Rattle.sgx_rules.specs.declared.entries.Entry.{Entry}
use Rattle.sgx_rules.specs.declared.entries.Event.{Event}
use Rattle.sgx_rules.specs.declared.entries.Event.TheVariants.{Did}
use Rattle.sgx_types.specs.declared.lawful.PageInit.{PageInit}
use Rattle.sgx_types.specs.declared.names.Kind.{Kind}
use Rattle.sgx_types.specs.declared.names.Perm.{Perm}
use Rattle.sgx_rules.specs.Frames.{vas_made}
use Rattle.job_grammar.specs.Jobs.{EnclaveView, JobView, va_pages}
use Rattle.job_grammar.specs.declared.jobs.PageLine.{PageLine}
use Rattle.script_rules.specs.Script.{build_of, built, chunk_steps, enclave_steps, enclaves_steps, is_builder, line_steps, numbers_from}
use Rattle.script_rules.specs.Script.{page_steps}
use Rattle.script_rules.specs.declared.steps.BuildStep.{BuildStep}
use Rattle.driver_rules.specs.Ages.{AgeRuleBy}
use Rattle.driver_rules.specs.Scripts.{ScriptRule}
use Rattle.driver_rules.specs.Spares.{Outs}
use Rattle.driver_laws.specs.inner.Agrees.{has_pages, is_add}
use Rattle.driver_laws.specs.inner.Counted.{AddsAreBuilt, is_add_step, pages_added, with_added}
use Rattle.driver_laws.specs.inner.Keeps.{ArraysAreBuilt, ArraysFirst, is_epa, is_epa_refused, is_va_step}
use Rattle.driver_laws.proofs.BuiltLaws.{epa_built, one_va, vas_moved}
use Rattle.driver_laws.proofs.StepLaws.{adds_by, arrays_by, Builds, builds_by, builds_or_none, ByStep, counts, epa_by, IsStep, NoStep}
use Rattle.driver_laws.proofs.StepLaws.{step_counts}
use Rattle.sgx_rules.specs.declared.entries.Action.TheVariants as actions
use Rattle.sgx_types.specs.declared.lawful.PageInit.TheVariants as inits
use Rattle.sgx_types.specs.declared.names.Kind.TheVariants as kinds
use Rattle.job_grammar.specs.declared.jobs.PageLine.TheVariants as lines
use Rattle.script_rules.specs.declared.steps.BuildStep.TheVariants as builds

-- ---- how many version array pages the build makes

abbrev vas_in : List BuildStep → ℕ
vas_in steps = count_by is_va_step steps

abbrev one_add : BuildStep → ℕ
one_add step = cond (is_add_step step) 1 0

vas_more : (x : BuildStep) (xs : List BuildStep) → vas_in (x ∷ xs) ≡ one_va x + vas_in xs
vas_more x xs = sum_by-cons one_va x xs

vas_append : (xs ys : List BuildStep) → vas_in (xs ++ ys) ≡ vas_in xs + vas_in ys
vas_append xs ys = sum_by-append one_va xs ys

-- none stands behind the first steps
vas_none : {X : Type 0} (steps : X → List BuildStep) (xs : List X) → ((x : X) → vas_in (steps x) ≡ 0) → vas_in (flat_map steps xs) ≡ 0
vas_none steps [] none = refl
vas_none steps (x ∷ xs) none = vas_append (steps x) (flat_map steps xs) ∙ omega (arith, none x, vas_none steps xs none)

chunks_none : (enclave number : ℕ) (ns : List ℕ) → vas_in (map (builds.Extend enclave number) ns) ≡ 0
chunks_none enclave number [] = refl
chunks_none enclave number (n ∷ ns) =
    vas_more (builds.Extend enclave number n) (map (builds.Extend enclave number) ns) ∙ omega (arith, chunks_none enclave number ns)

page_none : (enclave number : ℕ) (kind : Kind) (perm : Perm) (init : PageInit) (plain : Bool)
    → vas_in (page_steps enclave number kind perm init plain) ≡ 0
page_none enclave number kind perm init true = refl
page_none enclave number kind perm init false =
    vas_more (builds.Add enclave number kind perm init) (chunk_steps enclave number false) ∙ omega
    (arith, chunks_none enclave number (numbers_from 0 16))

line_none : (enclave : ℕ) (line : PageLine) → vas_in (line_steps enclave line) ≡ 0
line_none enclave (lines.Tcs page ossa nssa plain) = page_none enclave page kinds.Tcs no_perm (inits.Tcs ossa nssa) plain
line_none enclave (lines.Reg first count perm value plain) =
    vas_none (λ n. page_steps enclave n kinds.Reg perm (inits.Words value) plain) (numbers_from first count)
    (λ n. page_none enclave n kinds.Reg perm (inits.Words value) plain)

enclave_none : (enclave : ℕ) (e : EnclaveView) → vas_in (enclave_steps enclave e) ≡ 0
enclave_none enclave e =
    let steps = flat_map (line_steps enclave) e.lines in
    let last : vas_in (builds.Init enclave e.expect ∷ []) ≡ 0 = refl in
    vas_more (builds.Create enclave e.base e.size) (steps ++ builds.Init enclave e.expect ∷ []) ∙ omega
    (arith, vas_append steps (builds.Init enclave e.expect ∷ []), last, vas_none (line_steps enclave) e.lines (line_none enclave))

enclaves_none : (enclave : ℕ) (es : List EnclaveView) → vas_in (enclaves_steps enclave es) ≡ 0
enclaves_none enclave [] = refl
enclaves_none enclave (e ∷ es) =
    vas_append (enclave_steps enclave e) (enclaves_steps (enclave + 1) es) ∙ omega
    (arith, enclave_none enclave e, enclaves_none (enclave + 1) es)

-- ---- the first steps, and those behind them

-- among the first steps is no add
firsts_add_none : (n i : ℕ) (rest : List BuildStep) → i ≤ n → count_by is_add_step (take i (replicate n builds.Va ++ rest)) ≡ 0
firsts_add_none n zero rest low = refl
firsts_add_none zero (suc i) rest low = omega (arith, low)
firsts_add_none (suc n) (suc i) rest low =
    let fewer : i ≤ n = omega (arith, low) in
    sum_by-cons one_add builds.Va (take i (replicate n builds.Va ++ rest)) ∙ omega
    (arith, firsts_add_none n i rest fewer)

-- behind them all version array pages are made
then_all_made : (n i : ℕ) (rest : List BuildStep) → vas_in rest ≡ 0 → n ≤ i → vas_in (take i (replicate n builds.Va ++ rest)) ≡ n
then_all_made zero i rest none low =
    let few : vas_in (take i rest) ≤ vas_in rest = sum_by-take-le one_va rest i in omega (arith, few, none)
then_all_made (suc n) zero rest none low = omega (arith, low)
then_all_made (suc n) (suc i) rest none low =
    let fewer : n ≤ i = omega (arith, low) in
    vas_more builds.Va (take i (replicate n builds.Va ++ rest)) ∙ omega (arith, then_all_made n i rest none fewer)

all_made : (j : JobView) (n : ℕ) → va_pages j ≤ n → counts is_va_step j n ≡ va_pages j
all_made j n behind = then_all_made (va_pages j) n (enclaves_steps 1 j.enclaves) (enclaves_none 1 j.enclaves) behind

-- so no more are made than the job has
pub arrays_few : (j : JobView) (past : List Entry) → AddsAreBuilt j past → vas_made past ≤ va_pages j
arrays_few j past h = by_test (nat_le (va_pages j) (built past)) refl
  where
    by_test : (b : Bool) → nat_le (va_pages j) (built past) ≡ b → vas_made past ≤ va_pages j
    by_test true is = omega (arith, h.arrays, all_made j (built past) (leb-true (va_pages j) (built past) is))
    by_test false is =
        let low = leb-false (va_pages j) (built past) is in
        let few = count_by-le-length is_va_step (take (built past) (build_of j)) in
        let size = length-take (built past) (build_of j) in
        omega (arith, low, few, size, h.arrays)

-- a step that makes a version array page is among the first
va_is_first : (j : JobView) (past : List Entry) (step : BuildStep) → slice_get (build_of j) (built past) ≡ Some step
    → is_va_step step ≡ true → built past ≤ va_pages j
va_is_first j past step there va = by_test (nat_le (built past) (va_pages j)) refl
  where
    by_test : (b : Bool) → nat_le (built past) (va_pages j) ≡ b → built past ≤ va_pages j
    by_test true is = leb-true (built past) (va_pages j) is
    by_test false is =
        let high = leb-false (built past) (va_pages j) is in
        let one : one_va step ≡ 1 = ap (λ b. cond b 1 0) va in
        let more = step_counts is_va_step j past step there in
        absurd (omega (arith, one, all_made j (built past) (omega (arith, high)), all_made j (built past + 1) (omega (arith, high)), more))

-- .. and one that adds a page is not
add_is_behind : (j : JobView) (past : List Entry) (step : BuildStep) → slice_get (build_of j) (built past) ≡ Some step
    → is_add_step step ≡ true → va_pages j ≤ built past
add_is_behind j past step there add = by_test (nat_le (va_pages j) (built past)) refl
  where
    by_test : (b : Bool) → nat_le (va_pages j) (built past) ≡ b → va_pages j ≤ built past
    by_test true is = leb-true (va_pages j) (built past) is
    by_test false is =
        let low = leb-false (va_pages j) (built past) is in
        let one : one_add step ≡ 1 = ap (λ b. cond b 1 0) add in
        let next = firsts_add_none (va_pages j) (built past + 1) (enclaves_steps 1 j.enclaves) (omega (arith, low)) in
        let more = step_counts is_add_step j past step there in absurd (omega (arith, one, next, more))

-- ---- what follows

none_has_pages : (past : List Entry) → length (pages_added past) ≤ 0 → has_pages past ≡ false
none_has_pages [] few = refl
none_has_pages (e ∷ past) few = by_event e.event few (none_has_pages past)
  where
    by_event : (ev : Event) → length (with_added ev (pages_added past)) ≤ 0
        → (length (pages_added past) ≤ 0 → has_pages past ≡ false) → (is_add ev || has_pages past) ≡ false
    by_event (Did (actions.Add n number f kind perm init) answer) k before = absurd (omega (arith, k))
    by_event _ k before = before k

-- the version array pages come first
pub arrays_first : (j : JobView) (past : List Entry) (out : Outs) (e : Entry) → ScriptRule j past e → AgeRuleBy j past out e
    → AddsAreBuilt j past → ArraysAreBuilt j past → ArraysFirst j past e.event
arrays_first j past out e script age adds arrays = by_event e.event (builds_or_none j past out e script age)
  where
    by_epa : (ev : Event) → is_epa ev ≡ true → builds_by ev ≡ true → Builds j past e.actor ev → has_pages past ≡ false
    by_epa ev epa there (NoStep other none) = absurd (false≢true (sym none ∙ there))
    by_epa ev epa there (ByStep is s) =
        let first = va_is_first j past s.step s.there (arrays_by ev s.step s.frame s.made epa) in
        let none = firsts_add_none (va_pages j) (built past) (enclaves_steps 1 j.enclaves) first in
        none_has_pages past (omega (arith, none, adds.adds))

    by_add : (ev : Event) → is_add ev ≡ true → builds_by ev ≡ true → Builds j past e.actor ev → vas_made past ≡ va_pages j
    by_add ev add there (NoStep other none) = absurd (false≢true (sym none ∙ there))
    by_add ev add there (ByStep is s) =
        let behind = add_is_behind j past s.step s.there (adds_by ev s.step s.frame s.made add) in
        arrays ∙ all_made j (built past) behind

    by_event : (ev : Event) → Builds j past e.actor ev → ArraysFirst j past ev
    by_event (Did (actions.Epa f) answer) b = by_epa (Did (actions.Epa f) answer) refl refl b
    by_event (Did (actions.Add n number f kind perm init) answer) b =
        by_add (Did (actions.Add n number f kind perm init) answer) refl refl b
    by_event _ b = tt

-- ---- one entry more

pub first_arrays : (j : JobView) → ArraysAreBuilt j []
first_arrays j = refl

pub stays_arrays : (j : JobView) (past : List Entry) (out : Outs) (e : Entry) → ScriptRule j past e → AgeRuleBy j past out e
    → is_epa_refused e.event ≡ false → ArraysAreBuilt j past → ArraysAreBuilt j (e ∷ past)
stays_arrays j past out e script age done h = by_step e.actor (builds_or_none j past out e script age)
  where
    same_kind : (s : IsStep j past e.event) (b c : Bool) → is_epa e.event ≡ b → is_va_step s.step ≡ c → is_epa e.event ≡ is_va_step s.step
    same_kind s true c epa va = epa ∙ sym (arrays_by e.event s.step s.frame s.made epa)
    same_kind s false true epa va = epa_by e.event s.step s.frame s.made done va ∙ sym va
    same_kind s false false epa va = epa ∙ sym va

    made : (s : IsStep j past e.event) → vas_made (e ∷ past) ≡ counts is_va_step j (built past + 1)
    made s =
        vas_moved e.event (vas_made past) ∙ rw (same_kind s (is_epa e.event) (is_va_step s.step) refl refl, h)
        (sym (step_counts is_va_step j past s.step s.there))

    kept : builds_by e.event ≡ false → vas_made (e ∷ past) ≡ counts is_va_step j (built past)
    kept none = vas_moved e.event (vas_made past) ∙ rw (epa_built e.event none) (omega (arith, h))

    by_step : (a : Actor) → Builds j past a e.event
        → vas_made (e ∷ past) ≡ counts is_va_step j (if is_builder a then built past + 1 else built past)
    by_step a (ByStep is s) = rw is (made s)
    by_step a (NoStep other none) = rw other (kept none)
