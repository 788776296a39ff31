-- Each enclave that was created is one of the job's.
use Rattle.std.proofs.Common.{◌≡◌, ◌==◌, ◌+◌, ◌≤◌, ◌<◌, ℕ, zero, suc, Bool, true, false, if◌then◌else◌}
use Rattle.std.proofs.Common.{refl, sym, ◌∙◌, subst, List, [], ◌∷◌, ◌++◌, Option, Some, None, is_some, length, map}
use Rattle.std.proofs.Common.{replicate, arith}
use Rattle.std.proofs.lemmas.Bool.{eqb-true, false≢true}
use Rattle.std.specs.List.{flat_map, slice_get}
use Rattle.sgx_rules.specs.declared.entries.Action.TheVariants as actions
use Rattle.sgx_types.specs.declared.names.Actor.{Actor}
use Rattle.sgx_rules.specs.declared.entries.Entry.{Entry}
use Rattle.sgx_types.specs.declared.lawful.PageInit.{PageInit}
use Rattle.sgx_types.specs.declared.lawful.PageInit.TheVariants as inits
use Rattle.sgx_types.specs.declared.names.Frame.{Frame}
use Rattle.sgx_types.specs.declared.names.Kind.{Kind}
use Rattle.sgx_types.specs.declared.names.Kind.TheVariants as kinds
use Rattle.sgx_types.specs.declared.names.Perm.{Perm}
use Rattle.sgx_types.specs.Pages.{no_perm}
use Rattle.sgx_rules.specs.declared.entries.Event.{Event}
use Rattle.sgx_rules.specs.declared.entries.Event.TheVariants.{Did}
use Rattle.sgx_rules.specs.inner.Enclaves.{created, created_by}
use Rattle.sgx_rules.specs.Flat.{FlatEnclave, as_initialised}
use Rattle.sgx_rules.specs.Rules.{Along}
use Rattle.job_grammar.specs.Jobs.{EnclaveView, JobView, va_pages}
use Rattle.job_grammar.specs.declared.jobs.PageLine.{PageLine}
use Rattle.job_grammar.specs.declared.jobs.PageLine.TheVariants as lines
use Rattle.script_rules.specs.Script.{build_of, built, enclave_steps, enclaves_steps, line_steps, numbers_from, page_steps}
use Rattle.script_rules.specs.Script.{step_action}
use Rattle.script_rules.specs.declared.steps.BuildStep.{BuildStep}
use Rattle.script_rules.specs.declared.steps.BuildStep.TheVariants as builds
use Rattle.driver_rules.specs.Ages.{KeptAgeRule}
use Rattle.driver_rules.specs.Spares.{outs_kept}
use Rattle.driver_rules.specs.Scripts.{ScriptRule}
use Rattle.driver_laws.proofs.StepLaws.{Builds, ByStep, NoStep, builds_or_none}

-- ---- the steps of the build

-- a step creates none but one of the enclaves from one number to before another
abbrev CreatesIn : ℕ → ℕ → BuildStep → Type 0
CreatesIn low high (builds.Create enclave base size) = (low ≤ enclave) × (enclave < high)
CreatesIn low high step = Unit {0}

abbrev AllIn : ℕ → ℕ → List BuildStep → Type 0
AllIn low high [] = Unit {0}
AllIn low high (step ∷ steps) = CreatesIn low high step × AllIn low high steps

all_append : (low high : ℕ) (xs ys : List BuildStep) → AllIn low high xs → AllIn low high ys → AllIn low high (xs ++ ys)
all_append low high [] ys h k = k
all_append low high (x ∷ xs) ys h k = (h.0, all_append low high xs ys h.1 k)

arrays_in : (low high n : ℕ) → AllIn low high (replicate n builds.Va)
arrays_in low high zero = tt
arrays_in low high (suc n) = (tt, arrays_in low high n)

chunks_in : (low high enclave number : ℕ) (ns : List ℕ) → AllIn low high (map (builds.Extend enclave number) ns)
chunks_in low high enclave number [] = tt
chunks_in low high enclave number (n ∷ ns) = (tt, chunks_in low high enclave number ns)

page_in : (low high enclave number : ℕ) (kind : Kind) (perm : Perm) (init : PageInit) (plain : Bool)
    → AllIn low high (page_steps enclave number kind perm init plain)
page_in low high enclave number kind perm init true = (tt, tt)
page_in low high enclave number kind perm init false = (tt, chunks_in low high enclave number (numbers_from 0 16))

run_in : (low high first count : ℕ) (steps : ℕ → List BuildStep) → ((n : ℕ) → AllIn low high (steps n))
    → AllIn low high (flat_map steps (numbers_from first count))
run_in low high first zero steps each = tt
run_in low high first (suc count) steps each =
    all_append low high (steps first) (flat_map steps (numbers_from (first + 1) count)) (each first)
    (run_in low high (first + 1) count steps each)

line_in : (low high enclave : ℕ) (line : PageLine) → AllIn low high (line_steps enclave line)
line_in low high enclave (lines.Tcs page ossa nssa plain) = page_in low high enclave page kinds.Tcs no_perm (inits.Tcs ossa nssa) plain
line_in low high enclave (lines.Reg first count perm value plain) =
    run_in low high first count (λ n. page_steps enclave n kinds.Reg perm (inits.Words value) plain)
    (λ n. page_in low high enclave n kinds.Reg perm (inits.Words value) plain)

lines_in : (low high enclave : ℕ) (xs : List PageLine) → AllIn low high (flat_map (line_steps enclave) xs)
lines_in low high enclave [] = tt
lines_in low high enclave (x ∷ xs) =
    all_append low high (line_steps enclave x) (flat_map (line_steps enclave) xs) (line_in low high enclave x)
    (lines_in low high enclave xs)

enclaves_in : (low high enclave : ℕ) (es : List EnclaveView) → low ≤ enclave → enclave + length es ≤ high
    → AllIn low high (enclaves_steps enclave es)
enclaves_in low high enclave [] above below = tt
enclaves_in low high enclave (e ∷ es) above below =
    all_append low high (enclave_steps enclave e) (enclaves_steps (enclave + 1) es) (
      (above, omega (arith, below)),
      all_append low high (flat_map (line_steps enclave) e.lines) (builds.Init enclave e.expect ∷ [])
          (lines_in low high enclave e.lines) (tt, tt),
    )
    (enclaves_in low high (enclave + 1) es (omega (arith, above)) (omega (arith, below)))

build_in : (j : JobView) → AllIn 1 (1 + length j.enclaves) (build_of j)
build_in j =
    all_append 1 (1 + length j.enclaves) (replicate (va_pages j) builds.Va) (enclaves_steps 1 j.enclaves)
    (arrays_in 1 (1 + length j.enclaves) (va_pages j))
    (enclaves_in 1 (1 + length j.enclaves) 1 j.enclaves (omega arith) (omega arith))

one_of : (low high : ℕ) (steps : List BuildStep) (k : ℕ) (step : BuildStep) → AllIn low high steps → slice_get steps k ≡ Some step
    → CreatesIn low high step
one_of low high [] k step all at = cc
one_of low high (x ∷ xs) zero step all at = let same : x ≡ step = cc in subst (CreatesIn low high) same all.0
one_of low high (x ∷ xs) (suc k) step all at = one_of low high xs k step all.1 at

-- ---- along a run

abbrev IsJobs : JobView → ℕ → Type 0
IsJobs j enclave = (1 ≤ enclave) × (enclave ≤ length j.enclaves)

created_step : (j : JobView) (step : BuildStep) (f enclave : ℕ) (frame : Frame) (base size : ℕ)
    → actions.Create enclave frame base size ≡ step_action step f → CreatesIn 1 (1 + length j.enclaves) step → IsJobs j enclave
created_step j (builds.Create e b s) f enclave frame base size is in_range =
    let same : enclave ≡ e = cc in
    let low = in_range.0 in let high = in_range.1 in (omega (arith, same, low), omega (arith, same, high))
created_step j builds.Va f enclave frame base size is in_range = cc
created_step j (builds.Add e n k p i) f enclave frame base size is in_range = cc
created_step j (builds.Extend e n c) f enclave frame base size is in_range = cc
created_step j (builds.Init e x) f enclave frame base size is in_range = cc

created_more : (j : JobView) (past : List Entry) (a : Actor) (ev : Event) → Builds j past a ev → (n : ℕ)
    → (is_some (created past n) ≡ true → IsJobs j n) → is_some (created_by ev n (created past n)) ≡ true → IsJobs j n
created_more j past a (Did (actions.Create enclave f base size) answer) (ByStep is s) n before made =
    by_number (n == enclave) refl made
  where
    own : IsJobs j enclave
    own =
        let told : actions.Create enclave f base size ≡ step_action s.step s.frame = cc in
        created_step j s.step s.frame enclave f base size told
        (one_of 1 (1 + length j.enclaves) (build_of j) (built past) s.step (build_in j) s.there)

    by_number : (b : Bool) → (n == enclave) ≡ b
        → is_some (if b then Some (record { base = base; size = size; is_init = false }) else created past n) ≡ true → IsJobs j n
    by_number true is made = subst (IsJobs j) (sym (eqb-true n enclave is)) own
    by_number false is made = before made
created_more j past a (Did (actions.Create enclave f base size) answer) (NoStep other none) n before made =
    absurd (false≢true (sym none))
created_more j past a (Did (actions.Init enclave expect) answer) by n before made = by_number (n == enclave) made
  where
    unmarked : (o : Option FlatEnclave) → is_some (as_initialised o) ≡ true → is_some o ≡ true
    unmarked None h = h
    unmarked (Some x) h = refl

    by_number : (b : Bool) → is_some (if b then as_initialised (created past n) else created past n) ≡ true → IsJobs j n
    by_number true h = before (unmarked (created past n) h)
    by_number false h = before h
created_more j past a _ by n before made = before made

-- each enclave that was created has one of the job's numbers
pub created_are_jobs : (j : JobView) (past : List Entry) → Along (ScriptRule j) past → Along (KeptAgeRule j) past → (n : ℕ)
    → is_some (created past n) ≡ true → (1 ≤ n) × (n ≤ length j.enclaves)
created_are_jobs j [] script age n made = absurd (false≢true made)
created_are_jobs j (e ∷ past) script age n made =
    created_more j past e.actor e.event (builds_or_none j past (outs_kept j past) e script.0 age.0) n
    (created_are_jobs j past script.1 age.1 n) made
