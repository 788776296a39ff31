-- The steps that are left, and the first of them.
use Rattle.std.proofs.Common.{◌≡◌, ℕ, zero, suc, ◌+◌, ◌-◌, ◌/◌, ◌<◌, ◌≤◌, Bool, true, false, cond, refl}
use Rattle.std.proofs.Common.{arith, sym, ◌∙◌, Some, List, [], ◌∷◌, ◌++◌, length, get_or, slice_get, map, drop, replicate}
use Rattle.std.specs.List.{All, flat_map}
use Rattle.std.proofs.lemmas.List.{append-nil, append_assoc, drop_more}
use Rattle.std.proofs.lemmas.List.Concat.{flat_map-cons}
use Rattle.std.proofs.lemmas.Option.{get_or_from_slice_get, slice_get-map, slice_get_read, slice_get_within}
use Rattle.std.proofs.Math.ListN.{drop_of_length-le}
use Rattle.sgx_types.specs.declared.lawful.PageInit.{PageInit}
use Rattle.sgx_types.specs.declared.names.Kind.{Kind}
use Rattle.sgx_types.specs.declared.names.Perm.{Perm}
use Rattle.job_grammar.specs.declared.jobs.EnclaveJob.{EnclaveJob}
use Rattle.job_grammar.specs.declared.jobs.PageLine.{PageLine}
use Rattle.job_grammar.specs.declared.jobs.PageLine.TheVariants as lines
use Rattle.job_grammar.specs.Jobs.{EnclaveView, JobView, first_page, page_count}
use Rattle.job_grammar.specs.inner.Jobs.{enclave_view}
use Rattle.job_grammar.specs.inner.Valid.{IsValidEnclave, IsValidLine}
use Rattle.job_grammar.proofs.EnclaveLaws.{lawful-size}
use Rattle.script_rules.specs.declared.steps.BuildStep.{BuildStep}
use Rattle.script_rules.specs.declared.steps.BuildStep.TheVariants as builds
use Rattle.script_rules.specs.Script.{chunk_steps, enclaves_steps, line_steps, numbers_from, page_steps}
use Rattle.script_rules.specs.declared.cursor.BuildCursor.{BuildCursor}
use Rattle.script_rules.specs.declared.cursor.PageRun.{PageRun}
use Rattle.script_rules.specs.inner.Cursor.{left, run_left}

-- ---- the pages of a line

numbers_first : (k count : ℕ) → 0 < count → numbers_from k count ≡ k ∷ numbers_from (k + 1) (count - 1)
numbers_first k zero some = absurd (omega (arith, some))
numbers_first k (suc count) some = let rest : suc count - 1 ≡ count = omega arith in rw rest refl

pub chunk_first : (enclave added k : ℕ) → k < 16 → map (builds.Extend enclave added) (numbers_from k (16 - k)) ≡ builds.Extend enclave added
    k ∷ map (builds.Extend enclave added) (numbers_from (k + 1) (16 - (k + 1)))
chunk_first enclave added k below =
    let rest : 16 - k - 1 ≡ 16 - (k + 1) = omega arith in
    rw (numbers_first k (16 - k) (omega (arith, below)), rest) refl

pub chunks_whole : (enclave number : ℕ) (plain : Bool)
    → chunk_steps enclave number plain ≡ map (builds.Extend enclave number) (numbers_from (cond plain 16 0) (16 - cond plain 16 0))
chunks_whole enclave number true = refl
chunks_whole enclave number false = refl

pub page_first : (enclave number count : ℕ) (kind : Kind) (perm : Perm) (init : PageInit) (plain : Bool) → 0 < count
    → flat_map (λ n. page_steps enclave n kind perm init plain) (numbers_from number count)
    ≡ builds.Add enclave number kind perm init ∷ (map (builds.Extend enclave number) (numbers_from (cond plain 16 0) (16 - cond plain 16 0))
    ++ flat_map (λ n. page_steps enclave n kind perm init plain) (numbers_from (number + 1) (count - 1)))
page_first enclave number count kind perm init plain some =
    let steps : ℕ → List BuildStep = λ n. page_steps enclave n kind perm init plain in
    rw (
      numbers_first number count some,
      flat_map-cons steps number (numbers_from (number + 1) (count - 1)),
      chunks_whole enclave number
          plain,
    ) refl

pub one_page : (enclave page : ℕ) (kind : Kind) (perm : Perm) (init : PageInit) (plain : Bool)
    → flat_map (λ n. page_steps enclave n kind perm init plain) (numbers_from page 1) ≡ page_steps enclave page kind perm init plain
one_page enclave page kind perm init plain =
    flat_map-cons (λ n. page_steps enclave n kind perm init plain) page [] ∙ append-nil (page_steps enclave page kind perm init plain)

-- ---- version arrays

pub va_first : (count : ℕ) → 0 < count → replicate count builds.Va ≡ builds.Va ∷ replicate (count - 1) builds.Va
va_first zero some = absurd (omega (arith, some))
va_first (suc count) some = let rest : suc count - 1 ≡ count = omega arith in rw rest refl

-- ---- enclaves

pub view_at : (jobs : List EnclaveJob) (es : List EnclaveView) (i : ℕ) (x : EnclaveJob) → map enclave_view jobs ≡ es → i < length jobs
    → x ≡ get_or jobs i x → slice_get es i ≡ Some (enclave_view x)
view_at jobs es i x all here is = rw (← all, slice_get-map enclave_view jobs i, slice_get_read jobs (length jobs) i x refl here is) refl

pub enclave_first : (es : List EnclaveView) (i : ℕ) (x : EnclaveView) → slice_get es i ≡ Some x
    → enclaves_steps (i + 1) (drop i es) ≡ builds.Create (i + 1) x.base
    x.size ∷ ((flat_map (line_steps (i + 1)) x.lines ++ builds.Init (i + 1) x.expect ∷ [])
    ++ enclaves_steps (i + 1 + 1) (drop (i + 1) es))
enclave_first es i x is = rw (drop_more es i x (slice_get_within es i x is), get_or_from_slice_get es i x x is) refl

-- where nothing is left of a line, the next one begins
pub line_first : (enclave : ℕ) (ls : List PageLine) (i : ℕ) (line : PageLine) (rest : List BuildStep) → i < length ls
    → line ≡ get_or ls i line
    → flat_map (line_steps enclave) (drop i ls) ++ rest ≡ line_steps enclave line
    ++ (flat_map (line_steps enclave) (drop (i + 1) ls) ++ rest)
line_first enclave ls i line rest here is =
    rw (drop_more ls i line here, ← is, flat_map-cons (line_steps enclave) line (drop (i + 1) ls))
    (append_assoc (line_steps enclave line) (flat_map (line_steps enclave) (drop (i + 1) ls)) rest)

-- ---- the lines of a valid enclave

-- a line adds a page or more, of those that an enclave can have
pub record IsLine (line : PageLine) : Type 0 where
  pub some : 1 ≤ page_count line
  pub fits : first_page line + page_count line ≤ 4096

small_line : (pages : ℕ) (line : PageLine) → pages ≤ 4096 → IsValidLine pages line → IsLine line
small_line pages (lines.Tcs page ossa nssa plain) few ok = record { some = omega arith; fits = omega (arith, few, ok.2) }
small_line pages (lines.Reg first count perm value plain) few ok = record { some = ok.0; fits = omega (arith, few, ok.1) }

pub line_of : (e : EnclaveView) (i : ℕ) (line : PageLine) → i < length e.lines → line ≡ get_or e.lines i line → IsValidEnclave e
    → IsLine line
line_of e i line here is valid = let size = lawful-size e valid in
    rw is (small_line (e.size / 4096) (get_or e.lines i line) (omega (arith, size)) (valid.lines i line here))

pub valid_of : (es : List EnclaveView) (i : ℕ) (x : EnclaveView) → slice_get es i ≡ Some x → All IsValidEnclave es → IsValidEnclave x
valid_of es i x is valid = let v = valid i x (slice_get_within es i x is) in rw (get_or_from_slice_get es i x x is) at v

-- ---- one step fewer is left

pub left_page : (enclave chunk : ℕ) (r : PageRun) → r.chunk ≡ 16 → 1 ≤ r.count → chunk ≡ cond r.plain 16 0
    → run_left enclave r ≡ builds.Add enclave r.number r.kind r.perm r.init ∷ run_left enclave
    (let next : PageRun = record {
      added = r.number;
      chunk = chunk;
      number = r.number + 1;
      count = r.count - 1;
      kind = r.kind;
      perm = r.perm;
      init = r.init;
      plain = r.plain;
    } in next)
left_page enclave chunk r whole some is =
    rw (whole, is, page_first enclave r.number r.count r.kind r.perm r.init r.plain (omega (arith, some))) refl

some_first : (n i : ℕ) (es : List EnclaveView) → i < length es → 1 ≤ length (enclaves_steps n (drop i es))
some_first n i [] below = absurd (omega (arith, below))
some_first n zero (e ∷ es) below = omega arith
some_first n (suc i) (e ∷ es) below = some_first n i es (omega (arith, below))

module _ (j : JobView) (c : BuildCursor) (vas : c.vas ≡ 0) where
  -- an enclave that was not created is left
  pub some_left : c.unfinished ≡ false → c.enclave < length j.enclaves → 1 ≤ length (left j c)
  some_left finished below = rw (vas, finished) (some_first (c.enclave + 1) c.enclave j.enclaves below)

  pub left_enclave : (x : EnclaveView) (pages : PageRun) → c.unfinished ≡ false → slice_get j.enclaves c.enclave ≡ Some x
      → ((e : ℕ) → run_left e pages ≡ [])
      → left j c ≡ builds.Create (c.enclave + 1) x.base x.size ∷ left j
      (let next : BuildCursor = record { vas = c.vas; enclave = c.enclave + 1; unfinished = true; line = 0; pages = pages } in next)
  left_enclave x pages finished at none =
      let number : c.enclave + 1 - 1 ≡ c.enclave = omega arith in
      rw (vas, finished, number, at, none (c.enclave + 1), enclave_first j.enclaves c.enclave x at) refl

  pub left_init : (x : EnclaveView) (pages : PageRun) → c.unfinished ≡ true → slice_get j.enclaves (c.enclave - 1) ≡ Some x
      → run_left c.enclave c.pages ≡ [] → length x.lines ≤ c.line
      → left j c ≡ builds.Init c.enclave x.expect ∷ left j
      (let next : BuildCursor = record { vas = c.vas; enclave = c.enclave; unfinished = false; line = c.line; pages = pages } in next)
  left_init x pages unfinished at none past = rw (vas, unfinished, at, none, drop_of_length-le x.lines past) refl

  pub left_line : (x : EnclaveView) (line : PageLine) (run pages : PageRun) (step : BuildStep) → c.unfinished ≡ true
      → slice_get j.enclaves (c.enclave - 1) ≡ Some x → run_left c.enclave c.pages ≡ []
      → c.line < length x.lines → line ≡ get_or x.lines c.line line → run_left c.enclave run ≡ line_steps c.enclave line
      → run_left c.enclave run ≡ step ∷ run_left c.enclave pages
      → left j c ≡ step ∷ left j (let next : BuildCursor =
      record { vas = c.vas; enclave = c.enclave; unfinished = c.unfinished; line = c.line + 1; pages = pages } in next)
  left_line x line run pages step unfinished at none here this is first =
      let steps : line_steps c.enclave line ≡ step ∷ run_left c.enclave pages = sym is ∙ first in
      rw (vas, unfinished, at, none, line_first c.enclave x.lines c.line line (builds.Init c.enclave x.expect ∷ []) here this, steps) refl
