-- What is left of a build.
use Rattle.std.specs.Prelude.{ℕ, ◌≡◌, ◌+◌, ◌-◌, ◌≤◌, true, if◌then◌else◌, List, [], ◌∷◌, ◌++◌, Option}
use Rattle.std.specs.Prelude.{Some, None, drop, flat_map, length, map, replicate, slice_get}
use Rattle.job_grammar.specs.Jobs.{EnclaveView, JobView}
use Rattle.script_rules.specs.declared.steps.BuildStep.{BuildStep}
use Rattle.script_rules.specs.declared.steps.BuildStep.TheVariants as builds
use Rattle.script_rules.specs.Script.{enclaves_steps, line_steps, numbers_from, page_steps}
use Rattle.script_rules.specs.declared.cursor.BuildCursor.{BuildCursor}
use Rattle.script_rules.specs.declared.cursor.PageRun.{PageRun}

-- ---- the pages of a line

-- the chunks of the page that was added last, and then the pages that were not added
abbrev pub run_left : ℕ → PageRun → List BuildStep
run_left enclave r =
    map (builds.Extend enclave r.added) (numbers_from r.chunk (16 - r.chunk))
    ++ flat_map (λ n. page_steps enclave n r.kind r.perm r.init r.plain) (numbers_from r.number r.count)

-- a page has 16 chunks, and an enclave 4096 pages
pub record IsRun (r : PageRun) : Type 0 where
  pub chunks : r.chunk ≤ 16
  pub pages : r.number + r.count ≤ 4096

-- ---- the enclaves

-- the rest of an enclave, where so many of its lines were begun
abbrev pub open_left : ℕ → Option EnclaveView → BuildCursor → List BuildStep
open_left enclave None c = []
open_left enclave (Some e) c =
    run_left enclave c.pages ++ (flat_map (line_steps enclave) (drop c.line e.lines) ++ builds.Init enclave e.expect ∷ [])

-- the steps that are left: the version arrays, the rest of the enclave that was created last, and the enclaves behind it
abbrev pub left : JobView → BuildCursor → List BuildStep
left j c =
    replicate c.vas builds.Va
    ++ ((if c.unfinished then open_left c.enclave (slice_get j.enclaves (c.enclave - 1)) c else [])
    ++ enclaves_steps (c.enclave + 1) (drop c.enclave j.enclaves))

-- a cursor stands in the build of this job
pub record IsCursor (j : JobView) (c : BuildCursor) : Type 0 where
  pub few : c.enclave ≤ length j.enclaves
  pub begun : c.unfinished ≡ true → 1 ≤ c.enclave
  pub pages : IsRun c.pages
