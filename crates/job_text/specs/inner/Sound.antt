-- What holds of a draft whose lines have no fault: all that makes a job valid, but for the checks of the whole.
use Rattle.std.specs.Prelude.{◌≡◌, ℕ, ◌+◌, ◌-◌, ◌^◌, ◌<◌, ◌≤◌, ◌/◌, Bool, true, List, [], ◌∷◌}
use Rattle.std.specs.Prelude.{IfSome, length, count_by, sum_by}
use Rattle.std.specs.List.{All}
use Rattle.sgx_types.specs.Lawful.{is_lawful}
use Rattle.sgx_types.specs.Digests.{IsDigest}
use Rattle.io_edges.specs.declared.plans.PlanLine.{PlanLine}
use Rattle.job_grammar.specs.declared.jobs.Op.{Op}
use Rattle.job_grammar.specs.declared.jobs.PageLine.{PageLine}
use Rattle.job_grammar.specs.declared.jobs.PageLine.TheVariants.{Tcs}
use Rattle.job_grammar.specs.Jobs.{EnclaveView, covers, enclave_pages, script_names}
use Rattle.job_grammar.specs.inner.Valid.{AreValidMarks, IsValidLine, IsOpAmong, IsPlanAmong}
use Rattle.job_lines.specs.declared.statements.Start.{Start}
use Rattle.job_text.specs.declared.tcs_lines.TcsLine.{TcsLine}
use Rattle.job_text.specs.Drafts.{Draft}

abbrev pub IsSoundStart : Start → Type 0
IsSoundStart s = (1 ≤ s.epoch) × (s.epoch ≤ 2 ^ 40 - 1) × (1 ≤ s.version) × (s.version < 2 ^ 64)

abbrev pub AreFrames : ℕ → Type 0
AreFrames n = (1 ≤ n) × (n ≤ 4096)

-- all of a valid enclave but its state save pages
pub record IsSoundEnclave (e : EnclaveView) : Type 0 where
  pub range : is_lawful e.base e.size ≡ true
  pub top : e.base + e.size ≤ 2 ^ 47
  pub lines : All (IsValidLine (e.size / 4096)) e.lines
  pub once : (n : ℕ) → count_by (covers n) e.lines ≤ 1
  pub expect : IfSome e.expect IsDigest

-- a test of the noted `tcs` lines
abbrev pub tests : (ℕ → ℕ → ℕ → Bool) → TcsLine → Type 0
tests p t = p t.enclave t.ossa t.nssa ≡ true

-- a line of this enclave is noted, where it is a `tcs` line: what holds of all noted lines holds of it
abbrev pub IsNoted : List TcsLine → ℕ → PageLine → Type 0
IsNoted ts enclave (Tcs page ossa nssa plain) = (p : ℕ → ℕ → ℕ → Bool) → All (tests p) ts → p enclave ossa nssa ≡ true
IsNoted ts enclave _ = Unit {0}

-- the lines of the enclaves from this number on are
abbrev pub AreNoted : List TcsLine → ℕ → List EnclaveView → Type 0
AreNoted ts n [] = Unit {0}
AreNoted ts n (e ∷ es) = All (IsNoted ts n) e.lines × AreNoted ts (n + 1) es

-- the enclaves, whose `tcs` lines are noted
pub record AreSoundEnclaves (ts : List TcsLine) (es : List EnclaveView) : Type 0 where
  pub each : All IsSoundEnclave es
  pub few : length es ≤ 8
  pub few_pages : sum_by enclave_pages es ≤ 4096
  pub noted : AreNoted ts 1 es

pub record AreSoundPlans (es : List EnclaveView) (plans : List PlanLine) : Type 0 where
  pub each : All (IsPlanAmong es) plans
  pub few : length plans ≤ 64

pub record AreSoundScripts (es : List EnclaveView) (scripts : List (List Op)) : Type 0 where
  pub each : All (All (IsOpAmong es)) scripts
  pub few : length scripts ≤ 16
  pub few_ops : sum_by length scripts ≤ 100000
  pub own : (enclave number : ℕ) → count_by (script_names enclave number) scripts ≤ 1

pub record IsSound (d : Draft) : Type 0 where
  pub frames : IfSome d.epc AreFrames
  pub marks : IfSome d.marks AreValidMarks
  pub key : IfSome d.key IsDigest
  pub start : IfSome d.start IsSoundStart
  pub enclaves : AreSoundEnclaves d.tcs_lines d.enclaves
  pub plans : AreSoundPlans d.enclaves d.plans
  pub scripts : AreSoundScripts d.enclaves d.scripts
