-- When a job is valid.
use Rattle.std.specs.Prelude.{ℕ, ◌≡◌, ◌+◌, ◌-◌, ◌/◌, ◌%◌, ◌^◌, ◌<◌, ◌≤◌, true, List, Option, None}
use Rattle.std.specs.Prelude.{Some, IfSome, length, count_by, sum_by}
use Rattle.std.specs.List.{All}
use Rattle.sgx_types.specs.Lawful.{is_lawful}
use Rattle.io_edges.specs.declared.plans.PlanLine.{PlanLine}
use Rattle.io_edges.specs.declared.plans.PlanLine.TheVariants.{FailRoom, FailPut, FailGet, DropGet, Flip, Replay, Swap}
use Rattle.job_grammar.specs.declared.jobs.Marks.{Marks}
use Rattle.job_grammar.specs.declared.jobs.PageLine.{PageLine}
use Rattle.job_grammar.specs.declared.jobs.PageLine.TheVariants.{Tcs, Reg}
use Rattle.job_grammar.specs.declared.jobs.Op.{Op}
use Rattle.job_grammar.specs.declared.jobs.Op.TheVariants.{Enter, Resume, Exit, Timer, Load, Store, Xadd, Set, Plus, OutLoad}
use Rattle.job_grammar.specs.declared.jobs.Op.TheVariants.{OutStore}
use Rattle.job_grammar.specs.Jobs.{EnclaveView, JobView, covers, enclave_at, is_tcs_page, is_save_page, lines_at, job_pages}
use Rattle.job_grammar.specs.inner.Jobs.{is_added_page}
use Rattle.job_grammar.specs.Jobs.{needed, script_names}
use Rattle.sgx_types.specs.Digests.{IsDigest}

-- ---- options

-- 1 ≤ low < high ≤ 4096, and a pass looks at 1 to 64 pages
abbrev pub AreValidMarks : Marks → Type 0
AreValidMarks m = (1 ≤ m.low) × (m.low < m.high) × (m.high ≤ 4096) × (1 ≤ m.scan) × (m.scan ≤ 64)

-- ---- lines

-- one to 16 state save frames; all pages within the enclave, which has so many; a value of 8 bytes
abbrev pub IsValidLine : ℕ → PageLine → Type 0
IsValidLine pages (Tcs page ossa nssa plain) = (1 ≤ nssa) × (nssa ≤ 16) × (page < pages) × (ossa + nssa ≤ pages)
IsValidLine pages (Reg first count perm value plain) = (1 ≤ count) × (first + count ≤ pages) × (perm.r ≡ true) × (value < 2 ^ 64)

-- each state save page of a TCS is a REG page with R and W
abbrev pub HasSavePages : List PageLine → PageLine → Type 0
HasSavePages lines (Tcs page ossa nssa plain) = (n : ℕ) → ossa ≤ n → n < ossa + nssa → is_save_page lines n ≡ true
HasSavePages lines _ = Unit {0}

pub record IsValidEnclave (e : EnclaveView) : Type 0 where
  pub range : is_lawful e.base e.size ≡ true
  pub top : e.base + e.size ≤ 2 ^ 47
  pub lines : All (IsValidLine (e.size / 4096)) e.lines
  pub once : (n : ℕ) → count_by (covers n) e.lines ≤ 1
  pub saved : All (HasSavePages e.lines) e.lines
  pub expect : IfSome e.expect IsDigest

-- ---- operations

-- a number of 8 bytes
abbrev pub IsValidValue : ℕ → Type 0
IsValidValue value = value < 2 ^ 64

-- the word at an offset in the largest enclave
abbrev pub IsValidOffset : ℕ → Type 0
IsValidOffset off = (off % 8 ≡ 0) × (off < 2 ^ 24)

-- the word at an offset in an enclave of this size
abbrev pub IsInnerOffset : ℕ → EnclaveView → Type 0
IsInnerOffset off e = (off % 8 ≡ 0) × (off < e.size)

-- .. in an enclave of the job
abbrev pub IsOuterOffset : ℕ → Option EnclaveView → Type 0
IsOuterOffset off None = ⊥
IsOuterOffset off (Some e) = IsInnerOffset off e

-- an operation is valid among these enclaves: a TCS page that it enters is added, and a word that it accesses can be there
abbrev pub IsOpAmong : List EnclaveView → Op → Type 0
IsOpAmong es (Enter enclave tcs) = is_tcs_page (lines_at es enclave) tcs ≡ true
IsOpAmong es (Resume enclave tcs) = is_tcs_page (lines_at es enclave) tcs ≡ true
IsOpAmong es Exit = Unit {0}
IsOpAmong es Timer = Unit {0}
IsOpAmong es (Load off) = IsValidOffset off
IsOpAmong es (Store off value) = IsValidOffset off × IsValidValue value
IsOpAmong es (Xadd off value) = IsValidOffset off × IsValidValue value
IsOpAmong es (Set value) = IsValidValue value
IsOpAmong es (Plus value) = IsValidValue value
IsOpAmong es (OutLoad enclave off) = IsOuterOffset off (enclave_at es enclave)
IsOpAmong es (OutStore enclave off value) = IsOuterOffset off (enclave_at es enclave) × IsValidValue value

abbrev pub IsValidOp : JobView → Op → Type 0
IsValidOp j op = IsOpAmong j.enclaves op

-- ---- store lines

-- a count of calls from 1
abbrev pub IsValidCount : ℕ → Type 0
IsValidCount k = (1 ≤ k) × (k < 2 ^ 64)

-- a store line is valid among these enclaves: each page that it names is added. A flip's bit is one of a record's
abbrev pub IsPlanAmong : List EnclaveView → PlanLine → Type 0
IsPlanAmong es (FailRoom k) = IsValidCount k
IsPlanAmong es (FailPut k) = IsValidCount k
IsPlanAmong es (FailGet k) = IsValidCount k
IsPlanAmong es (DropGet page g) = (is_added_page es page ≡ true) × IsValidCount g
IsPlanAmong es (Flip page g place) = (is_added_page es page ≡ true) × (g < 2 ^ 64) × (place ≤ 33215)
IsPlanAmong es (Replay page g w) = (is_added_page es page ≡ true) × IsValidCount g × IsValidCount w
IsPlanAmong es (Swap one other) = (is_added_page es one ≡ true) × (is_added_page es other ≡ true)

-- ---- jobs

pub record IsValid (j : JobView) : Type 0 where
  pub some_frames : 1 ≤ j.epc
  pub few_frames : j.epc ≤ 4096
  pub enough_frames : needed j ≤ j.epc
  pub marks : AreValidMarks j.marks
  pub key : IsDigest j.key
  pub some_epoch : 1 ≤ j.start_epoch
  pub few_epochs : j.start_epoch ≤ 2 ^ 40 - 1
  pub some_version : 1 ≤ j.start_version
  pub few_versions : j.start_version < 2 ^ 64
  pub some_enclaves : 1 ≤ length j.enclaves
  pub few_enclaves : length j.enclaves ≤ 8
  pub enclaves : All IsValidEnclave j.enclaves
  pub few_pages : job_pages j ≤ 4096
  pub few_plans : length j.plans ≤ 64
  pub plans : All (IsPlanAmong j.enclaves) j.plans
  pub some_scripts : 1 ≤ length j.scripts
  pub few_scripts : length j.scripts ≤ 16
  pub few_ops : sum_by length j.scripts ≤ 100000
  pub ops : All (All (IsValidOp j)) j.scripts
  -- each TCS page is named by one script at most
  pub own : (enclave number : ℕ) → count_by (script_names enclave number) j.scripts ≤ 1
