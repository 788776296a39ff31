-- What can be printed: the statements whose words have a spelling.
use Rattle.std.specs.Prelude.{◌≡◌, ℕ, ◌^◌, ◌<◌, true}
use Rattle.sgx_types.specs.Digests.{IsDigest}
use Rattle.text_words.specs.inner.Reading.{IsLetter}
use Rattle.job_lines.specs.declared.statements.NamedPage.{NamedPage}
use Rattle.job_lines.specs.declared.statements.Plan.{Plan}
use Rattle.job_lines.specs.declared.statements.Plan.TheVariants as plans
use Rattle.job_lines.specs.declared.statements.Operation.{Operation}
use Rattle.job_lines.specs.declared.statements.Operation.TheVariants as ops
use Rattle.job_lines.specs.declared.statements.Statement.{Statement}
use Rattle.job_lines.specs.declared.statements.Statement.TheVariants as says

-- a number of 8 bytes
abbrev pub Fits : ℕ → Type 0
Fits n = n < 2 ^ 64

abbrev pub IsPageName : NamedPage → Type 0
IsPageName page = IsLetter page.enclave × Fits page.number

abbrev pub IsPrintablePlan : Plan → Type 0
IsPrintablePlan (plans.FailRoom k) = Fits k
IsPrintablePlan (plans.FailPut k) = Fits k
IsPrintablePlan (plans.FailGet k) = Fits k
IsPrintablePlan (plans.DropGet page g) = IsPageName page × Fits g
IsPrintablePlan (plans.Flip page g place) = IsPageName page × Fits g × Fits place
IsPrintablePlan (plans.Replay page g w) = IsPageName page × Fits g × Fits w
IsPrintablePlan (plans.Swap one other) = IsPageName one × IsPageName other

abbrev pub IsPrintableOp : Operation → Type 0
IsPrintableOp (ops.Enter tcs) = IsPageName tcs
IsPrintableOp (ops.Resume tcs) = IsPageName tcs
IsPrintableOp ops.Exit = Unit {0}
IsPrintableOp ops.Timer = Unit {0}
IsPrintableOp (ops.Load off) = Fits off
IsPrintableOp (ops.Store off value) = Fits off × Fits value
IsPrintableOp (ops.Xadd off value) = Fits off × Fits value
IsPrintableOp (ops.Set value) = Fits value
IsPrintableOp (ops.Plus value) = Fits value
IsPrintableOp (ops.OutLoad enclave off) = IsLetter enclave × Fits off
IsPrintableOp (ops.OutStore enclave off value) = IsLetter enclave × Fits off × Fits value

-- letters from A to H, digests of 32 bytes, permissions with R, and numbers of 8 bytes
abbrev pub IsPrintable : Statement → Type 0
IsPrintable (says.Epc frames) = Fits frames
IsPrintable (says.Marks low high scan) = Fits low × Fits high × Fits scan
IsPrintable (says.Key key) = IsDigest key
IsPrintable (says.Start start) = Fits start.epoch × Fits start.version
IsPrintable (says.Enclave enclave base size) = IsLetter enclave × Fits base × Fits size
IsPrintable (says.Tcs page ossa nssa plain) = Fits page × Fits ossa × Fits nssa
IsPrintable (says.Reg first count perm value plain) = Fits first × Fits count × (perm.r ≡ true) × Fits value
IsPrintable (says.Expect digest) = IsDigest digest
IsPrintable (says.Plan plan) = IsPrintablePlan plan
IsPrintable (says.Cpu number) = Fits number
IsPrintable (says.Operation op) = IsPrintableOp op
