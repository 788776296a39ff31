-- What the words of a line can spell.
use Rattle.std.specs.Prelude.{◌≡◌, ◌^◌, ◌<◌, ◌≤◌, true}
use Rattle.sgx_types.specs.Digests.{IsDigest}
use Rattle.job_lines.specs.declared.statements.Plan.{Plan}
use Rattle.job_lines.specs.declared.statements.Plan.TheVariants as plans
use Rattle.job_lines.specs.declared.statements.Operation.{Operation}
use Rattle.job_lines.specs.declared.statements.Operation.TheVariants as ops
use Rattle.job_lines.specs.declared.statements.Statement.{Statement}
use Rattle.job_lines.specs.declared.statements.Statement.TheVariants as says

abbrev pub IsSpelledPlan : Plan → Type 0
IsSpelledPlan (plans.FailRoom k) = k < 2 ^ 64
IsSpelledPlan (plans.FailPut k) = k < 2 ^ 64
IsSpelledPlan (plans.FailGet k) = k < 2 ^ 64
IsSpelledPlan (plans.DropGet page g) = g < 2 ^ 64
IsSpelledPlan (plans.Flip page g place) = g < 2 ^ 64
IsSpelledPlan (plans.Replay page g w) = (g < 2 ^ 64) × (w < 2 ^ 64)
IsSpelledPlan (plans.Swap one other) = Unit {0}

abbrev pub IsSpelledOp : Operation → Type 0
IsSpelledOp (ops.Store off value) = value < 2 ^ 64
IsSpelledOp (ops.Xadd off value) = value < 2 ^ 64
IsSpelledOp (ops.Set value) = value < 2 ^ 64
IsSpelledOp (ops.Plus value) = value < 2 ^ 64
IsSpelledOp (ops.OutStore enclave off value) = value < 2 ^ 64
IsSpelledOp _ = Unit {0}

-- a letter from A to H, digests of 32 bytes, permissions with R, and numbers below 2 ^ 64
abbrev pub IsSpelled : Statement → Type 0
IsSpelled (says.Key key) = IsDigest key
IsSpelled (says.Start start) = start.version < 2 ^ 64
IsSpelled (says.Enclave enclave base size) = enclave ≤ 8
IsSpelled (says.Reg first count perm value plain) = (perm.r ≡ true) × (value < 2 ^ 64)
IsSpelled (says.Expect digest) = IsDigest digest
IsSpelled (says.Plan plan) = IsSpelledPlan plan
IsSpelled (says.Operation op) = IsSpelledOp op
IsSpelled _ = Unit {0}
