-- The canonical text of a job: what each of its lines says, in their order, and how each of these is spelled.
use Rattle.std.specs.Prelude.{ℕ, ◌+◌, Bool, true, false, List, [], ◌∷◌, ◌++◌, Option, Some, None, codes, map}
use Rattle.std.specs.List.{flat_map}
use Rattle.std.specs.Fmt.{decimal}
use Rattle.sgx_types.specs.declared.names.Page.{Page}
use Rattle.io_edges.specs.declared.plans.PlanLine.{PlanLine}
use Rattle.io_edges.specs.declared.plans.PlanLine.TheVariants as kept_plans
use Rattle.text_words.specs.Words.{Words, digest_word, enclave_word, hexadecimal, line_text, perm_word}
use Rattle.job_grammar.specs.declared.jobs.PageLine.{PageLine}
use Rattle.job_grammar.specs.declared.jobs.PageLine.TheVariants as pages
use Rattle.job_grammar.specs.declared.jobs.Op.{Op}
use Rattle.job_grammar.specs.declared.jobs.Op.TheVariants as kept_ops
use Rattle.job_grammar.specs.Jobs.{EnclaveView, JobView}
use Rattle.job_lines.specs.declared.statements.NamedPage.{NamedPage}
use Rattle.job_lines.specs.declared.statements.Plan.{Plan}
use Rattle.job_lines.specs.declared.statements.Plan.TheVariants as plans
use Rattle.job_lines.specs.declared.statements.Operation.{Operation}
use Rattle.job_lines.specs.declared.statements.Operation.TheVariants as ops
use Rattle.job_lines.specs.declared.statements.Statement.{Statement}
use Rattle.job_lines.specs.declared.statements.Statement.TheVariants as says
use Rattle.job_lines.specs.Statements.{page_by}

-- ---- the words of a line

abbrev pub plain_words : Bool → Words
plain_words true = codes "plain" ∷ []
plain_words false = []

abbrev pub plan_words : Plan → Words
plan_words (plans.FailRoom k) = codes "fail" ∷ codes "room" ∷ decimal k ∷ []
plan_words (plans.FailPut k) = codes "fail" ∷ codes "put" ∷ decimal k ∷ []
plan_words (plans.FailGet k) = codes "fail" ∷ codes "get" ∷ decimal k ∷ []
plan_words (plans.DropGet page g) = codes "drop" ∷ enclave_word page.enclave ∷ decimal page.number ∷ decimal g ∷ []
plan_words (plans.Flip page g place) = codes "flip" ∷ enclave_word page.enclave ∷ decimal page.number ∷ decimal g ∷ decimal place ∷ []
plan_words (plans.Replay page g w) = codes "replay" ∷ enclave_word page.enclave ∷ decimal page.number ∷ decimal g ∷ decimal w ∷ []
plan_words (plans.Swap one other) =
    codes "swap" ∷ enclave_word one.enclave ∷ decimal one.number ∷ enclave_word other.enclave ∷ decimal other.number ∷ []

abbrev pub op_words : Operation → Words
op_words (ops.Enter tcs) = codes "eenter" ∷ enclave_word tcs.enclave ∷ decimal tcs.number ∷ []
op_words (ops.Resume tcs) = codes "eresume" ∷ enclave_word tcs.enclave ∷ decimal tcs.number ∷ []
op_words ops.Exit = codes "eexit" ∷ []
op_words ops.Timer = codes "timer" ∷ []
op_words (ops.Load off) = codes "load" ∷ hexadecimal off ∷ []
op_words (ops.Store off value) = codes "store" ∷ hexadecimal off ∷ decimal value ∷ []
op_words (ops.Xadd off value) = codes "xadd" ∷ hexadecimal off ∷ decimal value ∷ []
op_words (ops.Set value) = codes "set" ∷ decimal value ∷ []
op_words (ops.Plus value) = codes "plus" ∷ decimal value ∷ []
op_words (ops.OutLoad enclave off) = codes "outload" ∷ enclave_word enclave ∷ hexadecimal off ∷ []
op_words (ops.OutStore enclave off value) = codes "outstore" ∷ enclave_word enclave ∷ hexadecimal off ∷ decimal value ∷ []

-- numbers are decimal, but bases, sizes and offsets
abbrev pub statement_words : Statement → Words
statement_words (says.Epc frames) = codes "epc" ∷ decimal frames ∷ []
statement_words (says.Marks low high scan) = codes "marks" ∷ decimal low ∷ decimal high ∷ decimal scan ∷ []
statement_words (says.Key key) = codes "key" ∷ digest_word key ∷ []
statement_words (says.Start start) = codes "start" ∷ decimal start.epoch ∷ decimal start.version ∷ []
statement_words (says.Enclave enclave base size) = codes "enclave" ∷ enclave_word enclave ∷ hexadecimal base ∷ hexadecimal size ∷ []
statement_words (says.Tcs page ossa nssa plain) = codes "tcs" ∷ decimal page ∷ decimal ossa ∷ decimal nssa ∷ plain_words plain
statement_words (says.Reg first count perm value plain) =
    codes "reg" ∷ decimal first ∷ decimal count ∷ perm_word perm ∷ decimal value ∷ plain_words plain
statement_words (says.Expect digest) = codes "expect" ∷ digest_word digest ∷ []
statement_words (says.Plan plan) = codes "store" ∷ plan_words plan
statement_words (says.Cpu number) = codes "cpu" ∷ decimal number ∷ []
statement_words (says.Operation op) = op_words op

-- the line that says something
unfoldable pub statement_text : Statement → List ℕ
statement_text s = line_text (statement_words s)

-- the lines that say these things
abbrev pub statements_text : List Statement → List ℕ
statements_text all = flat_map statement_text all

-- ---- what the lines of a job say

abbrev pub page_says : PageLine → Statement
page_says (pages.Tcs page ossa nssa plain) = says.Tcs page ossa nssa plain
page_says (pages.Reg first count perm value plain) = says.Reg first count perm value plain

abbrev pub expect_says : Option (List ℕ) → List Statement
expect_says None = []
expect_says (Some digest) = says.Expect digest ∷ []

-- an enclave by its number: the digest that is expected stands behind its pages
abbrev pub enclave_says : ℕ → EnclaveView → List Statement
enclave_says n e = says.Enclave n e.base e.size ∷ map page_says e.lines ++ expect_says e.expect

abbrev pub named : Page → NamedPage
named page = page_by page.enclave page.number

abbrev pub plan_says : PlanLine → Plan
plan_says (kept_plans.FailRoom k) = plans.FailRoom k
plan_says (kept_plans.FailPut k) = plans.FailPut k
plan_says (kept_plans.FailGet k) = plans.FailGet k
plan_says (kept_plans.DropGet page g) = plans.DropGet (named page) g
plan_says (kept_plans.Flip page g place) = plans.Flip (named page) g place
plan_says (kept_plans.Replay page g w) = plans.Replay (named page) g w
plan_says (kept_plans.Swap one other) = plans.Swap (named one) (named other)

abbrev pub op_says : Op → Operation
op_says (kept_ops.Enter enclave tcs) = ops.Enter (page_by enclave tcs)
op_says (kept_ops.Resume enclave tcs) = ops.Resume (page_by enclave tcs)
op_says kept_ops.Exit = ops.Exit
op_says kept_ops.Timer = ops.Timer
op_says (kept_ops.Load off) = ops.Load off
op_says (kept_ops.Store off value) = ops.Store off value
op_says (kept_ops.Xadd off value) = ops.Xadd off value
op_says (kept_ops.Set value) = ops.Set value
op_says (kept_ops.Plus value) = ops.Plus value
op_says (kept_ops.OutLoad enclave off) = ops.OutLoad enclave off
op_says (kept_ops.OutStore enclave off value) = ops.OutStore enclave off value

abbrev pub plans_say : List PlanLine → List Statement
plans_say lines = map (λ line. says.Plan (plan_says line)) lines

-- a processor and its operations
abbrev pub script_says : ℕ → List Op → List Statement
script_says n script = says.Cpu n ∷ map (λ op. says.Operation (op_says op)) script

-- what is said of each, the first of which has number n
abbrev pub numbered : {A : Type 0} → (ℕ → A → List Statement) → ℕ → List A → List Statement
numbered say n [] = []
numbered say n (x ∷ xs) = say n x ++ numbered say (n + 1) xs

abbrev pub options_say : JobView → List Statement
options_say j =
    says.Epc j.epc ∷ says.Marks j.marks.low j.marks.high j.marks.scan ∷ says.Key j.key
    ∷ says.Start (record { epoch = j.start_epoch; version = j.start_version }) ∷ []

abbrev pub job_says : JobView → List Statement
job_says j = options_say j ++ numbered enclave_says 1 j.enclaves ++ plans_say j.plans ++ numbered script_says 0 j.scripts

-- the canonical text
unfoldable pub job_text : JobView → List ℕ
job_text j = statements_text (job_says j)
