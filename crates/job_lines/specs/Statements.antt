-- What the words of a line say: a row of the table, each with all words that are none of its choices before its numbers.
use Rattle.std.specs.Prelude.{ℕ, Bool, true, false, [], ◌∷◌, Result, Ok, Err}
use Rattle.std.specs.Option.{ok_or}
use Rattle.job_lines.specs.declared.kinds.JobKind.{JobKind}
use Rattle.job_lines.specs.declared.kinds.JobKind.TheVariants.{Word}
use Rattle.text_words.specs.Words.{Words}
use Rattle.job_lines.specs.declared.keywords.Keyword.{Keyword}
use Rattle.job_lines.specs.declared.keywords.Keyword.TheVariants as keywords
use Rattle.job_lines.specs.declared.keywords.PlanWord.{PlanWord}
use Rattle.job_lines.specs.declared.keywords.PlanWord.TheVariants as plan_words
use Rattle.job_lines.specs.declared.keywords.CallWord.{CallWord}
use Rattle.job_lines.specs.declared.keywords.CallWord.TheVariants as call_words
use Rattle.job_lines.specs.declared.statements.NamedPage.{NamedPage}
use Rattle.job_lines.specs.declared.statements.Plan.{Plan}
use Rattle.job_lines.specs.declared.statements.Plan.TheVariants as plans
use Rattle.job_lines.specs.declared.statements.Operation.{Operation}
use Rattle.job_lines.specs.declared.statements.Operation.TheVariants as ops
use Rattle.job_lines.specs.declared.statements.Statement.{Statement}
use Rattle.job_lines.specs.declared.statements.Statement.TheVariants as says
use Rattle.job_lines.specs.Words.{keyword_of, plan_word_of, call_word_of, ◌>>=◌, as_number, as_letter, as_perm, as_hash, as_plain}

abbrev pub LineSays : Type 0
LineSays = Result Statement JobKind

abbrev pub page_by : ℕ → ℕ → NamedPage
page_by e p = record { enclave = e; number = p }

-- ---- first, and the options

-- epc N
unfoldable pub epc_row : Words → LineSays
epc_row (frames ∷ []) = do
  n ← as_number frames
  Ok (says.Epc n)
epc_row _ = Err Word

-- marks LOW HIGH SCAN
unfoldable pub marks_row : Words → LineSays
marks_row (low ∷ high ∷ scan ∷ []) = do
  l ← as_number low
  h ← as_number high
  s ← as_number scan
  Ok (says.Marks l h s)
marks_row _ = Err Word

-- key HASH
unfoldable pub key_row : Words → LineSays
key_row (word ∷ []) = do
  k ← as_hash word
  Ok (says.Key k)
key_row _ = Err Word

-- start EPOCH VERSION
unfoldable pub start_row : Words → LineSays
start_row (epoch ∷ version ∷ []) = do
  e ← as_number epoch
  v ← as_number version
  Ok (says.Start (record { epoch = e; version = v }))
start_row _ = Err Word

-- ---- enclaves

-- enclave L BASE SIZE
unfoldable pub enclave_row : Words → LineSays
enclave_row (name ∷ base ∷ size ∷ []) = do
  e ← as_letter name
  b ← as_number base
  s ← as_number size
  Ok (says.Enclave e b s)
enclave_row _ = Err Word

-- tcs PAGE OSSA NSSA [plain]
unfoldable pub tcs_row : Words → LineSays
tcs_row (page ∷ ossa ∷ nssa ∷ rest) = do
  plain ← as_plain rest
  p ← as_number page
  o ← as_number ossa
  n ← as_number nssa
  Ok (says.Tcs p o n plain)
tcs_row _ = Err Word

-- reg FIRST COUNT PERM VALUE [plain]
unfoldable pub reg_row : Words → LineSays
reg_row (first ∷ count ∷ access ∷ value ∷ rest) = do
  a ← as_perm access
  plain ← as_plain rest
  f ← as_number first
  c ← as_number count
  v ← as_number value
  Ok (says.Reg f c a v plain)
reg_row _ = Err Word

-- expect HASH
unfoldable pub expect_row : Words → LineSays
expect_row (word ∷ []) = do
  d ← as_hash word
  Ok (says.Expect d)
expect_row _ = Err Word

-- ---- store lines

abbrev pub fails : CallWord → ℕ → Plan
fails call_words.Room k = plans.FailRoom k
fails call_words.Put k = plans.FailPut k
fails call_words.Get k = plans.FailGet k

-- store fail room K, store fail put K, store fail get K
unfoldable pub fail_row : Words → LineSays
fail_row (call ∷ count ∷ []) = do
  c ← ok_or (call_word_of call) Word
  k ← as_number count
  Ok (says.Plan (fails c k))
fail_row _ = Err Word

-- store drop L PAGE G
unfoldable pub drop_row : Words → LineSays
drop_row (name ∷ page ∷ get ∷ []) = do
  e ← as_letter name
  p ← as_number page
  g ← as_number get
  Ok (says.Plan (plans.DropGet (page_by e p) g))
drop_row _ = Err Word

-- store flip L PAGE G BIT
unfoldable pub flip_row : Words → LineSays
flip_row (name ∷ page ∷ get ∷ place ∷ []) = do
  e ← as_letter name
  p ← as_number page
  g ← as_number get
  b ← as_number place
  Ok (says.Plan (plans.Flip (page_by e p) g b))
flip_row _ = Err Word

-- store replay L PAGE G W
unfoldable pub replay_row : Words → LineSays
replay_row (name ∷ page ∷ get ∷ put ∷ []) = do
  e ← as_letter name
  p ← as_number page
  g ← as_number get
  w ← as_number put
  Ok (says.Plan (plans.Replay (page_by e p) g w))
replay_row _ = Err Word

-- store swap L PAGE L PAGE
unfoldable pub swap_row : Words → LineSays
swap_row (name ∷ page ∷ other_name ∷ other_page ∷ []) = do
  e ← as_letter name
  f ← as_letter other_name
  p ← as_number page
  q ← as_number other_page
  Ok (says.Plan (plans.Swap (page_by e p) (page_by f q)))
swap_row _ = Err Word

abbrev pub plan_of : PlanWord → Words → LineSays
plan_of plan_words.Fail rest = fail_row rest
plan_of plan_words.Drop rest = drop_row rest
plan_of plan_words.Flip rest = flip_row rest
plan_of plan_words.Replay rest = replay_row rest
plan_of plan_words.Swap rest = swap_row rest

unfoldable pub plan_row : Words → LineSays
plan_row [] = Err Word
plan_row (first ∷ rest) = do
  word ← ok_or (plan_word_of first) Word
  plan_of word rest

-- ---- processors and their operations

-- cpu N
unfoldable pub cpu_row : Words → LineSays
cpu_row (number_word ∷ []) = do
  n ← as_number number_word
  Ok (says.Cpu n)
cpu_row _ = Err Word

-- an operation on a TCS page: L PAGE
abbrev pub on_tcs : (NamedPage → Operation) → Words → LineSays
on_tcs op (name ∷ page ∷ []) = do
  e ← as_letter name
  p ← as_number page
  Ok (says.Operation (op (page_by e p)))
on_tcs op _ = Err Word

-- an operation without a word more
abbrev pub alone : Operation → Words → LineSays
alone op [] = Ok (says.Operation op)
alone op _ = Err Word

-- an operation with one number
abbrev pub with_one : (ℕ → Operation) → Words → LineSays
with_one op (first ∷ []) = do
  x ← as_number first
  Ok (says.Operation (op x))
with_one op _ = Err Word

-- an operation with two numbers
abbrev pub with_two : (ℕ → ℕ → Operation) → Words → LineSays
with_two op (first ∷ second ∷ []) = do
  x ← as_number first
  y ← as_number second
  Ok (says.Operation (op x y))
with_two op _ = Err Word

-- outload L OFF
unfoldable pub outload_row : Words → LineSays
outload_row (name ∷ off ∷ []) = do
  e ← as_letter name
  o ← as_number off
  Ok (says.Operation (ops.OutLoad e o))
outload_row _ = Err Word

-- outstore L OFF VALUE
unfoldable pub outstore_row : Words → LineSays
outstore_row (name ∷ off ∷ value ∷ []) = do
  e ← as_letter name
  o ← as_number off
  v ← as_number value
  Ok (says.Operation (ops.OutStore e o v))
outstore_row _ = Err Word

-- `store` is an operation once a processor stands, and a line of the plan before
abbrev pub store_or_plan_row : Bool → Words → LineSays
store_or_plan_row true rest = with_two ops.Store rest
store_or_plan_row false rest = plan_row rest

abbrev pub row : Bool → Keyword → Words → LineSays
row has_cpu keywords.Epc rest = epc_row rest
row has_cpu keywords.Marks rest = marks_row rest
row has_cpu keywords.Key rest = key_row rest
row has_cpu keywords.Start rest = start_row rest
row has_cpu keywords.Enclave rest = enclave_row rest
row has_cpu keywords.Tcs rest = tcs_row rest
row has_cpu keywords.Reg rest = reg_row rest
row has_cpu keywords.Expect rest = expect_row rest
row has_cpu keywords.Store rest = store_or_plan_row has_cpu rest
row has_cpu keywords.Cpu rest = cpu_row rest
row has_cpu keywords.Enter rest = on_tcs ops.Enter rest
row has_cpu keywords.Resume rest = on_tcs ops.Resume rest
row has_cpu keywords.Exit rest = alone ops.Exit rest
row has_cpu keywords.Timer rest = alone ops.Timer rest
row has_cpu keywords.Load rest = with_one ops.Load rest
row has_cpu keywords.Xadd rest = with_two ops.Xadd rest
row has_cpu keywords.Set rest = with_one ops.Set rest
row has_cpu keywords.Plus rest = with_one ops.Plus rest
row has_cpu keywords.OutLoad rest = outload_row rest
row has_cpu keywords.OutStore rest = outstore_row rest

-- what the words of a line say, by whether a processor stands before it: the fault is Word where the first word is none of
-- the table, the number of words is not the row's, or one is none of its choices, and else Number where one in a number's
-- place is none
unfoldable pub statement_of : Bool → Words → LineSays
statement_of has_cpu [] = Err Word
statement_of has_cpu (first ∷ rest) = do
  word ← ok_or (keyword_of first) Word
  row has_cpu word rest
