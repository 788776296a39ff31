-- What a run gives: the texts of one trace that keeps the rules, or a line on what is wrong with the job.
use Rattle.std.specs.Prelude.{ℕ, ◌≡◌, ◌⊎◌, List, ◌++◌, Option, Ok, Err, codes, reverse}
use Rattle.std.specs.Fmt.{decimal}
use Rattle.io_edges.specs.Sinks.{followed_by, GivesPart}
use Rattle.io_edges.specs.declared.plans.PlanLine.{PlanLine}
use Rattle.sgx_rules.specs.declared.entries.Entry.{Entry}
use Rattle.job_lines.specs.declared.kinds.JobKind.{JobKind}
use Rattle.job_lines.specs.declared.kinds.JobKind.TheVariants as kinds
use Rattle.job_text.specs.declared.refusals.Fault.{Fault}
use Rattle.job_text.specs.Reading.{read}
use Rattle.job_grammar.specs.Jobs.{JobView}
use Rattle.job_make.specs.MadeJob.{made_job}
use Rattle.backing_store.specs.Calls.{Call}
use Rattle.run_jobs.specs.declared.ends.End.{End}
use Rattle.run_jobs.specs.Runs.{WholeRun}
use Rattle.run_replies.specs.OutText.{out_of}
use Rattle.trace_text.specs.TraceText.{trace_of}

-- ---- the job's bytes

-- some job has this text
abbrev pub HasJob : List ℕ → Type 0
HasJob bytes = (j : JobView) × (read bytes ≡ Ok j)

-- some line of it is faulty, or it is too long
abbrev pub HasFault : List ℕ → Type 0
HasFault bytes = (fault : Fault) × (read bytes ≡ Err fault)

-- ---- what a run gives

-- each sink, by what it had and has, got its text: the trace, and the replies
abbrev pub BothGiven : JobView → List Entry → Option (List ℕ) → Option (List ℕ) → Option (List ℕ) → Option (List ℕ) → Type 0
BothGiven j past out out' trace trace' = (trace' ≡ followed_by trace (trace_of past)) × (out' ≡ followed_by out (out_of j past))

-- .. or one failed: the trace got a proper front of its text, and the output nothing, or the trace got all and the
-- output a proper front
abbrev pub HalfGiven : JobView → List Entry → Option (List ℕ) → Option (List ℕ) → Option (List ℕ) → Option (List ℕ) → Type 0
HalfGiven j past out out' trace trace' =
    (GivesPart trace trace' (trace_of past) × (out' ≡ out))
    ⊎ ((trace' ≡ followed_by trace (trace_of past)) × GivesPart out out' (out_of j past))

-- the job that these bytes spell was run to this end, over a store that tells these calls and plan lines, and the texts of that run were
-- given
pub record RanBy (bytes : List ℕ) (end : End) (told : Option (List Call)) (plans : List PlanLine)
    (Given : JobView → List Entry → Type 0) : Type 0 where
  pub job : JobView
  pub text : read bytes ≡ Ok job
  pub past : List Entry
  pub run : WholeRun job past end told plans
  pub given : Given job past

-- the job was run to this end, over a store that tells these calls and plan lines, and something of that run was given. Its entries stand
-- oldest first
pub record DemoBy (number size : ℕ) (end : End) (told : Option (List Call)) (plans : List PlanLine)
    (Given : List Entry → Type 0) : Type 0 where
  pub entries : List Entry
  pub run : WholeRun (made_job number size) (reverse entries) end told plans
  pub given : Given entries

-- ---- what is wrong with a job

abbrev pub kind_text : JobKind → List ℕ
kind_text kinds.NotUtf8 = codes "NotUtf8"
kind_text kinds.Word = codes "Word"
kind_text kinds.Number = codes "Number"
kind_text kinds.Order = codes "Order"
kind_text kinds.Twice = codes "Twice"
kind_text kinds.Range = codes "Range"
kind_text kinds.TooMany = codes "TooMany"
kind_text kinds.Missing = codes "Missing"
kind_text kinds.TcsShared = codes "TcsShared"
kind_text (kinds.EpcTooSmall needed) = codes "EpcTooSmall " ++ decimal needed
kind_text kinds.TooLong = codes "TooLong"

-- the line on the first fault of a job
abbrev pub job_fault_line : Fault → List ℕ
job_fault_line fault = codes "job line " ++ decimal fault.line ++ codes ": " ++ kind_text fault.kind ++ codes "\n"
