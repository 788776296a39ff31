-- Laws of what a command says of the bytes that it read, and of the run that it made.
use Rattle.std.proofs.Common.{◌≡◌, ◌≤◌, ◌<◌, ◌+◌, ◌^◌, ℕ, List, length, Option, Some, None, Ok, reverse, refl, ap}
use Rattle.std.proofs.Common.{sym, subst, ◌∙◌, arith}
use Rattle.std.specs.Prelude.{IfSome, replicate}
use Rattle.std.proofs.Math.Seq.{drop-length}
use Rattle.std.proofs.lemmas.List.{length-replicate}
use Rattle.sgx_rules.specs.declared.entries.Entry.{Entry}
use Rattle.io_edges.specs.Sources.{TakesAtMost}
use Rattle.io_edges.specs.inner.Sources.{emptied}
use Rattle.io_edges.specs.declared.plans.PlanLine.{PlanLine}
use Rattle.job_lines.specs.declared.kinds.JobKind.TheVariants.{TooLong}
use Rattle.job_text.specs.Reading.{at, read}
use Rattle.job_text.proofs.ReadLaws.{read_long}
use Rattle.job_grammar.specs.Jobs.{JobView}
use Rattle.backing_store.specs.Calls.{Call}
use Rattle.run_jobs.specs.declared.ends.End.{End}
use Rattle.run_jobs.specs.Runs.{WholeRun}
use Rattle.page_commands.specs.declared.jobs.Unread.TheVariants as unread
use Rattle.job_make.specs.MadeJob.{made_job}
use Rattle.trace_file.specs.Reading.{OfRead}
use Rattle.page_commands.specs.Runs.{DemoBy, RanBy}
use Rattle.page_commands.specs.inner.Runs.{IsFaultOf}

-- ---- the bytes read

-- a source that was read to its end gave no more than it had
pub takes-all : (left now : Option (List ℕ)) (bytes : List ℕ) (limit : ℕ) → IfSome left (λ all. bytes ≡ all) → length bytes ≤ limit
    → now ≡ emptied left → TakesAtMost (limit + 1) left now
takes-all None now bytes limit same short ended = (0, omega arith, ended)
takes-all (Some all) now bytes limit same short ended =
    (length all, omega (arith, ap length same), ended ∙ ap Some (sym (drop-length all)))

-- ---- a fault that was found

some_longer : (n : ℕ) → (bytes : List ℕ) × (n < length bytes)
some_longer n =
    let zero : ℕ = 0 in
    (replicate (n + 1) zero, omega (arith, length-replicate (n + 1) zero))

-- more bytes than a job may have
pub fault-too_long : (left : Option (List ℕ)) → IfSome left (λ all. 2 ^ 24 < length all) → IsFaultOf left (unread.Bad (at 0 TooLong))
fault-too_long None long =
    let some = some_longer (2 ^ 24) in
    (some.0, tt, read_long some.0 some.1)
fault-too_long (Some all) long = (all, refl, read_long all long)

-- ---- a run that was made

-- of the job that was read
pub ran-by : (left : Option (List ℕ)) (read_job job : JobView) (past : List Entry) (end : End) (told : Option (List Call))
    (plans : List PlanLine) (Given : JobView → List Entry → Type 0) → OfRead left (λ bytes. read bytes ≡ Ok read_job) → job ≡ read_job
    → WholeRun job past end told plans → Given job past → OfRead left (λ bytes. RanBy bytes end told plans Given)
ran-by left read_job job past end told plans Given text is run given =
    (text.0, text.1, record { job = job; text = text.2 ∙ ap Ok (sym is); past = past; run = run; given = given })

-- .. or of the job that was made
pub demo-by : (number size : ℕ) (made job : JobView) (entries : List Entry) (end : End) (told : Option (List Call)) (plans : List PlanLine)
    (Given : List Entry → Type 0) → made ≡ made_job number size → job ≡ made → WholeRun job (reverse entries) end told plans
    → Given entries → DemoBy number size end told plans Given
demo-by number size made job entries end told plans Given is same run given = record {
  entries = entries;
  run = subst (λ (j : JobView). WholeRun j (reverse entries) end told plans) (same ∙ is) run;
  given = given;
}
