-- What stands of a job in the midst of its own text.
use Rattle.std.specs.Prelude.{◌≡◌, List, None, Some, true}
use Rattle.std.specs.List.{All}
use Rattle.io_edges.specs.declared.plans.PlanLine.{PlanLine}
use Rattle.job_grammar.specs.declared.jobs.PageLine.{PageLine}
use Rattle.job_grammar.specs.declared.jobs.Op.{Op}
use Rattle.job_grammar.specs.Jobs.{EnclaveView, JobView}
use Rattle.job_text.specs.Drafts.{Draft}
use Rattle.job_text.specs.Reading.{has_save_pages}

-- the draft has the job's options, these enclaves, these store lines and these scripts. The job has the state save pages of
-- each TCS that was read
pub record Stands (j : JobView) (es : List EnclaveView) (ps : List PlanLine) (ss : List (List Op)) (d : Draft) : Type 0 where
  pub epc : d.epc ≡ Some j.epc
  pub marks : d.marks ≡ Some j.marks
  pub key : d.key ≡ Some j.key
  pub start : d.start ≡ Some (record { epoch = j.start_epoch; version = j.start_version })
  pub enclaves : d.enclaves ≡ es
  pub plans : d.plans ≡ ps
  pub scripts : d.scripts ≡ ss
  pub saved : All (λ t. has_save_pages j.enclaves t ≡ true) d.tcs_lines

-- an enclave of which these lines of pages were read
abbrev pub begun_enclave : EnclaveView → List PageLine → EnclaveView
begun_enclave e lines = record { base = e.base; size = e.size; lines = lines; expect = None }
