-- The view of a job's parts, and which pages its lines add.
use Rattle.std.specs.Prelude.{ℕ, ◌&&◌, Bool, true, false, List}
use Rattle.std.specs.Prelude.{map}
use Rattle.std.specs.Global.{Vec}
use Rattle.std.specs.List.{list_any}
use Rattle.sgx_types.specs.declared.names.Page.{Page}
use Rattle.job_grammar.specs.declared.jobs.PageLine.{PageLine}
use Rattle.job_grammar.specs.declared.jobs.PageLine.TheVariants.{Reg}
use Rattle.job_grammar.specs.declared.jobs.EnclaveJob.{EnclaveJob}
use Rattle.job_grammar.specs.declared.jobs.Op.{Op}
use Rattle.job_grammar.specs.declared.jobs.JobParts.{JobParts}
use Rattle.job_grammar.specs.Jobs.{EnclaveView, JobView, covers, lines_at}

abbrev pub enclave_view : EnclaveJob → EnclaveView
enclave_view e = record { base = e.base; size = e.size; lines = e.lines.items; expect = e.expect }

abbrev pub script_ops : List (Vec Op) → List (List Op)
script_ops scripts = map (λ script. script.items) scripts

-- the job of these parts
abbrev pub parts_view : JobParts → JobView
parts_view p = record {
  epc = p.epc;
  marks = p.marks;
  key = p.key;
  start_epoch = p.start_epoch;
  start_version = p.start_version;
  enclaves = map enclave_view p.enclaves.items;
  plans = p.plans.items;
  scripts = script_ops p.scripts.items;
}

abbrev pub is_reg_line : PageLine → Bool
is_reg_line (Reg first count perm value plain) = true
is_reg_line _ = false

abbrev pub is_reg_page : List PageLine → ℕ → Bool
is_reg_page lines n = list_any (λ line. is_reg_line line && covers n line) lines

-- a page of an enclave is added
abbrev pub is_added_page : List EnclaveView → Page → Bool
is_added_page es page = list_any (covers page.number) (lines_at es page.enclave)
