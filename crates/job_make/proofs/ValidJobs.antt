-- A made job is valid, and which parts make it.
use Rattle.std.proofs.Common.{◌≡◌, ℕ, ◌<◌, ◌≤◌, List, [], ◌∷◌, ◌++◌, map, replicate, refl, ap, arith}
use Rattle.std.specs.Global.{Vec}
use Rattle.std.proofs.lemmas.List.Elements.{All-cons, All-nil, All-replicate}
use Rattle.sgx_types.specs.Digests.{IsDigest}
use Rattle.io_edges.specs.declared.plans.PlanLine.{PlanLine}
use Rattle.job_grammar.specs.declared.jobs.EnclaveJob.{EnclaveJob}
use Rattle.job_grammar.specs.declared.jobs.Marks.{Marks}
use Rattle.job_grammar.specs.declared.jobs.Op.{Op}
use Rattle.job_grammar.specs.Jobs.{EnclaveView, default_marks}
use Rattle.job_grammar.specs.inner.Jobs.{enclave_view, parts_view, script_ops}
use Rattle.job_grammar.specs.inner.Valid.{AreValidMarks, IsPlanAmong, IsValid, IsValidEnclave}
use Rattle.job_make.specs.MadeJob.{made_enclave, made_epc, made_job}
use Rattle.job_make.specs.MadeOps.{made_scripts}
use Rattle.job_make.proofs.EnclaveSizes.{least_is_least, lawful_most}
use Rattle.job_make.proofs.ValidLines.{lines_once, lines_saved, lines_valid, tcs_there}
use Rattle.job_make.proofs.ValidScripts.{count-made_ops, length-made_scripts, scripts_own, scripts_valid}

enclave-valid : (size : ℕ) → 4 ≤ size → size ≤ 2000 → IsValidEnclave (made_enclave size)
enclave-valid size least most =
    let fits = least_is_least size least most in
    let few = lawful_most 0x10000000 _ fits.lawful in
    record {
      range = fits.lawful;
      top = omega (arith, few);
      lines = lines_valid size _ (omega (arith, fits.room));
      once = lines_once size;
      saved = lines_saved size;
      expect = tt;
    }

marks-valid : (n : ℕ) → 32 ≤ n → AreValidMarks (default_marks n)
marks-valid n le = (omega arith, omega arith, omega arith, omega arith, omega arith)

key-valid : IsDigest (replicate 32 0)
key-valid = record { sized = refl; bytes = All-replicate (λ b. b < 256) 32 0 (omega arith) }

pub made_valid : (number size : ℕ) → 4 ≤ size → size ≤ 2000 → IsValid (made_job number size)
unfolding made_job
made_valid number size least most =
    let scripts = length-made_scripts size 4 0 number in
    let es = made_enclave size ∷ [] in
    record {
      some_frames = omega arith;
      few_frames = omega arith;
      enough_frames = omega (arith, scripts);
      marks = marks-valid (made_epc size) (omega arith);
      key = key-valid;
      some_epoch = omega arith;
      few_epochs = omega arith;
      some_version = omega arith;
      few_versions = omega arith;
      some_enclaves = omega arith;
      few_enclaves = omega arith;
      enclaves = All-cons IsValidEnclave (made_enclave size) [] (enclave-valid size least most) (All-nil IsValidEnclave);
      few_pages = omega arith;
      few_plans = omega arith;
      plans = All-nil (IsPlanAmong es);
      some_scripts = omega (arith, scripts);
      few_scripts = omega (arith, scripts);
      few_ops = omega (arith, count-made_ops size 4 0 number);
      ops = scripts_valid es size 4 0 number least most (omega arith) (tcs_there size);
      own = λ enclave page. scripts_own enclave page size 4 0 number;
    }

-- ---- the parts

pub single_made : (size : ℕ) (front items : List EnclaveJob) (e : EnclaveJob) → items ≡ front ++ e ∷ [] → front ≡ []
    → enclave_view e ≡ made_enclave size → map enclave_view items ≡ made_enclave size ∷ []
single_made size front items e items_is front_is view_is =
    rw (items_is, front_is) (ap (λ (view : EnclaveView). view ∷ []) view_is)

pub parts_made : (number size epc : ℕ) (marks : Marks) (enclaves : Vec EnclaveJob) (plans : Vec PlanLine) (scripts : Vec (Vec Op))
    → epc ≡ made_epc size → marks ≡ default_marks epc → map enclave_view enclaves.items ≡ made_enclave size ∷ [] → plans.items ≡ []
    → script_ops scripts.items ≡ made_scripts size 4 0 number
    → parts_view (record {
      epc = epc;
      marks = marks;
      key = replicate 32 0;
      start_epoch = 1;
      start_version = 1;
      enclaves = enclaves;
      plans = plans;
      scripts = scripts;
    }) ≡ made_job number size
unfolding made_job
parts_made number size epc marks enclaves plans scripts epc_is marks_is enclaves_is plans_is scripts_is =
    rw (marks_is, epc_is, enclaves_is, plans_is, scripts_is) refl
