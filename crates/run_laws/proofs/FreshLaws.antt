-- A new machine that was made for a job.
use Rattle.std.proofs.Common.{◌≡◌, ℕ, List, [], length, ap, ◌∙◌}
use Rattle.std.proofs.lemmas.List.{length-replicate}
use Rattle.job_grammar.specs.Jobs.{JobView}
use Rattle.epcm_entry.specs.inner.Epc.{free_frame}
use Rattle.machine_laws.specs.inner.Histories.{StandsWithAllRules}
use Rattle.machine_laws.specs.inner.Shape.{ShapeWithRules}
use Rattle.machine_laws.specs.inner.State.{making_of}
use Rattle.sgx_machine.specs.inner.Parts.{Parts, idle, made, state_of}
use Rattle.script_rules.specs.Machines.{machine_of}

-- a new machine, which was made for the job and stands for no entry
pub record IsFresh (j : JobView) (m : Parts) : Type 0 where
  pub value : m ≡ made j.epc (length j.scripts) j.key j.start_epoch j.start_version
  pub shape : ShapeWithRules (making_of (state_of m)) (state_of m) []
  pub history : StandsWithAllRules (making_of (state_of m)) (state_of m) [] []

-- with the numbers of the job it was made for the job
pub made_same : (j : JobView) (m : Parts) (frames cpus : ℕ) (key : List ℕ) (epoch version : ℕ) → m ≡ made frames cpus key epoch version
    → frames ≡ j.epc → cpus ≡ length j.scripts → key ≡ j.key → epoch ≡ j.start_epoch → version ≡ j.start_version
    → m ≡ made j.epc (length j.scripts) j.key j.start_epoch j.start_version
made_same j m frames cpus key epoch version is same_frames same_cpus same_key same_epoch same_version =
    is ∙ (λ i. made (same_frames i) (same_cpus i) (same_key i) (same_epoch i) (same_version i))

-- it is the job's machine
pub fresh_making : (j : JobView) (m : Parts) → IsFresh j m → making_of (state_of m) ≡ machine_of j
fresh_making j m fresh = ap (λ (x : Parts). making_of (state_of x)) fresh.value ∙ (λ i. record {
  frames = length-replicate j.epc free_frame i;
  cpus = length-replicate (length j.scripts) idle i;
  key = j.key;
  first_epoch = j.start_epoch;
  first_version = j.start_version;
})

-- .. with a processor for each script
pub fresh_cpus : (j : JobView) (m : Parts) → IsFresh j m → length m.cpus ≡ length j.scripts
fresh_cpus j m fresh = ap (λ (x : Parts). length x.cpus) fresh.value ∙ length-replicate (length j.scripts) idle
