-- The machine that a job is run on.
use Rattle.std.specs.Prelude.{length}
use Rattle.sgx_types.specs.Making.{Making}
use Rattle.job_grammar.specs.Jobs.{JobView}

-- the job's frames, a processor for each script, its key, and its first epoch and version
abbrev pub machine_of : JobView → Making
machine_of j = record { frames = j.epc; cpus = length j.scripts; key = j.key; first_epoch = j.start_epoch; first_version = j.start_version }
