-- The actors of a job.
use Rattle.std.specs.Prelude.{◌<◌, [], length}
use Rattle.sgx_types.specs.declared.names.Actor.{Actor}
use Rattle.sgx_types.specs.declared.names.Actor.TheVariants as actors
use Rattle.job_grammar.specs.Jobs.{JobView}
pub use Rattle.atomic_table.specs.Seated.{TableId}

-- an actor of the job
abbrev pub IsOf : JobView → Actor → Type 0
IsOf j actors.Builder = Unit {0}
IsOf j (actors.Cpu cpu) = cpu.0 < length j.scripts
IsOf j actors.Reclaimer = Unit {0}

-- a job that nobody runs, and words that nobody reads
abbrev pub no_job : JobView
no_job = record {
  epc = 0;
  marks = record { low = 0; high = 0; scan = 0 };
  key = [];
  start_epoch = 0;
  start_version = 0;
  enclaves = [];
  plans = [];
  scripts = [];
}

abbrev pub no_words : TableId
no_words = record { words = 0; slots = 0; views_name = 0; atom = 0; block = 0; offset = 0; slot_names = [] }
