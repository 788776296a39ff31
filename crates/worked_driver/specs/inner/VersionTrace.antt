-- A job that begins at the last version, so that its second write-out ends the run.
use Rattle.std.specs.Prelude.{List, [], ◌∷◌, ◌++◌, reverse}
use Rattle.sgx_types.specs.declared.names.Actor.TheVariants.{Builder, Reclaimer}
use Rattle.sgx_rules.specs.declared.entries.Entry.{Entry}
use Rattle.sgx_rules.specs.declared.entries.Look.TheVariants as looks
use Rattle.job_grammar.specs.Jobs.{JobView}
use Rattle.worked_driver.specs.inner.TightJob.{first_out, reads_page, tight_job}
use Rattle.worked_driver.specs.inner.Words.{add_reg, age, block, last_version, track, try_refused}

-- the last version is to be drawn
abbrev pub version_job : JobView
version_job = record (tight_job reads_page) { start_version = 18446744073709551615 }

-- its trace
abbrev pub version_trace : List Entry
version_trace = reverse (first_out 18446744073709551615 ++ (
    add_reg Builder 5 2 7
    ∷ age 1 looks.Taken
    ∷ block Reclaimer 3
    ∷ try_refused Reclaimer 3 1 2 0
    ∷ track Reclaimer
    ∷ last_version Reclaimer 3 1
    ∷ []))
