-- A job in which the put of a page fails, so that the page is lost and its processor is ended.
use Rattle.std.specs.Prelude.{List, [], ◌∷◌, ◌++◌, reverse}
use Rattle.sgx_rules.specs.declared.entries.BusWhy.TheVariants as reasons
use Rattle.sgx_rules.specs.declared.entries.Entry.{Entry}
use Rattle.job_grammar.specs.Jobs.{JobView}
use Rattle.worked_driver.specs.inner.TightJob.{load_faults, reads_page, tight_job}
use Rattle.worked_driver.specs.inner.Words.{bus}

-- the third put fails, which no rule here looks at
abbrev pub lost_job : JobView
lost_job = tight_job reads_page

-- its trace
abbrev pub lost_trace : List Entry
lost_trace = reverse (load_faults ++ (
    bus 0 2 reasons.PutFailed
    ∷ []))
