-- A job in which a record comes back with a flipped bit, and its processor is ended.
use Rattle.std.specs.Prelude.{List, [], ◌∷◌, ◌++◌, reverse}
use Rattle.sgx_rules.specs.declared.entries.BusWhy.TheVariants as reasons
use Rattle.sgx_rules.specs.declared.entries.Entry.{Entry}
use Rattle.job_grammar.specs.Jobs.{JobView}
use Rattle.worked_driver.specs.inner.TightJob.{loads_page, reads_page, tight_job}
use Rattle.worked_driver.specs.inner.Words.{back_refused, bus}
use Rattle.worked_traces.specs.inner.Traces.{cpu}

-- seven frames; the record of page 2 comes back with bit 192 inverted, which no rule here looks at
abbrev pub bus_job : JobView
bus_job = tight_job reads_page

-- its trace
abbrev pub bus_trace : List Entry
bus_trace = reverse (loads_page ++ (
    back_refused (cpu 0) 2
    ∷ bus 0 2 reasons.Mac
    ∷ []))
