use Rattle.std.proofs.Common.{rules}
use Rattle.driver_tables.proofs.CountLaws.{few_places, job_is_low}
use Rattle.driver_tables.proofs.driver.Driver.new.Goals as goal

pub page_counts-requires : goal.page_counts-requires
page_counts-requires c = job_is_low c.args.job.now c.enclaves.result.now c.enclaves.ensures.value c.enclaves.ensures.valid

pub new-requires-2-clause-pages : goal.new-requires-2-clause-pages
new-requires-2-clause-pages c = search (rules, few_places c.args.job.now c.enclaves.ensures.valid)
