use Rattle.driver_tables.proofs.CountLaws.{job_is_low}
use Rattle.due_tables.proofs.turns.Turns.new.Goals as goal

pub new-requires-3 : goal.new-requires-3
new-requires-3 c = job_is_low c.args.job.now c.enclaves.result.now c.enclaves.ensures.value c.enclaves.ensures.valid
