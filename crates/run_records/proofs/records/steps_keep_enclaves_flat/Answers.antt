use Rattle.run_records.proofs.FlatSteps.{flat_step}
use Rattle.run_records.proofs.records.steps_keep_enclaves_flat.Goals as goal

pub returns : goal.returns
returns c = flat_step
