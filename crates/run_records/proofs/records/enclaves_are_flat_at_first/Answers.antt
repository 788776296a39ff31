use Rattle.run_records.proofs.FlatSteps.{flat_first}
use Rattle.run_records.proofs.records.enclaves_are_flat_at_first.Goals as goal

pub returns : goal.returns
returns c = flat_first
