use Rattle.run_records.proofs.FlatSteps.{flat_other}
use Rattle.run_records.proofs.records.other_entries_keep_enclaves_flat.Goals as goal

pub returns : goal.returns
returns c = flat_other
