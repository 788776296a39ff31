use Rattle.run_records.proofs.PassRecords.{turn_stays}
use Rattle.run_records.proofs.records.turns_without_an_entry_make_no_call.Goals as goal

pub returns : goal.returns
returns c = turn_stays
