use Rattle.run_records.proofs.PassRecords.{out_told}
use Rattle.run_records.proofs.records.write_outs_tell_their_records.Goals as goal

pub returns : goal.returns
returns c = out_told
