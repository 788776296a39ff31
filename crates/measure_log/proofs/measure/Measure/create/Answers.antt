use Rattle.measure_log.proofs.Appended.{ecreate_pieces}
use Rattle.measure_log.proofs.measure.Measure.create.Goals as goal

pub returns : goal.returns
returns c =
    let taken = c.update-4.ensures _ (c.update-3.ensures _ (c.update-2.ensures _ (c.update.ensures _ c.new-hasher.ensures))) in
    rw (← ecreate_pieces c.args.size) (rw (c.to_le_bytes.ensures, c.to_le_bytes-2.ensures) at taken)
