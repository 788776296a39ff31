use Rattle.measure_log.proofs.Appended.{eadd_pieces}
use Rattle.measure_log.proofs.measure.Measure.add.Goals as goal

pub returns : goal.returns
returns c log h =
    let taken = c.update-2.ensures _ (c.update.ensures _ (c.begin.ensures log h)) in
    rw (← eadd_pieces log c.args.offset c.args.flags) (rw c.to_le_bytes.ensures at taken)
