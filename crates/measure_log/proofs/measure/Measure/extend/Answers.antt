use Rattle.measure_log.proofs.Appended.{eextend_pieces}
use Rattle.measure_log.proofs.measure.Measure.extend.Goals as goal

pub returns : goal.returns
returns c log h =
    let taken = c.update-2.ensures _ (c.update.ensures _ (c.begin.ensures log h)) in
    rw (← eextend_pieces log c.args.offset c.args.chunk.now) taken
