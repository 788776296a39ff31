use Rattle.std.proofs.Common.{subst, sym, arith, ◌+◌, ◌<◌}
use Rattle.driver_slots.proofs.ArrayLaws.{from_all, from_more, IsFrom}
use Rattle.driver_slots.proofs.array_slots.ArraySlots.new.Goals as goal

pub loop-index-init : goal.loop-index-init
loop-index-init c = from_all c.args.all c.requires.all

pub loop-index-preserved : goal.loop-index-preserved
loop-index-preserved c =
    let low : c.loop-index.index < 512 = omega arith in
    subst (λ xs. IsFrom xs (c.loop-index.index + 1)) (sym c.update.ensures)
    (from_more c.loop-index.free c.loop-index.index low c.loop-index.invariant)
