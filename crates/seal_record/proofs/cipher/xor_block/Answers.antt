use Rattle.std.proofs.Common.{add-one, arith}
use Rattle.seal_record.proofs.Xor.{changed_more}
use Rattle.seal_record.proofs.cipher.xor_block.Goals as goal

pub loop-i-preserved : goal.loop-i-preserved
loop-i-preserved c =
    rw (c.loop-i.invariant, add-one) (changed_more c.loop-i.i c.args.bytes.now c.args.block.now (omega arith) (omega arith))
