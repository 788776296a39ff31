use Rattle.std.proofs.Common.{arith}
use Rattle.seal_record.proofs.Enciphered.{enciphered_more, enciphered_all}
use Rattle.seal_record.proofs.cipher.encipher.Goals as goal

pub loop-index-preserved : goal.loop-index-preserved
loop-index-preserved c =
    enciphered_more c.args.key.now c.args.version c.loop-index.index _ c.args.page.now c.loop-index.page c.keystream-block.result
    c.xor_block.new.bytes (omega arith) (omega arith)
    c.keystream-block.ensures c.loop-index.invariant c.xor_block.ensures

pub returns : goal.returns
returns c = enciphered_all c.args.key.now c.args.version c.loop-index.index c.args.page.now c.loop-index.page (omega arith) c.requires
    c.loop-index.invariant
