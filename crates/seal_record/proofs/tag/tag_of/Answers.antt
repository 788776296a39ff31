use Rattle.std.proofs.Common.{◌∙◌}
use Rattle.seal_record.proofs.Tagged.{tag_of_pieces}
use Rattle.seal_record.proofs.tag.tag_of.Goals as goal

pub returns : goal.returns
returns c =
    let begun = c.update-2.ensures _ (c.update.ensures _ c.new-hasher.ensures) in
    let headed = c.update-5.ensures _ (c.update-4.ensures _ (c.update-3.ensures _ begun)) in
    c.finalize.ensures _ (c.update-6.ensures _ headed)
    ∙ tag_of_pieces c.args.key.now c.args.cipher.now c.to_le_bytes.result c.to_le_bytes-2.result c.to_le_bytes-3.result
    c.to_le_bytes-4.result c.args.version c.args.header
    c.to_le_bytes.ensures c.to_le_bytes-2.ensures c.to_le_bytes-3.ensures c.to_le_bytes-4.ensures
