use Rattle.std.proofs.Common.{◌∙◌, ap, arith}
use Rattle.sgx_types.specs.inner.Sealed.{record_bytes}
use Rattle.sgx_types.proofs.Records.{read_parts, record_bytes-record_in, record_in-record_bytes}
use Rattle.sgx_types.proofs.record.Record.from_bytes.Goals as goal

pub returns-clause-whole : goal.returns-clause-whole
returns-clause-whole c =
    ap record_bytes (read_parts c.long_at.result c.long_at-2.result c.long_at-3.result c.in_ok-cipher.cipher.items
    c.copy_from_slice.new.self c.args.bytes.now
    c.long_at.ensures c.long_at-2.ensures c.long_at-3.ensures c.in_ok-cipher.ensures.items c.copy_from_slice.ensures.after)
    ∙ record_bytes-record_in c.args.bytes.now c.if-got-ne4152.false (λ k. omega (arith, c.type_inv.bytes k))

pub returns-clause-same : goal.returns-clause-same
returns-clause-same c rec sizes is =
    read_parts c.long_at.result c.long_at-2.result c.long_at-3.result c.in_ok-cipher.cipher.items c.copy_from_slice.new.self
    c.args.bytes.now
    c.long_at.ensures c.long_at-2.ensures c.long_at-3.ensures c.in_ok-cipher.ensures.items c.copy_from_slice.ensures.after
    ∙ record_in-record_bytes rec c.args.bytes.now sizes is
