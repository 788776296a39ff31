use Rattle.std.proofs.Common.{◌/◌, length, arith}
use Rattle.sgx_types.proofs.Chunks.{chunk_of_chunks}
use Rattle.sgx_types.proofs.layouts.int_at.Goals as goal

pub returns : goal.returns
returns c =
    rw (
      ← chunk_of_chunks 4 (length c.args.bytes.now / 4) c.args.index c.args.bytes.now (omega (arith, c.requires)),
      ←
          c.as_chunks.ensures.front,
    )
    c.from_le_bytes.ensures
