use Rattle.std.proofs.Common.{◌<◌, ℕ, get_or, sym, arith}
use Rattle.sgx_types.proofs.Records.{record_bytes-record_in}
use Rattle.backing_store.specs.inner.Flips.{record_in}
use Rattle.backing_store.proofs.Flipped.{record_in-sizes}
use Rattle.backing_store.proofs.flips.read.Goals as goal

pub returns-in-Ok : goal.returns-in-Ok
returns-in-Ok c =
    let bytes = c.args.bytes.now in
    let small : (k : ℕ) → get_or bytes k 0 < 256 = λ k. omega (arith, c.type_inv.bytes k) in
    c.in-Ok.ensures.same (record_in bytes) (record_in-sizes bytes c.requires small) (sym (record_bytes-record_in bytes c.requires small))
