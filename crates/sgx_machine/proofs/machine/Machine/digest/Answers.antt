use Rattle.std.proofs.Common.{◌≡◌, Some, is_some, true}
use Rattle.machine_laws.specs.inner.Steps.{IsDigest}
use Rattle.sgx_machine.specs.inner.Parts.{state_of}
use Rattle.sgx_machine.specs.inner.Whole.{parts_of}
use Rattle.sgx_machine.proofs.SealBridge.{digest_read, measure_read}
use Rattle.sgx_machine.proofs.machine.Machine.digest.Goals as goal

pub returns : goal.returns
returns c =
    let d = parts_of c.self.inside in
    let y = c.unwrap.result.now in
    let e = c.args.enclave in
    let made : is_some ((state_of d).enclaves e) ≡ true = rw (← c.self.view_is) at c.requires in
    let read : Some y ≡ c.index.result.now = rw c.unwrap.ensures at c.as_ref.ensures.value in
    let there = measure_read d.measures e c.index.result.now y (c.self.invariant.measured e made)
    (rw c.from.ensures at c.index.ensures) read in
    let is : IsDigest c.args.is_init ((state_of d).measure e) c.finish.result =
    digest_read d e c.args.is_init y c.finish.result c.if-not-is_init.false there c.finish.ensures in
    rw (← c.self.view_is) is
