use Rattle.std.proofs.Common.{◌∙◌, sym}
use Rattle.sgx_machine.specs.inner.Whole.{parts_of}
use Rattle.sgx_machine.proofs.EntryBridge.{entry_row_outside}
use Rattle.sgx_machine.proofs.machine.Machine.entry_refusal.Goals as goal

pub returns : goal.returns
returns c =
    let d = parts_of c.self.inside in
    let h = c.self.invariant in
    let found = sym c.in-Some.ensures.value in
    rw (← c.self.view_is) (c.refusal.ensures
    ∙ sym (entry_row_outside d c.args.way c.args.enclave c.args.tcs c.args.tcs_frame c.args.ssa_frame c.in-Some.secs.now found
    (h.table.own c.args.enclave c.in-Some.secs.now found).number))
