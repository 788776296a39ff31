use Rattle.std.proofs.Common.{◌≡◌, true, is_some}
use Rattle.sgx_machine.specs.inner.Whole.{parts_of}
use Rattle.sgx_machine.specs.inner.Parts.{state_of}
use Rattle.sgx_machine.proofs.PagingSights.{start_in}
use Rattle.sgx_machine.proofs.machine.Machine.unseal_input.Goals as goal

pub start-start-requires : goal.start-start-requires
start-start-requires c =
    let s = state_of (parts_of c.self.inside) in
    let open_start : is_some (s.start c.args.frame.0) ≡ true =
    start_in s c.args.frame.0 c.self.invariant.guarded (rw (← c.self.view_is) at c.requires) in
    rw (← c.self.view_is) open_start
