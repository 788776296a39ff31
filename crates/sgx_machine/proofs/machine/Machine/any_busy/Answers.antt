use Rattle.std.proofs.Common.{◌≡◌, ◌∙◌, true}
use Rattle.sgx_rules.specs.Table.{is_va}
use Rattle.machine_laws.specs.inner.State.{is_in_use}
use Rattle.sgx_machine.specs.inner.Parts.{state_of}
use Rattle.sgx_machine.specs.inner.Whole.{parts_of}
use Rattle.sgx_machine.proofs.PagingSights.{in_use_seen}
use Rattle.sgx_machine.proofs.machine.Machine.any_busy.Goals as goal

pub any_busy-requires : goal.any_busy-requires
any_busy-requires c =
    let d = parts_of c.self.inside in
    let va : is_va ((state_of d).content c.args.frame.0) ≡ true = rw (← c.self.view_is) at c.requires in
    c.self.invariant.held.pages c.args.frame.0 ∙ va

pub returns : goal.returns
returns c =
    let d = parts_of c.self.inside in
    let h = c.self.invariant in
    let va : is_va ((state_of d).content c.args.frame.0) ≡ true = rw (← c.self.view_is) at c.requires in
    let is : c.any_busy.result ≡ is_in_use (state_of d) c.args.frame.0 =
    c.any_busy.ensures ∙ in_use_seen d c.args.frame.0 h.slots h.held.pages va in
    rw (← c.self.view_is) is
